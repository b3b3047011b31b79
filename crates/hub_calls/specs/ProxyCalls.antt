-- What the state answers to the calls on a proxy's routes.
use Rattle.std.specs.Prelude.{[]}
use Rattle.hub_machine.specs.Replies.{Answer, gives, good}

-- who may make the call has leave to ask the proxy: its reply is made of what the proxy tells, in place of this one without a body
abbrev pub leave : Answer
leave = gives (good 200 [])
