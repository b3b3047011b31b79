-- Room for a change in the history.
use Rattle.hub_machine.specs.State.{Hub}
use Rattle.hub_machine.specs.Apply.{is_past_trail}
use Rattle.hub_machine.specs.Replies.{Answer, refuses, refuses_with, changes, works}
use Rattle.hub_machine.specs.declared.refusal.Refusal.TheVariants.{TrailFull}
use Rattle.std.specs.Prelude.{if◌then◌else◌}

-- The answer, but that one with a change is refused where the history has no room for its entry
abbrev pub in_trail : Hub → Answer → Answer
in_trail s (refuses_with c r) = if is_past_trail s c then refuses TrailFull else refuses_with c r
in_trail s (changes c g) = if is_past_trail s c then refuses TrailFull else changes c g
in_trail s (works c w) = if is_past_trail s c then refuses TrailFull else works c w
in_trail s other = other
