-- One request that is passed on, and how it ends.
use Rattle.std.specs.Prelude.{◌≡◌, ◌≤◌, ◌⊎◌, ℕ, Bool, false, List, [], ◌++◌, Option, Result, Ok, Err}
use Rattle.httparse.specs.Grammar.{ResponseHead, status_code}
use Rattle.hub_devices.specs.Faults.{Rises}
use Rattle.hub_devices.specs.Streams.{Appends, IsEnd}
use Rattle.http_wire.specs.declared.error.SessionFault.{SessionFault}
use Rattle.http_wire.specs.declared.error.SessionFault.TheVariants.{ReadFault, WriteFault}
use Rattle.http_wire.specs.Took.{Took}
use Rattle.upstreams.specs.Upstream.{Told, Connects, Misses, Moves, Finishes}
use Rattle.proxy_wire.specs.declared.framing.Framing.{Framing}
use Rattle.proxy_wire.specs.declared.replies.ReplyError.{ReplyError}
use Rattle.proxy_wire.specs.declared.replies.ReplyError.TheVariants as reply
use Rattle.proxy_wire.specs.Heads.{reply_passed}
use Rattle.proxy_wire.specs.Replies.{BeginsReply, NoReply}
use Rattle.proxy_bodies.specs.declared.sends.BodyEnd.{BodyEnd}
use Rattle.proxy_bodies.specs.declared.sends.BodyEnd.TheVariants as body
use Rattle.proxy_bodies.specs.Bodies.{IsWholeBody, IsFrontOf, IsOpenBody, IsBadBody, IsLongBody}
use Rattle.proxy_bodies.specs.Backs.{IsBackPart, IsBackEnd}
use Rattle.proxy_core.specs.declared.exchange.Stop.{Stop}
use Rattle.proxy_core.specs.declared.exchange.Stop.TheVariants as stop
use Rattle.proxy_core.specs.declared.refusals.Refusal.{Refusal}
use Rattle.proxy_core.specs.declared.refusals.Refusal.TheVariants as refusal
use Rattle.proxy_core.specs.declared.refusals.Forwarded.{Forwarded}
use Rattle.proxy_core.specs.declared.refusals.Forwarded.TheVariants.{Passed, Refused, Ended, Cut}
use Rattle.proxy_core.specs.Refusals.{status_of, refusal_text, IsWritten}

-- all that a call on one request touches, with the counts of faults
pub record Place : Type 0 where
  pub left : Option (List ℕ)
  pub kept : List ℕ
  pub held : Option (List ℕ)
  pub told : Option Told
  pub reads : ℕ
  pub links : ℕ
  pub writes : ℕ

-- a request as it is sent on: whether it is an upgrade, its method, the text of its head, how long its body is
pub record Going : Type 0 where
  pub upgrade : Bool
  pub method : List ℕ
  pub text : List ℕ
  pub framing : Framing

-- one that is no upgrade
abbrev pub plain : (method text : List ℕ) → Framing → Going
plain method text framing = record { upgrade = false; method = method; text = text; framing = framing }

-- `body` was taken of the client, `given` sent to the upstream and `got` received of it, from old to new
abbrev pub Moved : Place → Place → List ℕ → List ℕ → List ℕ → Type 0
Moved old new body given got = Took old.left old.kept new.left (body ++ new.kept) × Moves old.told given got new.told

-- the whole request was sent
pub record IsSent (q : Going) (body given : List ℕ) : Type 0 where
  pub whole : IsWholeBody q.framing body
  pub text : given ≡ q.text ++ body

-- a front of the request was sent
pub record IsFront (q : Going) (kept body given : List ℕ) : Type 0 where
  pub more : List ℕ
  pub front : q.text ++ (body ++ kept) ≡ given ++ more
  pub of : IsFrontOf q.text q.framing given

-- The request went on whole, or a front of it, since the upstream failed then: what it said before it did is its reply all the same.
-- `kept` is what is left of the client's bytes, and `links` and `links'` are the upstream's count of faults before and after
abbrev pub WentOn : Going → List ℕ → List ℕ → List ℕ → ℕ → ℕ → Type 0
WentOn q kept body given links links' = IsSent q body given ⊎ (IsFront q kept body given × Rises links links')

-- the input stopped inside the body
pub record IsShort (q : Going) (kept body given got : List ℕ) : Type 0 where
  pub still : IsOpenBody q.framing body kept
  pub text : given ≡ q.text ++ body
  pub none : got ≡ []

-- what the end of a body is to the exchange
abbrev pub stop_of : BodyEnd → Stop
stop_of body.Cut = stop.Cut
stop_of body.ReadFault = stop.ReadFault
stop_of body.SendFault = stop.Refused refusal.Link
stop_of body.Memory = stop.Refused refusal.Memory
stop_of body.Bad = stop.Refused refusal.BadChunk

-- The refusal where no reply came, by the reason
abbrev pub refusal_of : ReplyError → Refusal
refusal_of reply.Bad = refusal.BadUpstream
refusal_of reply.Fault = refusal.Link
refusal_of reply.Memory = refusal.Memory

-- why nothing was passed back: `kept` and `told` are those after, `links` the upstream's count before and `links'` after
abbrev pub IsRefused : Going → List ℕ → Option Told → ℕ → ℕ → List ℕ → List ℕ → List ℕ → Refusal → Type 0
IsRefused q kept told links links' body given got refusal.BadUpstream = IsSent q body given × NoReply q.upgrade q.method told got
IsRefused q kept told links links' body given got refusal.Link = IsFront q kept body given × Rises links links'
IsRefused q kept told links links' body given got refusal.BadChunk = (given ≡ q.text ++ body) × IsBadBody q.framing body kept × (got ≡ [])
IsRefused q kept told links links' body given got refusal.Coding = ⊥
IsRefused q kept told links links' body given got refusal.Memory =
    IsSent q body given ⊎ ((given ≡ q.text ++ body) × IsLongBody q.framing body kept × (got ≡ []))
IsRefused q kept told links links' body given got refusal.BadHead = ⊥
IsRefused q kept told links links' body given got refusal.TooLarge = ⊥
IsRefused q kept told links links' body given got refusal.BadPath = ⊥
IsRefused q kept told links links' body given got refusal.NotFound = ⊥

-- Why nothing of a reply is passed back: the client's input ended or failed inside the body, or the request is refused for this cause.
-- left and kept are of the client; reads and links are the counts of its faults and the upstream's before, those with a prime after
abbrev pub IsStop : Going → Option (List ℕ) → List ℕ → Option Told → ℕ → ℕ → ℕ → ℕ → List ℕ → List ℕ → List ℕ → Stop → Type 0
IsStop q left kept told reads reads' links links' body given got stop.Cut = IsShort q kept body given got × IsEnd left
IsStop q left kept told reads reads' links links' body given got stop.ReadFault = IsShort q kept body given got × Rises reads reads'
IsStop q left kept told reads reads' links links' body given got (stop.Refused r) = IsRefused q kept told links links' body given got r

-- the reply's head, which doesn't switch the connection over, and its body or a part of it, and why no more
pub record PassedBack (q : Going) (got gave : List ℕ) (old new : Place) : Type 0 where
  pub reply : ResponseHead
  pub framing : Framing
  pub rest : List ℕ
  pub body : List ℕ
  pub tail : List ℕ
  pub begins : BeginsReply q.upgrade q.method got reply framing rest
  pub settled : ¬ (status_code reply ≡ 101)
  pub split : rest ≡ body ++ tail
  pub text : gave ≡ reply_passed reply ++ body
  pub ends : IsBackEnd framing new.told body tail old.links new.links old.writes new.writes

-- the sink got `part` of a reply's head and of the first bytes of its body that had come behind it
abbrev pub IsCutBack : List ℕ → Framing → List ℕ → List ℕ → List ℕ → Type 0
IsCutBack text f behind part more =
    (front rest : List ℕ) × (behind ≡ front ++ rest) × IsBackPart f front × (text ++ front ≡ part ++ more)

-- what the sink got of what was to be written: a refusal, or the head of the reply and first bytes of its body
pub record IsUnwritten (q : Going) (old new : Place) (body given got part : List ℕ) : Type 0 where
  pub more : List ℕ
  pub of : ((r : Refusal) × (refusal_text r ≡ part ++ more) × IsRefused q new.kept new.told old.links new.links body given got r)
      ⊎ ((r : ResponseHead) × (f : Framing) × (rest : List ℕ) × BeginsReply q.upgrade q.method got r f rest
      × IsCutBack (reply_passed r) f rest part more × WentOn q new.kept body given old.links new.links)

-- The request went on, or a front of it, and then its reply was passed back; `links` is the upstream's count between
pub record Answered (q : Going) (body given got gave : List ℕ) (old new : Place) : Type 0 where
  pub links : ℕ
  pub counted : old.links ≤ links
  pub later : links ≤ new.links
  pub went : WentOn q new.kept body given old.links links
  pub back : PassedBack q got gave (record old { links = links }) new

-- How the request q to an upstream that is connected ends. old is all that the call touches, and new the same after it
abbrev pub PassEnds : Going → Place → Place → Result Forwarded SessionFault → Type 0
PassEnds q old new (Ok Passed) =
    (body given got gave : List ℕ) × Moved old new body given got × Appends old.held gave new.held × Answered q body given got gave old new
PassEnds q old new (Ok (Refused s)) =
    (r : Refusal) × (body given got : List ℕ) × Moved old new body given got × (s ≡ status_of r)
    × Appends old.held (refusal_text r) new.held × IsRefused q new.kept new.told old.links new.links body given got r
PassEnds q old new (Ok Ended) = ⊥
PassEnds q old new (Ok Cut) =
    (body given got : List ℕ) × Moved old new body given got × IsShort q new.kept body given got × IsEnd new.left × (new.held ≡ old.held)
PassEnds q old new (Err (ReadFault n)) =
    (body given got : List ℕ) × Moved old new body given got × IsShort q new.kept body given got × Rises old.reads new.reads
    × (new.held ≡ old.held) × (n ≡ 0)
PassEnds q old new (Err (WriteFault n)) =
    (body given got part : List ℕ) × Moved old new body given got × Appends old.held part new.held × Rises old.writes new.writes
    × IsUnwritten q old new body given got part × (n ≡ 0)

-- what the passing back of a reply whose head was read did, `behind` being what came behind the head
abbrev pub BackEnds : List ℕ → Framing → List ℕ → Option (List ℕ) → Option (List ℕ) → Option Told → Option Told → ℕ → ℕ → ℕ → ℕ
    → Result Forwarded SessionFault → Type 0
BackEnds text f behind held held' told told' links links' writes writes' (Ok Passed) =
    (body got tail : List ℕ) × (behind ++ got ≡ body ++ tail) × Moves told [] got told' × Appends held (text ++ body) held'
    × IsBackEnd f told' body tail links links' writes writes'
BackEnds text f behind held held' told told' links links' writes writes' (Ok (Refused s)) = ⊥
BackEnds text f behind held held' told told' links links' writes writes' (Ok Ended) = ⊥
BackEnds text f behind held held' told told' links links' writes writes' (Ok Cut) = ⊥
BackEnds text f behind held held' told told' links links' writes writes' (Err (ReadFault n)) = ⊥
BackEnds text f behind held held' told told' links links' writes writes' (Err (WriteFault n)) =
    (part more : List ℕ) × (told' ≡ told) × Appends held part held' × Rises writes writes' × (n ≡ 0)
    × IsCutBack text f behind part more

-- a connection to the target was asked for once and made, the request passed on, and the upstream finished; `links` is its count once it
-- was connected
pub record Linked (q : Going) (target : List ℕ) (old new : Place) (result : Result Forwarded SessionFault) : Type 0 where
  pub linked : Option Told
  pub links : ℕ
  pub moved : Option Told
  pub connects : Connects old.told target linked
  pub counted : old.links ≤ links
  pub finishes : Finishes moved new.told
  pub ends : PassEnds q (record old { told = linked; links = links }) (record new { told = moved }) result

-- nothing was taken: for want of memory no connection was asked for, and for want of a link one to the target was, once
pub record Unlinked (target : List ℕ) (old new : Place) (result : Result Forwarded SessionFault) : Type 0 where
  pub cause : Refusal
  pub written : IsWritten cause old.held new.held old.writes new.writes result
  pub left : new.left ≡ old.left
  pub kept : new.kept ≡ old.kept
  pub why : ((cause ≡ refusal.Memory) × (new.told ≡ old.told))
      ⊎ ((cause ≡ refusal.Link) × Misses old.told target new.told × Rises old.links new.links)

-- How the request q to this target ends: a connection was made there, and what followed; or none was
abbrev pub PassOn : Going → List ℕ → Place → Place → Result Forwarded SessionFault → Type 0
PassOn q target old new result = Linked q target old new result ⊎ Unlinked target old new result
