-- What a guard asks leaves no entry.
use Rattle.std.proofs.Common.{◌≡◌, ◌⊎◌, inl, inr, ◌<◌, arith, ℕ, Bool, true, false, List, [], ◌∷◌, Option, Some, None, Result, Ok, Err, refl, sym, ap, ◌∙◌, subst}
use Rattle.httparse.specs.Grammar.{RequestHead}
use Rattle.http_wire.specs.Head.{head_of}
use Rattle.http_wire.specs.Token.{token_of}
use Rattle.http_wire.specs.Wire.{IsServedHead}
use Rattle.hub_core.specs.declared.start.Start.{Start}
use Rattle.hub_devices.specs.declared.link_error.LinkError.{LinkError}
use Rattle.hub_devices.specs.declared.link_error.LinkError.TheVariants.{Failed, Memory}
use Rattle.hub_kit.specs.Names.{IsName, IsServerName}
use Rattle.hub_kit.specs.declared.names.ServerKey.{ServerKey}
use Rattle.hub_link.specs.Links.{Exchange, Chain}
use Rattle.hub_run.specs.Turns.{View}
use Rattle.proxy_core.specs.Passes.{Place, Going}
use Rattle.proxy_core.specs.Refusals.{IsWritten, status_of}
use Rattle.proxy_core.specs.declared.refusals.Refusal.{Refusal}
use Rattle.proxy_core.specs.declared.refusals.Refusal.TheVariants as refusal
use Rattle.proxy_wire.specs.Heads.{request_passed}
use Rattle.guard.specs.Access.{access_request, access_by, IsAccessOf, IsAnswered}
use Rattle.guard.specs.Denials.{IsDenied, denial_status}
use Rattle.guard.specs.Guards.{GuardEnds, Answers, Follows, Judges, verdict_of}
use Rattle.guard.specs.declared.access.Access.{Access}
use Rattle.guard.specs.declared.access.Access.TheVariants.{BadReply}
use Rattle.guard.specs.declared.denials.Denial.{Denial}
use Rattle.guard.specs.declared.denials.Denial.TheVariants as denial
use Rattle.guard.specs.declared.guards.Verdict.{Verdict}
use Rattle.guard.specs.declared.guards.Verdict.TheVariants as verdict
use Rattle.access_laws.specs.Asks.{OnlyReads, get_of, access_target}
use Rattle.access_laws.proofs.Asked.{access_is_asked}
use Rattle.direct_link.specs.Answered.{IsTurnOf, IsUnread}
use Rattle.direct_link.specs.Direct.{Direct}
use Rattle.direct_link.proofs.Calls.{call_is}
use Rattle.direct_link.proofs.Judging.{ask, asks_nothing}
use Rattle.direct_link.proofs.Turned.{its_turn}
use Rattle.direct_link.proofs.Unread.{unread_status, IsWireStatus}
use Rattle.hub_loading.proofs.VisitLemmas.{quiet_turn}
use Rattle.hub_loading.specs.Rounds.{guard_end}

-- ---- ends that are none of a guard that decided

apart : (n : ℕ) → 403 < n → 403 ≡ n → ⊥
apart n less is = omega (arith, less, is)

denied_as : (d : Denial) (held held' : Option (List ℕ)) (writes writes' : ℕ) (admitted : Bool) → 403 < denial_status d
    → IsDenied d held held' writes writes' (guard_end admitted) → ⊥
denied_as d held held' writes writes' true more done = done
denied_as d held held' writes writes' false more done = apart (denial_status d) more done.0

written_as : (r : Refusal) (held held' : Option (List ℕ)) (writes writes' : ℕ) (admitted : Bool) → 403 < status_of r
    → IsWritten r held held' writes writes' (guard_end admitted) → ⊥
written_as r held held' writes writes' true more done = done
written_as r held held' writes writes' false more done = apart (status_of r) more done.0

module _ (q : Going) (target : List ℕ) (old new : Place) (admitted : Bool) where
  abbrev Follow : Verdict → Type 0
  Follow v = Follows v q target old new (guard_end admitted)

  bad_hub : Follow (verdict.Deny denial.BadHub) → ⊥
  bad_hub done = denied_as denial.BadHub old.held new.held old.writes new.writes admitted (omega arith) done.1

  no_hub : Follow (verdict.Deny denial.Hub) → ⊥
  no_hub done = denied_as denial.Hub old.held new.held old.writes new.writes admitted (omega arith) done.1

  no_memory : Follow verdict.Memory → ⊥
  no_memory done = written_as refusal.Memory old.held new.held old.writes new.writes admitted (omega arith) done.1

-- ---- bytes that were refused unread

by_status : (status : ℕ) (body : List ℕ) → IsWireStatus status → access_by status body ≡ BadReply
by_status status body (inl is) = ap (λ (s : ℕ). access_by s body) is
by_status status body (inr (inl is)) = ap (λ (s : ℕ). access_by s body) is
by_status status body (inr (inr is)) = ap (λ (s : ℕ). access_by s body) is

unread_says : (bytes : List ℕ) (access : Access) → IsUnread bytes → IsAccessOf bytes access → access ≡ BadReply
unread_says bytes access unread (None, says, is) = is
unread_says bytes access unread (Some (status, body), says, is) = is ∙ by_status status body (unread_status bytes status body unread says)

-- ---- the guard

one_direct : (x y : View) (request : List ℕ) (given : Result (List ℕ) LinkError) → Chain Direct x ((request, given) ∷ []) y → Direct x request given y
one_direct x y request given (z, direct, same) = subst (λ (v : View). Direct x request given v) (sym same) direct

module _ (start : Start) (x y : View) (base : x.pass.base ≡ Some start) (alone : x.pass.alone ≡ true) (key : ServerKey) (user : IsName key.user)
    (server : IsServerName key.server) (target : List ℕ) (asks : List Exchange) (chain : Chain Direct x asks y) where
  abbrev Quiet : Type 0
  Quiet = y.pass.seen ≡ x.pass.seen

  unasked : asks ≡ [] → Quiet
  unasked none = let same : y ≡ x = subst (λ (es : List Exchange). Chain Direct x es y) none chain in ap (λ (v : View). v.pass.seen) same

  answered : (head : RequestHead) (token : List ℕ) (access : Access) → IsServedHead head → token_of (head_of head).headers ≡ Some token
      → (access ≡ BadReply → ⊥) → IsAnswered (access_request key token) asks access → Quiet
  answered head token access served has decided (bytes, are, says) =
      let request : List ℕ = access_request key token in
      let only : OnlyReads request (get_of (access_target key) token) = access_is_asked key head token user server served.valid has in
      let direct : Direct x request (Ok bytes) y = one_direct x y request (Ok bytes) (subst (λ (es : List Exchange). Chain Direct x es y) are chain) in
      by (its_turn start x y request bytes (get_of (access_target key) token) base only refl direct)
    where
      by : IsTurnOf start x (get_of (access_target key) token) bytes y ⊎ IsUnread bytes → Quiet
      by (inl turned) =
          quiet_turn start x y (get_of (access_target key) token) bytes (ask token key) (call_is key token user server) refl (asks_nothing token key) refl turned alone
      by (inr unread) = absurd (decided (unread_says bytes access unread says))

  judged : (head : RequestHead) (v : Verdict) (q : Going) (old new : Place) (admitted : Bool) (token : Option (List ℕ)) → IsServedHead head
      → token_of (head_of head).headers ≡ token → Judges key token asks 0 0 v → Follows v q target old new (guard_end admitted) → Quiet
  judged head v q old new admitted None served has found follows = unasked found.0
  judged head v q old new admitted (Some token) served has (answer, answers, is) follows =
      by answer answers (subst (λ (w : Verdict). Follows w q target old new (guard_end admitted)) is follows)
    where
      as_bad : (access : Access) → Follows (verdict_of (Ok access)) q target old new (guard_end admitted) → access ≡ BadReply → ⊥
      as_bad access done same =
          bad_hub q target old new admitted (subst (λ (a : Access). Follows (verdict_of (Ok a)) q target old new (guard_end admitted)) same done)

      by : (answer : Result Access LinkError) → Answers (access_request key token) asks 0 0 answer
          → Follows (verdict_of answer) q target old new (guard_end admitted) → Quiet
      by (Ok access) answers done = answered head token access served has (as_bad access done) answers
      by (Err Failed) answers done = absurd (no_hub q target old new admitted done)
      by (Err Memory) answers done = absurd (no_memory q target old new admitted done)

  pub quiet_guard : (old new : Place) (admitted : Bool) → GuardEnds key target asks 0 0 old new (guard_end admitted) → y.pass.seen ≡ x.pass.seen
  quiet_guard old new admitted (inl unread) = unasked unread.unasked
  quiet_guard old new admitted (inr (inl unframed)) = unasked unframed.unasked
  quiet_guard old new admitted (inr (inr done)) =
      judged done.head done.verdict
      (record { upgrade = false; method = (done.head).method; text = request_passed false done.head; framing = done.framing })
      (record old { left = done.left; kept = done.kept; reads = done.reads }) new admitted (token_of (head_of done.head).headers)
      done.is refl done.judged done.follows
