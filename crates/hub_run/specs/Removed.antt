-- What a call gets that brings a token which was removed.
use Rattle.std.specs.Prelude.{◌≡◌, ◌⊎◌, ◌≤◌, ℕ, List, length}
use mathlib.Core.List.{IsPrefix}
use Rattle.hub_core.specs.Answer.{named}
use Rattle.hub_machine.specs.Replies.{Reply, refusal_reply}
use Rattle.hub_machine.specs.declared.call.Asked.{Asked}
use Rattle.hub_machine.specs.declared.change.Change.{Change}
use Rattle.hub_machine.specs.declared.refusal.Refusal.TheVariants.{NoValidToken, SeenPast}
use Rattle.hub_run.specs.Turns.{Turn, View, visited, worked, declined, undrawn, refused, unsaid, unfinished, wanting, routed, unrouted}

-- the pass has seen these entries, or the call names a revision at which they stand
abbrev pub Knows : View → Asked → List Change → Type 0
Knows x asked gone = IsPrefix gone x.pass.seen ⊎ (length gone ≤ named asked.seen)

-- what the visit of the turn finds, where it has one, is the first of these entries, or all
abbrev pub StandsIn : List Change → Turn → Type 0
StandsIn h (visited text q v r) = IsPrefix v.before h
StandsIn h (worked text q v e r) = IsPrefix v.before h
StandsIn h (unsaid text q v) = IsPrefix v.before h
StandsIn h (unfinished text q v e) = IsPrefix v.before h
StandsIn h (routed text q v a r) = IsPrefix v.before h
StandsIn h (unrouted text q v a) = IsPrefix v.before h
StandsIn h turn = Unit {0}

-- 403 `no valid token`, or 412
abbrev pub IsTokenRefusal : Asked → ℕ → Reply → Type 0
IsTokenRefusal asked revision r = (r ≡ refusal_reply revision NoValidToken)
    ⊎ (r ≡ refusal_reply revision (SeenPast (named asked.seen) revision))

-- the visit of the turn, where it has one, gives such a refusal or a 507, and has no entry
abbrev pub IsTurnedAway : Asked → Turn → Type 0
IsTurnedAway asked (visited text q v r) = (v.after ≡ v.before) × IsTokenRefusal asked (length v.after) r
IsTurnedAway asked (worked text q v e r) = ⊥
IsTurnedAway asked (unsaid text q v) = v.after ≡ v.before
IsTurnedAway asked (unfinished text q v e) = ⊥
IsTurnedAway asked (routed text q v a r) = ⊥
IsTurnedAway asked (unrouted text q v a) = ⊥
IsTurnedAway asked turn = Unit {0}
