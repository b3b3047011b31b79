-- A good hub serves.
use Rattle.std.proofs.Common.{◌≡◌, ◌≤◌, ◌==◌, ◌∙◌, ◌⊎◌, inl, inr, ℕ, Bool, true, false, not, List, Option, Some, Result, Ok, Err, refl, sym, ap, subst, arith}
use Rattle.keeper.specs.Rows.{Rows}
use Rattle.hub_core.specs.declared.start.Start.{Start}
use Rattle.hub_main.specs.Ends.{cause_status}
use Rattle.hub_main.specs.Good.{Stands}
use Rattle.hub_main.specs.declared.cause.Cause.{Cause}
use Rattle.hub_main.specs.declared.cause.Cause.TheVariants.{Memory}
use Rattle.hub_main.proofs.GoodSessions.{chosen_good, never, unopened_good}
use Rattle.hub_serving.specs.Commands.{EndsAt, EndsChosen, EndsPlanned, RunEnds}
use Rattle.hub_serving.specs.Ends.{End, IsWritten, status_of}
use Rattle.hub_serving.specs.Good.{EndsWell, IsGood, NoneRose, all_served}
use Rattle.hub_serving.specs.Hall.{Hall}
use Rattle.hub_serving.specs.Served.{EndsOver, HasServed, Serves}
use Rattle.hub_serving.specs.declared.end.Ended.{Ended}
use Rattle.hub_serving.specs.declared.end.Line.{Line}
use Rattle.hub_serving.specs.declared.end.Line.TheVariants.{Written, Failed, NoMemory}
use Rattle.hub_serving.specs.declared.end.NotServed.{NotServed}
use Rattle.hub_serving.specs.declared.end.NotServed.TheVariants.{Because}
use Rattle.hub_serving.specs.declared.plan.Plan.{Plan}

-- all were served, or memory was wanting
abbrev IsWell : (connections : ℕ) → End → Type 0
IsWell connections end = (end ≡ all_served connections) ⊎ (status_of end ≡ 7)

-- memory was wanting
wanting : (connections : ℕ) (end : End) → end ≡ Err (Because Memory) → IsWell connections end
wanting connections end is = inr (ap status_of is)

because : (connections : ℕ) (end : End) (cause : Cause) → end ≡ Err (Because cause) → cause_status cause ≡ 7 → IsWell connections end
because connections end cause is seven = inr (ap status_of is ∙ seven)

-- ---- the connections

counted : (n m : ℕ) → true ≡ (n == m) → n ≡ m
counted n m same = grind arith

served_good : (connections : ℕ) (h h' : Hall) (count : ℕ) (failed : Bool) (line : Line) → Stands h.doors.faults h'.doors.faults
    → Stands h.output.faults h'.output.faults → HasServed connections h h' (record { count = count; failed = failed; line = line })
    → IsWell connections (Ok (record { count = count; failed = failed; line = line }))
served_good connections h h' count true line doors output served = absurd (never h.doors.faults h'.doors.faults doors (served.fault refl))
served_good connections h h' count false Written doors output served =
    inl (ap (λ (n : ℕ). all_served n) (counted count connections served.all))
served_good connections h h' count false Failed doors output served = absurd (never h.output.faults h'.output.faults output served.line.rises)
served_good connections h h' count false NoMemory doors output served = inr refl

serves_good : (connections : ℕ) (h h' : Hall) (end : End) → Stands h.doors.faults h'.doors.faults
    → Stands h.output.faults h'.output.faults → Serves connections h h' end → IsWell connections end
serves_good connections h h' (Ok e) doors output serves = served_good connections h h' e.count e.failed e.line doors output serves
serves_good connections h h' (Err why) doors output serves = wanting connections (Err why) (ap (λ (w : NotServed). Err w) serves.0)

-- ---- the book

module _ {K : Type 0} (Tells : K → Type 0) (rows : K → Rows) (faults : K → ℕ) (Sides : Option (List ℕ) → Option (List ℕ) → Type 0) where
  over_good : (start : Start) (counts : ℕ) (plan : Plan) (h h' : Hall) (k' : K) (end : End) → Stands h.doors.faults h'.doors.faults
      → Stands h.output.faults h'.output.faults → EndsOver Tells rows faults Sides start counts plan h h' k' end → IsWell plan.connections end
  over_good start counts plan h h' k' end doors output (inl left) = wanting plan.connections end left.wanting
  over_good start counts plan h h' k' end doors output (inr (table, inl left)) = wanting plan.connections end left.wanting
  over_good start counts plan h h' k' end doors output (inr (table, inr by)) =
      serves_good plan.connections _ h' end doors output by.ends.ends.serves

-- ---- the whole

module _ {K : Type 0} (Tells : K → Type 0) (rows : K → Rows) (faults : K → ℕ) (Sides : Option (List ℕ) → Option (List ℕ) → Type 0)
    (Chooses : K → Option (List ℕ) → K → Type 0) where
  -- the count of the chosen store stands between
  stands : (k chosen k' : K) → Stands (faults k) (faults k') → faults k ≤ faults chosen → faults chosen ≤ faults k' → Stands (faults chosen) (faults k')
  stands k chosen k' all less more =
      let below = all.0 in let low = all.1 in (omega (arith, less, more, below, low), omega (arith, less, more, below, low))

  at_good : (plan : Plan) (h h' : Hall) (k k' : K) (end : End) → IsGood rows Chooses plan h.clock k → Tells k' → NoneRose faults h h' k k'
      → (at : EndsAt Tells rows faults Sides Chooses plan h h' k k' end)
      → EndsChosen Tells rows faults Sides plan at.now (record h { clock = at.later }) h' at.chosen k' end → IsWell plan.connections end
  at_good plan h h' k k' end good told none at (inl (cause, is, unopened, left)) =
      because plan.connections end cause is
      (unopened_good Tells rows faults plan.hub at.now at.chosen k' cause told (stands k at.chosen k' none.store at.chooses.counted at.counted)
      (good at.chosen at.now at.later at.chooses.chooses at.moment) unopened)
  at_good plan h h' k k' end good told none at (inr ends) =
      over_good Tells rows faults Sides ends.0 ends.1 plan (record h { clock = at.later }) h' k' end none.doors none.output ends.3

  planned_good : (plan : Plan) (h h' : Hall) (k k' : K) (end : End) → IsGood rows Chooses plan h.clock k → Tells k' → NoneRose faults h h' k k'
      → EndsPlanned Tells rows faults Sides Chooses plan h h' k k' end → IsWell plan.connections end
  planned_good plan h h' k k' end good told none (inl (cause, is, unchosen, left)) =
      because plan.connections end cause is (chosen_good (faults k) (faults k') cause none.store unchosen)
  planned_good plan h h' k k' end good told none (inr at) = at_good plan h h' k k' end good told none at at.ends

  ends_well : (plan : Plan) (end : End) (told : Option End) (status : ℕ) → told ≡ Some end → status ≡ status_of end → IsWell plan.connections end
      → EndsWell plan told status
  ends_well plan end told status tells is (inl all) = inl (is ∙ ap status_of all, tells ∙ ap (λ (e : End). Some e) all)
  ends_well plan end told status tells is (inr seven) = inr (is ∙ seven)

  pub run_good : (plan : Plan) (h h' : Hall) (k k' : K) (told : Option End) (status : ℕ)
      → IsGood rows Chooses plan h.clock k → Tells k' → NoneRose faults h h' k k'
      → RunEnds Tells rows faults Sides Chooses plan h h' k k' told status → EndsWell plan told status
  run_good plan h h' k k' told status good tells none ends =
      ends_well plan ends.0 told status ends.1 ends.3 (planned_good plan h h' k k' ends.0 good tells none ends.2)
