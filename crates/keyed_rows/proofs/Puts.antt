-- What a put answers, step by step.
use Rattle.std.proofs.Common.{◌≡◌, ◌-◌, true, false, nat_le, Option, Some, None, Result, Ok, Err, refl, subst, ap, if◌then◌else◌, is_some}
use Rattle.std.specs.declared.cmp.Ordering.{Ordering}
use Rattle.std.specs.Cmp.{IsTotalOrder}
use Rattle.std.specs.BTreeMap.{BTreeMap, WritesThrough, get_by}
use Rattle.std.specs.FinMap.{FinMap, len, contains_key, IsAntisymmetric}
use Rattle.keyed_rows.specs.Rows.{map_of}
use Rattle.keyed_rows.proofs.Finite.{answer_full, answer_ok, answer_memory, written_row, lent_row}
use Rattle.keyed_rows.proofs.Finite.{memory_after_ok as rows_memory}
use Rattle.keyed_rows.specs.declared.Room.{Room}
use Rattle.keyed_rows.specs.declared.PutError.{PutError}
use Rattle.keyed_rows.specs.declared.PutError.TheVariants.{Full, Memory}
use Rattle.keyed_rows.specs.Puts.{IsAnswer, IsAnswerIn, room_left, Replaces}

same_err : {d e : PutError} → (let r : Result (Unit {0}) PutError = Err d in r ≡ Err e) → d ≡ e
same_err h = cc

module _ {K X : Type 0} {R : K → K → Ordering} (room : Option Room) (rows : FinMap R X) (key : K) where
  pub kept_answer : contains_key rows key ≡ true → IsAnswerIn room rows key (Ok tt)
  kept_answer kept = elim room as (λ r. IsAnswerIn r rows key (Ok tt)) [ None ↦ tt | Some r ↦ rw kept refl ]

module _ {K X : Type 0} {R : K → K → Ordering} (rows : FinMap R X) (key : K) (new : contains_key rows key ≡ false) where
  pub full_answer : (room : Option Room) (e : PutError) → room_left (len rows) room ≡ Err e → IsAnswerIn room rows key (Err e)
  full_answer None e h = absurd (cc)
  full_answer (Some room) e h =
      elim (nat_le room.limit (len rows - room.leaving)) as (λ b. nat_le room.limit (len rows - room.leaving) ≡ b → (if b then Err (Full room.kind room.limit) else Ok (tt {0})) ≡ Err e → IsAnswer room.kind room.limit rows key room.leaving (Err e)) [
        | true ↦ λ over f. subst (λ d. IsAnswer room.kind room.limit rows key room.leaving (Err d)) (same_err f) (answer_full room.kind room.limit (len rows) (len rows) room.leaving false _ refl new over)
        | false ↦ λ over f. absurd (cc)
      ] refl h

  pub new_answer : (room : Option Room) → room_left (len rows) room ≡ Ok tt → IsAnswerIn room rows key (Ok tt) × IsAnswerIn room rows key (Err Memory)
  new_answer None h = (tt, new)
  new_answer (Some room) h =
      elim (nat_le room.limit (len rows - room.leaving)) as (λ b. nat_le room.limit (len rows - room.leaving) ≡ b → (if b then Err (Full room.kind room.limit) else Ok (tt {0})) ≡ Ok (tt {0})
      → IsAnswer room.kind room.limit rows key room.leaving (Ok tt) × IsAnswer room.kind room.limit rows key room.leaving (Err Memory)) [
        | true ↦ λ over f. absurd (cc)
        | false ↦ λ over f. (answer_ok room.kind room.limit (len rows) (len rows) room.leaving false _ refl new over, answer_memory room.kind room.limit (len rows) (len rows) room.leaving false _ refl new over refl)
      ] refl h

-- a value that was written over the row of its key, which stood at an equal one
pub replaced : {K X : Type 0} {R : K → K → Ordering} (o : IsTotalOrder R) (exact : IsAntisymmetric R) (m n : BTreeMap K X) (k key : K) (old value : X)
    → k ≡ key → WritesThrough R (R k) m value n → Some old ≡ get_by (R k) m → Replaces (map_of R m) key value (map_of R n) None
replaced {R = R} o exact m n k key old value e w at =
    subst (λ q. Replaces (map_of R m) q value (map_of R n) None) e (ap is_some (lent_row o m k _ at), written_row o exact m n k old value w at)

pub handed_back : {K X : Type 0} {R : K → K → Ordering} (o : IsTotalOrder R) (m n : BTreeMap K X) (k key : K) (value : X)
    → k ≡ key → n ≡ m → None ≡ get_by (R k) m → Replaces (map_of R m) key value (map_of R n) (Some value)
handed_back {R = R} o m n k key value e f at =
    subst (λ q. Replaces (map_of R m) q value (map_of R n) (Some value)) e (ap is_some (lent_row o m k _ at), ap (map_of R) f, refl)

-- where a row was put at a new key, there was room, and memory alone was wanting
pub memory_after_ok : {K X : Type 0} {R : K → K → Ordering} (rows : FinMap R X) (key : K) → contains_key rows key ≡ false → (room : Option Room) → IsAnswerIn room rows key (Ok tt) → IsAnswerIn room rows key (Err Memory)
memory_after_ok rows key new None h = new
memory_after_ok rows key new (Some room) h = rows_memory room.kind room.limit (len rows) room.leaving (contains_key rows key) new h

-- without a limit memory alone may be wanting, and only at a new key
pub free_memory : {K X : Type 0} {R : K → K → Ordering} (rows : FinMap R X) (key : K) (e : PutError) → IsAnswerIn None rows key (Err e) → contains_key rows key ≡ false
free_memory rows key (Full kind limit) h = absurd h
free_memory rows key Memory h = h
