-- What is known of a store that may be one's own: each conclusion here has one proof at most.
use Rattle.std.proofs.Common.{◌≡◌, List, Bool, Option, Some, None, IfSome, IsTrue, ap}
use Rattle.std.proofs.Math.Logic.{∥∥₁_elim, ∥∥₁_map}
use Rattle.std.specs.Coded.{Coded-set, coded_ℕ, coded_list, coded_option, coded_bool, ×_prop, Π_prop, Unit-prop}
use Rattle.std.specs.List.Sorted.{IsStrictlySortedBy-prop}
use Rattle.sqlite.specs.Effect.{Database}
use Rattle.sqlite_schema.specs.contracts.schema.Schema as schema
use Rattle.sqlite_value.specs.contracts.row.Row as row
use Rattle.sqlite.specs.Held.{Held, state}
use Rattle.sqlite.specs.Store.{Ghosts}
use Rattle.row_table.proofs.Props.{IsRowStore-prop}
use Rattle.keeper_sqlite.specs.Own.{AreAll, told_rows}
use Rattle.keeper.specs.Rows.{Rows, AreSame, Lists, row_cmp}
use Rattle.keeper.specs.declared.keeper.Row.{Row as Kept}

AreSame-prop : (a b : Rows) → IsProp (AreSame a b)
AreSame-prop a b = Π_prop (λ kind. Π_prop (λ key. Coded-set (coded_option (coded_list coded_ℕ)) (a kind key) (b kind key)))

Lists-prop : (rows : Rows) (all : List Kept) → IsProp (Lists rows all)
Lists-prop rows all a b i = record {
  in_order = IsStrictlySortedBy-prop row_cmp all a.in_order b.in_order i;
  same = AreSame-prop _ rows a.same b.same i;
}

Database-set : (a b : Database) → IsProp (a ≡ b)
Database-set a b p q j i = record {
  schema = Coded-set schema.the_row.coded a.schema b.schema (ap (λ (d : Database). d.schema) p) (ap (λ (d : Database). d.schema) q) j i;
  trees = λ n. Coded-set (coded_list row.the_row.coded) (a.trees n) (b.trees n) (ap (λ (d : Database). d.trees n) p) (ap (λ (d : Database). d.trees n) q) j i;
}

IfSome-prop : {X : Type 0} {P : X → Type 0} (o : Option X) → ((x : X) → IsProp (P x)) → IsProp (IfSome o P)
IfSome-prop None props = Unit-prop
IfSome-prop (Some x) props = props x

-- what was read of a store is known
pub read_known : {S : Type 0} (g : Ghosts S) (h : Held S) {V : Type 0} (items : V → List Kept) (read : Option V) → ∥ IfSome read (λ all. AreAll g h (items all)) ∥₁ → IfSome read (λ all. AreAll g h (items all))
read_known g h items read known =
    ∥∥₁_elim known
    (IfSome-prop read (λ all. Π_prop (λ clean. Π_prop (λ open_now. ×_prop (IsRowStore-prop (state g h).now) (Lists-prop (told_rows g h) (items all))))))
    (λ is. is)

-- what follows of a store of one's own, which this one is
module _ {P : Type 0} {own : Bool} (owned : ∥ (IsTrue own → P) ∥₁) (is_own : IsTrue own) where
  pub lists_known : (rows : Rows) (all : List Kept) → (P → Lists rows all) → Lists rows all
  lists_known rows all h = ∥∥₁_elim owned (Lists-prop rows all) (λ known. h (known is_own))

  pub rows_known : (a b : Rows) → (P → AreSame a b) → AreSame a b
  rows_known a b h = ∥∥₁_elim owned (AreSame-prop a b) (λ known. h (known is_own))

  pub stands_known : (open_before : Bool) (a b : Rows) → (P → IsTrue open_before × AreSame a b) → IsTrue open_before × AreSame a b
  stands_known open_before a b h = ∥∥₁_elim owned (×_prop (Coded-set coded_bool _ _) (AreSame-prop a b)) (λ known. h (known is_own))

  pub same_known : (open_before : Bool) (a b : Database) → (P → IsTrue open_before × (a ≡ b)) → IsTrue open_before × (a ≡ b)
  same_known open_before a b h = ∥∥₁_elim owned (×_prop (Coded-set coded_bool _ _) (Database-set a b)) (λ known. h (known is_own))

pub owned_then : {P Q : Type 0} {own : Bool} → (P → Q) → ∥ (IsTrue own → P) ∥₁ → ∥ (IsTrue own → Q) ∥₁
owned_then h owned = ∥∥₁_map owned (λ known own. h (known own))
