-- What the tests of kinds and keys say.
use Rattle.std.proofs.Common.{◌≡◌, ℕ, ◌==◌, ℤ, pos, negsuc, Bool, true, false, List, cond, ◌||◌, bytes_eq, Option, Some, None, Ordering, Less, Equal, Greater, refl, sym, ap, ◌∙◌, arith, rules, true≢false}
use Rattle.std.specs.FinMap.{int_cmp-IsAntisymmetric}
use Rattle.std.specs.Ordering.{is_eq}
use Rattle.std.proofs.lemmas.Map.Lookups.{exact_bytes}
use Rattle.std.proofs.lemmas.Bool.{and_parts, and_from}
use Rattle.std.proofs.lemmas.Cmp.{tied_itself}
use Rattle.keeper.specs.Rows.{is_at}
use Rattle.sqlite.specs.Collation.TheVariants.{Binary}
use Rattle.sqlite.specs.Ops.{binary, is_true, is_null, from_truth}
use Rattle.sqlite.specs.Order.{Row, column, value_cmp}
use Rattle.sqlite.specs.Tree.{has_rowid}
use Rattle.sqlite_sql.specs.declared.ops.BinaryOp.TheVariants.{Compare}
use Rattle.sqlite_sql.specs.declared.ops.CompareOp.TheVariants.{Eq}
use Rattle.sqlite_value.proofs.OrderLemmas.{value_cmp_total, value_cmp-Int, value_cmp-Text}
use Rattle.sqlite.specs.declared.types.Value.{Value}
use Rattle.sqlite.specs.declared.types.Value.TheVariants.{Null, Int, Real, Text, Blob}
use Rattle.row_table.specs.Stored.{stored, is_number, is_text, is_under}

pub same_number : (m n : ℕ) → (m == n) ≡ true → m ≡ n
same_number m n h = grind arith

pub number_itself : (n : ℕ) → (n == n) ≡ true
number_itself n = grind arith

pub same_bytes : (a b : List ℕ) → bytes_eq a b ≡ true → a ≡ b
same_bytes a b h = search rules

pub bytes_itself : (a : List ℕ) → bytes_eq a a ≡ true
bytes_itself a = search rules

pub number_is : (n : ℕ) (v : Value) → is_number n v ≡ true → v ≡ Int (pos n)
number_is n Null h = absurd (true≢false (sym h))
number_is n (Int (pos m)) h = ap (λ k. Int (pos k)) (sym (same_number n m h))
number_is n (Int (negsuc m)) h = absurd (true≢false (sym h))
number_is n (Real x) h = absurd (true≢false (sym h))
number_is n (Text t) h = absurd (true≢false (sym h))
number_is n (Blob b) h = absurd (true≢false (sym h))

pub text_is : (s : List ℕ) (v : Value) → is_text s v ≡ true → v ≡ Text s
text_is s Null h = absurd (true≢false (sym h))
text_is s (Int n) h = absurd (true≢false (sym h))
text_is s (Real x) h = absurd (true≢false (sym h))
text_is s (Text t) h = ap Text (sym (same_bytes s t h))
text_is s (Blob b) h = absurd (true≢false (sym h))

pub under_is : (kind : ℕ) (key : List ℕ) (row : Row) → is_under kind key row ≡ true → (column row 1 ≡ Int (pos kind)) × (column row 2 ≡ Text key)
under_is kind key row h = let parts = and_parts _ _ h in (number_is kind (column row 1) parts.0, text_is key (column row 2) parts.1)

pub under_from : (kind : ℕ) (key : List ℕ) (row : Row) → column row 1 ≡ Int (pos kind) → column row 2 ≡ Text key → is_under kind key row ≡ true
under_from kind key row p q = rw (p, q) (and_from _ _ (number_itself kind) (bytes_itself key))

pub at_is : (kind : ℕ) (key : List ℕ) (k : ℕ) (t : List ℕ) → is_at kind key k t ≡ true → (kind ≡ k) × (key ≡ t)
at_is kind key k t h = let parts = and_parts _ _ h in (same_number kind k parts.0, same_bytes key t parts.1)

pub at_itself : (kind : ℕ) (key : List ℕ) → is_at kind key kind key ≡ true
at_itself kind key = and_from _ _ (number_itself kind) (bytes_itself key)

-- options with the same contents are the same
pub same_option : {A : Type 0} (a b : Option A) → ((x : A) → a ≡ Some x → b ≡ Some x) → ((x : A) → b ≡ Some x → a ≡ Some x) → a ≡ b
same_option None None f g = refl
same_option None (Some y) f g = g y refl
same_option (Some x) b f g = sym (f x refl)

pub equal_is : (o : Ordering) → is_eq o ≡ true → o ≡ Equal
equal_is Less h = absurd (true≢false (sym h))
equal_is Equal h = refl
equal_is Greater h = absurd (true≢false (sym h))

-- ---- SQL's equality

abbrev compared : Bool → Bool → Bool
compared null test = is_true (cond null Null (from_truth (Some test)))

compared_test : (null test : Bool) → compared null test ≡ true → test ≡ true
compared_test true test h = absurd (true≢false (sym h))
compared_test false true h = refl
compared_test false false h = absurd (true≢false (sym h))

abbrev pub is_same : Value → Value → Bool
is_same a b = is_true (binary (Compare Eq Binary) a b)

tied : (a b : Value) → is_same a b ≡ true → value_cmp a b ≡ Equal
unfolding binary
tied a b h = equal_is _ (compared_test (is_null a || is_null b) (is_eq (value_cmp a b)) h)

pub same_itself : (v : Value) → is_null v ≡ false → is_same v v ≡ true
unfolding binary
same_itself v some = rw (some, tied_itself value_cmp_total v)

pub same_int : (m n : ℤ) → is_same (Int m) (Int n) ≡ true → m ≡ n
same_int m n h = int_cmp-IsAntisymmetric m n (sym (value_cmp-Int m n) ∙ tied (Int m) (Int n) h)

pub same_text : (s t : List ℕ) → is_same (Text s) (Text t) ≡ true → s ≡ t
same_text s t h = exact_bytes s t (sym (value_cmp-Text s t) ∙ tied (Text s) (Text t) h)

pub same_pos : (m n : ℕ) → is_same (Int (pos m)) (Int (pos n)) ≡ true → m ≡ n
same_pos m n h = let e = same_int (pos m) (pos n) h in cc

pub rowid_int : (id : ℤ) (kind : ℕ) (key text : List ℕ) (other : ℤ) → has_rowid other (stored id kind key text) ≡ true → id ≡ other
rowid_int id kind key text other h = int_cmp-IsAntisymmetric id other (sym (value_cmp-Int id other) ∙ equal_is _ h)

pub rowid_itself : (id : ℤ) (kind : ℕ) (key text : List ℕ) → has_rowid id (stored id kind key text) ≡ true
rowid_itself id kind key text = rw (tied_itself value_cmp_total (Int id)) refl
