-- The bounds of the words.
use Rattle.std.proofs.Common.{◌≡◌, ◌≤◌, ℕ, Bool, true, false, ◌&&◌, nat_le, List, Option, Some, None, option_map, option_and_then, codes, if◌then◌else◌, refl, subst}
use Rattle.std.proofs.lemmas.Bool.{leb-true}
use Rattle.clap.specs.Faults.{fault_of}
use Rattle.clap.specs.Simple.{matches_of}
use Rattle.clap.specs.Walk.{Row}
use Rattle.hub_words.specs.Load.{load_app, load_read, load_of, load_within, load_with}
use Rattle.hub_words.specs.Arguments.{pair, needed}
use Rattle.hub_words.specs.Commands.{begins, is_taken}
use Rattle.hub_words.specs.Values.{number_in, within}
use Rattle.hub_words.specs.declared.load.LoadWords.{LoadWords}

if_some : {A : Type 0} (b : Bool) (o : Option A) (a : A) → (if b then o else None) ≡ Some a → o ≡ Some a
if_some true o a is = is
if_some false o a is = absurd (cc is)

then_some : {A B : Type 0} (f : A → Option B) (o : Option A) (b : B) → option_and_then f o ≡ Some b → (a : A) × (f a ≡ Some b)
then_some f None b is = absurd (cc is)
then_some f (Some a) b is = (a, is)

abbrev Between : ℕ → ℕ → ℕ → Type 0
Between least most n = (least ≤ n) × (n ≤ most)

tested : (least most n m : ℕ) (low high : Bool) → nat_le least n ≡ low → nat_le n most ≡ high → (if low && high then Some n else None) ≡ Some m → Between least most m
tested least most n m true true one two is = subst (λ (k : ℕ). Between least most k) (cc is) (leb-true least n one, leb-true n most two)
tested least most n m true false one two is = absurd (cc is)
tested least most n m false high one two is = absurd (cc is)

within_is : (least most n m : ℕ) → within least most n ≡ Some m → Between least most m
within_is least most n m is = tested least most n m (nat_le least n) (nat_le n most) refl refl is

abbrev Bounded : LoadWords → Type 0
Bounded words = (words.seed ≤ 65536) × Between 1 20000 words.users

paired : (a b : Option ℕ) (words : LoadWords) → ((m : ℕ) → a ≡ Some m → m ≤ 65536) → ((m : ℕ) → b ≡ Some m → Between 1 20000 m)
    → option_map load_with (pair a b) ≡ Some words → Bounded words
paired None b words one two is = absurd (cc is)
paired (Some m) None words one two is = absurd (cc is)
paired (Some m) (Some n) words one two is = subst Bounded (cc is) (one m refl, two n refl)

pub bounded : (texts : List (List ℕ)) (words : LoadWords) → load_read texts ≡ Some words → Bounded words
bounded texts words is =
    let rows : List Row = matches_of load_app texts in
    let taken : Bool = is_taken (fault_of load_app texts) in
    let inner = if_some (begins (codes "load") texts) (if taken then load_of rows else None) words is in
    let said = then_some load_within (pair (needed number_in (codes "SEED") rows) (needed number_in (codes "N") rows)) words (if_some taken (load_of rows) words inner) in
    paired (within 0 65536 (said.0).0) (within 1 20000 (said.0).1) words (λ m here. (within_is 0 65536 (said.0).0 m here).1)
    (λ m here. within_is 1 20000 (said.0).1 m here) said.1
