-- Listed paths, of segments and of decoded bytes.
use Rattle.std.proofs.Common.{◌≡◌, ℕ, Bool, true, false, ◌==◌, List, [], ◌∷◌, ◌++◌, if◌then◌else◌, refl, sym, ap, ◌∙◌, append_assoc, arith}
use Rattle.std.proofs.lemmas.List.{append-nil}
use Rattle.std.proofs.lemmas.Bool.Decides.{nat_tests}
use Rattle.std.specs.List.{flat_map}
use Rattle.route_table.specs.Path.{first_part, later_parts, parts, IsKey, written, written_byte, behind_slashes, ends_empty, listed_path}

-- a byte of a decoded path, as it is listed
abbrev pub key_byte : ℕ → List ℕ
key_byte b = if b == 47 then 47 ∷ [] else written_byte b

bytes_behind : (xs : List ℕ) → flat_map key_byte xs ≡ written (first_part xs) ++ behind_slashes (later_parts xs)
bytes_behind [] = refl
bytes_behind (b ∷ xs) = elim (b == 47) as (λ t. (if t then 47 ∷ [] else written_byte b) ++ flat_map key_byte xs
    ≡ written (if t then [] else b ∷ first_part xs) ++ behind_slashes (if t then first_part xs ∷ later_parts xs else later_parts xs)) [
      | true ↦ ap (λ ys. 47 ∷ ys) (bytes_behind xs)
      | false ↦ ap (λ ys. written_byte b ++ ys) (bytes_behind xs) ∙ sym (append_assoc (written_byte b) (written (first_part xs)) (behind_slashes (later_parts xs)))
    ]

-- the bytes of a decoded path are its segments, each behind a slash
pub key_written : (key : List ℕ) → IsKey key → flat_map key_byte key ≡ behind_slashes (parts key)
key_written [] is = refl
key_written (b ∷ xs) is = rw is (ap (λ ys. 47 ∷ ys) (bytes_behind xs))

not_both : (y : ℕ) (ys : List ℕ) → first_part (y ∷ ys) ≡ [] → later_parts (y ∷ ys) ≡ [] → ⊥
not_both y ys = elim (y == 47) as (λ t. (if t then [] else y ∷ first_part ys) ≡ [] → (if t then first_part ys ∷ later_parts ys else later_parts ys) ≡ [] → ⊥) [
  | true ↦ λ e f. some_part f
  | false ↦ λ e f. some_byte e
]
  where
    some_part : {x : List ℕ} {xs : List (List ℕ)} → x ∷ xs ≡ [] → ⊥
    some_part e = cc

    some_byte : {x : ℕ} {xs : List ℕ} → x ∷ xs ≡ [] → ⊥
    some_byte e = cc

-- a byte more in front of the first part, which isn't alone and empty
in_front : (x : ℕ) (f : List ℕ) (l : List (List ℕ)) → (f ≡ [] → l ≡ [] → ⊥) → ends_empty ((x ∷ f) ∷ l) ≡ ends_empty (f ∷ l)
in_front x [] [] h = absurd (h refl refl)
in_front x (y ∷ f) [] h = refl
in_front x [] (t ∷ l) h = refl
in_front x (y ∷ f) (t ∷ l) h = refl

after_byte : (x y : ℕ) (ys : List ℕ) (r : Bool) → ends_empty (first_part (y ∷ ys) ∷ later_parts (y ∷ ys)) ≡ r
    → ends_empty (first_part (x ∷ y ∷ ys) ∷ later_parts (x ∷ y ∷ ys)) ≡ r
after_byte x y ys r h = elim (x == 47) as (λ t. ends_empty ((if t then [] else x ∷ first_part (y ∷ ys)) ∷ (if t then first_part (y ∷ ys) ∷ later_parts (y ∷ ys) else later_parts (y ∷ ys))) ≡ r) [
  | true ↦ h
  | false ↦ in_front x (first_part (y ∷ ys)) (later_parts (y ∷ ys)) (not_both y ys) ∙ h
]

last_part : (xs : List ℕ) (b : ℕ) → ends_empty (first_part (xs ++ b ∷ []) ∷ later_parts (xs ++ b ∷ [])) ≡ (b == 47)
last_part [] b = elim (b == 47) as (λ t. ends_empty ((if t then [] else b ∷ []) ∷ (if t then [] ∷ [] else [])) ≡ t) [ true ↦ refl | false ↦ refl ]
last_part (x ∷ []) b = after_byte x b [] (b == 47) (last_part [] b)
last_part (x ∷ y ∷ xs) b = after_byte x y (xs ++ b ∷ []) (b == 47) (last_part (y ∷ xs) b)

-- the last segment is empty where a slash ends the path
pub ends_in_slash : (front : List ℕ) (b : ℕ) → IsKey (front ++ b ∷ []) → ends_empty (parts (front ++ b ∷ [])) ≡ (b == 47)
ends_in_slash [] b is = rw is refl
ends_in_slash (x ∷ front) b is = last_part front b

pub listed_more : (s : List (List ℕ)) (text more : List ℕ) → text ≡ behind_slashes s → more ≡ text ++ 47 ∷ [] → ends_empty s ≡ true → more ≡ listed_path s
listed_more s text more is e ends = e ∙ rw (is, ends) refl

pub listed_whole : (s : List (List ℕ)) (text : List ℕ) → text ≡ behind_slashes s → ends_empty s ≡ false → text ≡ listed_path s
listed_whole s text is ends = is ∙ (sym (append-nil (behind_slashes s)) ∙ rw ends refl)
