-- Where in a request's start line the bytes end, a byte at a time.
use Rattle.std.proofs.Common.{◌≡◌, ℕ, ◌+◌, ◌<◌, Bool, true, false, if◌then◌else◌, ◌==◌, List, [], ◌∷◌, length, get_or, drop, refl, sym, ap, ◌∙◌, arith}
use Rattle.std.proofs.lemmas.List.{drop_more}
use Rattle.std.proofs.lemmas.Bool.Decides.{nat_tests}
use Rattle.httparse.specs.Grammar.{is_token_byte, is_uri_byte}
use Rattle.http_wire.specs.declared.place.Place.{Place}
use Rattle.http_wire.specs.declared.place.Place.TheVariants.{Blank, Return, Method, Target, Elsewhere}

-- the place after one more byte
abbrev pub next_place : Place → ℕ → Place
next_place Blank b = if b == 10 then Blank else (if b == 13 then Return else (if is_token_byte b then Method else Elsewhere))
next_place Return b = if b == 10 then Blank else Elsewhere
next_place Method b = if is_token_byte b then Method else (if b == 32 then Target else Elsewhere)
next_place Target b = if is_uri_byte b then Target else Elsewhere
next_place Elsewhere b = Elsewhere

-- the place after these bytes
abbrev pub place_after : Place → List ℕ → Place
place_after place [] = place
place_after place (b ∷ bytes) = place_after (next_place place b) bytes

-- the walk after one more byte
pub walked : (place next : Place) (bytes : List ℕ) (i : ℕ) (to : Place) → i < length bytes → next ≡ next_place place (get_or bytes i 0)
    → place_after place (drop i bytes) ≡ to → place_after next (drop (i + 1) bytes) ≡ to
walked place next bytes i to within is so_far =
    ap (λ p. place_after p (drop (i + 1) bytes)) is ∙ sym (ap (place_after place) (drop_more bytes i 0 within)) ∙ so_far

-- ---- where each arm goes

module _ (p q : Place) (b : ℕ) where
  pub blank_feed : p ≡ Blank → b ≡ 10 → q ≡ Blank → q ≡ next_place p b
  blank_feed is t to = let e : (b == 10) ≡ true = grind (arith, nat_tests) in to ∙ sym (ap (λ p. next_place p b) is ∙ rw e refl)

  pub blank_return : p ≡ Blank → (b ≡ 10 → ⊥) → b ≡ 13 → q ≡ Return → q ≡ next_place p b
  blank_return is f t to =
      let d : (b == 10) ≡ false = grind (arith, nat_tests) in
      let e : (b == 13) ≡ true = grind (arith, nat_tests) in
      to ∙ sym (ap (λ p. next_place p b) is ∙ rw (d, e) refl)

  pub blank_token : p ≡ Blank → (b ≡ 10 → ⊥) → (b ≡ 13 → ⊥) → is_token_byte b ≡ true → q ≡ Method → q ≡ next_place p b
  blank_token is f g t to =
      let d : (b == 10) ≡ false = grind (arith, nat_tests) in
      let e : (b == 13) ≡ false = grind (arith, nat_tests) in
      to ∙ sym (ap (λ p. next_place p b) is ∙ rw (d, e, t) refl)

  pub blank_other : p ≡ Blank → (b ≡ 10 → ⊥) → (b ≡ 13 → ⊥) → is_token_byte b ≡ false → q ≡ Elsewhere → q ≡ next_place p b
  blank_other is f g t to =
      let d : (b == 10) ≡ false = grind (arith, nat_tests) in
      let e : (b == 13) ≡ false = grind (arith, nat_tests) in
      to ∙ sym (ap (λ p. next_place p b) is ∙ rw (d, e, t) refl)

  pub return_feed : p ≡ Return → b ≡ 10 → q ≡ Blank → q ≡ next_place p b
  return_feed is t to = let e : (b == 10) ≡ true = grind (arith, nat_tests) in to ∙ sym (ap (λ p. next_place p b) is ∙ rw e refl)

  pub return_other : p ≡ Return → (b ≡ 10 → ⊥) → q ≡ Elsewhere → q ≡ next_place p b
  return_other is f to = let e : (b == 10) ≡ false = grind (arith, nat_tests) in to ∙ sym (ap (λ p. next_place p b) is ∙ rw e refl)

  pub method_token : p ≡ Method → is_token_byte b ≡ true → q ≡ Method → q ≡ next_place p b
  method_token is t to = to ∙ sym (ap (λ p. next_place p b) is ∙ rw t refl)

  pub method_space : p ≡ Method → is_token_byte b ≡ false → b ≡ 32 → q ≡ Target → q ≡ next_place p b
  method_space is t s to = let e : (b == 32) ≡ true = grind (arith, nat_tests) in to ∙ sym (ap (λ p. next_place p b) is ∙ rw (t, e) refl)

  pub method_other : p ≡ Method → is_token_byte b ≡ false → (b ≡ 32 → ⊥) → q ≡ Elsewhere → q ≡ next_place p b
  method_other is t s to = let e : (b == 32) ≡ false = grind (arith, nat_tests) in to ∙ sym (ap (λ p. next_place p b) is ∙ rw (t, e) refl)

  pub target_byte : p ≡ Target → is_uri_byte b ≡ true → q ≡ Target → q ≡ next_place p b
  target_byte is t to = to ∙ sym (ap (λ p. next_place p b) is ∙ rw t refl)

  pub target_other : p ≡ Target → is_uri_byte b ≡ false → q ≡ Elsewhere → q ≡ next_place p b
  target_other is t to = to ∙ sym (ap (λ p. next_place p b) is ∙ rw t refl)

  pub elsewhere : p ≡ Elsewhere → q ≡ Elsewhere → q ≡ next_place p b
  elsewhere is to = to ∙ sym (ap (λ p. next_place p b) is)
