-- What a window holds when bytes move.
use Rattle.std.proofs.Common.{◌≡◌, ◌≤◌, ◌+◌, ◌-◌, ℕ, Option, List, [], ◌++◌, length, take, drop, sym, ap, ◌∙◌, arith, append_assoc, length-drop}
use Rattle.std.proofs.lemmas.List.{take_at, drop-take, drop_all, length-take, length-take-le, drop-append-le}
use Rattle.std.proofs.Math.Seq.{take-add}
use Rattle.http_wire.specs.Took.{Took}
use Rattle.upstreams.specs.Upstream.{Told, Moves}
use Rattle.piece_window.specs.Window.{inside, Came}

-- nothing stands from a place to itself
pub none_inside : (xs : List ℕ) (at : ℕ) → inside xs at at ≡ []
none_inside xs at = drop_all at (take at xs) (omega (arith, length-take at xs))

-- bytes that were moved to the front
pub settled : (xs rest : List ℕ) (start end : ℕ) → start ≤ end → end ≤ length xs → take (end - start) (take (end - start) (drop start xs) ++ rest) ≡ inside xs start end
settled xs rest start end order fits =
    let long : length (take (end - start) (drop start xs)) ≡ end - start = length-take-le (end - start) (drop start xs) (omega (arith, fits, length-drop start xs)) in
    let whole : start + (end - start) ≡ end = omega (arith, order) in
    take_at (take (end - start) (drop start xs)) rest (end - start) long
    ∙ (sym (drop-take start (end - start) xs) ∙ ap (λ (n : ℕ). drop start (take n xs)) whole)

-- bytes that came behind the end
pub grown : (xs ys : List ℕ) (s e n : ℕ) → s ≤ e → e ≤ length ys → take e ys ≡ take e xs → inside ys s (e + n) ≡ inside xs s e ++ take n (drop e ys)
grown xs ys s e n order fits same =
    ap (drop s) (take-add e n ys)
    ∙ (drop-append-le s (take e ys) (take n (drop e ys)) (omega (arith, order, length-take-le e ys fits))
    ∙ ap (λ (x : List ℕ). drop s x ++ take n (drop e ys)) same)

-- the same, of a client
pub took : (before after : Option (List ℕ)) (held kept kept' xs ys : List ℕ) (s e n : ℕ) → s ≤ e → e ≤ length ys → take e ys ≡ take e xs → inside xs s e ≡ held
    → Took before kept after (take n (drop e ys) ++ kept') → Took before (held ++ kept) after (inside ys s (e + n) ++ kept')
took before after held kept kept' xs ys s e n order fits same is came = record {
  taken = came.taken;
  takes = came.takes;
  whole =
      append_assoc held kept came.taken
      ∙ (ap (λ (x : List ℕ). held ++ x) came.whole
      ∙ (sym (append_assoc held (take n (drop e ys)) kept')
      ∙ ap (λ (x : List ℕ). x ++ kept') (ap (λ (x : List ℕ). x ++ take n (drop e ys)) (sym is) ∙ sym (grown xs ys s e n order fits same))));
}

-- the same, of an upstream
pub came : (told told' : Option Told) (held xs ys : List ℕ) (s e n : ℕ) → s ≤ e → e + n ≤ length ys → take e ys ≡ take e xs → inside xs s e ≡ held
    → Moves told [] (take n (drop e ys)) told' → Came held (inside ys s (e + n)) told told' n
came told told' held xs ys s e n order fits same is moves = record {
  piece = take n (drop e ys);
  size = length-take-le n (drop e ys) (omega (arith, fits, length-drop e ys));
  behind = grown xs ys s e n order (omega (arith, fits)) same ∙ ap (λ (x : List ℕ). x ++ take n (drop e ys)) is;
  moves = moves;
}

-- nothing came
pub none_came : (held xs ys : List ℕ) (s e n : ℕ) → take e ys ≡ take e xs → inside xs s e ≡ held → n ≡ 0 → inside ys s (e + n) ≡ held
none_came held xs ys s e n same is none = ap (λ (k : ℕ). inside ys s k) (omega (arith, none)) ∙ (ap (drop s) same ∙ is)
