-- Moves of an upstream that tells.
use Rattle.std.proofs.Common.{◌≡◌, ℕ, ◌+◌, true, false, List, [], ◌∷◌, ◌++◌, length, take, drop, Some, None, sym, ap, ◌∙◌, subst}
use Rattle.std.proofs.lemmas.List.{append-nil, take_at, take-append-drop, drop-drop}
use Rattle.upstreams.specs.Upstream.{Told, Connects, Moves, Finishes}

pub some_same : (a b : Told) → Some a ≡ Some b → a ≡ b
some_same a b e = cc

pub tells : (t : Told) → Some t ≡ None → ⊥
tells t e = cc

pub told_moves : (t : Told) (x u rest : List ℕ) → t.left ≡ u ++ rest → Moves (Some t) x u (Some (record t { sent = t.sent ++ x; left = rest }))
told_moves t x u rest is = record {
  leaves = λ s same. (rest, subst (λ (k : Told). k.left ≡ u ++ rest) (some_same t s same) is, ap (λ (k : Told). Some (record k { sent = k.sent ++ x; left = rest })) (some_same t s same));
  silent = λ e. absurd (tells t e);
}

pub told_connects : (t : Told) (target : List ℕ) → Connects (Some t) target (Some (record t { asked_for = t.asked_for ++ target ∷ []; is_open = true }))
told_connects t target = record {
  sets = λ s same. ap (λ (k : Told). Some (record k { asked_for = k.asked_for ++ target ∷ []; is_open = true })) (some_same t s same);
  silent = λ e. absurd (tells t e);
}

pub told_finishes : (t : Told) → Finishes (Some t) (Some (record t { is_open = false }))
told_finishes t = record { ends = λ s same. ap (λ (k : Told). Some (record k { is_open = false })) (some_same t s same) }

pub told_receives : (t : Told) (u rest : List ℕ) → t.left ≡ u ++ rest → Moves (Some t) [] u (Some (record t { left = rest }))
told_receives t u rest is =
    subst (λ (s : List ℕ). Moves (Some t) [] u (Some (record t { sent = s; left = rest }))) (append-nil t.sent) (told_moves t [] u rest is)

-- the part that a receive wrote to the front of its buffer
pub part_left : (bytes into part : List ℕ) (at n : ℕ) → part ≡ take n (drop at bytes) → length part ≡ n → drop at bytes ≡ take n (part ++ drop n into) ++ drop (at + n) bytes
part_left bytes into part at n is len =
    sym (take-append-drop n (drop at bytes))
    ∙ (ap (λ (x : List ℕ). x ++ drop n (drop at bytes)) (sym is ∙ sym (take_at part (drop n into) n len))
    ∙ ap (λ (x : List ℕ). take n (part ++ drop n into) ++ x) (drop-drop n at bytes))
