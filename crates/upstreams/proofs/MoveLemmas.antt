-- How moves of an upstream follow one another, over a connection that stays open.
use Rattle.std.proofs.Common.{◌≡◌, ◌∷◌, ℕ, List, [], ◌++◌, Option, Some, None, true, refl, sym, ap, ◌∙◌, append_assoc, subst}
use Rattle.std.proofs.lemmas.List.{append-nil}
use Rattle.upstreams.specs.Upstream.{Told, IsOpen, Connects, Moves}
use Rattle.upstreams.proofs.UpstreamLemmas.{some_same, tells}

-- nothing moved
pub Moves_none : (a : Option Told) → Moves a [] [] a
Moves_none a = record {
  leaves = λ t is. (t.left, refl, is ∙ ap (λ (s : List ℕ). Some (record t { sent = s })) (sym (append-nil t.sent)));
  silent = λ is. is;
}

-- one move and then another
pub Moves_then : (a b c : Option Told) (x y u v : List ℕ) → Moves a x u b → Moves b y v c → Moves a (x ++ y) (u ++ v) c
Moves_then a b c x y u v first second = record {
  leaves = λ t is.
      let one = first.leaves t is in
      let two = second.leaves (record t { sent = t.sent ++ x; left = one.0 }) one.2 in (
        two.0,
        one.1 ∙ (ap (λ r. u ++ r) two.1 ∙ sym (append_assoc u v two.0)),
        two.2 ∙ ap (λ (s : List ℕ). Some (record t { sent = s; left = two.0 })) (append_assoc t.sent x y),
      );
  silent = λ is. second.silent (first.silent is);
}

-- some bytes were sent, and then others received
pub Moves_both : (a b c : Option Told) (x u : List ℕ) → Moves a x [] b → Moves b [] u c → Moves a x u c
Moves_both a b c x u first second = subst (λ (s : List ℕ). Moves a s u c) (append-nil x) (Moves_then a b c x [] [] u first second)

-- more was received
pub Moves_more : (a b c : Option Told) (x u v : List ℕ) → Moves a x u b → Moves b [] v c → Moves a x (u ++ v) c
Moves_more a b c x u v first second = subst (λ (s : List ℕ). Moves a s (u ++ v) c) (append-nil x) (Moves_then a b c x [] u v first second)

-- a connection that was made is open
pub Connects_open : (a b : Option Told) (target : List ℕ) → Connects a target b → IsOpen b
Connects_open None b target connects = subst IsOpen (sym (connects.silent refl)) (record { opened = λ t is. absurd (tells t (sym is)) })
Connects_open (Some t) b target connects =
    subst IsOpen (sym (connects.sets t refl))
    (record {
      opened = λ s is. subst (λ (k : Told). k.is_open ≡ true) (some_same (record t { asked_for = t.asked_for ++ target ∷ []; is_open = true }) s is) refl;
    })

-- it stays so, whatever moves over it
pub Moves_open : (a b : Option Told) (x u : List ℕ) → IsOpen a → Moves a x u b → IsOpen b
Moves_open None b x u first moves = subst IsOpen (sym (moves.silent refl)) first
Moves_open (Some t) b x u first moves =
    let end = moves.leaves t refl in
    subst IsOpen (sym end.2)
    (record {
      opened = λ s is. subst (λ (k : Told). k.is_open ≡ true) (some_same (record t { sent = t.sent ++ x; left = end.0 }) s is) (first.opened t refl);
    })
