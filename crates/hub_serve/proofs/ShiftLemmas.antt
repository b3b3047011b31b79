-- Lemmas on what workers serve one after the other.
use Rattle.std.proofs.Common.{◌≡◌, ◌+◌, ◌-◌, ◌<◌, ℕ, suc, Bool, false, List, [], ◌∷◌, ◌++◌, map, length, reverse, slice_index_or, All, Option, Some, Result, refl, ap, ◌∙◌, subst, sym, arith}
use Rattle.std.proofs.lemmas.Bool.{ne_eqb}
use Rattle.std.proofs.lemmas.List.{append-nil, append_assoc, reverse-append}
use Rattle.std.proofs.lemmas.List.Elements.{All-nil, All-push, All-weaker}
use Rattle.desk.specs.Passes.{PassState}
use Rattle.desk.specs.OwnEntries.{merged}
use Rattle.desk.specs.Seats.{one_more, one_less, only}
use Rattle.http_wire.specs.declared.error.SessionFault.{SessionFault}
use Rattle.hub_run.specs.declared.served.Served.{Served}
use Rattle.hub_run.specs.Connections.{StreamTold}
use Rattle.hub_serve.specs.Shifts.{Ends, count_of, Spans, AreOf, pass_before, pass_after, kit_before, kit_after, GoOn, GoFrom, IsServed, IsShift, IsWhole, own_of, all_own}
use Rattle.hub_serve.specs.declared.tally.Connection.{Connection}

pub map_push : {X Y : Type 0} (f : X → Y) (xs : List X) (x : X) → map f (xs ++ x ∷ []) ≡ map f xs ++ f x ∷ []
map_push f [] x = refl
map_push f (y ∷ ys) x = ap (λ l. f y ∷ l) (map_push f ys x)

pub count_push : {X : Type 0} (xss : List (List X)) (xs : List X) → count_of (xss ++ xs ∷ []) ≡ count_of xss + length xs
count_push [] xs = omega arith
count_push (ys ∷ yss) xs = let rest = count_push yss xs in omega (arith, rest)

counts_some : (i : ℕ) → false ≡ only (Some (i + 1))
counts_some i = sym (ne_eqb (i + 1) 0 (λ e. absurd (omega (arith, e))))

-- the first pass has split off one more
pub one_more_out : {E A : Type 0} (s p p' : PassState E A) (i : ℕ) → p ≡ record s { others = Some i; alone = only (Some i) }
    → p' ≡ record p { others = one_more p.others; alone = false } → p' ≡ record s { others = Some (i + 1); alone = only (Some (i + 1)) }
one_more_out {E} {A} s p p' i was is = is ∙ ap {A = PassState E A} (λ q. record q { others = one_more q.others; alone = false }) was
    ∙ ap (λ (b : Bool). record s { others = Some (i + 1); alone = b }) (counts_some i)

-- and has taken in one
pub one_back : (was now : Option ℕ) (n m : ℕ) → was ≡ Some n → n ≡ m + 1 → now ≡ one_less was → now ≡ Some m
one_back was now n m had less is = let same : n - 1 ≡ m = omega (arith, less) in is ∙ ap one_less had ∙ ap Some same

-- ---- what workers had, and left

module _ {X K : Type 0} (before after : X → K) where
  spans_push : (k : K) (xs : List X) (j : K) (x : X) (k' : K) → Spans before after k xs j → j ≡ before x → after x ≡ k' → Spans before after k (xs ++ x ∷ []) k'
  spans_push k [] j x k' h had left = (h ∙ had, left)
  spans_push k (y ∷ ys) j x k' h had left = (h.0, spans_push (after y) ys j x k' h.1 had left)

  -- one more worker is done
  of_push : (ks : List K) (xss : List (List X)) (js rest : List K) (k j : K) (xs : List X) → length xss ≡ length js
      → AreOf before after ks xss (js ++ k ∷ rest) → Spans before after k xs j → AreOf before after ks (xss ++ xs ∷ []) (js ++ j ∷ rest)
  of_push ks [] [] rest k j xs long are spans = subst (λ l. AreOf before after l (xs ∷ []) (j ∷ rest)) (sym are) (spans, refl)
  of_push ks [] (i ∷ js) rest k j xs long are spans = absurd (omega (arith, long))
  of_push ks (ys ∷ yss) [] rest k j xs long are spans = absurd (omega (arith, long))
  of_push [] (ys ∷ yss) (i ∷ js) rest k j xs long are spans = absurd are
  of_push (l ∷ ls) (ys ∷ yss) (i ∷ js) rest k j xs long are spans = (are.0, of_push ls yss js rest k j xs (omega (arith, long)) are.1 spans)

module _ {W K : Type 0} (lent : W → K) where
  back : (ws : List W) (w : W) → reverse (map lent (ws ++ w ∷ [])) ≡ lent w ∷ reverse (map lent ws)
  back ws w = ap reverse (map_push lent ws w) ∙ reverse-append (map lent ws) (lent w ∷ [])

  -- a worker took the last kit
  pub hired : (all ks ks' : List K) (k : K) (ws ws' : List W) (w : W) → all ≡ ks ++ reverse (map lent ws) → ks ≡ ks' ++ k ∷ [] → lent w ≡ k
      → ws' ≡ ws ++ w ∷ [] → all ≡ ks' ++ reverse (map lent ws')
  hired all ks ks' k ws ws' w was less is more =
      was ∙ ap (λ l. l ++ reverse (map lent ws)) less ∙ append_assoc ks' (k ∷ []) (reverse (map lent ws))
      ∙ ap (λ x. ks' ++ x ∷ reverse (map lent ws)) (sym is) ∙ ap (λ l. ks' ++ l) (sym (back ws w)) ∙ ap (λ l. ks' ++ reverse (map lent l)) (sym more)

  -- the last worker gave its kit back
  pub of_joined : {X : Type 0} (before after : X → K) (all js js' : List K) (j : K) (ws ws' : List W) (w : W) (xss xss' : List (List X)) (xs : List X)
      → AreOf before after all xss (js ++ reverse (map lent ws)) → length xss ≡ length js → Spans before after (lent w) xs j → ws ≡ ws' ++ w ∷ []
      → js' ≡ js ++ j ∷ [] → xss' ≡ xss ++ xs ∷ [] → AreOf before after all xss' (js' ++ reverse (map lent ws'))
  of_joined before after all js js' j ws ws' w xss xss' xs are long spans less back_in more =
      let rest = reverse (map lent ws') in
      let had : AreOf before after all xss (js ++ lent w ∷ rest) =
      subst (λ l. AreOf before after all xss (js ++ l)) (ap (λ l. reverse (map lent l)) less ∙ back ws' w) are in
      subst (λ l. AreOf before after all l (js' ++ rest)) (sym more)
      (subst (λ l. AreOf before after all (xss ++ xs ∷ []) l) (sym (ap (λ l. l ++ rest) back_in ∙ append_assoc js (j ∷ []) rest))
      (of_push before after all xss js rest (lent w) j xs long had spans))

  -- none has given its kit back, and all have
  pub of_none : {X : Type 0} (before after : X → K) (js : List K) (ws : List W) (xss : List (List X)) → js ≡ [] → xss ≡ []
      → AreOf before after (reverse (map lent ws)) xss (js ++ reverse (map lent ws))
  of_none before after js ws xss out none =
      subst (λ l. AreOf before after (reverse (map lent ws)) l (js ++ reverse (map lent ws))) (sym none) (ap (λ l. l ++ reverse (map lent ws)) (sym out))

  pub of_all : {X : Type 0} (before after : X → K) (all js : List K) (ws : List W) (xss : List (List X)) → ws ≡ []
      → AreOf before after all xss (js ++ reverse (map lent ws)) → AreOf before after all xss js
  of_all before after all js ws xss none are =
      subst (λ l. AreOf before after all xss l) (ap (λ l. js ++ reverse (map lent l)) none ∙ append-nil js) are

  -- workers that kept what they were handed
  pub same_lent : (ws ws' : List W) → length ws' ≡ length ws → ((i : ℕ) (d : W) → i < length ws → lent (slice_index_or ws' i d) ≡ lent (slice_index_or ws i d))
      → map lent ws' ≡ map lent ws
  same_lent [] [] long each = refl
  same_lent [] (w ∷ ws') long each = absurd (omega (arith, long))
  same_lent (w ∷ ws) [] long each = absurd (omega (arith, long))
  same_lent (v ∷ vs) (w ∷ ws) long each =
      ap (λ k. k ∷ map lent ws) (each 0 v (omega arith))
      ∙ ap (λ ks. lent v ∷ ks) (same_lent vs ws (omega (arith, long)) (λ i d less. each (suc i) d (omega (arith, less))))

module _ {P Q I O : Type 0} where
  goes_on : (c : Connection P Q I O) (cs : List (Connection P Q I O)) (q : P) (k : Q) → Spans pass_before pass_after c.after.pass.value cs q
      → Spans kit_before kit_after c.after.kit.value cs k → GoOn c cs
  goes_on c [] q k passes kits = tt
  goes_on c (d ∷ ds) q k passes kits = (passes.0, kits.0, goes_on d ds q k passes.1 kits.1)

  goes_from : (p : P) (j : Q) (cs : List (Connection P Q I O)) (q : P) (k : Q) → Spans pass_before pass_after p cs q
      → Spans kit_before kit_after j cs k → GoFrom p cs
  goes_from p j [] q k passes kits = tt
  goes_from p j (c ∷ cs) q k passes kits = (passes.0, goes_on c cs q k passes.1 kits.1)

  module _ (are_sides : I → O → Type 0)
      (ends : Ends P Q) (told : I → StreamTold) (wrote : O → StreamTold) where
    pub shift_push : (p : P) (j : Q) (cs : List (Connection P Q I O)) (q : P) (k : Q) (d : Connection P Q I O) (q' : P) (k' : Q)
        → IsShift are_sides ends told wrote p j cs q k → q ≡ d.before.pass.value → k ≡ d.before.kit.value → d.after.pass.value ≡ q' → d.after.kit.value ≡ k'
        → IsServed are_sides ends told wrote d → (cs' : List (Connection P Q I O)) → cs' ≡ cs ++ d ∷ [] → IsShift are_sides ends told wrote p j cs' q' k'
    shift_push p j cs q k d q' k' h a b e f s cs' is = subst (λ l. IsShift are_sides ends told wrote p j l q' k') (sym is) (
      spans_push pass_before pass_after p cs q d q' h.0 a e,
      spans_push kit_before kit_after j cs k d k' h.1 b f,
      All-push (IsServed are_sides ends told wrote) cs d h.2 s,
    )

    -- one that hasn't served yet
    pub shift_none : (p : P) (j : Q) (cs : List (Connection P Q I O)) (q : P) (k : Q) → q ≡ p → k ≡ j → cs ≡ [] → IsShift are_sides ends told wrote p j cs q k
    shift_none p j cs q k same lent none = subst (λ l. IsShift are_sides ends told wrote p j l q k) (sym none)
        (sym same, sym lent, All-nil (IsServed are_sides ends told wrote))

    pub shift_whole : (p : P) (j : Q) (cs : List (Connection P Q I O)) (q : P) (k : Q) → IsShift are_sides ends told wrote p j cs q k → IsWhole are_sides ends told wrote p cs
    shift_whole p j cs q k h = (goes_from p j cs q k h.0 h.1, h.2)

module _ {E A Q I O : Type 0} where
  pub own_last : (p : PassState E A) (cs : List (Connection (PassState E A) Q I O)) (q : PassState E A) → Spans pass_before pass_after p cs q → own_of p cs ≡ q.mine
  own_last p [] q h = ap (λ x. x.mine) h
  own_last p (c ∷ cs) q h = own_last c.after.pass.value cs q h.1

  all_own_push : (p : PassState E A) (mine : List (ℕ × E)) (css : List (List (Connection (PassState E A) Q I O))) (cs : List (Connection (PassState E A) Q I O))
      → all_own p mine (css ++ cs ∷ []) ≡ merged (all_own p mine css) (own_of p cs)
  all_own_push p mine [] cs = refl
  all_own_push p mine (x ∷ xs) cs = all_own_push p (merged mine (own_of p x)) xs cs

  -- one more pass was taken in
  pub all_own_joined : (p : PassState E A) (mine : List (ℕ × E)) (css css' : List (List (Connection (PassState E A) Q I O))) (cs : List (Connection (PassState E A) Q I O))
      (now now' : List (ℕ × E)) (q : PassState E A) → now ≡ all_own p mine css → Spans pass_before pass_after p cs q → now' ≡ merged now q.mine → css' ≡ css ++ cs ∷ []
      → now' ≡ all_own p mine css'
  all_own_joined p mine css css' cs now now' q was spans is more =
      is ∙ ap (λ l. merged l q.mine) was ∙ ap (λ l. merged (all_own p mine css) l) (sym (own_last p cs q spans)) ∙ sym (all_own_push p mine css cs)
      ∙ ap (λ l. all_own p mine l) (sym more)
