-- Lemmas on what servers serve one after the other.
use Rattle.std.proofs.Common.{◌≡◌, ◌+◌, ◌<◌, ℕ, zero, suc, List, [], ◌∷◌, ◌++◌, map, length, reverse, slice_index_or, All, refl, ap, ◌∙◌, subst, sym, arith}
use Rattle.std.proofs.lemmas.List.{append-nil, append_assoc, length-append, reverse-append}
use Rattle.std.proofs.lemmas.List.Elements.{All-head, All-tail}
use Rattle.worker_hall.specs.Shifts.{AreOf, AreServed, IsServed, IsShift, sum_of}

map_push : {X Y : Type 0} (f : X → Y) (xs : List X) (x : X) → map f (xs ++ x ∷ []) ≡ map f xs ++ f x ∷ []
map_push f [] x = refl
map_push f (y ∷ ys) x = ap (λ l. f y ∷ l) (map_push f ys x)

sum_push : (ns : List ℕ) (n : ℕ) → sum_of (ns ++ n ∷ []) ≡ sum_of ns + n
sum_push [] n = omega arith
sum_push (m ∷ ms) n = let rest = sum_push ms n in omega (arith, rest)

-- one more is done
of_push : {K X : Type 0} (comes : K → X → K → Type 0) (ks : List K) (xs : List X) (js rest : List K) (k : K) (x : X) (j : K) → length xs ≡ length js
    → AreOf comes ks xs (js ++ k ∷ rest) → comes k x j → AreOf comes ks (xs ++ x ∷ []) (js ++ j ∷ rest)
of_push comes ks [] [] rest k x j long are came = subst (λ l. AreOf comes l (x ∷ []) (j ∷ rest)) (sym are) (came, refl)
of_push comes ks [] (i ∷ js) rest k x j long are came = absurd (omega (arith, long))
of_push comes ks (y ∷ ys) [] rest k x j long are came = absurd (omega (arith, long))
of_push comes [] (y ∷ ys) (i ∷ js) rest k x j long are came = absurd are
of_push comes (l ∷ ls) (y ∷ ys) (i ∷ js) rest k x j long are came = (are.0, of_push comes ls ys js rest k x j (omega (arith, long)) are.1 came)

-- as many are left as there were
of_long : {K X : Type 0} (comes : K → X → K → Type 0) (ks : List K) (xs : List X) (ks' : List K) → AreOf comes ks xs ks' → length ks' ≡ length ks
of_long comes ks [] ks' are = ap length (sym are)
of_long comes [] (x ∷ xs) ks' are = absurd are
of_long comes (k ∷ ks) (x ∷ xs) [] are = absurd are
of_long comes (k ∷ ks) (x ∷ xs) (k' ∷ ks') are = let rest = of_long comes ks xs ks' are.1 in omega (arith, rest)

-- ---- workers, each of which was lent one

module _ {W K : Type 0} (lent : W → K) where
  back : (ws : List W) (w : W) → reverse (map lent (ws ++ w ∷ [])) ≡ lent w ∷ reverse (map lent ws)
  back ws w = ap reverse (map_push lent ws w) ∙ reverse-append (map lent ws) (lent w ∷ [])

  -- a worker took the last one
  pub hired : (all ks ks' : List K) (k : K) (ws ws' : List W) (w : W) → all ≡ ks ++ reverse (map lent ws) → ks ≡ ks' ++ k ∷ [] → lent w ≡ k
      → ws' ≡ ws ++ w ∷ [] → all ≡ ks' ++ reverse (map lent ws')
  hired all ks ks' k ws ws' w was less is more =
      was ∙ ap (λ l. l ++ reverse (map lent ws)) less ∙ append_assoc ks' (k ∷ []) (reverse (map lent ws))
      ∙ ap (λ x. ks' ++ x ∷ reverse (map lent ws)) (sym is) ∙ ap (λ l. ks' ++ l) (sym (back ws w)) ∙ ap (λ l. ks' ++ reverse (map lent l)) (sym more)

  -- the last worker gave it back
  pub given_back : (all ks ks' : List K) (ws ws' : List W) (w : W) → all ≡ ks ++ reverse (map lent ws) → ws ≡ ws' ++ w ∷ [] → ks' ≡ ks ++ lent w ∷ []
      → all ≡ ks' ++ reverse (map lent ws')
  given_back all ks ks' ws ws' w was less more =
      was ∙ ap (λ l. ks ++ reverse (map lent l)) less ∙ ap (λ l. ks ++ l) (back ws' w) ∙ sym (append_assoc ks (lent w ∷ []) (reverse (map lent ws')))
      ∙ ap (λ l. l ++ reverse (map lent ws')) (sym more)

  -- none is with a worker any more
  pub all_back : (all ks : List K) (ws : List W) → all ≡ ks ++ reverse (map lent ws) → ws ≡ [] → all ≡ ks
  all_back all ks ws was none = was ∙ ap (λ l. ks ++ reverse (map lent l)) none ∙ append-nil ks

  -- the last worker gave back what it was lent, as it had come to be
  pub of_joined : {X : Type 0} (comes : K → X → K → Type 0) (all js js' : List K) (j : K) (ws ws' : List W) (w : W) (xs : List X) (x : X)
      → AreOf comes all xs (js ++ reverse (map lent ws)) → length xs ≡ length js → comes (lent w) x j → ws ≡ ws' ++ w ∷ []
      → js' ≡ js ++ j ∷ [] → AreOf comes all (xs ++ x ∷ []) (js' ++ reverse (map lent ws'))
  of_joined comes all js js' j ws ws' w xs x are long came less back_in =
      let rest = reverse (map lent ws') in
      let had : AreOf comes all xs (js ++ lent w ∷ rest) =
      subst (λ l. AreOf comes all xs (js ++ l)) (ap (λ l. reverse (map lent l)) less ∙ back ws' w) are in
      subst (λ l. AreOf comes all (xs ++ x ∷ []) l) (sym (ap (λ l. l ++ rest) back_in ∙ append_assoc js (j ∷ []) rest))
      (of_push comes all xs js rest (lent w) x j long had came)

  -- workers that kept what they were lent
  pub same_lent : (ws ws' : List W) → length ws' ≡ length ws → ((i : ℕ) (d : W) → i < length ws → lent (slice_index_or ws' i d) ≡ lent (slice_index_or ws i d))
      → map lent ws' ≡ map lent ws
  same_lent [] [] long each = refl
  same_lent [] (w ∷ ws') long each = absurd (omega (arith, long))
  same_lent (w ∷ ws) [] long each = absurd (omega (arith, long))
  same_lent (v ∷ vs) (w ∷ ws) long each =
      ap (λ k. k ∷ map lent ws) (each 0 v (omega arith))
      ∙ ap (λ ks. lent v ∷ ks) (same_lent vs ws (omega (arith, long)) (λ i d less. each (suc i) d (omega (arith, less))))

-- ---- servers

module _ {S I O : Type 0} (are_sides : I → O → Type 0) (served : S → I → O → S → I → O → Type 0) where
  -- one that hasn't served yet
  pub shift_none : (old : S) (n : ℕ) (new : S) → n ≡ 0 → old ≡ new → IsShift are_sides served old n new
  shift_none old n new none same = subst (λ k. IsShift are_sides served old k new) (sym none) same

  -- and one that has served once more
  pub shift_push : (old between new : S) (n m : ℕ) → IsShift are_sides served old n between → IsServed are_sides served between new → m ≡ n + 1
      → IsShift are_sides served old m new
  shift_push old between new n m shift once more =
      let next : m ≡ suc n = omega (arith, more) in
      subst (λ k. IsShift are_sides served old k new) (sym next) (between, shift, once)

  -- all who are hired serve by what they were lent; js have given theirs back, and ws have not
  pub record Joined {W : Type 0} (lent : W → S) (all js : List S) (ws : List W) (count : ℕ) : Type 0 where
    pub counts : List ℕ
    pub sum : sum_of counts ≡ count
    pub long : length counts ≡ length js
    pub each : AreOf (IsShift are_sides served) all counts (js ++ reverse (map lent ws))

  pub joined_none : {W : Type 0} (lent : W → S) (js : List S) (ws : List W) (count : ℕ) → js ≡ [] → count ≡ 0
      → Joined lent (reverse (map lent ws)) js ws count
  joined_none lent js ws count out none = record {
    counts = [];
    sum = sym none;
    long = sym (ap length out);
    each = sym (ap (λ l. l ++ reverse (map lent ws)) out);
  }

  pub joined_push : {W : Type 0} (lent : W → S) (all js js' : List S) (j : S) (ws ws' : List W) (w : W) (count count' n : ℕ)
      → Joined lent all js ws count → IsShift are_sides served (lent w) n j → ws ≡ ws' ++ w ∷ [] → js' ≡ js ++ j ∷ [] → count' ≡ count + n
      → Joined lent all js' ws' count'
  joined_push lent all js js' j ws ws' w count count' n was shift less back_in more = record {
    counts = was.counts ++ n ∷ [];
    sum = sum_push was.counts n ∙ ap (λ k. k + n) was.sum ∙ sym more;
    long = omega (arith, was.long, length-append was.counts (n ∷ []), ap length back_in, length-append js (j ∷ []));
    each = of_joined lent (IsShift are_sides served) all js js' j ws ws' w was.counts n was.each was.long shift less back_in;
  }

  pub joined_all : {W : Type 0} (lent : W → S) (all js : List S) (ws : List W) (count : ℕ) → ws ≡ [] → Joined lent all js ws count
      → AreServed are_sides served all count js
  joined_all lent all js ws count none are = record {
    counts = are.counts;
    sum = are.sum;
    each = subst (λ l. AreOf (IsShift are_sides served) all are.counts l) (ap (λ l. js ++ reverse (map lent l)) none ∙ append-nil js) are.each;
  }

  -- no connection was served
  pub served_none : (old new : List S) (count : ℕ) → old ≡ new → count ≡ 0 → AreServed are_sides served old count new
  served_none old new count same none = record { counts = []; sum = sym none; each = same }

  pub served_long : (old : List S) (count : ℕ) (new : List S) → AreServed are_sides served old count new → length new ≡ length old
  served_long old count new are = of_long (IsShift are_sides served) old are.counts new are.each

-- ---- servers seen as what they have, where each of them keeps something (`Stands`) and does by what it has what is said of it (`once`)

module _ {G K I O : Type 0} (are_sides : I → O → Type 0) (by_server : G → I → O → G → I → O → Type 0) (by_kit : K → I → O → K → I → O → Type 0) (kit : G → K)
    (Stands : G → Type 0)
    (once : (g : G) (i : I) (o : O) (g' : G) (i' : I) (o' : O) → Stands g → by_server g i o g' i' o' → Stands g' × by_kit (kit g) i o (kit g') i' o') where
  shift_as : (g : G) (n : ℕ) (g' : G) → Stands g → IsShift are_sides by_server g n g' → Stands g' × IsShift are_sides by_kit (kit g) n (kit g')
  shift_as g zero g' stands same = (subst Stands same stands, ap kit same)
  shift_as g (suc n) g' stands shift =
      let before = shift_as g n shift.0 stands shift.1 in
      let last = shift.2 in
      let done = once shift.0 last.input last.output g' last.input_after last.output_after before.0 last.is in (
        done.0,
        (
          kit shift.0,
          before.1,
          record {
            input = last.input;
            output = last.output;
            input_after = last.input_after;
            output_after = last.output_after;
            sides = last.sides;
            is = done.1;
          },
        ),
      )

  of_as : (gs : List G) (ns : List ℕ) (gs' : List G) → All Stands gs → AreOf (IsShift are_sides by_server) gs ns gs'
      → AreOf (IsShift are_sides by_kit) (map kit gs) ns (map kit gs')
  of_as gs [] gs' stand are = ap (map kit) are
  of_as [] (n ∷ ns) gs' stand are = absurd are
  of_as (g ∷ gs) (n ∷ ns) [] stand are = absurd are
  of_as (g ∷ gs) (n ∷ ns) (g' ∷ gs') stand are =
      ((shift_as g n g' (All-head Stands g gs stand) are.0).1, of_as gs ns gs' (All-tail Stands g gs stand) are.1)

  pub served_as : (gs : List G) (count : ℕ) (gs' : List G) → All Stands gs → AreServed are_sides by_server gs count gs'
      → AreServed are_sides by_kit (map kit gs) count (map kit gs')
  served_as gs count gs' stand are = record { counts = are.counts; sum = are.sum; each = of_as gs are.counts gs' stand are.each }
