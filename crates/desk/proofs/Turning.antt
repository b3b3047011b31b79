-- Each step keeps the rule.
use Rattle.std.proofs.Common.{◌≡◌, ◌≢◌, inl, inr, ⊎_elim, ℕ, ◌+◌, ◌-◌, ◌*◌, ◌%◌, ◌<◌, ◌≤◌, Bool, true, false, is_some, List, [], ◌∷◌, length, drop, get_or, set, refl, ap, sym, subst, ◌∙◌, arith, length-set, length-append, eqb-true, bit_or, bit_and, Option, Some, None}
use Rattle.std.proofs.lemmas.Bool.{cases_lt}
use Rattle.std.proofs.lemmas.List.{get_or-set_same, set_comm}
use Rattle.std.specs.Int.Bits.{or_add_and}
use Rattle.std.proofs.lemmas.Nat.{and_mask}
use Rattle.std.proofs.Math.Nat.{max-le, max-eq_left, max-eq_right}
use mathlib.Core.Option.{some, none}
use mathlib.Core.List.{IsPrefix}
use lib.ListN.{get_elem?}
use Rattle.atomic_table.specs.Table.{State, Me, Step, step, keeps, takes, gives, Act, stepped, homes_after, carried_after, put_back, rest, Allows, Splits, Joins, opening}
use Rattle.atomic_table.proofs.Lists.{at_set, at_snoc, set_here, set_else}
use Rattle.desk.specs.declared.turn.SeatView.{SeatView}
use Rattle.desk.specs.declared.turn.Stage.{Stage}
use Rattle.desk.specs.declared.turn.Stage.TheVariants.{Idle, Held, Met, Spent}
use Rattle.desk.specs.OwnEntries.{placed, added, StandIn, RisesFrom, Apart, Agree}
use Rattle.desk.specs.Seats.{spent, one_more, one_less, only, IsOrdered, shared, split_off, met, settled_as, after}
use Rattle.desk.specs.Turns.{word_of, MetOwns, MetSaw, seat_there, OneIs, Saw, Keeps, first, Stands, IsAt, Knows, Turned}
use Rattle.desk.specs.Plays.{settled, Finds, taken, given}
use Rattle.desk.proofs.Prefixes.{prefix_self, prefix_trans, prefix_whole, prefix_length, prefix_drop, at_one, agrees, longer_one}
use Rattle.desk.proofs.There.{there_one, there_set, there_snoc, one_is_it, one_here, one_changed, one_joined, one_more_there, each_set, apart_set}
use Rattle.desk.proofs.OwnEntries.{stand_prefix, stand_append, stand_placed, owns_below, owns_append, owns_left, owns_right, owns_each, owns_placed, owns_merged, owns_both, all_placed, stand_merged, rises_append, rises_placed, rises_merged}

-- the bit of a held turn: an odd word stays, and an even one goes up by 1
or_one : (n : ℕ) → bit_or n 1 + n % 2 ≡ n + 1
or_one n = let a = or_add_and n 1 in let b : bit_and n 1 ≡ n % 2 = and_mask n 1 in ap (λ (z : ℕ). bit_or n 1 + z) (sym b) ∙ a

or_even : (n k : ℕ) → n ≡ 2 * k → bit_or n 1 ≡ 2 * k + 1
or_even n k e = let a = or_one n in omega arith

or_odd : (n k : ℕ) → n ≡ 2 * k + 1 → bit_or n 1 ≡ 2 * k + 1
or_odd n k e = let a = or_one n in omega arith

-- a seat that is the only one counts none
only_is : (x : Option ℕ) → only x ≡ true → x ≡ Some 0
only_is None e = absurd (cc e)
only_is (Some n) e = ap (λ (k : ℕ). Some k) (eqb-true n 0 e)

one_less_is : (x : Option ℕ) (n : ℕ) → one_less x ≡ Some n → (m : ℕ) × (x ≡ Some m) × (m ≤ n + 1)
one_less_is None n e = absurd (cc e)
one_less_is (Some m) n e = let less : m - 1 ≡ n = cc e in (m, refl, omega arith)

some_is : (x : Option ℕ) → is_some x ≡ true → (m : ℕ) × (x ≡ Some m)
some_is None e = absurd (cc e)
some_is (Some m) e = (m, refl)

one_more_is : (x : Option ℕ) (n : ℕ) → one_more x ≡ Some n → (m : ℕ) × (x ≡ Some m) × (n ≡ m + 1)
one_more_is None n e = absurd (cc e)
one_more_is (Some m) n e = (m, refl, cc e)

module _ {B E A : Type 0} where
  not_spent : (d : SeatView B E A) → d.stage ≡ Idle → d.stage ≢ Spent
  not_spent d e f = cc (e, f)

module _ {B E A : Type 0} (entries : B → List E) (base : B → A) (faults : B → ℕ) where
  abbrev View : Type 0
  View = SeatView B E A

  abbrev TableState : Type 0
  TableState = State (Option B) View

  abbrev SeatState : Type 0
  SeatState = Me (Option B) View

  abbrev Rule : TableState → Type 0
  Rule = Turned entries base faults

  abbrev KnowsAt : A → List E → ℕ → Bool → ℕ → ℕ → View → Type 0
  KnowsAt = Knows entries base faults

  -- the pairs of a pass that was met stand in the history
  met_below : (a : A) (h : List E) (c : ℕ) (held : Bool) (holder seat : ℕ) (a' : Option A) (ps : List (ℕ × E)) (st : Stage B E) (n : ℕ) → IsAt entries base faults a h c held holder seat a' ps st → MetOwns n st → n < length h
  met_below a h c held holder seat a' ps Idle n k o = absurd o
  met_below a h c held holder seat a' ps (Held b) n k o = absurd o
  met_below a h c held holder seat a' ps (Met ys qs) n k o = owns_below h qs n (stand_prefix ys h qs k.1 k.2) o
  met_below a h c held holder seat a' ps Spent n k o = absurd o

  -- what a seat keeps is in the history
  keeps_below : (a : A) (h : List E) (c : ℕ) (held : Bool) (holder seat : ℕ) (d : View) (n : ℕ) → KnowsAt a h c held holder seat d → Keeps n d → n < length h
  keeps_below a h c held holder seat d n k o = ⊎_elim (λ p. owns_below h d.mine n (stand_prefix d.seen h d.mine k.begins k.stand) p) (λ q. met_below a h c held holder seat d.base d.mine d.stage n k.at q) o

  -- what a stage says goes on, as the history grows
  at_later : (a : A) (h h' : List E) (c c' : ℕ) (held held' : Bool) (holder holder' seat : ℕ) (a' : Option A) (ps : List (ℕ × E)) (st : Stage B E) → IsPrefix h h'
      → ((b : B) → st ≡ Held b → IsAt entries base faults a h c held holder seat a' ps st → IsAt entries base faults a h' c' held' holder' seat a' ps st)
      → IsAt entries base faults a h c held holder seat a' ps st → IsAt entries base faults a h' c' held' holder' seat a' ps st
  at_later a h h' c c' held held' holder holder' seat a' ps Idle p f k = k
  at_later a h h' c c' held held' holder holder' seat a' ps (Held b) p f k = f b refl k
  at_later a h h' c c' held held' holder holder' seat a' ps (Met ys qs) p f k = (k.0, prefix_trans ys h h' k.1 p, k.2, k.3, k.4)
  at_later a h h' c c' held held' holder holder' seat a' ps Spent p f k = k

  -- a seat with no turn knows what it knew, as the history grows
  knows_later : (a : A) (h h' : List E) (c c' : ℕ) (held held' : Bool) (holder holder' seat : ℕ) (d : View) → IsPrefix h h' → c ≤ c'
      → ((b : B) → d.stage ≡ Held b → IsAt entries base faults a h c held holder seat d.base d.mine d.stage → IsAt entries base faults a h' c' held' holder' seat d.base d.mine d.stage)
      → KnowsAt a h c held holder seat d → KnowsAt a h' c' held' holder' seat d
  knows_later a h h' c c' held held' holder holder' seat d p le f k = record {
    begins = prefix_trans d.seen h h' k.begins p;
    stand = k.stand;
    rises = k.rises;
    counted = omega (arith, k.counted, le);
    at = at_later a h h' c c' held held' holder holder' seat d.base d.mine d.stage p f k.at;
  }

  -- one seat's view goes from d to w, and the history and the turn change with it
  changed : (s : TableState) (r : Rule s) (id : ℕ) (d w : View) (words : List ℕ) (homes : List (mathlib.Core.Option.Option (Option B))) (h : List E) (c : ℕ) (held : Bool) (holder : ℕ)
      → get_elem? s.views id ≡ some d → d.stage ≢ Spent
      → length words ≡ 1 → length homes ≡ 1 → get_or words 0 0 ≡ word_of held h
      → (held ≡ false → (b : B) × (get_elem? homes 0 ≡ some (some (Some b))) × Stands entries base faults r.base_is h c b)
      → KnowsAt r.base_is h c held holder id w
      → ((j : ℕ) (e : View) → get_elem? s.views j ≡ some e → j ≢ id → KnowsAt r.base_is h c held holder j e)
      → ((j : ℕ) (e : View) → get_elem? s.views j ≡ some e → j ≢ id → (n : ℕ) → Keeps n w → Keeps n e → ⊥)
      → w.stage ≢ Spent → w.others ≡ d.others
      → OneIs (set s.views id w) (Saw h) → OneIs (set s.views id w) (λ e. e.faults ≡ c) → ((n : ℕ) → n < length h → OneIs (set s.views id w) (Keeps n))
      → Rule record { words = words; homes = homes; views = set s.views id w }
  changed s r id d w words homes h c held holder at live wide deep word home own others apart live_w crowd known told kept = record {
    base_is = r.base_is;
    history = h;
    count = c;
    held = held;
    holder = holder;
    wide = wide;
    deep = deep;
    word = word;
    home = home;
    each = each_set (λ j e. KnowsAt r.base_is h c held holder j e) s.views id w own others;
    apart = apart_set s.views id w r.apart apart;
    counts = λ j e n p q. let same = there_set s.views id d w at in let one : seat_there d.stage ≡ 1 = there_one d.stage live in let one_w : seat_there w.stage ≡ 1 = there_one w.stage live_w in
        ⊎_elim (λ t. let m = r.counts id d n at (sym crowd ∙ (ap (λ (z : View). z.others) t.1 ∙ q)) in (t.0 ∙ m.0, omega (arith, m.1, same)))
        (λ t. let m = r.counts j e n t.1 q in (m.0, omega (arith, m.1, same))) (at_set s.views id j w e p);
    known = known;
    told = told;
    kept = kept;
  }

  -- the same where the words and the history stay
  moved : (s : TableState) (r : Rule s) (id : ℕ) (d w : View) (n : ℕ) → get_elem? s.views id ≡ some d → d.stage ≢ Spent → n ≡ get_or s.words 0 0
      → KnowsAt r.base_is r.history r.count r.held r.holder id w
      → ((j : ℕ) (e : View) → get_elem? s.views j ≡ some e → j ≢ id → (n : ℕ) → Keeps n w → Keeps n e → ⊥)
      → w.stage ≢ Spent → w.others ≡ d.others → w.faults ≡ d.faults → (Saw r.history d → Saw r.history w) → ((n : ℕ) → Keeps n d → Keeps n w)
      → Rule record { words = set s.words 0 n; homes = s.homes; views = set s.views id w }
  moved s r id d w n at live same own apart live_w crowd count saw still = let wide = r.wide in
      changed s r id d w (set s.words 0 n) s.homes r.history r.count r.held r.holder at live (length-set s.words 0 n ∙ wide) r.deep (get_or-set_same s.words 0 n 0 (omega arith) ∙ (same ∙ r.word)) r.home own
      (λ j e p _. r.each j e p) apart live_w crowd
      (one_changed s.views id d w (Saw r.history) at live_w saw r.known) (one_changed s.views id d w (λ e. e.faults ≡ r.count) at live_w (λ e. count ∙ e) r.told)
      (λ k lt. one_changed s.views id d w (Keeps k) at live_w (still k) (r.kept k lt))

  -- the opening
  pub opens : (b : B) (n : ℕ) → n ≡ 2 * length (entries b) → Rule (opening (n ∷ []) (Some b ∷ []) (first entries base faults b))
  opens b n e = let d : View = first entries base faults b in record {
    base_is = base b;
    history = entries b;
    count = faults b;
    held = false;
    holder = 0;
    wide = refl;
    deep = refl;
    word = omega arith;
    home = λ _. (b, refl, (refl, refl, refl));
    each = λ j x p. let t = at_one d j x p in subst (λ (z : View). KnowsAt (base b) (entries b) (faults b) false 0 j z) t.1
        record { begins = prefix_self (entries b); stand = stand_placed [] (entries b) 0 refl; rises = rises_placed 0 (entries b); counted = omega arith; at = refl };
    apart = λ i j x y p q ne. absurd (ne ((at_one d i x p).0 ∙ sym (at_one d j y q).0));
    counts = λ j x n p q. ((at_one d j x p).0, omega arith);
    known = (0, d, refl, (λ e. absurd (cc e)), inl refl);
    told = (0, d, refl, (λ e. absurd (cc e)), refl);
    kept = λ k lt. (0, d, refl, (λ e. absurd (cc e)), inl (owns_each 0 (entries b) k (omega arith) (omega arith)));
  }

  -- the only seat that is there has seen the whole history, knows the count, and owns each entry
  lone : (s : TableState) (r : Rule s) (id : ℕ) (d : View) → get_elem? s.views id ≡ some d → d.stage ≡ Idle → only d.others ≡ true → (d.seen ≡ r.history) × (d.faults ≡ r.count) × (d.mine ≡ placed 0 r.history)
  lone s r id d at idle alone = let k = r.each id d at in let few = (r.counts id d 0 at (only_is d.others alone)).1 in let live = not_spent d idle in (
    ⊎_elim (λ e. e) (λ m. absurd (subst (λ (z : Stage B E). MetSaw r.history z) idle m)) (one_is_it s.views id d (Saw r.history) at live few r.known),
    one_is_it s.views id d (λ e. e.faults ≡ r.count) at live few r.told,
    all_placed r.history d.mine (stand_prefix d.seen r.history d.mine k.begins k.stand) k.rises
        (λ n lt. ⊎_elim (λ o. o) (λ m. absurd (subst (λ (z : Stage B E). MetOwns n z) idle m)) (one_is_it s.views id d (Keeps n) at live few (r.kept n lt))),
  )

  -- an idle seat meets the book that is at home
  finds : (s : TableState) (r : Rule s) (id : ℕ) (d : View) (b : B) → get_elem? s.views id ≡ some d → d.stage ≡ Idle → Stands entries base faults r.base_is r.history r.count b → Finds entries base faults d b
  finds s r id d b at idle stands = let k = r.each id d at in let is = subst (IsAt entries base faults r.base_is r.history r.count r.held r.holder id d.base d.mine) idle k.at in (
    subst (λ (l : List E). IsPrefix d.seen l) (sym stands.0) k.begins,
    (is ∙ ap (λ (z : A). Some z) (sym stands.1)),
    subst (λ (n : ℕ). d.faults ≤ n) (sym stands.2) k.counted,
    (λ alone. stands.0 ∙ sym (lone s r id d at idle alone).0),
    (λ alone. stands.2 ∙ sym (lone s r id d at idle alone).1),
    (λ alone. (lone s r id d at idle alone).2 ∙ ap (λ (l : List E). placed 0 l) (sym (lone s r id d at idle alone).0)),
  )

  -- the two outcomes of one step: the turn was held, or is taken
  take_at : (s : TableState) (r : Rule s) (slots id : ℕ) (me : SeatState) → me.0.stage ≡ Idle → get_elem? s.views id ≡ some me.0 → (held : Bool) → r.held ≡ held
      → (w : View) × (a : Act (Option B)) × Rattle.atomic_table.specs.Table.Valid s.homes me.1 a × Rule (stepped s 0 (bit_or (get_or s.words 0 0) 1) id me.1 w a)
      × taken entries base faults (step slots 0 1 0 none) me (get_or s.words 0 0) (w, carried_after me.1 a)
  take_at s r slots id me idle at true held = let n : ℕ = get_or s.words 0 0 in let word : n ≡ 2 * length r.history + 1 = r.word ∙ ap (λ (z : Bool). word_of z r.history) held in (
    me.0,
    keeps,
    tt,
    moved s r id me.0 me.0 (bit_or n 1) at (not_spent me.0 idle) (or_odd n (length r.history) word ∙ sym word) (r.each id me.0 at)
        (λ j e p ne k x y. r.apart j id e me.0 p at ne k y x) (not_spent me.0 idle) refl refl (λ x. x) (λ _ x. x),
    (λ _. refl, λ even. absurd (omega arith)),
  )
  take_at s r slots id me idle at false held = let n : ℕ = get_or s.words 0 0 in let word : n ≡ 2 * length r.history + 0 = r.word ∙ ap (λ (z : Bool). word_of z r.history) held in
      let home = r.home held in let b : B = home.0 in let w : View = record me.0 { stage = Held b } in let k = r.each id me.0 at in let wide = r.wide in
      let is = subst (IsAt entries base faults r.base_is r.history r.count r.held r.holder id me.0.base me.0.mine) idle k.at in (
        w,
        takes 0 (Some b),
        home.1,
        changed s r id me.0 w (set s.words 0 (bit_or n 1)) (set s.homes 0 none) r.history r.count true id at (not_spent me.0 idle) (length-set s.words 0 (bit_or n 1) ∙ wide) (length-set s.homes 0 none ∙ r.deep)
            (get_or-set_same s.words 0 (bit_or n 1) 0 (omega arith) ∙ or_even n (length r.history) (omega arith)) (λ no. absurd (cc no))
            record { begins = k.begins; stand = k.stand; rises = k.rises; counted = k.counted; at = (is, refl, refl, home.2) }
            (λ j e p ne. knows_later r.base_is r.history r.history r.count r.count r.held true r.holder id j e (prefix_self r.history) (omega arith) (λ x f q. let z = subst (IsAt entries base faults r.base_is r.history r.count r.held r.holder j e.base e.mine) f q in absurd (cc (z.1, held))) (r.each j e p))
            (λ j e p ne m x y. r.apart j id e me.0 p at ne m y (⊎_elim (λ u. inl u) (λ u. absurd u) x))
            (λ e. absurd (cc e)) refl
            (one_changed s.views id me.0 w (Saw r.history) at (λ e. absurd (cc e)) (⊎_elim (λ u. inl u) (λ u. absurd (subst (λ (z : Stage B E). MetSaw r.history z) idle u))) r.known)
            (one_changed s.views id me.0 w (λ e. e.faults ≡ r.count) at (λ e. absurd (cc e)) (λ e. e) r.told)
            (λ m lt. one_changed s.views id me.0 w (Keeps m) at (λ e. absurd (cc e)) (⊎_elim (λ u. inl u) (λ u. absurd (subst (λ (z : Stage B E). MetOwns m z) idle u))) (r.kept m lt)),
        ((λ odd. absurd (omega arith)), λ _. (b, refl, finds s r id me.0 b at idle home.2)),
      )

  -- taking the turn, or failing to
  pub turns : (slots id : ℕ) (me : SeatState) → me.0.stage ≡ Idle → Allows Rule slots id me 0 (λ n. bit_or n 1) (taken entries base faults (step slots 0 1 0 none) me)
  turns slots id me idle s r _ at _ = take_at s r slots id me idle at r.held refl

  -- the book of a stage, and of a row of slots
  abbrev held_or : B → Stage B E → B
  held_or b (Held x) = x
  held_or b _ = b

  abbrev some_or : B → Option B → B
  some_or b (Some x) = x
  some_or b None = b

  abbrev slot_or : B → List (ℕ × Option B) → B
  slot_or b [] = b
  slot_or b (x ∷ xs) = some_or b x.1

  -- own entries stand in order after a visit too
  ordered_after : (h : List E) (b b' : B) (d : View) → IsPrefix (entries b) (entries b') → IsPrefix d.seen (entries b) → StandIn d.seen d.mine → RisesFrom 0 d.mine → IsOrdered (after entries faults b b' d)
  ordered_after h b b' d more begins stand rises = let xs : List E = entries b in let ys : List E = entries b' in let n : ℕ = length xs in
      let here : StandIn xs d.mine = stand_prefix d.seen xs d.mine begins stand in (
        stand_append ys d.mine (placed n (drop n ys)) (stand_prefix xs ys d.mine more here)
            (subst (λ (l : List E). StandIn l (placed n (drop n ys))) (prefix_drop xs ys more) (stand_placed xs (drop n ys) n refl)),
        rises_append 0 n d.mine (placed n (drop n ys)) (omega arith) rises (λ k o. owns_below xs d.mine k here o) (rises_placed n (drop n ys)),
      )

  -- giving back the book and the turn
  pub hands_back : (slots id : ℕ) (me : SeatState) (b b' : B) (n : ℕ) → me.0.stage ≡ Held b → me.1 ≡ (0, Some b') ∷ [] → n ≡ 2 * length (entries b') → IsPrefix (entries b) (entries b') → base b' ≡ base b → faults b ≤ faults b'
      → Allows Rule slots id me 0 (λ _. n) (λ _. given entries faults (step slots 0 n 0 none) me n)
  hands_back slots id me b b' n is slot word more same rose s r _ at _ = let d : View = me.0 in let k = r.each id d at in let wide = r.wide in let deep = r.deep in
      let known = subst (IsAt entries base faults r.base_is r.history r.count r.held r.holder id d.base d.mine) is k.at in
      let stands = known.3 in let w : View = after entries faults b b' d in
      let grown : IsPrefix r.history (entries b') = subst (λ (l : List E). IsPrefix l (entries b')) stands.0 more in
      let begins : IsPrefix d.seen (entries b) = subst (λ (l : List E). IsPrefix d.seen l) (sym stands.0) k.begins in
      let order = ordered_after r.history b b' d more begins k.stand k.rises in
      let homes = set s.homes 0 (some (Some b')) in
      let live : d.stage ≢ Spent = λ e. absurd (cc (is, e)) in let live_w : w.stage ≢ Spent = λ e. absurd (cc e) in
      let long : length (entries b) ≡ length r.history = ap length stands.0 in
      let whole : length (entries b) + length (drop (length (entries b)) (entries b')) ≡ length (entries b') = sym (length-append (entries b) (drop (length (entries b)) (entries b'))) ∙ ap length (prefix_drop (entries b) (entries b') more) in
      let all : Rule record { words = set s.words 0 n; homes = homes; views = set s.views id w } =
      changed s r id d w (set s.words 0 n) homes (entries b') (faults b') false id at live (length-set s.words 0 n ∙ wide) (length-set s.homes 0 (some (Some b')) ∙ deep)
      (get_or-set_same s.words 0 n 0 (omega arith) ∙ (omega arith))
      (λ _. (b', set_here s.homes 0 (some (Some b')) (omega arith), (refl, same ∙ stands.1, refl)))
      record { begins = prefix_self (entries b'); stand = order.0; rises = order.1; counted = omega arith; at = known.0 }
      (λ j e p ne. knows_later r.base_is r.history (entries b') r.count (faults b') r.held false r.holder id j e grown (subst (λ (c : ℕ). c ≤ faults b') stands.2 rose) (λ x f q. let z = subst (IsAt entries base faults r.base_is r.history r.count r.held r.holder j e.base e.mine) f q in absurd (ne (z.2 ∙ sym known.2))) (r.each j e p))
      (λ j e p ne m x y. ⊎_elim
      (λ u. ⊎_elim (λ v. r.apart j id e d p at ne m y (inl v))
      (λ v. let far = owns_placed (length (entries b)) (drop (length (entries b)) (entries b')) m v in let near = keeps_below r.base_is r.history r.count r.held r.holder j e m (r.each j e p) y in absurd (omega arith))
      (owns_append d.mine (added (entries b) (entries b')) m u))
      (λ u. absurd u) x)
      live_w refl (one_here s.views id d w (Saw (entries b')) at live_w (inl refl)) (one_here s.views id d w (λ e. e.faults ≡ faults b') at live_w refl)
      (λ m lt. ⊎_elim
      (λ old. one_changed s.views id d w (Keeps m) at live_w (⊎_elim (λ u. inl (owns_left d.mine (added (entries b) (entries b')) m u)) (λ u. absurd (subst (λ (z : Stage B E). MetOwns m z) is u))) (r.kept m (omega arith)))
      (λ new. one_here s.views id d w (Keeps m) at live_w (inl (owns_right d.mine (added (entries b) (entries b')) m (owns_each (length (entries b)) (drop (length (entries b)) (entries b')) m new (omega arith)))))
      (cases_lt m (length (entries b)))) in (
        w,
        gives,
        tt,
        subst (λ (c : List (ℕ × Option B)). Rule record { words = set s.words 0 n; homes = put_back s.homes c; views = set s.views id w }) (sym slot) all,
        λ x x' is' slot'. (
          (λ i. (after entries faults (ap (held_or b) (sym is ∙ is') i) (ap (slot_or b') (sym slot ∙ slot') i) d, ap rest slot i)),
          order,
        ),
      )

  -- a new seat
  pub splits : (id : ℕ) (d : View) → d.stage ≡ Idle → is_some d.others ≡ true → Splits Rule id d (shared d) (split_off d)
  splits id d idle counting s r at = let w : View = shared d in let new : View = split_off d in let k = r.each id d at in let live = not_spent d idle in
      let is = subst (IsAt entries base faults r.base_is r.history r.count r.held r.holder id d.base d.mine) idle k.at in
      let views = set s.views id w in
      let same = there_set s.views id d w at in let more = there_snoc views new in let first = some_is d.others counting in
      let each = each_set (λ j e. KnowsAt r.base_is r.history r.count r.held r.holder j e) s.views id w record { begins = k.begins; stand = k.stand; rises = k.rises; counted = k.counted; at = k.at } (λ j e p _. r.each j e p) in
      let apart = apart_set s.views id w r.apart (λ j e p ne n a b. r.apart j id e d p at ne n b a) in record {
        base_is = r.base_is;
        history = r.history;
        count = r.count;
        held = r.held;
        holder = r.holder;
        wide = r.wide;
        deep = r.deep;
        word = r.word;
        home = r.home;
        each = λ j e p. ⊎_elim (λ q. each j e q) (λ q. subst (λ (z : View). KnowsAt r.base_is r.history r.count r.held r.holder j z) q record { begins = k.begins; stand = tt; rises = tt; counted = k.counted; at = is }) (at_snoc views new e j p);
        apart = λ i j e f p q ne n a b. ⊎_elim
            (λ u. ⊎_elim (λ v. apart i j e f u v ne n a b) (λ v. none_kept n (subst (λ (z : View). Keeps n z) (sym v) b)) (at_snoc views new f j q))
            (λ u. none_kept n (subst (λ (z : View). Keeps n z) (sym u) a)) (at_snoc views new e i p);
        counts = λ j e n p q. ⊎_elim
            (λ u. ⊎_elim
            (λ t. let m = one_more_is d.others n (ap (λ (z : View). z.others) t.1 ∙ q) in let c = r.counts id d m.0 at m.1 in (t.0 ∙ c.0, omega (arith, c.1, m.2, same, more)))
            (λ t. absurd (t.0 ((r.counts j e n t.1 q).0 ∙ sym (r.counts id d first.0 at first.1).0)))
            (at_set s.views id j w e u))
            (λ u. absurd (cc (ap (λ (z : View). z.others) u ∙ q))) (at_snoc views new e j p);
        known = one_more_there views new (Saw r.history) (one_changed s.views id d w (Saw r.history) at live (λ x. x) r.known);
        told = one_more_there views new (λ e. e.faults ≡ r.count) (one_changed s.views id d w (λ e. e.faults ≡ r.count) at live (λ x. x) r.told);
        kept = λ n lt. one_more_there views new (Keeps n) (one_changed s.views id d w (Keeps n) at live (λ x. x) (r.kept n lt));
      }
    where
      none_kept : (n : ℕ) → Keeps n (split_off d) → ⊥
      none_kept n k = ⊎_elim (λ x. x) (λ x. x) k

  -- a seat meets another
  pub joins : (id : ℕ) (d : View) (other : ℕ) (e : View) → d.stage ≡ Idle → e.stage ≡ Idle → Joins Rule id d other e (met d e) spent
  joins id d other e idle idle_e s r at apart there_after = let w : View = met d e in
      let at_e : get_elem? s.views other ≡ some e = sym (set_else s.views id other w apart) ∙ there_after in
      let k = r.each id d at in let l = r.each other e at_e in
      let is = subst (IsAt entries base faults r.base_is r.history r.count r.held r.holder id d.base d.mine) idle k.at in
      let gone = set s.views other spent in
      let at_d : get_elem? gone id ≡ some d = set_else s.views other id spent (λ i. apart (sym i)) ∙ at in
      let fewer = there_set s.views other e spent at_e in let same = there_set gone id d w at_d in
      let one_e : seat_there e.stage ≡ 1 = there_one e.stage (not_spent e idle_e) in let one_d : seat_there d.stage ≡ 1 = there_one d.stage (not_spent d idle) in
      let live_w : w.stage ≢ Spent = λ q. absurd (cc q) in
      let all : Rule record { words = s.words; homes = s.homes; views = set gone id w } = record {
        base_is = r.base_is;
        history = r.history;
        count = r.count;
        held = r.held;
        holder = r.holder;
        wide = r.wide;
        deep = r.deep;
        word = r.word;
        home = r.home;
        each = each_set (λ j f. KnowsAt r.base_is r.history r.count r.held r.holder j f) gone id w
            record { begins = k.begins; stand = k.stand; rises = k.rises; counted = max-le k.counted l.counted; at = (is, l.begins, l.stand, l.rises, λ n x y. r.apart id other d e at at_e (λ i. apart (sym i)) n (inl x) (inl y)) }
            (λ j f p _. each_set (λ i g. KnowsAt r.base_is r.history r.count r.held r.holder i g) s.views other spent record { begins = (r.history, refl); stand = tt; rises = tt; counted = omega arith; at = tt } (λ i g q _. r.each i g q) j f p);
        apart = apart_set gone id w (apart_set s.views other spent r.apart (λ j f p ne n x y. ⊎_elim (λ z. z) (λ z. z) x))
            (λ j f p ne n x y. ⊎_elim (λ t. ⊎_elim (λ z. z) (λ z. z) (subst (λ (z : View). Keeps n z) (sym t.1) y))
            (λ t. ⊎_elim (λ u. r.apart id j d f at t.1 (λ i. ne (sym i)) n (inl u) y) (λ u. r.apart other j e f at_e t.1 (λ i. t.0 (sym i)) n (inl u) y) x)
            (at_set s.views other j spent f p));
        counts = λ j f n p q. ⊎_elim
            (λ t. let m = one_less_is d.others n (ap (λ (z : View). z.others) t.1 ∙ q) in let c = r.counts id d m.0 at m.1 in (t.0 ∙ c.0, omega (arith, c.1, m.2, fewer, same)))
            (λ t. ⊎_elim (λ u. absurd (cc (ap (λ (z : View). z.others) u.1 ∙ q))) (λ u. let c = r.counts j f n u.1 q in (c.0, omega (arith, c.1, fewer, same))) (at_set s.views other j spent f t.1))
            (at_set gone id j w f p);
        known = one_joined s.views id other d e w (Saw r.history) apart at at_e live_w (⊎_elim (λ u. inl u) (λ u. absurd (subst (λ (z : Stage B E). MetSaw r.history z) idle u)))
            (⊎_elim (λ u. inr u) (λ u. absurd (subst (λ (z : Stage B E). MetSaw r.history z) idle_e u))) r.known;
        told = one_joined s.views id other d e w (λ f. f.faults ≡ r.count) apart at at_e live_w (λ u. max-eq_left (subst (λ (c : ℕ). e.faults ≤ c) (sym u) l.counted) ∙ u)
            (λ u. max-eq_right (subst (λ (c : ℕ). d.faults ≤ c) (sym u) k.counted) ∙ u) r.told;
        kept = λ n lt. one_joined s.views id other d e w (Keeps n) apart at at_e live_w (⊎_elim (λ u. inl u) (λ u. absurd (subst (λ (z : Stage B E). MetOwns n z) idle u)))
            (⊎_elim (λ u. inr u) (λ u. absurd (subst (λ (z : Stage B E). MetOwns n z) idle_e u))) (r.kept n lt);
      } in
      subst (λ (v : List View). Rule record { words = s.words; homes = s.homes; views = v }) (set_comm s.views other id spent w apart) all

  -- what the pass that was met had seen, and had made
  abbrev seen_or : List E → Stage B E → List E
  seen_or l (Met ys qs) = ys
  seen_or l _ = l

  abbrev made_or : List (ℕ × E) → Stage B E → List (ℕ × E)
  made_or l (Met ys qs) = qs
  made_or l _ = l

  -- a seat takes in the one that it met
  pub settles : (slots id : ℕ) (me : SeatState) (ys : List E) (qs : List (ℕ × E)) → me.0.stage ≡ Met ys qs → Allows Rule slots id me 0 (λ n. n) (settled (step slots 0 0 0 none) me)
  settles slots id me ys qs is s r _ at _ = let d : View = me.0 in let k = r.each id d at in
      let known = subst (IsAt entries base faults r.base_is r.history r.count r.held r.holder id d.base d.mine) is k.at in
      let w : View = settled_as ys qs d in let one = longer_one d.seen ys r.history k.begins known.1 in
      let order : IsOrdered w = (stand_merged w.seen d.mine qs (stand_prefix d.seen w.seen d.mine one.0 k.stand) (stand_prefix ys w.seen qs one.1 known.2), rises_merged 0 d.mine qs k.rises known.3 known.4) in (
        w,
        keeps,
        tt,
        moved s r id d w (get_or s.words 0 0) at (λ e. absurd (cc (is, e))) refl record { begins = one.2; stand = order.0; rises = order.1; counted = k.counted; at = known.0 }
            (λ j e p ne n x y. r.apart j id e d p at ne n y (⊎_elim (λ u. ⊎_elim (λ v. inl v) (λ v. inr (subst (λ (z : Stage B E). MetOwns n z) (sym is) v)) (owns_merged d.mine qs n u)) (λ u. absurd u) x))
            (λ e. absurd (cc e)) refl refl
            (λ x. inl (prefix_whole w.seen r.history one.2 (⊎_elim
            (λ e. let le = prefix_length d.seen w.seen one.0 in let same : length d.seen ≡ length r.history = ap length e in omega arith)
            (λ m. let e : ys ≡ r.history = subst (λ (z : Stage B E). MetSaw r.history z) is m in let le = prefix_length ys w.seen one.1 in let same : length ys ≡ length r.history = ap length e in omega arith) x)))
            (λ n x. inl (owns_both d.mine qs n (⊎_elim (λ u. inl u) (λ u. inr (subst (λ (z : Stage B E). MetOwns n z) is u)) x))),
        λ ys' qs' is'. (
          (λ i. (settled_as (ap (seen_or ys) (sym is ∙ is') i) (ap (made_or qs) (sym is ∙ is') i) d, me.1)),
          subst (λ (z : List E). Agree d.seen z) (ap (seen_or ys) (sym is ∙ is')) (agrees d.seen ys r.history k.begins known.1),
          subst (λ (z : List (ℕ × E)). Apart d.mine z) (ap (made_or qs) (sym is ∙ is')) known.4,
          order,
        ),
      )
