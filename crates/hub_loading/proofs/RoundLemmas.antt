-- One round more, and one draw more.
use Rattle.std.proofs.Common.{◌≡◌, ℕ, zero, suc, ◌+◌, ◌^◌, ◌<◌, ◌≤◌, ◌%◌, arith, Bool, true, false, not, List, [], ◌∷◌, ◌++◌, length, filter, refl, sym, ap, ◌∙◌, subst, length-append}
use Rattle.std.proofs.lemmas.List.Elements.{filter-append}
use Rattle.hub_run.specs.Turns.{View}
use Rattle.load_asks.specs.Numbers.{asked_at, token, draw, number_at, next_number}
use Rattle.hub_loading.specs.Rounds.{Rounds, AskedBy, one_if, counted, counts_of}
use Rattle.hub_loading.specs.Setting.{draws}
use Rattle.hub_loading.specs.declared.rounds.Round.{Round}
use Rattle.hub_loading.specs.declared.rounds.Counts.{Counts}

next_of : (k : ℕ) → suc k ≡ k + 1
next_of k = omega arith

pub rounds_more : (seed n k : ℕ) (target : List ℕ) (x z y : View) (before : List Round) (round : Round) (own : List ℕ) (other : ℕ)
    → Rounds seed n k target x before z → own ≡ token k → other ≡ asked_at seed n k → AskedBy z own other target round y
    → Rounds seed n (k + 1) target x (before ++ round ∷ []) y
rounds_more seed n k target x z y before round own other rounds is about asked =
    let same : AskedBy z (token k) (asked_at seed n k) target round y = subst (λ (o : ℕ). AskedBy z (token k) o target round y) about (subst (λ (t : List ℕ). AskedBy z t other target round y) is asked) in
    subst (λ (m : ℕ). Rounds seed n m target x (before ++ round ∷ []) y) (next_of k) (z, before, round, rounds, same, refl)

one_filtered : (p : Round → Bool) (round : Round) (b : Bool) → p round ≡ b → length (filter p (round ∷ [])) ≡ one_if b
one_filtered p round true is = rw is refl
one_filtered p round false is = rw is refl

filtered_more : (p : Round → Bool) (rounds : List Round) (round : Round) → length (filter p (rounds ++ round ∷ [])) ≡ length (filter p rounds) + one_if (p round)
filtered_more p rounds round =
    ap length (filter-append p rounds (round ∷ [])) ∙ (length-append (filter p rounds) (filter p (round ∷ []))
    ∙ ap (λ (n : ℕ). length (filter p rounds) + n) (one_filtered p round (p round) refl))

pub counts_more : (rounds : List Round) (round : Round) → counted (counts_of rounds) round ≡ counts_of (rounds ++ round ∷ [])
counts_more rounds round = λ i. record {
  ok = sym (filtered_more (λ r. r.found) rounds round) i;
  missing = sym (filtered_more (λ r. not r.found) rounds round) i;
  admitted = sym (filtered_more (λ r. r.admitted) rounds round) i;
  refused = sym (filtered_more (λ r. not r.admitted) rounds round) i;
}

pub sum_more : (b : Bool) (m n k : ℕ) → m + n ≡ k → (m + one_if b) + (n + one_if (not b)) ≡ k + 1
sum_more true m n k is = omega (arith, is)
sum_more false m n k is = omega (arith, is)

pub small_sum : (a b k n : ℕ) → a + b ≡ k → k < n → n ≤ 1000000 → a + b < 2 ^ 32
small_sum a b k n is low most = omega (arith, is, low, most)

pub ok_more : (c d : Counts) (round : Round) (k : ℕ) → d ≡ counted c round → c.ok + c.missing ≡ k → d.ok + d.missing ≡ k + 1
ok_more c d round k is had = ap (λ (e : Counts). e.ok + e.missing) is ∙ sum_more round.found c.ok c.missing k had

pub admitted_more : (c d : Counts) (round : Round) (k : ℕ) → d ≡ counted c round → c.admitted + c.refused ≡ k → d.admitted + d.refused ≡ k + 1
admitted_more c d round k is had = ap (λ (e : Counts). e.admitted + e.refused) is ∙ sum_more round.admitted c.admitted c.refused k had

pub counts_with : (c d : Counts) (rounds : List Round) (round : Round) → d ≡ counted c round → c ≡ counts_of rounds → d ≡ counts_of (rounds ++ round ∷ [])
counts_with c d rounds round is had = is ∙ (ap (λ (e : Counts). counted e round) had ∙ counts_more rounds round)

-- the number before the one of user k
abbrev pub number_before : (seed k : ℕ) → ℕ
number_before seed zero = seed
number_before seed (suc k) = number_at seed k

next_at : (seed k : ℕ) → next_number (number_before seed k) ≡ number_at seed k
next_at seed zero = refl
next_at seed (suc k) = refl

pub number_more : (seed k x : ℕ) → x ≡ number_before seed k → next_number x ≡ number_before seed (k + 1)
number_more seed k x is = ap next_number is ∙ (next_at seed k ∙ ap (number_before seed) (next_of k))

pub asked_of : (seed n k x : ℕ) → x ≡ number_before seed (k + 1) → x % n ≡ asked_at seed n k
asked_of seed n k x is = ap (λ (m : ℕ). m % n) (is ∙ ap (number_before seed) (sym (next_of k)))

pub draws_more : (n : ℕ) → draws n ++ draw (n + 1) ∷ [] ≡ draws (n + 1)
draws_more n = ap (λ (k : ℕ). draws n ++ draw k ∷ []) (sym (next_of n)) ∙ ap draws (next_of n)
