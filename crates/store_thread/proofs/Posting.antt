-- Each step at an end keeps the rule of the mailbox.
use Rattle.std.proofs.Common.{◌≡◌, ◌≢◌, ℕ, zero, suc, Bool, true, false, true≢false, List, [], ◌∷◌, ◌++◌, length, set, sym, refl, ap, ◌∙◌, subst, ⊎_elim, Option, Some, None, arith}
use mathlib.Core.Option.{some, some-ne-none}
use lib.ListN.{get_elem?}
use Rattle.crossbeam_queue.specs.Fifo.{Pushes, Pops, Forks}
use Rattle.crossbeam_queue.proofs.Lists.{at_set, at_snoc}
use Rattle.keeper.specs.Rows.{Rows, AreSame}
use Rattle.store_thread.specs.declared.calls.Answer.{Answer}
use Rattle.store_thread.specs.declared.calls.Call.{Call}
use Rattle.store_thread.specs.declared.mailbox.Parcel.{Parcel}
use Rattle.store_thread.specs.declared.mailbox.Parcel.TheVariants.{Question, Reply}
use Rattle.store_thread.specs.declared.mailbox.Talk.{Talk}
use Rattle.store_thread.specs.declared.mailbox.View.{View}
use Rattle.store_thread.specs.Mailbox.{no_talk, first_view, exchange, with_call, with_answer, without_call, Between, Fits, Mailed, Put, Gave, Took, Heard}
use Rattle.store_thread.specs.Told.{Known, Unread, Told, Untold, known_of, IsFaithful, told_while, told_in}

at_end : (l : List View) (a b : View) (j : ℕ) → get_elem? l j ≢ some b → get_elem? (l ++ a ∷ []) j ≡ some b → j ≡ length l
at_end [] a b zero n e = refl
at_end [] a b (suc j) n e = absurd (some-ne-none b (sym e))
at_end (x ∷ xs) a b zero n e = absurd (n e)
at_end (x ∷ xs) a b (suc j) n e = ap suc (at_end xs a b j n e)

abbrev Each : (ℕ → View → Type 0) → List View → Type 0
Each F views = (seat : ℕ) (v : View) → get_elem? views seat ≡ some v → F seat v

each_set : (F : ℕ → View → Type 0) (views : List View) (seat : ℕ) (w : View) → F seat w → ((j : ℕ) (u : View) → j ≢ seat → get_elem? views j ≡ some u → F j u) → Each F (set views seat w)
each_set F views seat w mine others j u e = ⊎_elim (λ (x : (j ≡ seat) × (w ≡ u)). subst (λ (y : ℕ × View). F y.0 y.1) (λ i. (sym x.0 i, x.1 i)) mine)
    (λ (x : (j ≢ seat) × (get_elem? views j ≡ some u)). others j u x.0 x.1) (at_set views seat j w u e)

-- nothing was said yet, and one end is both
pub begins : Mailed [] (first_view ∷ [])
begins = (
  0,
  0,
  no_talk,
  no_talk,
  refl,
  each_set (Fits 0 0 no_talk no_talk) (first_view ∷ []) 0 first_view ((λ _. (refl, refl)), λ _. (refl, refl)) (λ j u other e. absurd (other (at_end [] _ u j (λ x. some-ne-none u (sym x)) e))),
)

-- the end that asks says something else from now on
far_says : (views : List View) (seat : ℕ) (v : View) (far near : ℕ) (f n : Talk) (f' : Talk)
    → v.asks ≡ true → v.answers ≡ false → get_elem? views seat ≡ some v → Each (Fits far near f n) views → Each (Fits far near f' n) (set views seat (record v { talk = f' }))
far_says views seat v far near f n f' asks never at fits = let mine = fits seat v at in each_set (Fits far near f' n) views seat (record v { talk = f' })
    ((λ _. ((mine.0 asks).0, refl)), λ p. absurd (true≢false (sym p ∙ never)))
    (λ j u other e. ((λ p. absurd (other (((fits j u e).0 p).0 ∙ sym (mine.0 asks).0))), (fits j u e).1))

-- the end that answers does
near_says : (views : List View) (seat : ℕ) (v : View) (far near : ℕ) (f n : Talk) (n' : Talk)
    → v.asks ≡ false → v.answers ≡ true → get_elem? views seat ≡ some v → Each (Fits far near f n) views → Each (Fits far near f n') (set views seat (record v { talk = n' }))
near_says views seat v far near f n n' never answers at fits = let mine = fits seat v at in each_set (Fits far near f n') views seat (record v { talk = n' })
    ((λ p. absurd (true≢false (sym p ∙ never))), λ _. ((mine.1 answers).0, refl))
    (λ j u other e. ((fits j u e).0, λ p. absurd (other (((fits j u e).1 p).0 ∙ sym (mine.1 answers).0))))

pub puts : (cap seat : ℕ) (v : View) (call : Call) → cap ≡ 1 → v.asks ≡ true → v.answers ≡ false → v.talk.asked ≡ None → Pushes Mailed cap seat v (Question call) (Put v (Question call))
puts cap seat v call one asks never free [] views short h at =
    let is : v.talk ≡ h.2 = ((h.5 seat v at).0 asks).1 in
    let near : v.talk ≡ h.3 = is ∙ h.4 in (
      record v { talk = with_call call v.talk },
      (
        h.0,
        h.1,
        with_call call v.talk,
        h.3,
        (ap (λ (t : Talk). t.asked) (sym near) ∙ free, ap (with_call call) near),
        far_says views seat v h.0 h.1 h.2 h.3 (with_call call v.talk) asks never at h.5,
      ),
      refl,
    )
puts cap seat v call one asks never free (x ∷ xs) views short h at = absurd (omega (arith, one))

pub gives : (cap seat : ℕ) (v : View) (answer : Answer) (told : Bool) (call : Call) → cap ≡ 1 → v.asks ≡ false → v.answers ≡ true → v.talk.asked ≡ Some call
    → IsFaithful (known_of v.talk.seen) (exchange call answer told) → Pushes Mailed cap seat v (Reply answer) (Gave told v (Reply answer))
gives cap seat v answer told call one never answers asked faithful [] views short h at =
    let is : v.talk ≡ h.3 = ((h.5 seat v at).1 answers).1 in
    let far : v.talk ≡ h.2 = is ∙ sym h.4 in
    let n' : Talk = with_answer call answer told v.talk in (
      record v { talk = n' },
      (
        h.0,
        h.1,
        h.2,
        n',
        (
          call,
          told,
          ap (λ (t : Talk). t.asked) (sym far) ∙ asked,
          ap (with_answer call answer told) far,
          subst (λ (t : Talk). IsFaithful (known_of t.seen) (exchange call answer told)) far faithful,
        ),
        near_says views seat v h.0 h.1 h.2 h.3 n' never answers at h.5,
      ),
      (refl, refl, λ other e. let same : call ≡ other = cc (sym asked ∙ e) in ap (λ (c : Call). with_answer c answer told v.talk) same),
    )
gives cap seat v answer told call one never answers asked faithful (x ∷ xs) views short h at = absurd (omega (arith, one))

pub takes : (seat : ℕ) (v : View) → v.asks ≡ false → v.answers ≡ true → Pops Mailed seat v (Took v)
takes seat v never answers (Question call) [] views h at =
    let is : v.talk ≡ h.3 = ((h.5 seat v at).1 answers).1 in
    let n' : Talk = with_call call v.talk in (
      record v { talk = n' },
      (h.0, h.1, h.2, n', h.4.1 ∙ ap (with_call call) (sym is), near_says views seat v h.0 h.1 h.2 h.3 n' never answers at h.5),
      (ap (λ (t : Talk). t.asked) is ∙ h.4.0, refl),
    )
takes seat v never answers (Reply answer) [] views h at = let is : v.talk ≡ h.3 = ((h.5 seat v at).1 answers).1 in (
  record v { talk = h.2 },
  (h.0, h.1, h.2, h.2, refl, near_says views seat v h.0 h.1 h.2 h.3 h.2 never answers at h.5),
  (refl, refl, (h.4.0, answer, h.4.1, is ∙ h.4.3, h.4.2)),
)
takes seat v never answers (Question call) (y ∷ ys) views h at = absurd h.4
takes seat v never answers (Reply answer) (y ∷ ys) views h at = absurd h.4

pub hears : (seat : ℕ) (v : View) → v.asks ≡ true → v.answers ≡ false → Pops Mailed seat v (Heard v)
hears seat v asks never (Question call) [] views h at =
    let is : v.talk ≡ h.2 = ((h.5 seat v at).0 asks).1 in
    let f' : Talk = without_call v.talk in
    let back : without_call h.3 ≡ h.3 = ap (λ (o : Option Call). record h.3 { asked = o }) (sym h.4.0) in (
      record v { talk = f' },
      (h.0, h.1, f', h.3, ap without_call (is ∙ h.4.1) ∙ back, far_says views seat v h.0 h.1 h.2 h.3 f' asks never at h.5),
      refl,
    )
hears seat v asks never (Reply answer) [] views h at =
    let is : v.talk ≡ h.2 = ((h.5 seat v at).0 asks).1 in
    let b = h.4 in
    let f' : Talk = with_answer b.0 answer b.1 v.talk in (
      record v { talk = f' },
      (h.0, h.1, f', h.3, ap (with_answer b.0 answer b.1) is ∙ sym b.3, far_says views seat v h.0 h.1 h.2 h.3 f' asks never at h.5),
      (b.0, b.1, ap (λ (t : Talk). t.asked) is ∙ b.2, refl, subst (λ (t : Talk). IsFaithful (known_of t.seen) (exchange b.0 answer b.1)) (sym is) b.4),
    )
hears seat v asks never (Question call) (y ∷ ys) views h at = absurd h.4
hears seat v asks never (Reply answer) (y ∷ ys) views h at = absurd h.4

pub forks : (seat : ℕ) (v : View) → v.asks ≡ true → v.answers ≡ true → Forks Mailed seat v (record v { answers = false }) (record v { asks = false })
forks seat v a b items views h at = let l : View = record v { answers = false } in let r : View = record v { asks = false } in let mine = h.5 seat v at in let vs : List View = set views seat l in
    let Old : ℕ → View → Type 0 = λ j u. (u.asks ≡ true → (j ≡ h.0) × (u.talk ≡ h.2)) × (u.answers ≢ true) in
    let old : Each Old vs = each_set Old views seat l ((λ _. mine.0 a), λ p. true≢false (sym p)) (λ j u other e. ((h.5 j u e).0, λ p. other (((h.5 j u e).1 p).0 ∙ sym (mine.1 b).0))) in (
      h.0,
      length vs,
      h.2,
      h.3,
      h.4,
      λ j u e. ⊎_elim (λ x. ((old j u x).0, λ p. absurd ((old j u x).1 p)))
          (λ (is : r ≡ u). ((λ p. absurd (true≢false (sym (ap (λ (y : View). y.asks) is ∙ p)))), λ p. (at_end vs r u j (λ x. (old j u x).1 p) e, ap (λ (y : View). y.talk) (sym is) ∙ (mine.1 b).1))) (at_snoc vs r u j e),
    )

pub told_is : (asked : Option Call) (known : Known) (rows : Rows) → told_while asked known ≡ Some rows → (asked ≡ None) × (known ≡ Told rows)
told_is None Unread rows e = absurd (cc e)
told_is None (Told told) rows e = let same : told ≡ rows = cc e in (refl, ap Told same)
told_is None Untold rows e = absurd (cc e)
told_is (Some call) known rows e = absurd (cc e)

-- what lies between two ends of which the one that asks tells rows: nothing, and both know the same
both_know : (parcels : List Parcel) (f n : Talk) → Between parcels f n → f.asked ≡ None → f ≡ n
both_know [] f n between free = between
both_know (Question call ∷ []) f n between free = absurd (cc (sym free ∙ ap (λ (t : Talk). t.asked) between.1))
both_know (Reply answer ∷ []) f n between free = absurd (cc (sym free ∙ between.2))
both_know (Question call ∷ q ∷ ps) f n between free = absurd between
both_know (Reply answer ∷ q ∷ ps) f n between free = absurd between

-- what is known of a store is so
module _ {K : Type 0} (Tells : K → Type 0) (rows : K → Rows) where
  abbrev pub Stands : K → Known → Type 0
  Stands k Unread = Unit {0}
  Stands k (Told told) = Tells k × AreSame told (rows k)
  Stands k Untold = Tells k → ⊥

  abbrev pub StandsAt : K → Talk → Type 0
  StandsAt k talk = talk.asked ≡ None → Stands k (known_of talk.seen)

  silent_is : (k : K) (known : Known) → Stands k known → Tells k → told_while None known ≡ None → known ≡ Unread
  silent_is k Unread stands tells silent = refl
  silent_is k (Told told) stands tells silent = absurd (cc silent)
  silent_is k Untold stands tells silent = absurd (stands tells)

  module _ (parcels : List Parcel) (views : List View) (i j : ℕ) (far near : View) (h : Mailed parcels views) (at_far : get_elem? views i ≡ some far) (at_near : get_elem? views j ≡ some near)
      (asks : far.asks ≡ true) (answers : near.answers ≡ true) where
    one_talk : far.talk.asked ≡ None → far.talk ≡ near.talk
    one_talk free =
        let is : far.talk ≡ h.2 = ((h.5 i far at_far).0 asks).1 in
        let is' : near.talk ≡ h.3 = ((h.5 j near at_near).1 answers).1 in
        is ∙ both_know parcels h.2 h.3 h.4 (ap (λ (t : Talk). t.asked) (sym is) ∙ free) ∙ sym is'

    stands_far : (k : K) → StandsAt k near.talk → far.talk.asked ≡ None → Stands k (known_of far.talk.seen)
    stands_far k stands free = let same = one_talk free in
        subst (λ (t : Talk). Stands k (known_of t.seen)) (sym same) (stands (ap (λ (t : Talk). t.asked) (sym same) ∙ free))

    pub tied : (k : K) (told : Rows) → StandsAt k near.talk → told_in far.talk ≡ Some told → Tells k × AreSame told (rows k)
    tied k told stands tells = let heard = told_is far.talk.asked (known_of far.talk.seen) told tells in subst (Stands k) heard.1 (stands_far k stands heard.0)

    pub silent : (k : K) → StandsAt k near.talk → Tells k → far.talk.asked ≡ None → told_in far.talk ≡ None → known_of far.talk.seen ≡ Unread
    silent k stands tells free told =
        silent_is k (known_of far.talk.seen) (stands_far k stands free) tells (subst (λ (o : Option Call). told_while o (known_of far.talk.seen) ≡ None) free told)
