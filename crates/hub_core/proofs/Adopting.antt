-- The generations of the live servers of a phase are below the next one.
use Rattle.std.proofs.Common.{◌≡◌, ℕ, ◌<◌, ◌≤◌, Bool, true, false, not, ltb, ◌||◌, List, [], ◌∷◌, Option, refl, arith}
use Rattle.std.specs.Prelude.{All, Some, None}
use Rattle.std.specs.List.{list_any, cons_option, filter_map}
use Rattle.std.specs.FinMap.{get, values}
use Rattle.std.proofs.lemmas.Bool.Decides.{nat_tests}
use Rattle.std.proofs.lemmas.List.Elements.{All-nil, All-cons}
use Rattle.server_life.specs.LifeTable.{generation_of}
use Rattle.server_life.specs.declared.life.Phase.{Phase}
use Rattle.server_life.specs.declared.life.Phase.TheVariants.{Stopped, Adopting, Spawning, Routing, Ready, Unrouting, Stopping, Parked}
use Rattle.hub_lives.specs.Lives.{Lives, AreApart}
use Rattle.hub_lives.specs.declared.lives.Leased.{Leased}
use Rattle.hub_lives.proofs.Found.{any_in}
use Rattle.hub_core.specs.Live.{adopting_in, adopting_servers, as_live, ready_in, ready_servers}
use Rattle.hub_core.specs.declared.live.LiveServer.{LiveServer}

-- the generation that is picked of a phase is the one that the phase has
abbrev IsOwn : (Phase → Option ℕ) → Type 0
IsOwn pick = (phase : Phase) (g h : ℕ) → pick phase ≡ Some h → generation_of phase ≡ Some g → h ≡ g

module _ (n : ℕ) (pick : Phase → Option ℕ) (own : IsOwn pick) where
  abbrev IsSmall : LiveServer → Type 0
  IsSmall s = s.generation < n

  abbrev among : List Leased → List LiveServer
  among ls = filter_map (λ (l : Leased). as_live l (pick l.life.phase)) ls

  -- there is a generation, which isn't below n
  abbrev is_past : Option ℕ → Bool
  is_past None = false
  is_past (Some g) = not (ltb g n)

  neither : (a b : Bool) → (a || b) ≡ false → (a ≡ false) × (b ≡ false)
  neither true b e = cc
  neither false b e = (refl, e)

  none_past : (ls : List Leased) → list_any (λ (l : Leased). is_past (pick l.life.phase)) ls ≡ false → All IsSmall (among ls)
  none_past [] none = All-nil IsSmall
  none_past (l ∷ ls) none =
      let both = neither (is_past (pick l.life.phase)) _ none in
      with_one (pick l.life.phase) both.0 (none_past ls both.1)
    where
      with_one : (g : Option ℕ) → is_past g ≡ false → All IsSmall (among ls) → All IsSmall (cons_option (as_live l g) (among ls))
      with_one None small rest = rest
      with_one (Some g) small rest = All-cons IsSmall _ _ (below g small) rest
        where
          below : (g : ℕ) → not (ltb g n) ≡ false → g < n
          below g e = grind (arith, nat_tests, e)

  -- the generation of a phase that is picked is the life's
  past_own : (g : ℕ) (phase : Phase) (picked : Option ℕ) → pick phase ≡ picked → is_past picked ≡ true → generation_of phase ≡ Some g → n ≤ g
  past_own g phase None are past has = cc
  past_own g phase (Some h) are past has = let same : h ≡ g = own phase g h are has in grind (arith, nat_tests, past, same)

  pub live_small : (pool : List (List ℕ)) (lives : Lives) (next : ℕ) → AreApart pool lives next → next ≤ n → All (λ (s : LiveServer). s.generation < n) (among (values lives))
  live_small pool lives next apart within = by (list_any (λ (l : Leased). is_past (pick l.life.phase)) (values lives)) refl
    where
      by : (b : Bool) → list_any (λ (l : Leased). is_past (pick l.life.phase)) (values lives) ≡ b → All IsSmall (among (values lives))
      by false e = none_past (values lives) e
      by true e =
          let found = any_in (λ (l : Leased). is_past (pick l.life.phase)) lives e in
          let below = apart.below found.0 found.1 found.2 in
          let past = past_own found.0 found.1.life.phase (pick found.1.life.phase) refl found.3 (apart.phases found.0 found.1 found.2) in
          absurd (omega (arith, within, below, past))

adopting_own : IsOwn adopting_in
adopting_own (Adopting k) g h picked has = cc
adopting_own Stopped g h picked has = cc
adopting_own (Spawning k) g h picked has = cc
adopting_own (Routing k) g h picked has = cc
adopting_own (Ready k) g h picked has = cc
adopting_own (Unrouting k) g h picked has = cc
adopting_own (Stopping k) g h picked has = cc
adopting_own (Parked k at) g h picked has = cc

ready_own : IsOwn ready_in
ready_own (Ready k) g h picked has = cc
ready_own Stopped g h picked has = cc
ready_own (Adopting k) g h picked has = cc
ready_own (Spawning k) g h picked has = cc
ready_own (Routing k) g h picked has = cc
ready_own (Unrouting k) g h picked has = cc
ready_own (Stopping k) g h picked has = cc
ready_own (Parked k at) g h picked has = cc

pub adopting_small : (n : ℕ) (pool : List (List ℕ)) (lives : Lives) (next : ℕ) → AreApart pool lives next → next ≤ n
    → All (λ (s : LiveServer). s.generation < n) (adopting_servers lives)
adopting_small n pool lives next apart within = live_small n adopting_in adopting_own pool lives next apart within

pub ready_small : (n : ℕ) (pool : List (List ℕ)) (lives : Lives) (next : ℕ) → AreApart pool lives next → next ≤ n
    → All (λ (s : LiveServer). s.generation < n) (ready_servers lives)
ready_small n pool lives next apart within = live_small n ready_in ready_own pool lives next apart within
