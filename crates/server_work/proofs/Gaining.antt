-- What chains gain, one after the other.
use Rattle.std.proofs.Common.{◌≡◌, ◌≢◌, ℕ, ◌+◌, ◌≤◌, ◌<◌, Bool, true, false, ltb, if◌then◌else◌, List, [], ◌∷◌, ◌++◌, length, map, Option, Some, None, refl, sym, ap, ◌∙◌, subst, append_assoc, arith}
use Rattle.std.specs.List.{flat_map}
use Rattle.std.proofs.lemmas.List.{append-nil, map-append}
use Rattle.std.proofs.lemmas.Bool.{ltb-true, ltb-false}
use mathlib.Core.List.{IsPrefix}
use Rattle.desk.proofs.Prefixes.{prefix_self, prefix_trans}
use Rattle.hub_devices.proofs.CallLemmas.{Grows_none, Grows_then}
use Rattle.hub_devices.specs.Calls.{Grows}
use Rattle.server_life.specs.declared.life.LifeEvent.{LifeEvent}
use Rattle.server_life.specs.declared.life.Todo.{Todo}
use Rattle.server_life.specs.declared.life.Todo.TheVariants.{Nothing, Poll}
use Rattle.server_work.specs.declared.work.Work.{Work}
use Rattle.server_work.specs.declared.tale.Tale.{Tale}
use Rattle.server_work.specs.LifeSteps.{Lives}
use Rattle.server_work.specs.Outcomes.{todo_of, spawner_did, routes_did}
use Rattle.server_work.specs.Chains.{Sight, sight, Comes, Step, Chain, At, left_by, own, outcome_of, rose, fails, Goes, Drove, ChainEnds}
use Rattle.server_work.specs.Gains.{Gain, no_gain, plus, sum_of, gain_of, without_place, Gains}
use Rattle.server_work.specs.Adoptions.{Adopts, Adoptions, ready_one, stopped_one, parked_one, readies, stops, parks}

module _ {E A : Type 0} where
  pub gains_none : (x : At E A) → Gains x no_gain x
  gains_none x = record {
    same = (refl, refl, refl);
    begins = prefix_self x.pass.seen;
    counted = omega arith;
    alone = λ _. sym (append-nil x.pass.seen);
    still = λ _ _. refl;
    mine = sym (append-nil x.pass.mine);
    failed = omega arith;
    spawner = Grows_none x.spawner;
    routes = Grows_none x.routes;
  }

  pub gains_then : (x y z : At E A) (t u : Gain E) → Gains x t y → Gains y u z → Gains x (plus t u) z
  gains_then x y z t u a b = record {
    same = (b.same.0 ∙ a.same.0, b.same.1 ∙ a.same.1, b.same.2 ∙ a.same.2);
    begins = prefix_trans x.pass.seen y.pass.seen z.pass.seen a.begins b.begins;
    counted = omega (arith, a.counted, b.counted);
    alone = λ one. b.alone (a.same.2 ∙ one) ∙ (ap (λ h. h ++ map without_place u.entries) (a.alone one)
        ∙ (append_assoc x.pass.seen (map without_place t.entries) (map without_place u.entries) ∙ ap (λ h. x.pass.seen ++ h) (sym (map-append without_place t.entries u.entries))));
    still = λ one none. b.still (a.same.2 ∙ one) (omega (arith, none)) ∙ a.still one (omega (arith, none));
    mine = b.mine ∙ (ap (λ h. h ++ u.entries) a.mine ∙ append_assoc x.pass.mine t.entries u.entries);
    failed = omega (arith, a.failed, b.failed);
    spawner = Grows_then x.spawner y.spawner z.spawner t.spawner u.spawner a.spawner b.spawner;
    routes = Grows_then x.routes y.routes z.routes t.routes u.routes a.routes b.routes;
  }

-- ---- what a chain gains

module _ {E A : Type 0} (reached : Option A → List E → Lives → Type 0) (notes : E → ℕ → LifeEvent → Type 0) where
  pub goes_begins : (base : Option A) (alone : Bool) (g : ℕ) (seen : Sight E) (owed : Todo) (ss : List (Step E)) (seen' : Sight E) (owed' : Todo)
      → Goes reached notes base alone g seen owed ss seen' owed' → IsPrefix seen.entries seen'.entries × (seen.faults ≤ seen'.faults)
  goes_begins base alone g seen owed [] seen' owed' (a, b) =
      subst (λ (h : Sight E). IsPrefix seen.entries h.entries × (seen.faults ≤ h.faults)) (sym a) (prefix_self seen.entries, omega arith)
  goes_begins base alone g seen owed (s ∷ ss) seen' owed' (a, b, rest) =
      let later = goes_begins base alone g (left_by s) s.owes ss seen' owed' rest in (
        prefix_trans seen.entries s.found.entries seen'.entries a.0
            (prefix_trans s.found.entries (s.found.entries ++ s.entry ∷ []) seen'.entries (s.entry ∷ [], refl) later.0),
        omega (arith, a.1, b.grown, later.1),
      )

  goes_alone : (base : Option A) (alone : Bool) (g : ℕ) (seen : Sight E) (owed : Todo) (ss : List (Step E)) (seen' : Sight E) (owed' : Todo)
      → Goes reached notes base alone g seen owed ss seen' owed' → alone ≡ true → seen'.entries ≡ seen.entries ++ map without_place (map own ss)
  goes_alone base alone g seen owed [] seen' owed' (a, b) one = ap (λ h. h.entries) a ∙ sym (append-nil seen.entries)
  goes_alone base alone g seen owed (s ∷ ss) seen' owed' (a, b, rest) one =
      goes_alone base alone g (left_by s) s.owes ss seen' owed' rest one
      ∙ (append_assoc s.found.entries (s.entry ∷ []) (map without_place (map own ss))
      ∙ ap (λ h. h.entries ++ s.entry ∷ map without_place (map own ss)) (a.2 one))

  not_rose : (m n : ℕ) (b : Bool) → ltb m n ≡ b → ◌≡◌ {A = ℕ} (if b then 1 else 0) 0 → m ≤ n → n ≡ m
  not_rose m n true e none le = absurd (cc (none))
  not_rose m n false e none le = omega (arith, ltb-false m n e, le)

  goes_still : (base : Option A) (alone : Bool) (g : ℕ) (seen : Sight E) (owed : Todo) (ss : List (Step E)) (seen' : Sight E) (owed' : Todo)
      → Goes reached notes base alone g seen owed ss seen' owed' → alone ≡ true → fails ss ≡ 0 → seen'.faults ≡ seen.faults
  goes_still base alone g seen owed [] seen' owed' (a, b) one none = ap (λ h. h.faults) a
  goes_still base alone g seen owed (s ∷ ss) seen' owed' (a, b, rest) one none =
      goes_still base alone g (left_by s) s.owes ss seen' owed' rest one (omega (arith, none))
      ∙ (not_rose s.found.faults s.faults (ltb s.found.faults s.faults) refl (let r : rose s ≡ 0 = omega (arith, none) in r) b.grown ∙ ap (λ h. h.faults) (a.2 one))

  drove_gains : (w : Work) (x y : At E A) (first owes : Todo) (seen : Sight E) (k : Chain E) (extra : List LifeEvent)
      → Drove reached notes w x y first owes seen k.steps extra → k.refused ≡ extra → Comes x.pass.alone seen (sight y.pass) → Gains x (gain_of w k) y
  drove_gains w x y first owes seen k extra d refused comes =
      let begins = goes_begins x.pass.base x.pass.alone w.generation (sight x.pass) first k.steps seen owes d.goes in
      record {
        same = d.same;
        begins = prefix_trans x.pass.seen seen.entries y.pass.seen begins.0 comes.0;
        counted = omega (arith, begins.1, comes.1);
        alone = λ one. ap (λ h. h.entries) (comes.2 one) ∙ goes_alone x.pass.base x.pass.alone w.generation (sight x.pass) first k.steps seen owes d.goes one;
        still = λ one none. ap (λ h. h.faults) (comes.2 one) ∙ goes_still x.pass.base x.pass.alone w.generation (sight x.pass) first k.steps seen owes d.goes one none;
        mine = d.mine;
        failed = d.failed;
        spawner = subst (λ (os : List LifeEvent). Grows x.spawner (flat_map (spawner_did w) (map outcome_of k.steps ++ os)) y.spawner) (sym refused) d.spawner;
        routes = subst (λ (os : List LifeEvent). Grows x.routes (flat_map (routes_did w) (map outcome_of k.steps ++ os)) y.routes) (sym refused) d.routes;
      }

  there : (a : Bool) (h : Sight E) → Comes a h h
  there a h = (prefix_self h.entries, omega arith, λ _. refl)

  -- a chain gains exactly its entries and its calls
  pub chain_gains : (w : Work) (x y : At E A) (first : Todo) (k : Chain E) (end : Option Tale) → ChainEnds reached notes w x first k end y → Gains x (gain_of w k) y
  chain_gains w x y first k None b = drove_gains w x y first (todo_of b.outcome) b.seen k (b.outcome ∷ []) b.drove b.refused b.refusal.comes
  chain_gains w x y first k (Some tale) e = drove_gains w x y first Nothing (sight y.pass) k [] e.drove e.none (there x.pass.alone (sight y.pass))

  -- ---- adoptions

  adopts_gains : (x y : At E A) (w : Work) (end : Option Tale) (t : Gain E) → Adopts reached notes x w end t y → Gains x t y
  adopts_gains x y w end t a = subst (λ (u : Gain E). Gains x u y) (sym a.gain) (chain_gains w x y Poll a.chain end a.is)

  pub adoptions_gain : (x y : At E A) (ws : List Work) (ends : List (Option Tale)) (ts : List (Gain E)) → Adoptions reached notes x ws ends ts y → Gains x (sum_of ts) y
  adoptions_gain x y [] [] [] is = subst (λ (z : At E A). Gains x no_gain z) (sym is) (gains_none x)
  adoptions_gain x y [] [] (t ∷ ts) is = absurd is
  adoptions_gain x y [] (e ∷ ends) ts is = absurd is
  adoptions_gain x y (w ∷ ws) [] ts is = absurd is
  adoptions_gain x y (w ∷ ws) (e ∷ ends) [] is = absurd is
  adoptions_gain x y (w ∷ ws) (e ∷ ends) (t ∷ ts) is = gains_then x is.0 y t (sum_of ts) (adopts_gains x is.0 w e t is.1) (adoptions_gain is.0 y ws ends ts is.2)

  pub adoptions_more : (x y z : At E A) (ws : List Work) (ends : List (Option Tale)) (ts : List (Gain E)) (w : Work) (e : Option Tale) (t : Gain E)
      → Adoptions reached notes x ws ends ts y → Adopts reached notes y w e t z → Adoptions reached notes x (ws ++ w ∷ []) (ends ++ e ∷ []) (ts ++ t ∷ []) z
  adoptions_more x y z [] [] [] w e t is one = (z, subst (λ (v : At E A). Adopts reached notes v w e t z) is one, refl)
  adoptions_more x y z [] [] (u ∷ ts) w e t is one = absurd is
  adoptions_more x y z [] (f ∷ ends) ts w e t is one = absurd is
  adoptions_more x y z (v ∷ ws) [] ts w e t is one = absurd is
  adoptions_more x y z (v ∷ ws) (f ∷ ends) [] w e t is one = absurd is
  adoptions_more x y z (v ∷ ws) (f ∷ ends) (u ∷ ts) w e t is one = (is.0, is.1, adoptions_more is.0 y z ws ends ts w e t is.2 one)

pub readies_more : (es : List (Option Tale)) (e : Option Tale) → readies (es ++ e ∷ []) ≡ readies es + ready_one e
readies_more [] e = omega arith
readies_more (x ∷ es) e = omega (arith, readies_more es e)

pub stops_more : (es : List (Option Tale)) (e : Option Tale) → stops (es ++ e ∷ []) ≡ stops es + stopped_one e
stops_more [] e = omega arith
stops_more (x ∷ es) e = omega (arith, stops_more es e)

pub parks_more : (es : List (Option Tale)) (e : Option Tale) → parks (es ++ e ∷ []) ≡ parks es + parked_one e
parks_more [] e = omega arith
parks_more (x ∷ es) e = omega (arith, parks_more es e)
