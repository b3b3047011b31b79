-- How a chain goes on.
use Rattle.std.proofs.Common.{◌≡◌, ◌≢◌, ℕ, ◌+◌, ◌≤◌, ◌<◌, Bool, true, List, [], ◌∷◌, ◌++◌, length, map, Option, Some, None, refl, sym, ap, ◌∙◌, subst, append_assoc, arith}
use Rattle.std.specs.List.{flat_map}
use Rattle.std.proofs.lemmas.List.{append-nil, map-append}
use Rattle.desk.specs.Passes.{PassState}
use Rattle.hub_devices.specs.Calls.{Grows}
use Rattle.hub_devices.specs.Faults.{Rises}
use Rattle.hub_devices.proofs.CallLemmas.{Grows_none, Grows_one, Rises_later, Rises_earlier}
use Rattle.server_life.specs.declared.life.LifeEvent.{LifeEvent}
use Rattle.server_life.specs.declared.life.LifeEvent.TheVariants as Event
use Rattle.server_life.specs.declared.life.Todo.{Todo}
use Rattle.server_life.specs.declared.life.Todo.TheVariants.{Nothing, Start}
use Rattle.server_work.specs.declared.work.Work.{Work}
use Rattle.server_work.specs.declared.work.Device.{Device}
use Rattle.server_work.specs.declared.work.Kept.{Kept}
use Rattle.server_work.specs.declared.tale.Tale.{Tale}
use Rattle.server_work.specs.declared.book.Lived.{Lived}
use Rattle.server_work.specs.LifeSteps.{Lives}
use Rattle.server_work.specs.Outcomes.{todo_of, device_of, spawner_did, routes_did, is_end}
use Rattle.server_work.specs.Tales.{new_tale, tale_with, first_of, is_stopped}
use Rattle.server_work.specs.Chains.{Sight, sight, Comes, Step, Chain, At, left_by, own, outcome_of, rose, fails, tale_from, IsStep, Goes, Drove, Refused, Ended, Broke, ChainEnds}
use Rattle.server_work.specs.Taken.{Made, Stays}
use Rattle.server_work.proofs.Ranks.{rank, fewer, no_start}

-- ---- one step more

module _ {E : Type 0} where
  tale_more : (t : Tale) (ss : List (Step E)) (s : Step E) → tale_from t (ss ++ s ∷ []) ≡ tale_with (tale_from t ss) s.outcome s.owes s.kept (length s.found.entries + 1)
  tale_more t [] s = refl
  tale_more t (x ∷ ss) s = tale_more (tale_with t x.outcome x.owes x.kept (length x.found.entries + 1)) ss s

  fails_more : (ss : List (Step E)) (s : Step E) → fails (ss ++ s ∷ []) ≡ fails ss + rose s
  fails_more [] s = omega arith
  fails_more (x ∷ ss) s = omega (arith, fails_more ss s)

module _ {E A : Type 0} (reached : Option A → List E → Lives → Type 0) (notes : E → ℕ → LifeEvent → Type 0) where
  goes_more : (base : Option A) (alone : Bool) (g : ℕ) (seen : Sight E) (owed : Todo) (ss : List (Step E)) (seen1 : Sight E) (owed1 : Todo) (s : Step E)
      → Goes reached notes base alone g seen owed ss seen1 owed1 → Comes alone seen1 s.found → IsStep reached notes base g owed1 s
      → Goes reached notes base alone g seen owed (ss ++ s ∷ []) (left_by s) s.owes
  goes_more base alone g seen owed [] seen1 owed1 s (a, b) comes is =
      (subst (λ (h : Sight E). Comes alone h s.found) a comes, subst (λ (t : Todo). IsStep reached notes base g t s) b is, (refl, refl))
  goes_more base alone g seen owed (x ∷ ss) seen1 owed1 s (a, b, rest) comes is =
      (a, b, goes_more base alone g (left_by x) x.owes ss seen1 owed1 s rest comes is)

  pub drove_none : (w : Work) (x : At E A) (first : Todo) → Drove reached notes w x x first first (sight x.pass) [] []
  drove_none w x first = record {
    goes = (refl, refl);
    same = (refl, refl, refl);
    mine = sym (append-nil x.pass.mine);
    failed = omega arith;
    spawner = Grows_none x.spawner;
    routes = Grows_none x.routes;
  }

  -- a call and its outcome's entry
  pub drove_on : (w : Work) (x y z : At E A) (first owed : Todo) (ss : List (Step E)) (o : LifeEvent) (l : Lived)
      → Drove reached notes w x y first owed (sight y.pass) ss []
      → todo_of o ≡ owed → Grows y.spawner (spawner_did w o) z.spawner → Grows y.routes (routes_did w o) z.routes
      → (made : Made reached notes y.pass z.pass w.generation o l)
      → Drove reached notes w x z first l.todo (sight z.pass) (ss ++ made.step ∷ []) []
  drove_on w x y z first owed ss o l d of calls links made =
      let s : Step E = made.step in
      let os : map outcome_of (ss ++ s ∷ []) ++ [] ≡ map outcome_of ss ++ o ∷ [] =
      append-nil (map outcome_of (ss ++ s ∷ [])) ∙ (map-append outcome_of ss (s ∷ []) ∙ ap (λ x. map outcome_of ss ++ x ∷ []) made.of) in
      record {
        goes =
            subst (λ (t : Todo). Goes reached notes x.pass.base x.pass.alone w.generation (sight x.pass) first (ss ++ s ∷ []) (sight z.pass) t) made.owes
            (subst (λ (h : Sight E). Goes reached notes x.pass.base x.pass.alone w.generation (sight x.pass) first (ss ++ s ∷ []) h s.owes) (sym made.seen)
            (goes_more x.pass.base x.pass.alone w.generation (sight x.pass) first ss (sight y.pass) owed s d.goes
            (subst (λ (a : Bool). Comes a (sight y.pass) s.found) d.same.2 made.comes)
            (subst (λ (t : Todo). IsStep reached notes x.pass.base w.generation t s) of
            (subst (λ (b : Option A). IsStep reached notes b w.generation (todo_of o) s) d.same.1 made.is))));
        same = (made.same.0 ∙ d.same.0, made.same.1 ∙ d.same.1, made.same.2 ∙ d.same.2);
        mine = made.mine ∙ (ap (λ ms. ms ++ own s ∷ []) d.mine ∙ (append_assoc x.pass.mine (map own ss) (own s ∷ [])
            ∙ ap (λ ms. x.pass.mine ++ ms) (sym (map-append own ss (s ∷ [])))));
        failed = omega (arith, made.failed, d.failed, fails_more ss s);
        spawner = subst (λ (xs : List LifeEvent). Grows x.spawner (flat_map (spawner_did w) xs) z.spawner) (sym os)
            (Grows_one (spawner_did w) (map outcome_of ss) o x.spawner y.spawner z.spawner d.spawner calls);
        routes = subst (λ (xs : List LifeEvent). Grows x.routes (flat_map (routes_did w) xs) z.routes) (sym os)
            (Grows_one (routes_did w) (map outcome_of ss) o x.routes y.routes z.routes d.routes links);
      }

  pub told_on : (p q : PassState E A) (g : ℕ) (ss : List (Step E)) (o : LifeEvent) (l : Lived) (made : Made reached notes p q g o l) (tale tale' : Tale)
      → tale ≡ tale_from new_tale ss → tale' ≡ tale_with tale o l.todo l.kept l.length → tale' ≡ tale_from new_tale (ss ++ made.step ∷ [])
  told_on p q g ss o l made tale tale' is told =
      (told ∙ ap (λ t. tale_with t o l.todo l.kept l.length) is) ∙ sym (tale_more new_tale ss made.step ∙ cc (made.of, made.owes, made.kept, made.longer))

  -- less is owed then, and no start
  pub owes_less : (p q : PassState E A) (g : ℕ) (o : LifeEvent) (l : Lived) (owed : Todo) → Made reached notes p q g o l → todo_of o ≡ owed → owed ≢ Nothing
      → rank l.todo < rank owed
  owes_less p q g o l owed m of some =
      let is : todo_of m.step.outcome ≡ owed = m.is.of ∙ of in
      subst (λ (t : Todo). rank t < rank owed) m.owes
      (subst (λ (t : Todo). rank m.step.owes < rank t) is
      (fewer m.step.lives g m.step.outcome (m.is.takes.0, m.step.owes) (λ none. some (sym is ∙ none)) m.is.takes.1))

  pub owes_no_start : (p q : PassState E A) (g : ℕ) (o : LifeEvent) (l : Lived) (owed : Todo) → Made reached notes p q g o l → todo_of o ≡ owed → owed ≢ Nothing
      → l.todo ≢ Start
  owes_no_start p q g o l owed m of some =
      let is : todo_of m.step.outcome ≡ owed = m.is.of ∙ of in
      λ start. no_start m.step.lives g m.step.outcome (m.is.takes.0, m.step.owes) (λ none. some (sym is ∙ none)) m.is.takes.1 (m.owes ∙ start)

  -- a call whose outcome was refused
  pub drove_broken : (w : Work) (x y z : At E A) (first owed : Todo) (ss : List (Step E)) (o : LifeEvent)
      → Drove reached notes w x y first owed (sight y.pass) ss [] → owed ≢ Nothing
      → todo_of o ≡ owed → Grows y.spawner (spawner_did w o) z.spawner → Grows y.routes (routes_did w o) z.routes
      → Stays reached notes y.pass z.pass w.generation o
      → (k : Chain E) × ChainEnds reached notes w x first k None z
  drove_broken w x y z first owed ss o d some of calls links left = (
    record { steps = ss; refused = o ∷ [] },
    record {
      outcome = o;
      seen = sight y.pass;
      owed = λ none. some (sym of ∙ none);
      refused = refl;
      drove = record {
        goes = subst (λ (t : Todo). Goes reached notes x.pass.base x.pass.alone w.generation (sight x.pass) first ss (sight y.pass) t) (sym of) d.goes;
        same = (left.same.0 ∙ d.same.0, left.same.1 ∙ d.same.1, left.same.2 ∙ d.same.2);
        mine = left.mine ∙ d.mine;
        failed = left.failed ∙ d.failed;
        spawner = Grows_one (spawner_did w) (map outcome_of ss) o x.spawner y.spawner z.spawner d.spawner calls;
        routes = Grows_one (routes_did w) (map outcome_of ss) o x.routes y.routes z.routes d.routes links;
      };
      refusal = record {
        lives = left.refused.lives;
        error = left.refused.error;
        comes = subst (λ (a : Bool). Comes a (sight y.pass) (sight z.pass)) d.same.2 left.refused.comes;
        at = subst (λ (b : Option A). reached b z.pass.seen left.refused.lives) d.same.1 left.refused.at;
        row = left.refused.row;
      };
    },
  )

  -- a chain that owes nothing more
  pub drove_ended : (w : Work) (x y : At E A) (first owes : Todo) (ss : List (Step E)) (tale : Tale)
      → Drove reached notes w x y first owes (sight y.pass) ss [] → owes ≡ Nothing → tale ≡ tale_from new_tale ss
      → (k : Chain E) × ChainEnds reached notes w x first k (Some tale) y
  drove_ended w x y first owes ss tale d none told = (
    record { steps = ss; refused = [] },
    record { none = refl; tale_is = told; drove = subst (λ (t : Todo). Drove reached notes w x y first t (sight y.pass) ss []) none d },
  )

-- ---- faults

caused : (t d : Option Device) (x : Device) (a b c : ℕ) → a ≤ b → b ≤ c → (t ≡ Some x → Rises a b) → (d ≡ Some x → Rises b c)
    → first_of t d ≡ Some x → Rises a c
caused (Some y) d x a b c ab bc f h e = Rises_later a b c (f e) bc
caused None d x a b c ab bc f h e = Rises_earlier a b c ab (h e) bc

stopped_end : (o : LifeEvent) (k : Kept) → is_stopped o k ≡ true → is_end o ≡ true
stopped_end Event.Ended k e = refl
stopped_end Event.SpawnFailed k e = refl
stopped_end o k e = absurd (cc (e))

-- the same of what is told after one outcome more
pub caused_on : (tale tale' : Tale) (o : LifeEvent) (l : Lived) (x : Device) (a b c : ℕ) → tale' ≡ tale_with tale o l.todo l.kept l.length → a ≤ b → b ≤ c
    → (tale.failed ≡ Some x → Rises a b) → (device_of o ≡ Some x → Rises b c) → tale'.failed ≡ Some x → Rises a c
caused_on tale tale' o l x a b c is ab bc f h e = caused tale.failed (device_of o) x a b c ab bc f h (sym (ap (λ t. t.failed) is) ∙ e)

pub stopped_on : (tale tale' : Tale) (o : LifeEvent) (l : Lived) → tale' ≡ tale_with tale o l.todo l.kept l.length → tale'.stopped ≡ true → is_end o ≡ true
stopped_on tale tale' o l is e = stopped_end o l.kept (sym (ap (λ t. t.stopped) is) ∙ e)
