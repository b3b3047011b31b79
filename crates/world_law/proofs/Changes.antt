-- Each kind of change keeps the invariant.
use Rattle.std.proofs.Common.{ℕ, ◌≡◌, ◌≢◌, ◌+◌, ◌*◌, ◌<◌, ◌≤◌, ◌⊎◌, inl, inr, Bool, true, false, not, List, [], ◌∷◌, Option, Some, None, Ok, Err, refl, ap, sym, ◌∙◌, subst, cond, nat_eq, arith, filter}
use Rattle.std.proofs.lemmas.Bool.Decides.{nat_tests, eqb_tells}
use Rattle.std.specs.Prelude.{Contains}
use Rattle.hub_kit.specs.declared.names.ServerKey.{ServerKey}
use Rattle.hub_devices.specs.declared.calls.Spawning.TheVariants as S
use Rattle.hub_devices.specs.declared.calls.Routing.TheVariants as R
use Rattle.hub_devices.specs.declared.calls.Told.TheVariants.{Done}
use Rattle.hub_devices.specs.declared.calls.Told.TheVariants as Tell
use Rattle.server_life.specs.declared.life.Life.{Life}
use Rattle.server_life.specs.declared.life.Phase.TheVariants.{Spawning}
use Rattle.server_life.specs.LifeTable.{generation_of}
use Rattle.route_table.specs.declared.route.RouteRefusal.TheVariants.{NotFound, Stale}
use Rattle.route_table.specs.Path.{segments}
use Rattle.world_law.specs.World.{Mem, What, Spawn, Route, Call, Answer, BySpawner, ByProxy, Answered, Instance, Listing, take_off, without}
use Rattle.world_law.specs.Law.{HaveOwnTargets}
use Rattle.world_law.proofs.Rows.{is_clean, is_spawning}
use Rattle.world_law.proofs.Tables.{Path, Routes, SeenPast, Harmless, Adds, some_same, none_some}
use Rattle.world_law.proofs.Facts.{Lease, Seen, call, start_of, addition, path_of, Vouched, NoStart, NoProgram, Gone, Unsent, Clean, StartOk, SentOk, ToldOk, RunsFor, WasGiven, IsOverFor, Inv}

-- f, but x at g
abbrev pub at : {A : Type 0} → (ℕ → A) → ℕ → A → ℕ → A
at f g x h = cond (nat_eq g h) x (f h)

-- the cases of a function that is changed at one number
pub at_cases : {A : Type 0} (f : ℕ → A) (g : ℕ) (x : A) (h : ℕ) → ((g ≡ h) × (at f g x h ≡ x)) ⊎ ((g ≢ h) × (at f g x h ≡ f h))
at_cases f g x h = elim (eqb_tells g h) [
  | inl e ↦ inl (e.1, ap (λ b. cond b x (f h)) e.0)
  | inr e ↦ inr (e.1, ap (λ b. cond b x (f h)) e.0)
]

pub same_lease : (held : ℕ → Option Lease) (g h : ℕ) (a b : Lease) → held g ≡ Some a → held h ≡ Some b → g ≡ h → a ≡ b
same_lease held g h a b e f q = some_same a b (sym e ∙ (ap held q ∙ f))

filter_cons : {A : Type 0} (test : A → Bool) (y : A) (ys rest : List A) (x : A) (b : Bool) → test y ≡ b → (Mem rest x → Mem ys x × (test x ≡ true)) → Mem (cond b (y ∷ rest) rest) x → Mem (y ∷ ys) x × (test x ≡ true)
filter_cons test y ys rest x true e f (inl h) = (inl h, ap test (sym h) ∙ e)
filter_cons test y ys rest x true e f (inr h) = let r = f h in (inr r.0, r.1)
filter_cons test y ys rest x false e f h = let r = f h in (inr r.0, r.1)

-- what a filter keeps is of the list, and passes
pub mem_filter : {A : Type 0} (test : A → Bool) (xs : List A) (x : A) → Mem (filter test xs) x → Mem xs x × (test x ≡ true)
mem_filter test [] x m = elim m [ ]
mem_filter test (y ∷ ys) x m = filter_cons test y ys (filter test ys) x (test y) refl (mem_filter test ys x) m

apart_cons : (test : Instance → Bool) (p : Instance) (ps : List Instance) (b : Bool) → ((q : Instance) → Mem ps q → q.target ≢ p.target) → HaveOwnTargets (filter test ps) → HaveOwnTargets (cond b (p ∷ filter test ps) (filter test ps))
apart_cons test p ps true f h = (λ q m. f q (mem_filter test ps q m).0, h)
apart_cons test p ps false f h = h

pub apart_filter : (test : Instance → Bool) (ps : List Instance) → HaveOwnTargets ps → HaveOwnTargets (filter test ps)
apart_filter test [] h = tt
apart_filter test (p ∷ ps) h = apart_cons test p ps (test p) h.0 (apart_filter test ps h.1)

eqb-self : (g : ℕ) → nat_eq g g ≡ true
eqb-self g = grind (arith, nat_tests)

not_both : (b : Bool) → not b ≡ true → b ≡ true → ⊥
not_both true h e = cc
not_both false h e = cc

pub none_without : (g : ℕ) (ps : List Instance) → NoProgram (without g ps) g
none_without g ps p m e = not_both (nat_eq p.generation g) (mem_filter (λ (x : Instance). not (nat_eq x.generation g)) ps p m).1 (subst (λ n. nat_eq p.generation n ≡ true) e (eqb-self p.generation))

pub other_id : (id : ℕ) (calls : List Call) (c : Call) → Mem (take_off id calls) c → c.id ≢ id
other_id id calls c m e = not_both (nat_eq c.id id) (mem_filter (λ (x : Call). not (nat_eq x.id id)) calls c m).1 (subst (λ n. nat_eq c.id n ≡ true) e (eqb-self c.id))

-- what is told stays so, where what it speaks of does
pub told_stays : (w v : Seen) (what : What) (answer : Answer)
    → ((g : ℕ) → NoStart w.sent g × (g < w.next) → NoStart v.sent g × (g < v.next))
    → ((g : ℕ) → Gone w.sent w.programs w.next g → Gone v.sent v.programs v.next g)
    → ((p : Path) (n : ℕ) → SeenPast w.table.seen p n → SeenPast v.table.seen p n)
    → ToldOk w what answer → ToldOk v what answer
told_stays w v (Spawn (S.Start g k t secret)) (BySpawner Done) a b c x = a g x
told_stays w v (Spawn (S.Start g k t secret)) (BySpawner Tell.Failed) a b c x = b g x
told_stays w v (Spawn (S.Stop g t)) (BySpawner Done) a b c x = b g x
told_stays w v (Route (R.Delete p s)) (ByProxy (Ok u)) a b c x = c (segments p) s x
told_stays w v (Route (R.Delete p s)) (ByProxy (Err NotFound)) a b c x = c (segments p) s x
told_stays w v (Route (R.Delete p s)) (ByProxy (Err (Stale given n))) a b c x = c (segments p) s x
told_stays w v what answer a b c x = tt

pub sent_stays : (w v : Seen) (id : ℕ) (what : What) → Mem w.sent (call id what)
    → ((i : Instance) (secret : List ℕ) → Mem w.sent (call id (start_of i secret)) → StartOk w id i → StartOk v id i)
    → ((g : ℕ) → NoStart w.sent g × (g < w.next) → NoStart v.sent g × (g < v.next))
    → ((p t : List ℕ) (s : ℕ) → Mem w.sent (call id (addition p t s)) → Vouched w.held w.next w.table.seen (segments p) t s → Vouched v.held v.next v.table.seen (segments p) t s)
    → SentOk w id what → SentOk v id what
sent_stays w v id (Spawn (S.Start g k t secret)) m a b c x = a (record { generation = g; server = k; target = t }) secret m x
sent_stays w v id (Spawn (S.Stop g t)) m a b c x = b g x
sent_stays w v id (Spawn (S.Poll g t)) m a b c x = tt
sent_stays w v id (Route (R.Add p t (Some s))) m a b c x = c p t s m x
sent_stays w v id (Route (R.Add p t None)) m a b c x = tt
sent_stays w v id (Route (R.Delete p s)) m a b c x = tt
sent_stays w v id (Route R.List) m a b c x = tt

pub clean_stays : (t : Routes) (c : List Call) (r : List Instance) (t' : Routes) (c' : List Call) (r' : List Instance) (a : Lease) (g : ℕ)
    → (Unsent t c r g → Unsent t' c' r' g) → ((p : Path) (n : ℕ) → SeenPast t.seen p n → SeenPast t'.seen p n) → Clean t c r a g → Clean t' c' r' a g
clean_stays t c r t' c' r' a g f h (inl x) = inl (f x)
clean_stays t c r t' c' r' a g f h (inr x) = inr (h (path_of a.server) (2 * g + 1) x)

pub seen_stays : (held : ℕ → Option Lease) (next : ℕ) (seen seen' : Path → Option ℕ) (p : Path) (t : List ℕ) (s : ℕ)
    → ((p : Path) (n : ℕ) → SeenPast seen p n → SeenPast seen' p n) → Vouched held next seen p t s → Vouched held next seen' p t s
seen_stays held next seen seen' p t s f v = (v.0, v.1, v.2, elim v.3 [ inl l ↦ inl l | inr x ↦ inr (x.0, f p (2 * v.0 + 1) x.1) ])

-- less is on its way
pub sends_less : (w : Seen) (xs : List Call) → ((c : Call) → Mem xs c → Mem w.sent c) → Inv w → Inv (record w { sent = xs })
sends_less w xs f i = record {
  below = i.below;
  targets = i.targets;
  servers = i.servers;
  pooled = i.pooled;
  phases = i.phases;
  exact = i.exact;
  routes = i.routes;
  clean = λ g a h k. clean_stays w.table w.sent w.ready w.table xs w.ready a g (λ u. (u.0, λ id p t s m. u.1 id p t s (f (call id (addition p t s)) m), u.2)) (λ p n x. x) (i.clean g a h k);
  sent = λ id what m. sent_stays w (record w { sent = xs }) id what (f (call id what) m)
      (λ j secret n x. (x.0, x.1, x.2, λ y l u o q. x.3 y l u (f (call y (start_of l u)) o) q))
      (λ g x. (λ j h k o. x.0 j h k (f (call j (start_of h k)) o), x.1)) (λ p t s n x. x) (i.sent id what (f (call id what) m));
  told = λ id what answer m. told_stays w (record w { sent = xs }) what answer
      (λ g x. (λ j h k o. x.0 j h k (f (call j (start_of h k)) o), x.1)) (λ g x. (λ j h k o. x.0 j h k (f (call j (start_of h k)) o), x.1, x.2)) (λ p n x. x) (i.told id what answer m);
  ready = i.ready;
  programs = i.programs;
  apart = i.apart;
  listed = i.listed;
  over = i.over;
}

-- a call was answered
pub tells_more : (w : Seen) (id : ℕ) (what : What) (answer : Answer) → ToldOk w what answer → Inv w → Inv (record w { told = record { call = call id what; answer = answer } ∷ w.told })
tells_more w id what answer x i = record {
  below = i.below;
  targets = i.targets;
  servers = i.servers;
  pooled = i.pooled;
  phases = i.phases;
  exact = i.exact;
  routes = i.routes;
  clean = i.clean;
  sent = i.sent;
  told = λ id' what' answer' m. elim m [ inl e ↦ subst (λ (r : Answered). ToldOk w r.call.what r.answer) e x | inr n ↦ i.told id' what' answer' n ];
  ready = i.ready;
  programs = i.programs;
  apart = i.apart;
  listed = i.listed;
  over = i.over;
}

-- fewer programs run
pub runs_less : (w : Seen) (test : Instance → Bool) → Inv w → Inv (record w { programs = filter test w.programs })
runs_less w test i = record {
  below = i.below;
  targets = i.targets;
  servers = i.servers;
  pooled = i.pooled;
  phases = i.phases;
  exact = i.exact;
  routes = i.routes;
  clean = i.clean;
  sent = λ id what m. sent_stays w (record w { programs = filter test w.programs }) id what m
      (λ j secret n x. (x.0, x.1, λ p o. x.2 p (mem_filter test w.programs p o).0, x.3)) (λ g x. x) (λ p t s n x. x) (i.sent id what m);
  told = λ id what answer m. told_stays w (record w { programs = filter test w.programs }) what answer
      (λ g x. x) (λ g x. (x.0, λ p o. x.1 p (mem_filter test w.programs p o).0, x.2)) (λ p n x. x) (i.told id what answer m);
  ready = i.ready;
  programs = λ p m. i.programs p (mem_filter test w.programs p m).0;
  apart = apart_filter test w.programs i.apart;
  listed = i.listed;
  over = i.over;
}

-- a start is done
pub runs_more : (w : Seen) (id : ℕ) (i : Instance) (secret : List ℕ) → Mem w.sent (call id (start_of i secret)) → Inv w
    → Inv (record w { programs = i ∷ w.programs; sent = take_off id w.sent })
runs_more w id p secret m i =
    let ok : StartOk w id p = i.sent id (start_of p secret) m in
    let fewer : (c : Call) → Mem (take_off id w.sent) c → Mem w.sent c = λ c n. (mem_filter (λ (x : Call). not (nat_eq x.id id)) w.sent c n).0 in
    let v : Seen = record w { programs = p ∷ w.programs; sent = take_off id w.sent } in
    record {
      below = i.below;
      targets = i.targets;
      servers = i.servers;
      pooled = i.pooled;
      phases = i.phases;
      exact = i.exact;
      routes = i.routes;
      clean = λ h a e f. clean_stays w.table w.sent w.ready w.table (take_off id w.sent) w.ready a h
          (λ u. (u.0, λ j y t s n. u.1 j y t s (fewer (call j (addition y t s)) n), u.2)) (λ p n x. x) (i.clean h a e f);
      sent = λ j what n. sent_stays w v j what (fewer (call j what) n)
          (λ l u o x. (
            x.0,
            x.1,
            λ y q. elim q [
              | inl e ↦ λ z. other_id id w.sent (call j what) n (ok.3 j l u o (sym z ∙ ap (λ (n : Instance). n.generation) (sym e)))
              | inr e ↦ x.2 y e
            ],
            λ y l' u' o' z. x.3 y l' u' (fewer (call y (start_of l' u')) o') z,
          ))
          (λ g x. (λ y l k o. x.0 y l k (fewer (call y (start_of l k)) o), x.1)) (λ p u s o x. x) (i.sent j what (fewer (call j what) n));
      told = λ j what answer n. told_stays w v what answer
          (λ g x. (λ y l k o. x.0 y l k (fewer (call y (start_of l k)) o), x.1))
          (λ g x. (λ y l k o. x.0 y l k (fewer (call y (start_of l k)) o), λ y q. elim q [ inl e ↦ λ z. x.0 id p secret m (ap (λ (n : Instance). n.generation) e ∙ z) | inr e ↦ x.1 y e ], x.2))
          (λ p n x. x) (i.told j what answer n);
      ready = i.ready;
      programs = λ q n. elim n [ inl e ↦ subst (λ (y : Instance). RunsFor w.held y) e (record { server = p.server; target = p.target }, ok.0, refl, refl) | inr e ↦ i.programs q e ];
      apart = (
        λ q n e. let a : RunsFor w.held q = i.programs q n in
            ok.2 q n (i.targets q.generation p.generation a.0 (record { server = p.server; target = p.target }) a.1 ok.0 (a.3 ∙ e)),
        i.apart,
      );
      listed = i.listed;
      over = i.over;
    }

-- a change of the table that lists no serial
pub table_less : (w : Seen) (table : Routes) → Harmless w.table table → Inv w → Inv (record w { table = table })
table_less w table h i = record {
  below = i.below;
  targets = i.targets;
  servers = i.servers;
  pooled = i.pooled;
  phases = i.phases;
  exact = h.exact i.exact;
  routes = λ p e s r k. i.routes p e s (h.fewer p e s r k) k;
  clean = λ g a x y. clean_stays w.table w.sent w.ready table w.sent w.ready a g (λ u. (λ p e r k. u.0 p e (h.fewer p e (2 * g) r k) k, u.1, u.2)) h.more (i.clean g a x y);
  sent = λ id what m. sent_stays w (record w { table = table }) id what m (λ j u n x. x) (λ g x. x) (λ p t s n x. seen_stays w.held w.next w.table.seen table.seen (segments p) t s h.more x) (i.sent id what m);
  told = λ id what answer m. told_stays w (record w { table = table }) what answer (λ g x. x) (λ g x. x) h.more (i.told id what answer m);
  ready = λ j m. seen_stays w.held w.next w.table.seen table.seen (path_of j.server) j.target (2 * j.generation) h.more (i.ready j m);
  programs = i.programs;
  apart = i.apart;
  listed = i.listed;
  over = i.over;
}

-- an addition that is on its way is listed
pub table_more : (w : Seen) (table : Routes) (id : ℕ) (p t : List ℕ) (s : ℕ) → Mem w.sent (call id (addition p t s)) → Adds w.table table (segments p) t s → Inv w → Inv (record w { table = table })
table_more w table id p t s m h i =
    let vouched : Vouched w.held w.next w.table.seen (segments p) t s = i.sent id (addition p t s) m in
    record {
      below = i.below;
      targets = i.targets;
      servers = i.servers;
      pooled = i.pooled;
      phases = i.phases;
      exact = h.exact i.exact;
      routes = λ q e n r k. elim (h.one q e n r k) [
        | inl old ↦ i.routes q e n old k
        | inr x ↦ elim vouched.3 [
          | inl l ↦ (vouched.0, sym x.2 ∙ vouched.1, (l.0, l.1, l.2 ∙ x.0, l.3 ∙ x.1))
          | inr y ↦ absurd (h.unseen (y.1.0, y.1.1, (let a : s ≡ 2 * vouched.0 = vouched.1 in let b : 2 * vouched.0 + 1 ≤ y.1.0 = y.1.2 in omega arith)))
        ]
      ];
      clean = λ j a x y. clean_stays w.table w.sent w.ready table w.sent w.ready a j
          (λ u. (λ q e r k. elim (h.one q e (2 * j) r k) [ inl old ↦ u.0 q e old k | inr x ↦ u.1 id p t s m x.2 ], u.1, u.2)) h.more (i.clean j a x y);
      sent = λ id what m. sent_stays w (record w { table = table }) id what m (λ j u n x. x) (λ g x. x) (λ p t s n x. seen_stays w.held w.next w.table.seen table.seen (segments p) t s h.more x) (i.sent id what m);
      told = λ id what answer m. told_stays w (record w { table = table }) what answer (λ g x. x) (λ g x. x) h.more (i.told id what answer m);
      ready = λ j m. seen_stays w.held w.next w.table.seen table.seen (path_of j.server) j.target (2 * j.generation) h.more (i.ready j m);
      programs = i.programs;
      apart = i.apart;
      listed = i.listed;
      over = i.over;
    }

-- what may go on its way, but for a start
abbrev pub NewOk : Seen → What → Type 0
NewOk w (Spawn (S.Start g k t secret)) = ⊥
NewOk w (Spawn (S.Stop g t)) = NoStart w.sent g × (g < w.next)
NewOk w (Spawn (S.Poll g t)) = Unit {0}
NewOk w (Route (R.Add p t (Some s))) =
    Vouched w.held w.next w.table.seen (segments p) t s × ((h : ℕ) (a : Lease) → w.held h ≡ Some a → is_clean (w.life h).phase ≡ true → Unsent w.table w.sent w.ready h → s ≢ 2 * h)
NewOk w (Route (R.Add p t None)) = Unit {0}
NewOk w (Route (R.Delete p s)) = Unit {0}
NewOk w (Route R.List) = Unit {0}

new_not_start : (w : Seen) (what : What) → NewOk w what → (i : Instance) (secret : List ℕ) → what ≡ start_of i secret → ⊥
new_not_start w (Spawn (S.Start g k t secret)) x l u e = x
new_not_start w (Spawn (S.Stop g t)) x l u e = cc
new_not_start w (Spawn (S.Poll g t)) x l u e = cc
new_not_start w (Route c) x l u e = cc

new_addition : (w : Seen) (what : What) → NewOk w what → (h : ℕ) (a : Lease) → w.held h ≡ Some a → is_clean (w.life h).phase ≡ true → Unsent w.table w.sent w.ready h
    → (p t : List ℕ) (s : ℕ) → what ≡ addition p t s → s ≢ 2 * h
new_addition w (Spawn c) x h a e f u p' t' s' q = cc
new_addition w (Route (R.Add p t (Some s))) x h a e f u p' t' s' q = let z : s ≡ s' = cc in λ y. x.1 h a e f u (z ∙ y)
new_addition w (Route (R.Add p t None)) x h a e f u p' t' s' q = cc
new_addition w (Route (R.Delete p s)) x h a e f u p' t' s' q = cc
new_addition w (Route R.List) x h a e f u p' t' s' q = cc

start_free : (sent : List Call) (c : Call) (h : ℕ) → ((i : Instance) (secret : List ℕ) → c.what ≡ start_of i secret → ⊥) → NoStart sent h → NoStart (c ∷ sent) h
start_free sent c h f x = λ j l k m. elim m [ inl e ↦ absurd (f l k (ap (λ (y : Call). y.what) e)) | inr n ↦ x j l k n ]

new_sent : (w : Seen) (xs : List Call) (id : ℕ) (what : What) → NewOk w what → ((g : ℕ) → NoStart w.sent g × (g < w.next) → NoStart xs g × (g < w.next)) → SentOk (record w { sent = xs }) id what
new_sent w xs id (Spawn (S.Start g k t secret)) x f = absurd x
new_sent w xs id (Spawn (S.Stop g t)) x f = f g x
new_sent w xs id (Spawn (S.Poll g t)) x f = tt
new_sent w xs id (Route (R.Add p t (Some s))) x f = x.0
new_sent w xs id (Route (R.Add p t None)) x f = tt
new_sent w xs id (Route (R.Delete p s)) x f = tt
new_sent w xs id (Route R.List) x f = tt

-- more is on its way
pub sends_more : (w : Seen) (id : ℕ) (what : What) → NewOk w what → Inv w → Inv (record w { sent = call id what ∷ w.sent })
sends_more w id what x i =
    let free : (h : ℕ) → NoStart w.sent h → NoStart (call id what ∷ w.sent) h = λ h n. start_free w.sent (call id what) h (new_not_start w what x) n in
    let v : Seen = record w { sent = call id what ∷ w.sent } in
    record {
      below = i.below;
      targets = i.targets;
      servers = i.servers;
      pooled = i.pooled;
      phases = i.phases;
      exact = i.exact;
      routes = i.routes;
      clean = λ h a e f. elim (i.clean h a e f) [
        | inl u ↦ inl (u.0, λ j p t s m. elim m [ inl y ↦ new_addition w what x h a e f u p t s (ap (λ (z : Call). z.what) y) | inr n ↦ u.1 j p t s n ], u.2)
        | inr y ↦ inr y
      ];
      sent = λ j what' m. elim m [
        | inl e ↦ subst (λ (c : Call). SentOk v c.id c.what) e (new_sent w (call id what ∷ w.sent) id what x (λ g y. (free g y.0, y.1)))
        | inr n ↦ sent_stays w v j what' n
            (λ k u o y. (y.0, y.1, y.2, λ a l u' b q. elim b [ inl e ↦ absurd (new_not_start w what x l u' (ap (λ (z : Call). z.what) e)) | inr c ↦ y.3 a l u' c q ]))
            (λ g y. (free g y.0, y.1)) (λ p t s o y. y) (i.sent j what' n)
      ];
      told = λ j what' answer m. told_stays w v what' answer (λ g y. (free g y.0, y.1)) (λ g y. (free g y.0, y.1, y.2)) (λ p n y. y) (i.told j what' answer m);
      ready = i.ready;
      programs = i.programs;
      apart = i.apart;
      listed = i.listed;
      over = i.over;
    }

-- the life of a lease goes on
pub lives_on : (w : Seen) (g : ℕ) (a : Lease) (l : Life) → w.held g ≡ Some a → generation_of l.phase ≡ Some g → (is_clean l.phase ≡ true → Clean w.table w.sent w.ready a g) → NoStart w.sent g ⊎ (is_spawning l.phase ≡ true)
    → Inv w → Inv (record w { life = at w.life g l })
lives_on w g a l e own c n i =
    let v : Seen = record w { life = at w.life g l } in
    record {
      below = i.below;
      targets = i.targets;
      servers = i.servers;
      pooled = i.pooled;
      phases = λ h b f. elim (at_cases w.life g l h) [
        | inl x ↦ ap (λ (y : Life). generation_of y.phase) x.1 ∙ (own ∙ ap Some x.0)
        | inr x ↦ ap (λ (y : Life). generation_of y.phase) x.1 ∙ i.phases h b f
      ];
      exact = i.exact;
      routes = i.routes;
      clean = λ h b f k. elim (at_cases w.life g l h) [
        | inl x ↦ subst (λ (y : Lease). Clean w.table w.sent w.ready y h) (same_lease w.held g h a b e f x.0)
            (subst (λ y. Clean w.table w.sent w.ready a y) x.0 (c (ap (λ (y : Life). is_clean y.phase) (sym x.1) ∙ k)))
        | inr x ↦ i.clean h b f (ap (λ (y : Life). is_clean y.phase) (sym x.1) ∙ k)
      ];
      sent = λ j what m. sent_stays w v j what m
          (λ k u o y. (
            y.0,
            elim (at_cases w.life g l k.generation) [
              | inl x ↦ elim n [ inl z ↦ absurd (z j k u o (sym x.0)) | inr z ↦ ap (λ (q : Life). is_spawning q.phase) x.1 ∙ z ]
              | inr x ↦ ap (λ (q : Life). is_spawning q.phase) x.1 ∙ y.1
            ],
            y.2,
            y.3,
          ))
          (λ g y. y) (λ p t s o y. y) (i.sent j what m);
      told = λ j what answer m. told_stays w v what answer (λ g y. y) (λ g y. y) (λ p n y. y) (i.told j what answer m);
      ready = i.ready;
      programs = i.programs;
      apart = i.apart;
      listed = i.listed;
      over = i.over;
    }

freed_held : (held : ℕ → Option Lease) (g h : ℕ) (a : Lease) → at held g None h ≡ Some a → (g ≢ h) × (held h ≡ Some a)
freed_held held g h a e = elim (at_cases held g None h) [ inl x ↦ none_some a (sym x.1 ∙ e) | inr x ↦ (x.0, sym x.1 ∙ e) ]

freed_vouched : (held : ℕ → Option Lease) (next : ℕ) (table : Routes) (sent : List Call) (ready : List Instance) (g : ℕ) (a : Lease) (p : Path) (t : List ℕ) (s : ℕ)
    → held g ≡ Some a → Clean table sent ready a g → (Unsent table sent ready g → s ≢ 2 * g) → Vouched held next table.seen p t s → Vouched (at held g None) next table.seen p t s
freed_vouched held next table sent ready g a p t s e c f v = (
  v.0,
  v.1,
  v.2,
  elim (at_cases held g None v.0) [
    | inl x ↦ inr (
      x.1,
      elim v.3 [
        | inl l ↦ elim c [
          | inl u ↦ absurd (f u (v.1 ∙ ap (λ y. 2 * y) (sym x.0)))
          | inr y ↦ subst (λ q. SeenPast table.seen q (2 * v.0 + 1)) (ap (λ (z : Lease). path_of z.server) (same_lease held g v.0 a l.0 e l.1 x.0) ∙ l.2)
              (subst (λ q. SeenPast table.seen (path_of a.server) (2 * q + 1)) x.0 y)
        ]
        | inr y ↦ y.1
      ],
    )
    | inr x ↦ elim v.3 [ inl l ↦ inl (l.0, x.1 ∙ l.1, l.2, l.3) | inr y ↦ inr (x.1 ∙ y.0, y.1) ]
  ],
)

-- a lease ends
pub frees : (w : Seen) (g : ℕ) (a : Lease) (l : Life) → w.held g ≡ Some a → Gone w.sent w.programs w.next g → Clean w.table w.sent w.ready a g → Inv w
    → Inv (record w { held = at w.held g None; life = at w.life g l })
frees w g a l e gone c i =
    let v : Seen = record w { held = at w.held g None; life = at w.life g l } in
    let back : (h : ℕ) (b : Lease) → at w.held g None h ≡ Some b → w.held h ≡ Some b = λ h b f. (freed_held w.held g h b f).1 in
    let still : (h : ℕ) → g ≢ h → at w.life g l h ≡ w.life h = λ h n. elim (at_cases w.life g l h) [ inl x ↦ absurd (n x.0) | inr x ↦ x.1 ] in
    record {
      below = λ h b f. i.below h b (back h b f);
      targets = λ h j b d f k q. i.targets h j b d (back h b f) (back j d k) q;
      servers = λ h j b d f k q. i.servers h j b d (back h b f) (back j d k) q;
      pooled = λ h b f. i.pooled h b (back h b f);
      phases = λ h b f. let r = freed_held w.held g h b f in ap (λ (y : Life). generation_of y.phase) (still h r.0) ∙ i.phases h b r.1;
      exact = i.exact;
      routes = λ p x s r k. let l = i.routes p x s r k in elim (at_cases w.held g None l.0) [
        | inl y ↦ elim c [
          | inl u ↦ absurd (u.0 p x r (k ∙ ap Some (l.1 ∙ ap (λ z. 2 * z) (sym y.0))))
          | inr z ↦ absurd (
              let q : path_of a.server ≡ p = ap (λ (n : Lease). path_of n.server) (same_lease w.held g l.0 a l.2.0 e l.2.1 y.0) ∙ l.2.2 in
              let m : z.0 ≡ s = some_same z.0 s (sym z.1 ∙ (ap w.table.seen q ∙ i.exact p x s r k)) in
              let n : 2 * g + 1 ≤ z.0 = z.2 in let o : s ≡ 2 * l.0 = l.1 in let t : g ≡ l.0 = y.0 in omega arith)
        ]
        | inr y ↦ (l.0, l.1, (l.2.0, y.1 ∙ l.2.1, l.2.2, l.2.3))
      ];
      clean = λ h b f k. let r = freed_held w.held g h b f in i.clean h b r.1 (ap (λ (y : Life). is_clean y.phase) (sym (still h r.0)) ∙ k);
      sent = λ j what m. sent_stays w v j what m
          (λ k u o y.
          let other : g ≢ k.generation = λ x. gone.0 j k u o (sym x) in
          (elim (at_cases w.held g None k.generation) [ inl x ↦ absurd (other x.0) | inr x ↦ x.1 ∙ y.0 ], ap (λ (q : Life). is_spawning q.phase) (still k.generation other) ∙ y.1, y.2, y.3))
          (λ g y. y) (λ p t s o y. freed_vouched w.held w.next w.table w.sent w.ready g a (segments p) t s e c (λ u. u.1 j p t s o) y) (i.sent j what m);
      told = λ j what answer m. told_stays w v what answer (λ g y. y) (λ g y. y) (λ p n y. y) (i.told j what answer m);
      ready = λ k m. freed_vouched w.held w.next w.table w.sent w.ready g a (path_of k.server) k.target (2 * k.generation) e c (λ u q. u.2 k m (omega (arith, q))) (i.ready k m);
      programs = λ p m. let l = i.programs p m in elim (at_cases w.held g None p.generation) [ inl x ↦ absurd (gone.1 p m (sym x.0)) | inr x ↦ (l.0, x.1 ∙ l.1, l.2, l.3) ];
      apart = i.apart;
      listed = i.listed;
      over = λ x m. let o = i.over x m in (o.0, o.1, o.2, λ b f. o.3 b (back o.0 b f));
    }

later_vouched : (held : ℕ → Option Lease) (next next' : ℕ) (seen : Path → Option ℕ) (p : Path) (t : List ℕ) (s : ℕ) → next ≤ next' → Vouched held next seen p t s → Vouched held next' seen p t s
later_vouched held next next' seen p t s le v = let l : v.0 < next = v.2 in (v.0, v.1, omega (arith, le), v.3)

-- the leases stay, where no start is on its way
pub adopts : (w : Seen) (pool : List (List ℕ)) (next : ℕ) (life : ℕ → Life) → ((g : ℕ) (a : Lease) → w.held g ≡ Some a → Contains pool a.target) → w.next ≤ next
    → ((g : ℕ) (a : Lease) → w.held g ≡ Some a → (generation_of (life g).phase ≡ Some g) × (is_clean (life g).phase ≡ false))
    → ((id : ℕ) (i : Instance) (secret : List ℕ) → Mem w.sent (call id (start_of i secret)) → ⊥) → Inv w → Inv (record w { pool = pool; next = next; life = life })
adopts w pool next life there le own f i =
    let v : Seen = record w { pool = pool; next = next; life = life } in
    let less : (g : ℕ) → g < w.next → g < next = λ g l. omega (arith, l, le) in
    record {
      below = λ g a e. less g (i.below g a e);
      targets = i.targets;
      servers = i.servers;
      pooled = there;
      phases = λ g a e. (own g a e).0;
      exact = i.exact;
      routes = i.routes;
      clean = λ h b e k. let z : is_clean (life h).phase ≡ false = (own h b e).1 in cc;
      sent = λ j what m. sent_stays w v j what m (λ k u o y. absurd (f j k u o)) (λ g y. (y.0, less g y.1)) (λ p t s o y. later_vouched w.held w.next next w.table.seen (segments p) t s le y) (i.sent j what m);
      told = λ j what answer m. told_stays w v what answer (λ g y. (y.0, less g y.1)) (λ g y. (y.0, y.1, less g y.2)) (λ p n y. y) (i.told j what answer m);
      ready = λ k m. later_vouched w.held w.next next w.table.seen (path_of k.server) k.target (2 * k.generation) le (i.ready k m);
      programs = i.programs;
      apart = i.apart;
      listed = λ x m. let o = i.listed x m in (o.0, o.1, less o.0 o.2);
      over = λ x m. let o = i.over x m in (o.0, o.1, less o.0 o.2, o.3);
    }

-- one more was seen ready
pub ready_more : (w : Seen) (k : Instance) → Vouched w.held w.next w.table.seen (path_of k.server) k.target (2 * k.generation) → ((h : ℕ) → is_clean (w.life h).phase ≡ true → k.generation ≢ h)
    → Inv w → Inv (record w { ready = k ∷ w.ready })
ready_more w k x f i = record {
  below = i.below;
  targets = i.targets;
  servers = i.servers;
  pooled = i.pooled;
  phases = i.phases;
  exact = i.exact;
  routes = i.routes;
  clean = λ h a e c. elim (i.clean h a e c) [
    | inl u ↦ inl (u.0, u.1, λ j m. elim m [ inl z ↦ λ q. f h c (ap (λ (n : Instance). n.generation) z ∙ q) | inr n ↦ u.2 j n ])
    | inr y ↦ inr y
  ];
  sent = i.sent;
  told = i.told;
  ready = λ j m. elim m [ inl z ↦ subst (λ (n : Instance). Vouched w.held w.next w.table.seen (path_of n.server) n.target (2 * n.generation)) z x | inr n ↦ i.ready j n ];
  programs = i.programs;
  apart = i.apart;
  listed = i.listed;
  over = i.over;
}

-- one more listed serial was seen, or one whose generation isn't live for the path
pub listed_more : (w : Seen) (x : Listing) → WasGiven w.next x → Inv w → Inv (record w { listed = x ∷ w.listed })
listed_more w x g i = record {
  below = i.below;
  targets = i.targets;
  servers = i.servers;
  pooled = i.pooled;
  phases = i.phases;
  exact = i.exact;
  routes = i.routes;
  clean = i.clean;
  sent = i.sent;
  told = i.told;
  ready = i.ready;
  programs = i.programs;
  apart = i.apart;
  listed = λ y m. elim m [ inl z ↦ subst (λ (n : Listing). WasGiven w.next n) z g | inr n ↦ i.listed y n ];
  over = i.over;
}

pub over_more : (w : Seen) (x : Listing) → IsOverFor w.held w.next x → Inv w → Inv (record w { over = x ∷ w.over })
over_more w x g i = record {
  below = i.below;
  targets = i.targets;
  servers = i.servers;
  pooled = i.pooled;
  phases = i.phases;
  exact = i.exact;
  routes = i.routes;
  clean = i.clean;
  sent = i.sent;
  told = i.told;
  ready = i.ready;
  programs = i.programs;
  apart = i.apart;
  listed = i.listed;
  over = λ y m. elim m [ inl z ↦ subst (λ (n : Listing). IsOverFor w.held w.next n) z g | inr n ↦ i.over y n ];
}

-- ---- a lease begins

keep_held : (w : Seen) (o : Option Lease) (h : ℕ) (a : Lease) → Inv w → w.held h ≡ Some a → at w.held w.next o h ≡ Some a
keep_held w o h a i e = elim (at_cases w.held w.next o h) [
  | inl x ↦ absurd (let l : h < w.next = i.below h a e in let q : w.next ≡ h = x.0 in omega arith)
  | inr x ↦ x.1 ∙ e
]

keep_vouched : (w : Seen) (o : Option Lease) (p : Path) (t : List ℕ) (s : ℕ) → Inv w → Vouched w.held w.next w.table.seen p t s → Vouched (at w.held w.next o) (w.next + 1) w.table.seen p t s
keep_vouched w o p t s i v = let l : v.0 < w.next = v.2 in (
  v.0,
  v.1,
  omega arith,
  elim v.3 [
    | inl y ↦ inl (y.0, keep_held w o v.0 y.0 i y.1, y.2, y.3)
    | inr y ↦ inr (
      elim (at_cases w.held w.next o v.0) [
        | inl x ↦ absurd (let q : w.next ≡ v.0 = x.0 in omega arith)
        | inr x ↦ x.1 ∙ y.0
      ],
      y.1,
    )
  ],
)

-- the serial of the next generation stands nowhere
unused : (w : Seen) (p : Path) (t : List ℕ) (s : ℕ) → Vouched w.held w.next w.table.seen p t s → s ≢ 2 * w.next
unused w p t s v e = let l : v.0 < w.next = v.2 in let q : s ≡ 2 * v.0 = v.1 in absurd (omega arith)

at_self : {A : Type 0} (f : ℕ → A) (g : ℕ) (x : A) → at f g x g ≡ x
at_self f g x = elim (at_cases f g x g) [ inl e ↦ e.1 | inr e ↦ absurd (e.0 refl) ]

at_other : {A : Type 0} (f : ℕ → A) (g : ℕ) (x : A) (h : ℕ) → g ≢ h → at f g x h ≡ f h
at_other f g x h n = elim (at_cases f g x h) [ inl e ↦ absurd (n e.0) | inr e ↦ e.1 ]

start_is_no_addition : (i : Instance) (secret p t : List ℕ) (s : ℕ) {A : Type 0} → start_of i secret ≡ addition p t s → A
start_is_no_addition i secret p t s e = cc

start_generation : (i j : Instance) (a b : List ℕ) → start_of i a ≡ start_of j b → i.generation ≡ j.generation
start_generation i j a b e = cc

abbrev pub new_life : ℕ → Life
new_life g = record { phase = Spawning g; stop_asked = false }

pub begins_so : (w : Seen) (id : ℕ) (key : ServerKey) (target secret : List ℕ) → ((g : ℕ) (a : Lease) → w.held g ≡ Some a → a.server ≢ key)
    → ((g : ℕ) (a : Lease) → w.held g ≡ Some a → a.target ≢ target) → Contains w.pool target → Inv w
    → Inv (record w {
      next = w.next + 1;
      held = at w.held w.next (Some (record { server = key; target = target }));
      life = at w.life w.next (new_life w.next);
      sent = call id (start_of (record { generation = w.next; server = key; target = target }) secret) ∷ w.sent;
    })
begins_so w id key target secret unleased unheld there i =
    let lease : Lease = record { server = key; target = target } in
    let start : Instance = record { generation = w.next; server = key; target = target } in
    let v : Seen = record w { next = w.next + 1; held = at w.held w.next (Some lease); life = at w.life w.next (new_life w.next); sent = call id (start_of start secret) ∷ w.sent } in
    let old : (h : ℕ) (a : Lease) → w.held h ≡ Some a → at w.held w.next (Some lease) h ≡ Some a = λ h a e. keep_held w (Some lease) h a i e in
    let which : (h : ℕ) (a : Lease) → at w.held w.next (Some lease) h ≡ Some a → ((w.next ≡ h) × (lease ≡ a)) ⊎ ((w.next ≢ h) × (w.held h ≡ Some a)) = λ h a e. elim (at_cases w.held w.next (Some lease) h) [
      | inl x ↦ inl (x.0, some_same lease a (sym x.1 ∙ e))
      | inr x ↦ inr (x.0, sym x.1 ∙ e)
    ] in
    let free : (h : ℕ) → NoStart w.sent h × (h < w.next) → NoStart v.sent h × (h < v.next) = λ h n. (
      λ j l k m. elim m [
        | inl x ↦ λ q. absurd (let a : w.next ≡ l.generation = start_generation start l secret k (ap (λ (c : Call). c.what) x) in let b : h < w.next = n.1 in let z : l.generation ≡ h = q in omega arith)
        | inr o ↦ n.0 j l k o
      ],
      (let b : h < w.next = n.1 in omega arith),
    ) in
    record {
      below = λ h a e. elim (which h a e) [
        | inl x ↦ (let q : w.next ≡ h = x.0 in omega arith)
        | inr x ↦ (let l : h < w.next = i.below h a x.1 in omega arith)
      ];
      targets = λ g h a b e k q. elim (which g a e) [
        | inl x ↦ elim (which h b k) [
          | inl y ↦ sym x.0 ∙ y.0
          | inr y ↦ absurd (unheld h b y.1 (sym q ∙ ap (λ (n : Lease). n.target) (sym x.1)))
        ]
        | inr x ↦ elim (which h b k) [
          | inl y ↦ absurd (unheld g a x.1 (q ∙ ap (λ (n : Lease). n.target) (sym y.1)))
          | inr y ↦ i.targets g h a b x.1 y.1 q
        ]
      ];
      servers = λ g h a b e k q. elim (which g a e) [
        | inl x ↦ elim (which h b k) [
          | inl y ↦ sym x.0 ∙ y.0
          | inr y ↦ absurd (unleased h b y.1 (sym q ∙ ap (λ (n : Lease). n.server) (sym x.1)))
        ]
        | inr x ↦ elim (which h b k) [
          | inl y ↦ absurd (unleased g a x.1 (q ∙ ap (λ (n : Lease). n.server) (sym y.1)))
          | inr y ↦ i.servers g h a b x.1 y.1 q
        ]
      ];
      pooled = λ h a e. elim (which h a e) [
        | inl x ↦ subst (λ (n : Lease). Contains w.pool n.target) x.1 there
        | inr x ↦ i.pooled h a x.1
      ];
      phases = λ h a e. elim (which h a e) [
        | inl x ↦ subst (λ (n : ℕ). generation_of (at w.life w.next (new_life w.next) n).phase ≡ Some n) x.0 (ap (λ (y : Life). generation_of y.phase) (at_self w.life w.next (new_life w.next)))
        | inr x ↦ ap (λ (y : Life). generation_of y.phase) (at_other w.life w.next (new_life w.next) h x.0) ∙ i.phases h a x.1
      ];
      exact = i.exact;
      routes = λ p e s r k. let l = i.routes p e s r k in (l.0, l.1, (l.2.0, old l.0 l.2.0 l.2.1, l.2.2, l.2.3));
      clean = λ h a e c. elim (which h a e) [
        | inl x ↦ inl (
          λ p n r k. absurd (let l = i.routes p n (2 * h) r k in let b : l.0 < w.next = i.below l.0 l.2.0 l.2.1 in let q : 2 * h ≡ 2 * l.0 = l.1 in let z : w.next ≡ h = x.0 in omega arith),
          λ j p t s m. elim m [
            | inl y ↦ start_is_no_addition start secret p t s (ap (λ (n : Call). n.what) y)
            | inr y ↦ λ q. unused w (segments p) t s (i.sent j (addition p t s) y) (q ∙ ap (λ n. 2 * n) (sym x.0))
          ],
          λ j m q. unused w (path_of j.server) j.target (2 * j.generation) (i.ready j m) (ap (λ n. 2 * n) (q ∙ sym x.0)),
        )
        | inr x ↦ elim (i.clean h a x.1 (ap (λ (y : Life). is_clean y.phase) (sym (at_other w.life w.next (new_life w.next) h x.0)) ∙ c)) [
          | inl y ↦ inl (y.0, λ j p t s m. elim m [ inl z ↦ start_is_no_addition start secret p t s (ap (λ (n : Call). n.what) z) | inr z ↦ y.1 j p t s z ], y.2)
          | inr y ↦ inr y
        ]
      ];
      sent = λ j what m. elim m [
        | inl x ↦ subst (λ (c : Call). SentOk v c.id c.what) x (
          at_self w.held w.next (Some lease),
          ap (λ (y : Life). is_spawning y.phase) (at_self w.life w.next (new_life w.next)),
          λ p n q. (let l = i.programs p n in let b : p.generation < w.next = i.below p.generation l.0 l.1 in let z : p.generation ≡ w.next = q in absurd (omega arith)),
          λ y l u n q. elim n [
            | inl z ↦ sym (ap (λ (c : Call). c.id) z)
            | inr z ↦ (let o = i.sent y (start_of l u) z in let b : l.generation < w.next = i.below l.generation (record { server = l.server; target = l.target }) o.0 in let r : l.generation ≡ w.next = q in absurd (omega arith))
          ],
        )
        | inr n ↦ sent_stays w v j what n
            (λ k u o y.
            let own : k.generation < w.next = i.below k.generation (record { server = k.server; target = k.target }) y.0 in (
              old k.generation (record { server = k.server; target = k.target }) y.0,
              ap (λ (z : Life). is_spawning z.phase) (at_other w.life w.next (new_life w.next) k.generation (λ q. let z : w.next ≡ k.generation = q in omega arith)) ∙ y.1,
              y.2,
              λ a l u' c q. elim c [
                | inl z ↦ absurd (let r : w.next ≡ l.generation = start_generation start l secret u' (ap (λ (n : Call). n.what) z) in let s : l.generation ≡ k.generation = q in omega arith)
                | inr z ↦ y.3 a l u' z q
              ],
            ))
            free (λ p t s o y. keep_vouched w (Some lease) (segments p) t s i y) (i.sent j what n)
      ];
      told = λ j what answer m. told_stays w v what answer free (λ h y. let z = free h (y.0, y.2) in (z.0, y.1, z.1)) (λ p n y. y) (i.told j what answer m);
      ready = λ k m. keep_vouched w (Some lease) (path_of k.server) k.target (2 * k.generation) i (i.ready k m);
      programs = λ p m. let l = i.programs p m in (l.0, old p.generation l.0 l.1, l.2, l.3);
      apart = i.apart;
      listed = λ x m. let o = i.listed x m in let l : o.0 < w.next = o.2 in (o.0, o.1, omega arith);
      over = λ x m. let o = i.over x m in let l : o.0 < w.next = o.2 in (
        o.0,
        o.1,
        omega arith,
        λ b f. elim (which o.0 b f) [
          | inl y ↦ absurd (let q : w.next ≡ o.0 = y.0 in omega arith)
          | inr y ↦ o.3 b y.1
        ],
      );
    }
