-- The history of a job: its posts, and nothing else.
use Rattle.std.proofs.Common.{◌≡◌, ◌<◌, ◌≤◌, ◌+◌, ◌*◌, arith, ℕ, zero, suc, List, [], ◌∷◌, ◌++◌, length, map, All, Some, Result, Ok, Err, append_assoc, append-nil, length-append, refl, sym, ap, ◌∙◌, subst}
use Rattle.std.proofs.lemmas.List.Elements.{All-cons, All-nil, All-head, All-tail}
use Rattle.hub_core.specs.History.{state_after}
use Rattle.hub_core.specs.Visits.{Entry}
use Rattle.hub_core.specs.declared.start.Start.{Start}
use Rattle.hub_devices.specs.declared.link_error.LinkError.{LinkError}
use Rattle.hub_link.specs.Links.{Exchange, Chain}
use Rattle.hub_link.specs.Replies.{IsReply}
use Rattle.hub_machine.specs.State.{Hub}
use Rattle.hub_machine.specs.declared.change.Change.{Change}
use Rattle.hub_run.specs.Turns.{View}
use Rattle.load_asks.specs.Numbers.{draw, asked_at, name, token}
use Rattle.load_asks.specs.Posts.{posts, request_of, IsAccepted}
use Rattle.load_asks.specs.Requests.{user_request, token_request}
use Rattle.direct_link.specs.Direct.{Direct}
use Rattle.direct_link.specs.Verdicts.{Admits, HoldsAt}
use Rattle.hub_loading.proofs.PostedLemmas.{Stands, state_is, user_posted, token_posted}
use Rattle.hub_loading.proofs.SameLemmas.{chain_same}
use Rattle.hub_loading.specs.Jobs.{PostsAll, Begins, IsDecided, AreDecided}
use Rattle.hub_loading.specs.Posted.{user_change, token_change, history_of}
use Rattle.hub_loading.specs.Rounds.{Rounds, AskedBy}
use Rattle.hub_loading.specs.Seeing.{IsSeen}
use Rattle.hub_loading.specs.Setting.{draws}
use Rattle.hub_loading.specs.declared.rounds.Round.{Round}

-- ---- the last two of some asks

-- one request was asked, and accepted
abbrev Post : List ℕ → View → View → Type 0
Post request x y = (bytes body : List ℕ) × Direct x request (Ok bytes) y × IsReply bytes 201 body

-- first these, and then two more
pub record Parted (rs : List (List ℕ)) (one two : List ℕ) (x y : View) : Type 0 where
  pub before : List Exchange
  pub are : map request_of before ≡ rs
  pub accepted : All IsAccepted before
  pub between : View
  pub chain : Chain Direct x before between
  pub middle : View
  pub first : Post one between middle
  pub second : Post two middle y

one_post : (r request : List ℕ) (given : Result (List ℕ) LinkError) (x y : View) → r ≡ request → IsAccepted (r, given) → Direct x r given y → Post request x y
one_post r request (Ok bytes) x y is (body, reply) direct = (bytes, body, subst (λ (t : List ℕ). Direct x t (Ok bytes) y) is direct, reply)
one_post r request (Err e) x y is accepted direct = absurd accepted

head_same : (a b : List ℕ) (xs ys : List (List ℕ)) → a ∷ xs ≡ b ∷ ys → a ≡ b
head_same a b xs ys e = cc

behind : (a b : List ℕ) (xs ys : List (List ℕ)) → a ∷ xs ≡ b ∷ ys → xs ≡ ys
behind a b xs ys e = cc

not_none : (a : List ℕ) (xs : List (List ℕ)) → [] ≡ a ∷ xs → ⊥
not_none a xs e = cc e

not_more : (a : List ℕ) (xs : List (List ℕ)) → a ∷ xs ≡ [] → ⊥
not_more a xs e = cc e

parted : (rs : List (List ℕ)) (one two : List ℕ) (asks : List Exchange) (x y : View) → map request_of asks ≡ rs ++ (one ∷ two ∷ []) → All IsAccepted asks
    → Chain Direct x asks y → Parted rs one two x y
parted [] one two [] x y are all chain = absurd (not_none one (two ∷ []) are)
parted [] one two ((a, f) ∷ []) x y are all chain = absurd (not_none two [] (behind a one [] (two ∷ []) are))
parted [] one two ((a, f) ∷ (b, g) ∷ []) x y are all (z, direct, (w, next, end)) =
    let rest : All IsAccepted ((b, g) ∷ []) = All-tail IsAccepted (a, f) ((b, g) ∷ []) all in
    record {
      before = [];
      are = refl;
      accepted = All-nil IsAccepted;
      between = x;
      chain = refl;
      middle = z;
      first = one_post a one f x z (head_same a one (b ∷ []) (two ∷ []) are) (All-head IsAccepted (a, f) ((b, g) ∷ []) all) direct;
      second = one_post b two g z y (head_same b two [] [] (behind a one (b ∷ []) (two ∷ []) are)) (All-head IsAccepted (b, g) [] rest)
          (subst (λ (v : View). Direct z b g v) (sym end) next);
    }
parted [] one two ((a, f) ∷ (b, g) ∷ c ∷ es) x y are all chain =
    absurd (not_more (request_of c) (map request_of es) (behind b two (request_of c ∷ map request_of es) [] (behind a one (b ∷ request_of c ∷ map request_of es) (two ∷ []) are)))
parted (r ∷ rs) one two [] x y are all chain = absurd (not_none r (rs ++ (one ∷ two ∷ [])) are)
parted (r ∷ rs) one two ((a, f) ∷ es) x y are all (z, direct, more) =
    let rest : Parted rs one two z y =
    parted rs one two es z y (behind a r (map request_of es) (rs ++ (one ∷ two ∷ [])) are) (All-tail IsAccepted (a, f) es all) more in
    let same : a ≡ r = head_same a r (map request_of es) (rs ++ (one ∷ two ∷ [])) are in
    record {
      before = (a, f) ∷ rest.before;
      are = cons_same a r (map request_of rest.before) rs same rest.are;
      accepted = All-cons IsAccepted (a, f) rest.before (All-head IsAccepted (a, f) es all) rest.accepted;
      between = rest.between;
      chain = (z, direct, rest.chain);
      middle = rest.middle;
      first = rest.first;
      second = rest.second;
    }
  where
    cons_same : (a b : List ℕ) (xs ys : List (List ℕ)) → a ≡ b → xs ≡ ys → a ∷ xs ≡ b ∷ ys
    cons_same a b xs ys one two = cc (one, two)

-- ---- all posts

next_of : (k : ℕ) → suc k ≡ k + 1
next_of k = omega arith

no_asks : (asks : List Exchange) → map request_of asks ≡ [] → asks ≡ []
no_asks [] is = refl
no_asks (e ∷ es) is = absurd (not_more (request_of e) (map request_of es) is)

-- what the posts of the first users leave, where these draws are left behind theirs
pub record Left (start : Start) (k : ℕ) (ds : List (List ℕ)) (y : View) : Type 0 where
  pub stands : Stands start (history_of start.machine k) y
  pub drawn : y.draws ≡ Some ds

two_left : (start : Start) (k : ℕ) (ds : List (List ℕ)) (x z y : View) → k < 1000000 → Left start k (draw (suc k) ∷ ds) x
    → Post (user_request k) x z → Post (token_request k) z y → Left start (suc k) ds y
two_left start k ds x z y few left (b, text, one, user) (c, body, two, own) =
    let h : List Change = history_of start.machine k in
    let put = user_posted start h k few x z b text left.stands user one in
    let has : z.draws ≡ Some (draw (k + 1) ∷ ds) = put.1 ∙ (left.drawn ∙ ap (λ (n : ℕ). Some (draw n ∷ ds)) (next_of k)) in
    let made = token_posted start (h ++ user_change k ∷ []) k few z y c body put.0 own ds has two in
    record { stands = made.0; drawn = made.1 }

posts_left : (start : Start) (k : ℕ) (ds : List (List ℕ)) (asks : List Exchange) (x y : View) → k ≤ 1000000 → Stands start [] x
    → x.draws ≡ Some (draws k ++ ds) → map request_of asks ≡ posts k → All IsAccepted asks → Chain Direct x asks y → Left start k ds y
posts_left start zero ds asks x y few stands has are all chain =
    let none : asks ≡ [] = no_asks asks are in
    let same : y ≡ x = subst (λ (es : List Exchange). Chain Direct x es y) none chain in
    subst (λ (v : View). Left start zero ds v) (sym same) (record { stands = stands; drawn = has })
posts_left start (suc k) ds asks x y few stands has are all chain =
    let apart : Parted (posts k) (user_request k) (token_request k) x y = parted (posts k) (user_request k) (token_request k) asks x y are all chain in
    let own : x.draws ≡ Some (draws k ++ (draw (suc k) ∷ ds)) = has ∙ ap (λ (t : List (List ℕ)). Some t) (append_assoc (draws k) (draw (suc k) ∷ []) ds) in
    let before : Left start k (draw (suc k) ∷ ds) apart.between =
    posts_left start k (draw (suc k) ∷ ds) apart.before x apart.between (omega (arith, few)) stands own apart.are apart.accepted apart.chain in
    two_left start k ds apart.between apart.middle y (omega (arith, few)) before apart.first apart.second

pub all_posted : (start : Start) (users : ℕ) (x y : View) → users ≤ 1000000 → Begins start users x → PostsAll users x y
    → Stands start (history_of start.machine users) y
all_posted start users x y few begins posted =
    let stands : Stands start [] x = record { base = begins.base; alone = begins.alone; seen = begins.seen; clock = begins.clock } in
    (posts_left start users [] posted.asks x y few stands
    (begins.draws ∙ ap (λ (t : List (List ℕ)). Some t) (sym (append-nil (draws users)))) posted.are posted.accepted posted.chain).stands

-- ---- two entries for each

pub twice_long : (s : Hub) (n : ℕ) → length (history_of s n) ≡ 2 * n
twice_long s zero = refl
twice_long s (suc n) =
    let users : List Change = history_of s n ++ user_change n ∷ [] in
    length-append users (token_change n (state_after s users) ∷ [])
    ∙ (ap (λ (m : ℕ). m + 1) (length-append (history_of s n) (user_change n ∷ [])) ∙ omega (arith, twice_long s n))

pub long_as : (h : List Change) (entries : List Entry) (n : ℕ) → entries ≡ h → length h ≡ n → length entries ≡ n
long_as h entries n is long = ap length is ∙ long

-- ---- the rounds

-- what holds where nobody else is holds in the state that the history left, at the moment of the clock
pub holds_here : (start : Start) (h : List Change) (x y : View) (P : Hub → ℕ → Type 0) → Stands start h x → HoldsAt start x y P
    → P (state_after start.machine h) 1700000000
holds_here start h x y P stands at =
    let state : at.state ≡ state_after start.machine h =
    state_is start h at.before at.state (at.whole stands.alone ∙ stands.seen) at.reached in
    let now : at.now ≡ 1700000000 = ((at.told).next (λ k. 1700000000) stands.clock).0 in
    subst (λ (t : ℕ). P (state_after start.machine h) t) now (subst (λ (s : Hub). P s at.now) state at.holds)

stands_then : (start : Start) (h : List Change) (x y : View) (P : Hub → ℕ → Type 0) → Stands start h x → y.pass.base ≡ x.pass.base → y.pass.alone ≡ x.pass.alone
    → y.pass.seen ≡ x.pass.seen → HoldsAt start x y P → Stands start h y
stands_then start h x y P stands base alone seen at = record {
  base = base ∙ stands.base;
  alone = alone ∙ stands.alone;
  seen = seen ∙ stands.seen;
  clock = ((at.told).next (λ k. 1700000000) stands.clock).1;
}

-- a round was decided there, and left all as it was
pub record Decided (start : Start) (h : List Change) (k other : ℕ) (round : Round) (y : View) : Type 0 where
  pub stands : Stands start h y
  pub decided : IsDecided (state_after start.machine h) k other round

one_decided : (start : Start) (h : List Change) (k other : ℕ) (target : List ℕ) (round : Round) (x y : View) → Stands start h x
    → AskedBy x (token k) other target round y → Decided start h k other round y
one_decided start h k other target round x y stands asked =
    let z : View = asked.between in
    let found = asked.found in
    let guarded = asked.guarded in
    let seen = found.verdict start stands.base in
    let here : Stands start h z =
    stands_then start h x z (IsSeen (token k) (name other) round.found) stands ((found.direct).same).base ((found.direct).same).alone (found.unnoted start stands.base stands.alone) seen in
    let came = guarded.verdict start here.base in
    let same = chain_same guarded.asks z y guarded.chain in
    record {
      stands = stands_then start h z y (Admits (token k) (record { user = name other; server = [] }) round.admitted) here same.base same.alone (guarded.unnoted start here.base here.alone) came;
      decided = record { found = holds_here start h x z (IsSeen (token k) (name other) round.found) stands seen; admitted = holds_here start h z y (Admits (token k) (record { user = name other; server = [] }) round.admitted) here came };
    }

-- and so were all of them
pub record AllDecided (start : Start) (h : List Change) (seed n k : ℕ) (rounds : List Round) (y : View) : Type 0 where
  pub stands : Stands start h y
  pub decided : AreDecided (state_after start.machine h) seed n k rounds

pub all_decided : (start : Start) (h : List Change) (seed n k : ℕ) (target : List ℕ) (x y : View) (rounds : List Round) → Stands start h x
    → Rounds seed n k target x rounds y → AllDecided start h seed n k rounds y
all_decided start h seed n zero target x y rounds stands done =
    record { stands = subst (λ (v : View). Stands start h v) (sym done.1) stands; decided = done.0 }
all_decided start h seed n (suc k) target x y rounds stands (z, before, round, done, asked, is) =
    let first : AllDecided start h seed n k before z = all_decided start h seed n k target x z before stands done in
    let last : Decided start h k (asked_at seed n k) round y = one_decided start h k (asked_at seed n k) target round z y first.stands asked in
    record { stands = last.stands; decided = (before, round, first.decided, last.decided, is) }
