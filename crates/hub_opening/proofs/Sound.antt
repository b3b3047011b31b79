-- What the rules across rows say of the leases and the numbers of kept tables.
use Rattle.std.proofs.Common.{◌≡◌, ◌≢◌, ◌<◌, ◌≤◌, ◌+◌, ◌^◌, ℕ, suc, Bool, true, false, not, ◌&&◌, ◌||◌, cond, List, [], ◌∷◌, ◌++◌, length, Option, Some, None, ◌⊎◌, inl, inr, codes, ap, sym, subst, ◌∙◌, refl, append-nil, append_assoc, arith}
use Rattle.std.specs.Prelude.{option_map, nat_lt, nat_le, if◌then◌else◌}
use Rattle.std.specs.Cmp.{IsTotalOrder, nat_cmp_total, tied_itself, then_total, on_total}
use Rattle.std.specs.Cmp.Lexicographic.{nat_list_cmp_total}
use Rattle.std.specs.FinMap.{get}
use Rattle.std.specs.List.{list_any}
use Rattle.std.specs.Ordering.{nat_cmp, eq_by_cmp, is_eq}
use Rattle.std.specs.declared.cmp.Ordering.{Ordering}
use Rattle.std.proofs.lemmas.Bool.Decides.{nat_tests}
use Rattle.hub_kit.specs.KeyOrder.{key_cmp}
use Rattle.hub_kit.specs.declared.names.ServerKey.{ServerKey}
use Rattle.scope_names.specs.declared.custom.CustomRow.{CustomRow}
use Rattle.hub_rows.specs.RowKeys.{key_of}
use Rattle.hub_rows.specs.declared.limits.Limits.{Limits}
use Rattle.hub_rows.specs.declared.records.Lease.{Lease}
use Rattle.hub_rows.specs.declared.records.Next.{Next}
use Rattle.hub_rows.specs.declared.records.ShareCode.{ShareCode}
use Rattle.hub_rows.specs.declared.records.Token.{Token}
use Rattle.hub_rows.specs.declared.rows.Row.{Row}
use Rattle.hub_rows.specs.declared.rows.Row.TheVariants as Row
use Rattle.hub_rows.specs.declared.rows.RowKey.{RowKey}
use Rattle.hub_rows.specs.declared.rows.RowKey.TheVariants as RowKey
use Rattle.hub_tables.specs.Changes.{row_at, with_row}
use Rattle.hub_tables.specs.Lookups.{number_of, next_of, has_server}
use Rattle.hub_tables.specs.State.{State}
use Rattle.hub_tables.proofs.RowsAt.{same_or_not, put_same, put_other}
use Rattle.row_rules.specs.Across.{kept_tables, no_tables, rows_put, sound_rows, passing, keeps_rules, stands, is_this, has, has_any, repeats, leased_server, leased_generation, started_server, is_sole, is_given_or_none, is_given_out, has_owner, is_leased_or_none, started_by}
use Rattle.hub_machine.specs.State.{next_generation}
use Rattle.hub_opening.specs.Kept.{AreLeasable, AreTablesOf}
use Rattle.hub_opening.proofs.Loaded.{no_row}

-- ---- truth values

none_some : {X : Type 0} (x : X) → None ≡ Some x → ⊥
none_some x h = cc

some_one : {X : Type 0} (x y : X) → Some x ≡ Some y → x ≡ y
some_one x y h = cc

clash : (b : Bool) → b ≡ true → b ≡ false → ⊥
clash b h k = cc

left : (a b : Bool) → (a && b) ≡ true → a ≡ true
left true b h = refl
left false b h = h

right : (a b : Bool) → (a && b) ≡ true → b ≡ true
right true b h = h
right false b h = absurd (clash false h refl)

or_left : (a b : Bool) → a ≡ true → (a || b) ≡ true
or_left true b h = refl
or_left false b h = absurd (clash false h refl)

or_right : (a b : Bool) → b ≡ true → (a || b) ≡ true
or_right true b h = refl
or_right false b h = h

none_of : (a b c : Bool) → not ((a || b) || c) ≡ true → (a ≡ false) × (b ≡ false)
none_of true b c h = absurd (clash false h refl)
none_of false true c h = absurd (clash false h refl)
none_of false false c h = (refl, refl)

less : (n m : ℕ) → nat_lt n m ≡ true → n < m
less n m h = grind (arith, nat_tests)

no_more : (n m : ℕ) → nat_le n m ≡ true → n ≤ m
no_more n m h = grind (arith, nat_tests)

-- ---- each row passes, with those before it

step : (b : Bool) (n m : ℕ) → (if b then (1 + n) else 0) ≡ suc m → (b ≡ true) × (n ≡ m)
step true n m h = (refl, omega (arith, h))
step false n m h = absurd (omega (arith, h))

passes : (test : List Row → Row → Bool) (before pre : List Row) (row : Row) (post : List Row)
    → passing test before (pre ++ row ∷ post) ≡ length (pre ++ row ∷ post) → test (before ++ pre) row ≡ true
passes test before [] row post h =
    ap (λ rows. test rows row) (append-nil before) ∙ (step (test before row) (passing test (before ++ row ∷ []) post) (length post) h).0
passes test before (p ∷ pre) row post h =
    let s = step (test before p) (passing test (before ++ p ∷ []) (pre ++ row ∷ post)) (length (pre ++ row ∷ post)) h in
    sym (ap (λ rows. test rows row) (append_assoc before (p ∷ []) pre)) ∙ passes test (before ++ p ∷ []) pre row post s.1

-- ---- a row of the tables is one of the rows

record IsAmong (rows : List Row) (row : Row) : Type 0 where
  before : List Row
  after : List Row
  parts : rows ≡ before ++ row ∷ after

put_from : (rows : List Row) (t : State) (key : RowKey) (row : Row) → row_at (rows_put rows t) key ≡ Some row
    → (IsAmong rows row × (key_of row ≡ key)) ⊎ (row_at t key ≡ Some row)
put_from [] t key row h = inr h
put_from (r ∷ rows) t key row h = elim (put_from rows (with_row r t) key row h) as (λ _. (IsAmong (r ∷ rows) row × (key_of row ≡ key)) ⊎ (row_at t key ≡ Some row)) [
  | inl m ↦ inl (record { before = r ∷ m.0.before; after = m.0.after; parts = ap (λ rs. r ∷ rs) m.0.parts }, m.1)
  | inr there ↦ elim (same_or_not key (key_of r)) as (λ _. (IsAmong (r ∷ rows) row × (key_of row ≡ key)) ⊎ (row_at t key ≡ Some row)) [
    | inl same ↦
        let one : r ≡ row = some_one r row (sym (put_same t r) ∙ sym (ap (row_at (with_row r t)) same) ∙ there) in
        inl (record { before = []; after = rows; parts = ap (λ x. x ∷ rows) one }, sym (ap key_of one) ∙ sym same)
    | inr apart ↦ inr (sym (put_other t r key apart) ∙ there)
  ]
]

-- ---- two places

first_is : (a b : Row) (more rest : List Row) → a ∷ more ≡ b ∷ rest → a ≡ b
first_is a b more rest e = cc

rest_is : (a b : Row) (more rest : List Row) → a ∷ more ≡ b ∷ rest → more ≡ rest
rest_is a b more rest e = cc

-- two rows of a list are one, or one of them stands before the other
one_before : (p q : Row → Bool) (pre post later rest : List Row) (x y : Row) → pre ++ x ∷ post ≡ later ++ y ∷ rest → p y ≡ true → q x ≡ true
    → (x ≡ y) ⊎ ((list_any p pre ≡ true) ⊎ (list_any q later ≡ true))
one_before p q [] post [] rest x y e py qx = inl (first_is x y post rest e)
one_before p q [] post (d ∷ later) rest x y e py qx =
    inr (inr (or_left (q d) (list_any q later) (sym (ap q (first_is x d post (later ++ y ∷ rest) e)) ∙ qx)))
one_before p q (c ∷ pre) post [] rest x y e py qx =
    inr (inl (or_left (p c) (list_any p pre) (ap p (first_is c y (pre ++ x ∷ post) rest e) ∙ py)))
one_before p q (c ∷ pre) post (d ∷ later) rest x y e py qx =
    elim (one_before p q pre post later rest x y (rest_is c d (pre ++ x ∷ post) (later ++ y ∷ rest) e) py qx) as (λ _. (x ≡ y) ⊎ ((list_any p (c ∷ pre) ≡ true) ⊎ (list_any q (d ∷ later) ≡ true))) [
      | inl same ↦ inl same
      | inr some ↦ elim some as (λ _. (x ≡ y) ⊎ ((list_any p (c ∷ pre) ≡ true) ⊎ (list_any q (d ∷ later) ≡ true))) [
        | inl a ↦ inr (inl (or_right (p c) (list_any p pre) a))
        | inr b ↦ inr (inr (or_right (q d) (list_any q later) b))
      ]
    ]

-- ---- leases

lease_is : (l m : Lease) → Row.Lease l ≡ Row.Lease m → l ≡ m
lease_is l m e = cc

target_is : (a b : List ℕ) → RowKey.Lease a ≡ RowKey.Lease b → a ≡ b
target_is a b e = cc

key_total : IsTotalOrder key_cmp
key_total = then_total (on_total (λ (k : ServerKey). k.user) nat_list_cmp_total) (on_total (λ (k : ServerKey). k.server) nat_list_cmp_total)

id_is : (a b : ℕ) → RowKey.Token a ≡ RowKey.Token b → a ≡ b
id_is a b e = cc

code_is : (a b : ℕ) → RowKey.ShareCode a ≡ RowKey.ShareCode b → a ≡ b
code_is a b e = cc

generation_itself : (g : ℕ) → eq_by_cmp nat_cmp g g ≡ true
generation_itself g = ap is_eq (tied_itself nat_cmp_total g)

module _ (limits : Limits) (scopes : List CustomRow) (rows : List Row) where
  abbrev all : State
  all = kept_tables limits scopes rows

  module _ (sound : sound_rows all rows ≡ length rows) where
    -- a row of the tables keeps the rules
    kept_row : (key : RowKey) (row : Row) → row_at all key ≡ Some row → IsAmong rows row × (key_of row ≡ key)
    kept_row key row there = elim (put_from rows (no_tables limits scopes) key row there) as (λ _. IsAmong rows row × (key_of row ≡ key)) [
      | inl m ↦ m
      | inr none ↦ absurd (no_row limits scopes key row none)
    ]

    rules : (row : Row) (m : IsAmong rows row) → keeps_rules all m.before row ≡ true
    rules row m =
        passes (keeps_rules all) [] m.before row m.after (subst (λ (rs : List Row). passing (keeps_rules all) [] rs ≡ length rs) m.parts sound)

    stands_there : (row : Row) (m : IsAmong rows row) → stands all row ≡ true
    stands_there row m = right _ _ (right _ _ (rules row m))

    sole : (row : Row) (m : IsAmong rows row) → is_sole m.before row ≡ true
    sole row m = left _ _ (right _ _ (rules row m))

    lease_at : (a : List ℕ) (l : Lease) → get all.leases a ≡ Some l → IsAmong rows (Row.Lease l) × (RowKey.Lease l.target ≡ RowKey.Lease a)
    lease_at a l there = kept_row (RowKey.Lease a) (Row.Lease l) (ap (option_map Row.Lease) there)

    own : (a : List ℕ) (l : Lease) → get all.leases a ≡ Some l → l.target ≡ a
    own a l there = target_is l.target a (lease_at a l there).1

    -- two leases with something in common stand at one target
    alike : (l m : Lease) (at : IsAmong rows (Row.Lease l)) (to : IsAmong rows (Row.Lease m)) (p q : Row → Bool) → p (Row.Lease m) ≡ true → q (Row.Lease l) ≡ true
        → list_any p at.before ≡ false → list_any q to.before ≡ false → l ≡ m
    alike l m at to p q pm ql np nq =
        elim (one_before p q at.before at.after to.before to.after (Row.Lease l) (Row.Lease m) (sym at.parts ∙ to.parts) pm ql) as (λ _. l ≡ m) [
          | inl same ↦ lease_is l m same
          | inr some ↦ elim some as (λ _. l ≡ m) [
            | inl h ↦ absurd (clash (list_any p at.before) h np)
            | inr h ↦ absurd (clash (list_any q to.before) h nq)
          ]
        ]

    of_three : (l : Lease) (at : IsAmong rows (Row.Lease l))
        → (repeats key_cmp leased_server at.before (Row.Lease l) ≡ false) × (repeats nat_cmp leased_generation at.before (Row.Lease l) ≡ false)
    of_three l at =
        none_of (repeats key_cmp leased_server at.before (Row.Lease l)) (repeats nat_cmp leased_generation at.before (Row.Lease l))
        (repeats key_cmp started_server at.before (Row.Lease l)) (sole (Row.Lease l) at)

    -- no earlier lease is of the server
    server_new : (l : Lease) (at : IsAmong rows (Row.Lease l)) → has key_cmp leased_server at.before l.server ≡ false
    server_new l at = (of_three l at).0

    generation_new : (l : Lease) (at : IsAmong rows (Row.Lease l)) (g : ℕ) → l.generation ≡ Some g → has nat_cmp leased_generation at.before g ≡ false
    generation_new l at g e =
        subst (λ (o : Option ℕ). has_any nat_cmp leased_generation at.before o ≡ false) e (of_three l at).1

    servers : (a b : List ℕ) (l m : Lease) → get all.leases a ≡ Some l → get all.leases b ≡ Some m → l.server ≡ m.server → a ≡ b
    servers a b l m x y e =
        let at = (lease_at a l x).0 in
        let to = (lease_at b m y).0 in
        let one = alike l m at to (λ row. is_this key_cmp l.server (leased_server row)) (λ row. is_this key_cmp m.server (leased_server row))
        (ap (λ s. eq_by_cmp key_cmp l.server s) (sym e) ∙ ap is_eq (tied_itself key_total l.server))
        (ap (λ s. eq_by_cmp key_cmp m.server s) e ∙ ap is_eq (tied_itself key_total m.server))
        (server_new l at) (server_new m to) in
        sym (own a l x) ∙ ap (λ (k : Lease). k.target) one ∙ own b m y

    generations : (a b : List ℕ) (l m : Lease) (g : ℕ) → get all.leases a ≡ Some l → get all.leases b ≡ Some m → l.generation ≡ Some g → m.generation ≡ Some g → a ≡ b
    generations a b l m g x y e f =
        let at = (lease_at a l x).0 in
        let to = (lease_at b m y).0 in
        let one = alike l m at to (λ row. is_this nat_cmp g (leased_generation row)) (λ row. is_this nat_cmp g (leased_generation row))
        (ap (is_this nat_cmp g) f ∙ generation_itself g) (ap (is_this nat_cmp g) e ∙ generation_itself g)
        (generation_new l at g e) (generation_new m to g f) in
        sym (own a l x) ∙ ap (λ (k : Lease). k.target) one ∙ own b m y

    below : (a : List ℕ) (l : Lease) (g : ℕ) → get all.leases a ≡ Some l → l.generation ≡ Some g → g < next_generation all
    below a l g x e =
        let given = subst (λ (o : Option ℕ). is_given_or_none o (next_generation all) ≡ true) e (right _ _ (stands_there (Row.Lease l) (lease_at a l x).0)) in
        less g (next_generation all) (right _ _ given)

    -- ---- numbers of tokens and of share codes

    below_next : (n next : ℕ) → is_given_out n next ≡ true → n < next
    below_next n next given = less n next (right (nat_lt 0 n) (nat_lt n next) given)

    token_below : (id : ℕ) (k : Token) → get all.tokens id ≡ Some k → id < next_of all (codes "token")
    token_below id k there =
        let among = kept_row (RowKey.Token id) (Row.Token k) (ap (option_map Row.Token) there) in
        let given = left (is_given_out k.id (next_of all (codes "token"))) (has_owner all k.owner) (left _ (is_leased_or_none all (started_by k.client k.issued_for)) (stands_there (Row.Token k) among.0)) in
        subst (λ (n : ℕ). n < next_of all (codes "token")) (id_is k.id id among.1) (below_next k.id (next_of all (codes "token")) given)

    code_below : (id : ℕ) (c : ShareCode) → get all.codes id ≡ Some c → id < next_of all (codes "code")
    code_below id c there =
        let among = kept_row (RowKey.ShareCode id) (Row.ShareCode c) (ap (option_map Row.ShareCode) there) in
        let given = left (is_given_out c.id (next_of all (codes "code"))) (has_server all c.server) (stands_there (Row.ShareCode c) among.0) in
        subst (λ (n : ℕ). n < next_of all (codes "code")) (code_is c.id id among.1) (below_next c.id (next_of all (codes "code")) given)

    -- ---- the next generation

    next_row : (n : Next) → get all.nexts (codes "generation") ≡ Some n → (1 ≤ n.next) × (n.next ≤ 2 ^ 61)
    next_row n there =
        let h = stands_there (Row.Next n) (kept_row (RowKey.Next (codes "generation")) (Row.Next n) (ap (option_map Row.Next) there)).0 in
        let above = less 0 n.next (left _ _ h) in
        (omega (arith, above), no_more n.next (2 ^ 61) (right _ _ h))

    next_few : (o : Option Next) → get all.nexts (codes "generation") ≡ o → (1 ≤ number_of o) × (number_of o ≤ 2 ^ 61)
    next_few None e = (omega arith, omega arith)
    next_few (Some n) e = next_row n e

    leasable : AreLeasable all
    leasable = record {
      own = own;
      servers = servers;
      generations = generations;
      few = (next_few (get all.nexts (codes "generation")) refl).1;
      above = (next_few (get all.nexts (codes "generation")) refl).0;
      below = below;
    }

pub kept_leasable : (limits : Limits) (scopes : List CustomRow) (rows : List Row) → sound_rows (kept_tables limits scopes rows) rows ≡ length rows → AreLeasable (kept_tables limits scopes rows)
kept_leasable limits scopes rows sound = leasable limits scopes rows sound

-- each token has a number below the next
pub kept_numbered : (limits : Limits) (scopes : List CustomRow) (rows : List Row) → sound_rows (kept_tables limits scopes rows) rows ≡ length rows
    → (id : ℕ) (k : Token) → get (kept_tables limits scopes rows).tokens id ≡ Some k → id < next_of (kept_tables limits scopes rows) (codes "token")
kept_numbered limits scopes rows sound id k there = token_below limits scopes rows sound id k there

-- and each share code has one below the next of codes
pub kept_codes_numbered : (limits : Limits) (scopes : List CustomRow) (rows : List Row) → sound_rows (kept_tables limits scopes rows) rows ≡ length rows
    → (id : ℕ) (c : ShareCode) → get (kept_tables limits scopes rows).codes id ≡ Some c → id < next_of (kept_tables limits scopes rows) (codes "code")
kept_codes_numbered limits scopes rows sound id c there = code_below limits scopes rows sound id c there
