-- The rows of kind lease stay those of the live servers, whatever a change does.
use Rattle.std.proofs.Common.{◌≡◌, ℕ, Bool, true, false, cond, not, ◌||◌, List, [], ◌∷◌, ◌++◌, map, Option, Some, None, refl, sym, ap, ◌∙◌, ◌⊎◌, inl, inr}
use Rattle.std.specs.Cmp.Lexicographic.{nat_list_cmp_total}
use Rattle.std.specs.Prelude.{option_map, codes}
use Rattle.std.specs.List.{filter, list_any}
use Rattle.std.specs.Cmp.{nat_cmp_total}
use Rattle.std.specs.FinMap.{get, insert, remove, nat_cmp-IsAntisymmetric}
use Rattle.keyed_rows.proofs.Finite.{insert_same, insert_other, same_or_apart}
use Rattle.hub_kit.specs.declared.names.ServerKey.{ServerKey}
use Rattle.scope_filters.specs.Contexts.{same}
use Rattle.hub_rows.specs.RowKeys.{is_put, key_in}
use Rattle.hub_rows.specs.ShareOrder.{names_exact}
use Rattle.hub_rows.specs.declared.changes.RowChange.{RowChange}
use Rattle.hub_rows.specs.declared.changes.RowChange.TheVariants.{Put, Remove}
use Rattle.hub_rows.specs.declared.records.Lease.{Lease}
use Rattle.hub_rows.specs.declared.records.Next.{Next}
use Rattle.hub_rows.specs.declared.records.ServerRow.{ServerRow}
use Rattle.hub_rows.specs.declared.rows.Row.{Row}
use Rattle.hub_rows.specs.declared.rows.RowKey.{RowKey}
use Rattle.hub_tables.specs.Changes.{row_at, row_done, rows_done, puts_of, removals_of, without_row}
use Rattle.hub_tables.specs.Lookups.{next_of, number_of}
use Rattle.hub_tables.specs.State.{State}
use Rattle.hub_tables.proofs.RowsAt.{same_or_not, gone_same, gone_other, done_other}
use Rattle.hub_lives.proofs.Found.{get_same, get_other, get_left, get_after, get_before, in_any, some_is, none_some}
use Rattle.hub_lives.proofs.Holders.{is_same}
use Rattle.hub_lives.specs.Lives.{Lives, is_leased}
use Rattle.hub_lives.specs.declared.lives.Leased.{Leased}
use Rattle.hub_machine.specs.State.{holder, IsHeldBy, KeepsLeases, next_generation}
use Rattle.hub_machine.specs.Apply.{change_done, end_rows, rested, start_tokens, client_of}
use Rattle.hub_machine.specs.Carry.{is_of_lives, touches_lives}

clash : (b : Bool) → b ≡ true → b ≡ false → ⊥
clash b h k = cc

-- ---- rows that a change doesn't touch

abbrev NoneOf : RowKey → List RowChange → Type 0
NoneOf key [] = Unit {0}
NoneOf key (x ∷ xs) = (key ≡ key_in x → ⊥) × NoneOf key xs

filtered : (p : RowChange → Bool) (key : RowKey) (rows : List RowChange) → NoneOf key rows → NoneOf key (filter p rows)
filtered p key [] n = tt
filtered p key (x ∷ xs) n = elim (p x) as (λ b. NoneOf key (cond b (x ∷ filter p xs) (filter p xs))) [
  | true ↦ (n.0, filtered p key xs n.1)
  | false ↦ filtered p key xs n.1
]

same_done : (rows : List RowChange) (key : RowKey) (t : State) → NoneOf key rows → row_at (rows_done rows t) key ≡ row_at t key
same_done [] key t n = refl
same_done (c ∷ rest) key t n = same_done rest key (row_done c t) n.1 ∙ done_other c t key n.0

same_after : (rows : List RowChange) (key : RowKey) (t : State) → NoneOf key rows → row_at (change_done rows t) key ≡ row_at t key
same_after rows key t n =
    same_done (removals_of rows) key (rows_done (puts_of rows) t) (filtered (λ r. not (is_put r)) key rows n) ∙ same_done (puts_of rows) key t (filtered is_put key rows n)

both_of : (key : RowKey) (xs ys : List RowChange) → NoneOf key xs → NoneOf key ys → NoneOf key (xs ++ ys)
both_of key [] ys a b = b
both_of key (x ∷ xs) ys a b = (a.0, both_of key xs ys a.1 b)

or_false : (a b : Bool) → (a || b) ≡ false → (a ≡ false) × (b ≡ false)
or_false true b h = absurd (clash true refl h)
or_false false b h = (refl, h)

-- rows that are none of the live servers
calm : (rows : List RowChange) (key : RowKey) → list_any touches_lives rows ≡ false → is_of_lives key ≡ true → NoneOf key rows
calm [] key h of = tt
calm (x ∷ xs) key h of =
    let parts = or_false (touches_lives x) (list_any touches_lives xs) h in
    ((λ e. clash (is_of_lives (key_in x)) (ap is_of_lives (sym e) ∙ of) parts.0), calm xs key parts.1 of)

-- ---- a row that is removed

abbrev Has : RowChange → List RowChange → Type 0
Has r [] = ⊥
Has r (x ∷ xs) = (x ≡ r) ⊎ Has r xs

behind : (r : RowChange) (xs ys : List RowChange) → Has r ys → Has r (xs ++ ys)
behind r [] ys h = h
behind r (x ∷ xs) ys h = inr (behind r xs ys h)

put_removed : (row : Row) (key : RowKey) → Put row ≡ Remove key → ⊥
put_removed row key e = cc

one_removed : (a b : RowKey) → Remove a ≡ Remove b → a ≡ b
one_removed a b e = cc

gone : (rows : List RowChange) (key : RowKey) (t : State) → (row_at t key ≡ None) ⊎ Has (Remove key) rows → row_at (rows_done (removals_of rows) t) key ≡ None
gone [] key t (inl e) = e
gone [] key t (inr h) = absurd h
gone (Put row ∷ rest) key t (inl e) = gone rest key t (inl e)
gone (Put row ∷ rest) key t (inr (inl e)) = absurd (put_removed row key e)
gone (Put row ∷ rest) key t (inr (inr h)) = gone rest key t (inr h)
gone (Remove k ∷ rest) key t h = elim (same_or_not key k) [
  | inl e ↦ gone rest key (without_row k t) (inl (ap (row_at (without_row k t)) e ∙ gone_same t k))
  | inr n ↦ gone rest key (without_row k t) (elim h [
    | inl e ↦ inl (gone_other t k key n ∙ e)
    | inr has ↦ elim has [ inl e ↦ absurd (n (sym (one_removed k key e))) | inr later ↦ inr later ]
  ])
]

-- ---- what stands in these rows

abbrev server_in : Option Row → Option ServerKey
server_in (Some (Row.Lease row)) = Some row.server
server_in _ = None

abbrev number_in : Option Row → ℕ
number_in (Some (Row.Next row)) = row.next
number_in _ = 1

as_server : (o : Option Lease) → server_in (option_map Row.Lease o) ≡ option_map (λ (row : Lease). row.server) o
as_server None = refl
as_server (Some row) = refl

as_number : (o : Option Next) → number_in (option_map Row.Next o) ≡ number_of o
as_number None = refl
as_number (Some row) = refl

same_holder : (t u : State) (target : List ℕ) → row_at u (RowKey.Lease target) ≡ row_at t (RowKey.Lease target) → holder u target ≡ holder t target
same_holder t u target e = sym (as_server (get u.leases target)) ∙ ap server_in e ∙ as_server (get t.leases target)

no_holder : (t : State) (target : List ℕ) → row_at t (RowKey.Lease target) ≡ None → holder t target ≡ None
no_holder t target e = sym (as_server (get t.leases target)) ∙ ap server_in e

same_number : (t u : State) (name : List ℕ) → row_at u (RowKey.Next name) ≡ row_at t (RowKey.Next name) → next_of u name ≡ next_of t name
same_number t u name e = sym (as_number (get u.nexts name)) ∙ ap number_in e ∙ as_number (get t.nexts name)

kept_same : (t u : State) (lives : Lives) → ((target : List ℕ) → holder u target ≡ holder t target) → KeepsLeases t lives → KeepsLeases u lives
kept_same t u lives e k = λ target server. ((λ h. (k target server).0 (sym (e target) ∙ h)), (λ h. e target ∙ (k target server).1 h))

-- ---- rows alone

pub kept_rows : (rows : List RowChange) (t : State) (lives : Lives) → list_any touches_lives rows ≡ false → KeepsLeases t lives → KeepsLeases (change_done rows t) lives
kept_rows rows t lives h k = kept_same t (change_done rows t) lives (λ target. same_holder t (change_done rows t) target (same_after rows (RowKey.Lease target) t (calm rows (RowKey.Lease target) h refl))) k

pub next_rows : (rows : List RowChange) (t : State) → list_any touches_lives rows ≡ false → next_generation (change_done rows t) ≡ next_generation t
next_rows rows t h = same_number t (change_done rows t) (codes "generation") (same_after rows (RowKey.Next (codes "generation")) t (calm rows (RowKey.Next (codes "generation")) h (is_same (codes "generation") (codes "generation") refl)))

-- ---- a start

pub kept_begin : (t u : State) (lives : Lives) (g : ℕ) (l : Leased) (row : Lease) → u.leases ≡ insert t.leases l.target row → row.server ≡ l.server → get lives g ≡ None → is_leased lives l.target ≡ false
    → KeepsLeases t lives → KeepsLeases u (insert lives g l)
kept_begin t u lives g l row e own new free k = λ target server. (there target server, back target server)
  where
    here : holder u l.target ≡ Some l.server
    here = ap (λ m. option_map (λ (r : Lease). r.server) (get m l.target)) e ∙ ap (option_map (λ (r : Lease). r.server)) (insert_same nat_list_cmp_total names_exact t.leases l.target row) ∙ ap Some own

    other : (target : List ℕ) → (target ≡ l.target → ⊥) → holder u target ≡ holder t target
    other target n = ap (λ m. option_map (λ (r : Lease). r.server) (get m target)) e ∙ ap (option_map (λ (r : Lease). r.server)) (insert_other nat_list_cmp_total names_exact t.leases l.target row target n)

    there : (target : List ℕ) (server : ServerKey) → holder u target ≡ Some server → IsHeldBy (insert lives g l) target server
    there target server h = elim (same_or_apart nat_list_cmp_total names_exact target l.target) [
      | inl same ↦ (g, l, get_same lives g l, sym same, some_is l.server server (sym here ∙ ap (holder u) (sym same) ∙ h))
      | inr n ↦
          let old = (k target server).0 (sym (other target n) ∙ h) in
          (old.0, old.1, get_other lives g l old.0 (λ s. none_some old.1 (sym new ∙ ap (get lives) (sym s) ∙ old.2)) ∙ old.2, old.3, old.4)
    ]

    back : (target : List ℕ) (server : ServerKey) → IsHeldBy (insert lives g l) target server → holder u target ≡ Some server
    back target server (h, a, is, at, of) = get_after lives g l h a (holder u target ≡ Some server) is
        (λ s same. ap (holder u) (sym at ∙ ap (λ (x : Leased). x.target) (sym same)) ∙ here ∙ ap Some (ap (λ (x : Leased). x.server) same ∙ of))
        (λ s old. other target (λ e. clash (is_leased lives l.target) (in_any (λ (x : Leased). same x.target l.target) lives h a old (is_same a.target l.target (at ∙ e))) free) ∙ (k target server).1 (h, a, old, at, of))

-- ---- a step of a life

pub kept_life : (t : State) (lives : Lives) (g : ℕ) (l m : Leased) → get lives g ≡ Some l → m.target ≡ l.target → m.server ≡ l.server → KeepsLeases t lives → KeepsLeases t (insert lives g m)
kept_life t lives g l m is at of k = λ target server. ((λ h. there target server ((k target server).0 h)), (λ h. (k target server).1 (back target server h)))
  where
    there : (target : List ℕ) (server : ServerKey) → IsHeldBy lives target server → IsHeldBy (insert lives g m) target server
    there target server (h, a, has, here, own) = elim (same_or_apart nat_cmp_total nat_cmp-IsAntisymmetric h g) [
      | inl e ↦
          let row : a ≡ l = some_is a l (sym has ∙ ap (get lives) e ∙ is) in
          (g, m, get_same lives g m, at ∙ ap (λ (x : Leased). x.target) (sym row) ∙ here, of ∙ ap (λ (x : Leased). x.server) (sym row) ∙ own)
      | inr n ↦ (h, a, get_other lives g m h n ∙ has, here, own)
    ]

    back : (target : List ℕ) (server : ServerKey) → IsHeldBy (insert lives g m) target server → IsHeldBy lives target server
    back target server (h, a, has, here, own) = get_after lives g m h a (IsHeldBy lives target server) has
        (λ e same. (g, l, is, sym at ∙ ap (λ (x : Leased). x.target) same ∙ here, sym of ∙ ap (λ (x : Leased). x.server) same ∙ own))
        (λ e old. (h, a, old, here, own))

-- ---- the end of a lease

rests : (key : RowKey) (row : Option ServerRow) → ((k : ServerKey) → key ≡ RowKey.ServerRow k → ⊥) → NoneOf key (rested row)
rests key None n = tt
rests key (Some row) n = (n row.key, tt)

tokens : (key : RowKey) (ids : List ℕ) → ((id : ℕ) → key ≡ RowKey.Token id → ⊥) → NoneOf key (map (λ id. Remove (RowKey.Token id)) ids)
tokens key [] n = tt
tokens key (id ∷ ids) n = (n id, tokens key ids n)

end_none : (key : RowKey) (t : State) (l : Leased) → ((k : ServerKey) → key ≡ RowKey.ServerRow k → ⊥) → ((id : ℕ) → key ≡ RowKey.Token id → ⊥) → (key ≡ RowKey.Lease l.target → ⊥)
    → ((c : List ℕ) → key ≡ RowKey.OAuthClient c → ⊥) → NoneOf key (end_rows t l)
end_none key t l a b c d = both_of key (rested (get t.servers l.server)) _ (rests key (get t.servers l.server) a)
    (both_of key (map (λ id. Remove (RowKey.Token id)) (start_tokens t l.server)) _ (tokens key (start_tokens t l.server) b) (c, (d (client_of l.server), tt)))

lease_gone : (t : State) (l : Leased) → holder (change_done (end_rows t l) t) l.target ≡ None
lease_gone t l = no_holder (change_done (end_rows t l) t) l.target (gone (end_rows t l) (RowKey.Lease l.target) (rows_done (puts_of (end_rows t l)) t)
    (inr (behind _ (rested (get t.servers l.server)) _ (behind _ (map (λ id. Remove (RowKey.Token id)) (start_tokens t l.server)) _ (inl refl)))))

one_target : (a b : List ℕ) → RowKey.Lease a ≡ RowKey.Lease b → a ≡ b
one_target a b e = cc

other_stays : (t : State) (l : Leased) (target : List ℕ) → (target ≡ l.target → ⊥) → holder (change_done (end_rows t l) t) target ≡ holder t target
other_stays t l target n = same_holder t (change_done (end_rows t l) t) target (same_after (end_rows t l) (RowKey.Lease target) t
    (end_none (RowKey.Lease target) t l (λ k e. cc) (λ id e. cc) (λ e. n (one_target target l.target e)) (λ c e. cc)))

pub next_end : (t : State) (l : Leased) → next_generation (change_done (end_rows t l) t) ≡ next_generation t
next_end t l = same_number t (change_done (end_rows t l) t) (codes "generation") (same_after (end_rows t l) (RowKey.Next (codes "generation")) t
    (end_none (RowKey.Next (codes "generation")) t l (λ k e. cc) (λ id e. cc) (λ e. cc) (λ c e. cc)))

pub kept_end : (t : State) (lives : Lives) (g : ℕ) (l : Leased) → get lives g ≡ Some l → ((h : ℕ) (a : Leased) → get lives h ≡ Some a → a.target ≡ l.target → h ≡ g)
    → KeepsLeases t lives → KeepsLeases (change_done (end_rows t l) t) (remove lives g)
kept_end t lives g l is one k = λ target server. (there target server, back target server)
  where
    there : (target : List ℕ) (server : ServerKey) → holder (change_done (end_rows t l) t) target ≡ Some server → IsHeldBy (remove lives g) target server
    there target server h = elim (same_or_apart nat_list_cmp_total names_exact target l.target) [
      | inl same ↦ absurd (none_some server (sym (lease_gone t l) ∙ ap (holder (change_done (end_rows t l) t)) (sym same) ∙ h))
      | inr n ↦
          let old = (k target server).0 (sym (other_stays t l target n) ∙ h) in
          (old.0, old.1, get_left lives g old.0 (λ e. n (sym old.3 ∙ ap (λ (x : Leased). x.target) (some_is old.1 l (sym old.2 ∙ ap (get lives) e ∙ is)))) ∙ old.2, old.3, old.4)
    ]

    back : (target : List ℕ) (server : ServerKey) → IsHeldBy (remove lives g) target server → holder (change_done (end_rows t l) t) target ≡ Some server
    back target server (h, a, has, at, of) =
        let was = get_before lives g h a has in
        other_stays t l target (λ e. was.0 (one h a was.1 (at ∙ e))) ∙ (k target server).1 (h, a, was.1, at, of)
