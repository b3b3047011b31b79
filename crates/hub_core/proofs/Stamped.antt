-- A change keeps the cache of rights: its entries are right, or of an earlier stamp.
use Rattle.std.proofs.Common.{◌≡◌, ◌≤◌, ◌<◌, ◌+◌, ℕ, Bool, true, false, not, cond, List, [], ◌∷◌, ◌++◌, map, Option, refl, sym, ◌∙◌, ap, subst, inl, inr, arith}
use Rattle.std.specs.Prelude.{Some, None, Result, Ok, Err}
use Rattle.std.specs.List.{list_any}
use Rattle.std.specs.Cmp.Lexicographic.{nat_list_cmp_total}
use Rattle.std.specs.Ordering.{eq_by_cmp}
use Rattle.std.specs.FinMap.{get, get-insert, get-remove}
use Rattle.keyed_rows.proofs.Finite.{tied}
use Rattle.scope_filters.specs.declared.holder.Owner.{Owner}
use Rattle.scope_filters.specs.declared.holder.Owner.TheVariants as Own
use Rattle.hub_kit.specs.KeyOrder.{name_cmp}
use Rattle.admin_rules.specs.Users.{same_bool}
use Rattle.hub_rows.specs.ShareOrder.{names_exact}
use Rattle.hub_rows.specs.declared.changes.RowChange.{RowChange}
use Rattle.hub_rows.specs.declared.changes.RowChange.TheVariants.{Put, Remove}
use Rattle.hub_rows.specs.declared.rows.Row.TheVariants as Row
use Rattle.hub_rows.specs.declared.rows.RowKey.TheVariants as RowKey
use Rattle.hub_rows.specs.RowKeys.{is_put}
use Rattle.hub_rows.specs.declared.records.Token.{Token}
use Rattle.hub_rows.specs.declared.records.ServerRow.{ServerRow}
use Rattle.hub_rows.specs.declared.records.User.{User}
use Rattle.hub_tables.specs.Changes.{row_done, rows_done, puts_of, removals_of}
use Rattle.hub_tables.specs.Lookups.{is_admin, is_admin_row}
use Rattle.hub_tables.specs.State.{State}
use Rattle.roles.specs.declared.cache.KeptGrant.{KeptGrant}
use Rattle.roles.specs.Looks.{Cache}
use Rattle.roles.specs.Rights.{IsAllowed, IsGrantOf}
use Rattle.roles.specs.Sources.{HaveSameSources, is_admin_owner}
use Rattle.roles.proofs.Sources.{same_grant}
use Rattle.hub_machine.specs.State.{Hub}
use Rattle.hub_lives.specs.Lives.{LifeStep}
use Rattle.hub_lives.specs.declared.lives.Leased.{Leased}
use Rattle.hub_machine.specs.Apply.{apply, change_done, client_of, end_rows, rested, start_tokens, moved as moved_on, stepped, of_lease}
use Rattle.server_life.specs.LifeTable.{life_after}
use Rattle.server_life.specs.declared.life.Life.{Life}
use Rattle.server_life.specs.declared.life.LifeEvent.{LifeEvent}
use Rattle.server_life.specs.declared.life.Phase.{Phase}
use Rattle.server_life.specs.declared.life.Phase.TheVariants.{Stopped, Adopting, Spawning, Routing, Ready, Unrouting, Stopping, Parked}
use Rattle.hub_machine.specs.Replies as spec
use Rattle.hub_opening.specs.Opening.{next_token}
use Rattle.hub_core.specs.Carrying.{Carrier, Carried}
use Rattle.hub_core.specs.Current.{IsRightIn, IsCurrent, IsStamped}
use Rattle.hub_core.specs.Stamps.{is_kept_as, touches_rights, touches_sources, changes_rights, changes_sources, stamp_after, since_after}
use Rattle.hub_core.specs.Visits.{noted}
use Rattle.hub_core.proofs.Numbered.{NumbersTokens, NumbersIn, numbers, numbers_tokens, none_numbered, lease_removed, either, neither, none_filtered, token_kept, numbered_after}
use Rattle.hub_machine.specs.declared.change.Change.{Change}
use Rattle.hub_machine.specs.declared.change.Change.TheVariants.{Rows, Begin, Life as Lived}
use Rattle.hub_machine.specs.declared.reply.Outcome.{Outcome}

true_false : true ≡ false → ⊥
true_false h = cc

-- ---- rows that don't touch what rights come from

-- the same groups, roles, shares and declared scopes, and the same admins
record AreAlike (t t' : State) : Type 0 where
  groups : t.groups ≡ t'.groups
  roles : t.roles ≡ t'.roles
  shares : t.shares ≡ t'.shares
  declared : t.scopes ≡ t'.scopes
  admins : (user : List ℕ) → is_admin t user ≡ is_admin t' user

same_bools : (a b : Bool) → not (same_bool a b) ≡ false → a ≡ b
same_bools true true h = refl
same_bools true false h = absurd (true_false h)
same_bools false true h = absurd (true_false h)
same_bools false false h = refl

admin_put : (t0 t : State) (row : User) (user : List ℕ) → is_admin t0 row.name ≡ row.admin → is_admin t0 user ≡ is_admin t user → is_admin t0 user ≡ is_admin (row_done (Put (Row.User row)) t) user
admin_put t0 t row user put before = by_test (eq_by_cmp name_cmp user row.name) refl ∙ ap is_admin_row (sym (get-insert nat_list_cmp_total t.users row.name row user))
  where
    by_test : (b : Bool) → eq_by_cmp name_cmp user row.name ≡ b → is_admin t0 user ≡ is_admin_row (cond b (Some row) (get t.users user))
    by_test true same = ap (is_admin t0) (names_exact user row.name (tied (name_cmp user row.name) same)) ∙ put
    by_test false same = before

admin_removed : (t0 t : State) (name user : List ℕ) → is_admin t0 name ≡ false → is_admin t0 user ≡ is_admin t user → is_admin t0 user ≡ is_admin (row_done (Remove (RowKey.User name)) t) user
admin_removed t0 t name user gone before = by_test (eq_by_cmp name_cmp user name) refl ∙ ap is_admin_row (sym (get-remove nat_list_cmp_total t.users name user))
  where
    by_test : (b : Bool) → eq_by_cmp name_cmp user name ≡ b → is_admin t0 user ≡ is_admin_row (cond b None (get t.users user))
    by_test true same = ap (is_admin t0) (names_exact user name (tied (name_cmp user name) same)) ∙ gone
    by_test false same = before

alike_step : (t0 t : State) (r : RowChange) → touches_sources t0 r ≡ false → AreAlike t0 t → AreAlike t0 (row_done r t)
alike_step t0 t (Put (Row.User row)) h a = record {
  groups = a.groups;
  roles = a.roles;
  shares = a.shares;
  declared = a.declared;
  admins = λ user. admin_put t0 t row user (same_bools (is_admin t0 row.name) row.admin h) (a.admins user);
}
alike_step t0 t (Remove (RowKey.User name)) h a = record {
  groups = a.groups;
  roles = a.roles;
  shares = a.shares;
  declared = a.declared;
  admins = λ user. admin_removed t0 t name user h (a.admins user);
}
alike_step t0 t (Put (Row.Group row)) h a = absurd (true_false h)
alike_step t0 t (Remove (RowKey.Group name)) h a = absurd (true_false h)
alike_step t0 t (Put (Row.Service row)) h a = absurd (true_false h)
alike_step t0 t (Remove (RowKey.Service name)) h a = absurd (true_false h)
alike_step t0 t (Put (Row.Role row)) h a = absurd (true_false h)
alike_step t0 t (Remove (RowKey.Role name)) h a = absurd (true_false h)
alike_step t0 t (Put (Row.Share row)) h a = absurd (true_false h)
alike_step t0 t (Remove (RowKey.Share key)) h a = absurd (true_false h)
alike_step t0 t _ h a = record { groups = a.groups; roles = a.roles; shares = a.shares; declared = a.declared; admins = a.admins }

alike_after : (t0 : State) (rows : List RowChange) (t : State) → list_any (touches_sources t0) rows ≡ false → AreAlike t0 t → AreAlike t0 (rows_done rows t)
alike_after t0 [] t h a = a
alike_after t0 (r ∷ rows) t h a =
    let parts = either (touches_sources t0 r) (list_any (touches_sources t0) rows) h in
    alike_after t0 rows (row_done r t) parts.1 (alike_step t0 t r parts.0 a)

alike : (t : State) (rows : List RowChange) → changes_sources t rows ≡ false → AreAlike t (change_done rows t)
alike t rows h =
    alike_after t (removals_of rows) (rows_done (puts_of rows) t) (none_filtered _ (touches_sources t) rows h)
    (alike_after t (puts_of rows) t (none_filtered is_put (touches_sources t) rows h)
    (record { groups = refl; roles = refl; shares = refl; declared = refl; admins = λ user. refl }))

admin_alike : (t t' : State) (w : Owner) → AreAlike t t' → is_admin_owner t w ≡ is_admin_owner t' w
admin_alike t t' (Own.User u) a = a.admins u
admin_alike t t' (Own.Service v) a = refl

sources_alike : (t t' : State) (k : Token) → AreAlike t t' → HaveSameSources t t' k k
sources_alike t t' k a = record {
  groups = a.groups;
  roles = a.roles;
  shares = a.shares;
  declared = a.declared;
  owner = refl;
  issued_for = refl;
  scopes = refl;
  admin = admin_alike t t' k.owner a;
}

-- ---- an entry

older : (b : Bool) (stamp : ℕ) → stamp ≤ cond b (stamp + 1) stamp
older true stamp = omega arith
older false stamp = omega arith

entry_after : (rows : List RowChange) (t : State) (since stamp id : ℕ) (kept : KeptGrant) → NumbersTokens rows t → IsRightIn t since stamp id kept
    → IsRightIn (change_done rows t) (cond (changes_sources t rows) (stamp + 1) since) (cond (changes_rights t rows) (stamp + 1) stamp) id kept
entry_after rows t since stamp id kept new r = record {
  older = let a : kept.stamp ≤ stamp = r.older in let b = older (changes_rights t rows) stamp in omega (arith, a, b);
  numbered = let a : id < next_token t = r.numbered in let b : next_token t ≤ next_token (change_done rows t) = new.rises in omega (arith, a, b);
  right = λ e k at. by_test (changes_sources t rows) refl e k at;
}
  where
    by_test : (b : Bool) → changes_sources t rows ≡ b → cond b (stamp + 1) since ≤ kept.stamp → (k : Token) → get (change_done rows t).tokens id ≡ Some k
        → IsGrantOf (change_done rows t) (IsAllowed (change_done rows t) k) kept.grant
    by_test true same e k at = let a : kept.stamp ≤ stamp = r.older in let b : stamp + 1 ≤ kept.stamp = e in absurd (omega (arith, a, b))
    by_test false same e k at =
        same_grant t (change_done rows t) k k kept.grant (sources_alike t (change_done rows t) k (alike t rows same))
        (r.right e k (token_kept rows t id k new r.numbered at))

-- ---- what changes the sources of rights changes rights

either_right : (t : State) (r : RowChange) → touches_rights t r ≡ false → touches_sources t r ≡ false
either_right t (Put (Row.User row)) h = by_user (get t.users row.name) h
  where
    by_user : (kept : Option User) → not (is_kept_as row.admin kept) ≡ false → not (same_bool (is_admin_row kept) row.admin) ≡ false
    by_user None e = absurd (true_false e)
    by_user (Some user) e = e
either_right t (Remove (RowKey.User name)) h = absurd (true_false h)
either_right t (Put (Row.Group row)) h = absurd (true_false h)
either_right t (Remove (RowKey.Group name)) h = absurd (true_false h)
either_right t (Put (Row.Service row)) h = absurd (true_false h)
either_right t (Remove (RowKey.Service name)) h = absurd (true_false h)
either_right t (Put (Row.Role row)) h = absurd (true_false h)
either_right t (Remove (RowKey.Role name)) h = absurd (true_false h)
either_right t (Put (Row.Share row)) h = absurd (true_false h)
either_right t (Remove (RowKey.Share key)) h = absurd (true_false h)
either_right t _ h = h

of_rights : (t : State) (rows : List RowChange) → changes_rights t rows ≡ false → changes_sources t rows ≡ false
of_rights t [] h = refl
of_rights t (r ∷ rows) h =
    let parts = either (touches_rights t r) (changes_rights t rows) h in
    neither (touches_sources t r) (changes_sources t rows) (either_right t r parts.0) (of_rights t rows parts.1)

settled_after : (sources rights : Bool) (since stamp : ℕ) → (rights ≡ false → sources ≡ false) → since ≤ stamp → cond sources (stamp + 1) since ≤ cond rights (stamp + 1) stamp
settled_after true true since stamp only h = omega arith
settled_after true false since stamp only h = absurd (true_false (only refl))
settled_after false true since stamp only h = omega (arith, h)
settled_after false false since stamp only h = h

-- ---- the whole

more : (b : Bool) (stamp length : ℕ) → stamp ≤ length → cond b (stamp + 1) stamp ≤ length + 1
more true stamp length h = omega (arith, h)
more false stamp length h = omega (arith, h)

-- rows that number their tokens
rows_stamped : (c : Cache) (rows : List RowChange) (t : State) (since stamp length : ℕ) → NumbersTokens rows t → IsStamped c t since stamp length
    → IsStamped c (change_done rows t) (cond (changes_sources t rows) (stamp + 1) since) (cond (changes_rights t rows) (stamp + 1) stamp) (length + 1)
rows_stamped c rows t since stamp length new h = record {
  current = record {
    settled = settled_after (changes_sources t rows) (changes_rights t rows) since stamp (of_rights t rows) h.current.settled;
    each = (λ id kept at. entry_after rows t since stamp id kept new (h.current.each.0 id kept at), λ id kept at. entry_after rows t since stamp id kept new (h.current.each.1 id kept at));
  };
  numbered = numbered_after rows t new h.numbered;
  room = more (changes_rights t rows) stamp length h.room;
}

-- one entry more with the same rows
same_stamped : (c : Cache) (t : State) (since stamp length : ℕ) → IsStamped c t since stamp length → IsStamped c t since stamp (length + 1)
same_stamped c t since stamp length h = record { current = h.current; numbered = h.numbered; room = more false stamp length h.room }

-- ---- a step of a life: the tables stay, or the rows of an end are done

end_any : (test : RowChange → Bool) → ((x : ServerRow) → test (Put (Row.ServerRow x)) ≡ false) → ((x : ℕ) → test (Remove (RowKey.Token x)) ≡ false)
    → ((x : List ℕ) → test (Remove (RowKey.Lease x)) ≡ false) → ((x : List ℕ) → test (Remove (RowKey.OAuthClient x)) ≡ false)
    → (t : State) (l : Leased) → list_any test (end_rows t l) ≡ false
end_any test put token lease client t l = both (rested (get t.servers l.server)) rest (row (get t.servers l.server)) (both tokens last (all (start_tokens t l.server)) gone)
  where
    last : List RowChange
    last = Remove (RowKey.Lease l.target) ∷ Remove (RowKey.OAuthClient (client_of l.server)) ∷ []

    tokens : List RowChange
    tokens = map (λ id. Remove (RowKey.Token id)) (start_tokens t l.server)

    rest : List RowChange
    rest = tokens ++ last

    both : (xs ys : List RowChange) → list_any test xs ≡ false → list_any test ys ≡ false → list_any test (xs ++ ys) ≡ false
    both [] ys h k = k
    both (x ∷ xs) ys h k =
        let parts = either (test x) (list_any test xs) h in
        neither (test x) (list_any test (xs ++ ys)) parts.0 (both xs ys parts.1 k)

    row : (kept : Option ServerRow) → list_any test (rested kept) ≡ false
    row None = refl
    row (Some x) = neither (test (Put (Row.ServerRow (record x { started = None })))) false (put (record x { started = None })) refl

    all : (ids : List ℕ) → list_any test (map (λ id. Remove (RowKey.Token id)) ids) ≡ false
    all [] = refl
    all (id ∷ ids) = neither (test (Remove (RowKey.Token id))) (list_any test (map (λ i. Remove (RowKey.Token i)) ids)) (token id) (all ids)

    gone : list_any test last ≡ false
    gone = neither (test (Remove (RowKey.Lease l.target))) (list_any test (Remove (RowKey.OAuthClient (client_of l.server)) ∷ [])) (lease l.target)
        (neither (test (Remove (RowKey.OAuthClient (client_of l.server)))) false (client (client_of l.server)) refl)

end_numbers : (t : State) (l : Leased) → NumbersTokens (end_rows t l) t
end_numbers t l = numbers_tokens (end_rows t l) t (end_any numbers none_numbered.put_server none_numbered.remove_token lease_removed none_numbered.remove_client t l)

end_stamped : (c : Cache) (t : State) (l : Leased) (since stamp length : ℕ) → IsStamped c t since stamp length → IsStamped c (change_done (end_rows t l) t) since stamp (length + 1)
end_stamped c t l since stamp length h =
    let rights = end_any (touches_rights t) (λ x. refl) (λ x. refl) (λ x. refl) (λ x. refl) t l in
    subst (λ (b : Bool). IsStamped c (change_done (end_rows t l) t) since (cond b (stamp + 1) stamp) (length + 1)) rights
    (subst (λ (b : Bool). IsStamped c (change_done (end_rows t l) t) (cond b (stamp + 1) since) (cond (changes_rights t (end_rows t l)) (stamp + 1) stamp) (length + 1)) (of_rights t (end_rows t l) rights)
    (rows_stamped c (end_rows t l) t since stamp length (end_numbers t l) h))

moved_stamped : (c : Cache) (s : Hub) (since stamp g : ℕ) (l : Leased) (life : Life) (phase : Phase) → IsStamped c s.tables since stamp s.length
    → IsStamped c (moved_on g l life phase s).tables since stamp (s.length + 1)
moved_stamped c s since stamp g l life Stopped h = end_stamped c s.tables l since stamp s.length h
moved_stamped c s since stamp g l life (Adopting x) h = same_stamped c s.tables since stamp s.length h
moved_stamped c s since stamp g l life (Spawning x) h = same_stamped c s.tables since stamp s.length h
moved_stamped c s since stamp g l life (Routing x) h = same_stamped c s.tables since stamp s.length h
moved_stamped c s since stamp g l life (Ready x) h = same_stamped c s.tables since stamp s.length h
moved_stamped c s since stamp g l life (Unrouting x) h = same_stamped c s.tables since stamp s.length h
moved_stamped c s since stamp g l life (Stopping x) h = same_stamped c s.tables since stamp s.length h
moved_stamped c s since stamp g l life (Parked x at) h = same_stamped c s.tables since stamp s.length h

step_stamped : (c : Cache) (s : Hub) (since stamp g : ℕ) (l : Leased) (step : LifeStep) → IsStamped c s.tables since stamp s.length
    → IsStamped c (stepped g l step s).tables since stamp (s.length + 1)
step_stamped c s since stamp g l (Err e) h = same_stamped c s.tables since stamp s.length h
step_stamped c s since stamp g l (Ok next) h = moved_stamped c s since stamp g l next.0 next.0.phase h

lease_stamped : (c : Cache) (s : Hub) (since stamp g : ℕ) (event : LifeEvent) (l : Option Leased) → IsStamped c s.tables since stamp s.length
    → IsStamped c (of_lease g event l s).tables since stamp (s.length + 1)
lease_stamped c s since stamp g event None h = same_stamped c s.tables since stamp s.length h
lease_stamped c s since stamp g event (Some l) h = step_stamped c s since stamp g l (life_after l.life g event) h

stamped_noted : (c : Cache) (s : Hub) (since stamp : ℕ) (ch : Option Change) → NumbersIn s.tables ch → IsStamped c s.tables since stamp s.length
    → IsStamped c (noted ch s).tables (since_after s.tables ch stamp since) (stamp_after s.tables ch stamp) (noted ch s).length
stamped_noted c s since stamp None new h = h
stamped_noted c s since stamp (Some (Rows rows)) new h = rows_stamped c rows s.tables since stamp s.length new h
stamped_noted c s since stamp (Some (Begin g server rows)) new h = rows_stamped c rows s.tables since stamp s.length new h
stamped_noted c s since stamp (Some (Lived g event)) new h = lease_stamped c s since stamp g event (get s.lives g) h

moved : (c : Cache) (s s' : Hub) (since since' stamp stamp' : ℕ) → s' ≡ s → since' ≡ since → stamp' ≡ stamp → IsStamped c s.tables since stamp s.length → IsStamped c s'.tables since' stamp' s'.length
moved c s s' since since' stamp stamp' hub settled same h =
    let P : Hub → Type 0 = λ x. IsStamped c x.tables since' stamp' x.length in
    let Q : ℕ → Type 0 = λ n. IsStamped c s.tables since' n s.length in
    let R : ℕ → Type 0 = λ n. IsStamped c s.tables n stamp s.length in
    subst P (sym hub) (subst Q (sym same) (subst R (sym settled) h))

-- whatever came of carrying an answer out
pub stamped_carried : {E : Type 0} (c : Cache) (ch : Option Change) (says : spec.Outcome) (r : Result Outcome E) (b b' : Carrier) → NumbersIn b.hub.tables ch → Carried ch says r b b'
    → IsStamped c b.hub.tables b.since b.stamp b.hub.length → IsStamped c b'.hub.tables b'.since b'.stamp b'.hub.length
stamped_carried c ch says (Ok o) b b' new carried h = elim carried as (λ _. IsStamped c b'.hub.tables b'.since b'.stamp b'.hub.length) [
  | inl d ↦ moved c (noted ch b.hub) b'.hub (since_after b.hub.tables ch b.stamp b.since) b'.since (stamp_after b.hub.tables ch b.stamp) b'.stamp d.hub d.settled d.stamped
      (stamped_noted c b.hub b.since b.stamp ch new h)
  | inr u ↦ moved c b.hub b'.hub b.since b'.since b.stamp b'.stamp u.stays.hub u.stays.settled u.stays.stamped h
]
stamped_carried c ch says (Err e) b b' new carried h = moved c b.hub b'.hub b.since b'.since b.stamp b'.stamp carried.hub carried.settled carried.stamped h

-- whatever came of a step of a life
pub stamped_stepped : (c : Cache) (s s' : Hub) (since stamp g : ℕ) (event : LifeEvent) → s' ≡ apply (Lived g event) s → IsStamped c s.tables since stamp s.length → IsStamped c s'.tables since stamp s'.length
stamped_stepped c s s' since stamp g event hub h = moved c (apply (Lived g event) s) s' since since stamp stamp hub refl refl (lease_stamped c s since stamp g event (get s.lives g) h)

pub stamped_same : (c : Cache) (s s' : Hub) (since stamp : ℕ) → s' ≡ s → IsStamped c s.tables since stamp s.length → IsStamped c s'.tables since stamp s'.length
stamped_same c s s' since stamp hub h = moved c s s' since since stamp stamp hub refl refl h
