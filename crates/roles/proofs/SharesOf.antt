-- The shares that the look-ups find are those that a scan over all shares finds.
use Rattle.std.proofs.Common.{◌≡◌, ℕ, Bool, true, false, ◌&&◌, ◌||◌, List, [], ◌∷◌, ◌++◌, Option, Some, None, refl, sym, ap, ◌∙◌}
use Rattle.std.specs.Cmp.Lexicographic.{nat_list_eq_equiv, texts_ties}
use Rattle.std.specs.FinMap.{values, get}
use Rattle.std.specs.List.{filter, flat_map, list_any}
use Rattle.hub_kit.specs.KeyOrder.{name_cmp}
use Rattle.keyed_rows.specs.Rows.{OwnKeys, is_kept_and}
use Rattle.keyed_rows.specs.Sorted.{is_among, in_order}
use Rattle.scope_filters.specs.Contexts.{same}
use Rattle.scope_filters.specs.declared.holder.Owner.{Owner}
use Rattle.scope_filters.specs.declared.holder.Owner.TheVariants as Own
use Rattle.scope_filters.specs.declared.scope.RawScope.{RawScope}
use Rattle.hub_rows.specs.ShareOrder.{share_cmp, share_exact}
use Rattle.hub_rows.specs.contracts.keys.ShareKeyOrd.TheImpl.Laws as share_key
use Rattle.hub_rows.specs.declared.keys.Recipient.{Recipient}
use Rattle.hub_rows.specs.declared.keys.Recipient.TheVariants as To
use Rattle.hub_rows.specs.declared.keys.ShareKey.{ShareKey}
use Rattle.hub_rows.specs.declared.records.Group.{Group}
use Rattle.hub_rows.specs.declared.records.Share.{Share}
use Rattle.hub_tables.specs.Lookups.{same_recipient, is_given_by, is_share_with, shares_with, groups_of}
use Rattle.hub_tables.specs.State.{State}
use Rattle.roles.specs.Received.{share_scopes}
use Rattle.roles.specs.Rights.{received, shares_received}
use Rattle.keyed_rows.proofs.InOrder.{found_among, found_give, found_in_order}
use Rattle.roles.proofs.AmongKeys.{among_filter, among_both, none_of}
use Rattle.roles.proofs.GroupsOf.{member}

-- ---- the shares that a user received

or_false : (a : Bool) → (a || false) ≡ a
or_false true = refl
or_false false = refl

and_none : (a : Bool) → (a && false) ≡ false
and_none true = refl
and_none false = refl

absorbed : (a g : Bool) → (a && (g || a)) ≡ a
absorbed true true = refl
absorbed true false = refl
absorbed false g = refl

module _ (t : State) (user : List ℕ) (own : OwnKeys (λ (row : Share). row.key) t.shares) (own_groups : OwnKeys (λ (row : Group). row.name) t.groups) where
  to_some : (group : List ℕ) (gs : List (List ℕ)) → list_any (λ g. same group g) gs ≡ is_among name_cmp group gs
  to_some group gs = ap (λ p. list_any p gs) (λ i name. texts_ties group name i)

  to_user : (to : Recipient) (given : Bool) → ((same_recipient to (To.User user) && (given || same_recipient to (To.User user))) || list_any (λ g. same_recipient to (To.Group g)) (groups_of t user)) ≡ received t (Own.User user) to
  to_user (To.User name) given =
      ap (λ b. b || list_any (λ g. false) (groups_of t user)) (absorbed (same name user) given) ∙ ap (λ b. same name user || b) (none_of (groups_of t user)) ∙ or_false (same name user) ∙ nat_list_eq_equiv.symm name user
  to_user (To.Group group) given = to_some group (groups_of t user) ∙ member t user own_groups group

  of_row : (q : ShareKey) (o : Option Share) → get t.shares q ≡ o
      → ((same_recipient q.to (To.User user) && is_kept_and (is_share_with (To.User user)) o) || list_any (λ g. is_kept_and (is_share_with (To.Group g)) o) (groups_of t user)) ≡ is_kept_and (λ (share : Share). received t (Own.User user) share.key.to) o
  of_row q None at = ap (λ b. b || list_any (λ g. false) (groups_of t user)) (and_none (same_recipient q.to (To.User user))) ∙ none_of (groups_of t user)
  of_row q (Some share) at =
      ap (λ k. (same_recipient k.to (To.User user) && is_share_with (To.User user) share) || list_any (λ g. is_share_with (To.Group g) share) (groups_of t user)) (sym (own q share at))
      ∙ to_user share.key.to (is_given_by (To.User user) share.key)

  abbrev all_keys : List ShareKey
  all_keys = filter (λ key. same_recipient key.to (To.User user)) (shares_with t (To.User user)) ++ flat_map (λ g. shares_with t (To.Group g)) (groups_of t user)

  among_all : (q : ShareKey) → is_among share_cmp q all_keys ≡ is_kept_and (λ (share : Share). received t (Own.User user) share.key.to) (get t.shares q)
  among_all q =
      among_both share_cmp (filter (λ key. same_recipient key.to (To.User user)) (shares_with t (To.User user))) (λ g. shares_with t (To.Group g)) q (groups_of t user)
      ∙ ap (λ b. b || list_any (λ g. is_among share_cmp q (shares_with t (To.Group g))) (groups_of t user))
      (among_filter share_exact (λ key. same_recipient key.to (To.User user)) q (shares_with t (To.User user))
      ∙ ap (λ b. same_recipient q.to (To.User user) && b) (found_among share_key.total-law share_exact (λ (row : Share). row.key) (is_share_with (To.User user)) t.shares own q))
      ∙ ap (λ p. (same_recipient q.to (To.User user) && is_kept_and (is_share_with (To.User user)) (get t.shares q)) || list_any p (groups_of t user))
      (λ i g. found_among share_key.total-law share_exact (λ (row : Share). row.key) (is_share_with (To.Group g)) t.shares own q i)
      ∙ of_row q (get t.shares q) refl

  -- the scopes at the keys in order are those of the shares that the user received
  pub received_scopes : flat_map (λ key. share_scopes (get t.shares key)) (in_order share_cmp all_keys) ≡ flat_map (λ (share : Share). share.scopes) (shares_received t (Own.User user))
  received_scopes =
      ap (flat_map (λ key. share_scopes (get t.shares key)))
      (found_in_order share_key.total-law share_exact (λ (row : Share). row.key) (λ (share : Share). received t (Own.User user) share.key.to) t.shares own all_keys among_all)
      ∙ found_give share_key.total-law share_exact (λ (row : Share). row.key) (λ (share : Share). received t (Own.User user) share.key.to) t.shares own share_scopes

-- ---- a service received nothing

none_kept : {A : Type 0} (xs : List A) → filter (λ x. false) xs ≡ []
none_kept [] = refl
none_kept (x ∷ xs) = none_kept xs

plus_none : {A : Type 0} (xs : List A) → xs ≡ xs ++ []
plus_none [] = refl
plus_none (x ∷ xs) = ap (λ ys. x ∷ ys) (plus_none xs)

pub none_received : (t : State) (owner : Owner) (service : List ℕ) (old : List RawScope) → owner ≡ Own.Service service → old ≡ old ++ flat_map (λ (share : Share). share.scopes) (shares_received t owner)
none_received t owner service old is =
    plus_none old ∙ ap (λ (kept : List Share). old ++ flat_map (λ (share : Share). share.scopes) kept) (sym (none_kept (values t.shares)))
    ∙ ap (λ w. old ++ flat_map (λ (share : Share). share.scopes) (shares_received t w)) (sym is)
