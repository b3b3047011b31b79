-- The roles that the look-ups find are those that a scan over all roles finds.
use Rattle.std.proofs.Common.{◌≡◌, ℕ, Bool, true, false, ◌||◌, List, [], ◌∷◌, Option, Some, None, map, refl, sym, ap, ◌∙◌}
use Rattle.std.specs.Ordering.{eq_by_cmp}
use Rattle.std.specs.Cmp.Lexicographic.{nat_list_cmp_total, nat_list_eq_equiv, texts_ties}
use Rattle.std.specs.FinMap.{get}
use Rattle.std.specs.List.{flat_map, list_any}
use Rattle.hub_kit.specs.KeyOrder.{name_cmp}
use Rattle.keyed_rows.specs.Rows.{OwnKeys, is_kept_and}
use Rattle.keyed_rows.specs.Sorted.{is_among, in_order}
use Rattle.scope_filters.specs.declared.holder.Owner.{Owner}
use Rattle.scope_filters.specs.declared.holder.Owner.TheVariants as Own
use Rattle.hub_rows.specs.ShareOrder.{names_exact}
use Rattle.hub_rows.specs.declared.records.Group.{Group}
use Rattle.hub_rows.specs.declared.records.Role.{Role}
use Rattle.hub_tables.specs.Lookups.{roles_naming_user, roles_naming_group, groups_of}
use Rattle.hub_tables.specs.State.{State}
use Rattle.roles.specs.Naming.{roles_naming, role_scopes}
use Rattle.roles.specs.Rights.{holds_role, roles_held}
use Rattle.keyed_rows.proofs.InOrder.{found_among, found_give, found_in_order}
use Rattle.roles.proofs.AmongKeys.{among_both, none_of}
use Rattle.roles.proofs.GroupsOf.{member}

-- ---- one of a list is tied to one of another: in either order

or_swapped : (a b c d : Bool) → ((a || b) || (c || d)) ≡ ((a || c) || (b || d))
or_swapped true b c d = refl
or_swapped false true true d = refl
or_swapped false true false d = refl
or_swapped false false c d = refl

either : {A : Type 0} (p q : A → Bool) (xs : List A) → (list_any p xs || list_any q xs) ≡ list_any (λ x. p x || q x) xs
either p q [] = refl
either p q (x ∷ xs) = or_swapped (p x) (list_any p xs) (q x) (list_any q xs) ∙ ap (λ b. (p x || q x) || b) (either p q xs)

ties : {A B : Type 0} (tied : A → B → Bool) (xs : List A) (ys : List B) → list_any (λ x. list_any (tied x) ys) xs ≡ list_any (λ y. list_any (λ x. tied x y) xs) ys
ties tied [] ys = sym (none_of ys)
ties tied (x ∷ xs) ys = ap (λ b. list_any (tied x) ys || b) (ties tied xs ys) ∙ either (tied x) (λ y. list_any (λ x. tied x y) xs) ys

tied_back : (a b : List ℕ) → eq_by_cmp name_cmp a b ≡ eq_by_cmp name_cmp b a
tied_back a b = sym (texts_ties a b) ∙ nat_list_eq_equiv.symm a b ∙ texts_ties b a

-- one of some names is among others where one of these is among them
met : (xs ys : List (List ℕ)) → list_any (λ x. is_among name_cmp x ys) xs ≡ list_any (λ y. is_among name_cmp y xs) ys
met xs ys = ties (eq_by_cmp name_cmp) xs ys ∙ ap (λ (tied : List ℕ → List ℕ → Bool). list_any (λ y. list_any (tied y) xs) ys) (λ i y x. tied_back x y i)

-- ---- the roles that an owner holds

module _ (t : State) (own : OwnKeys (λ (row : Role). row.name) t.roles) where
  module _ (user : List ℕ) (own_groups : OwnKeys (λ (row : Group). row.name) t.groups) where
    of_row : (o : Option Role)
        → (is_kept_and (λ (r : Role). is_among name_cmp user r.users) o || list_any (λ g. is_kept_and (λ (r : Role). is_among name_cmp g r.groups) o) (groups_of t user)) ≡ is_kept_and (holds_role t (Own.User user)) o
    of_row None = none_of (groups_of t user)
    of_row (Some role) =
        ap (λ b. is_among name_cmp user role.users || b)
        (met (groups_of t user) role.groups ∙ ap (λ p. list_any p role.groups) (λ i g. member t user own_groups g i))

    among_naming : (q : List ℕ) → is_among name_cmp q (roles_naming t (Own.User user)) ≡ is_kept_and (holds_role t (Own.User user)) (get t.roles q)
    among_naming q =
        among_both name_cmp (roles_naming_user t user) (roles_naming_group t) q (groups_of t user)
        ∙ ap (λ b. b || list_any (λ g. is_among name_cmp q (roles_naming_group t g)) (groups_of t user))
        (found_among nat_list_cmp_total names_exact (λ (row : Role). row.name) (λ (r : Role). is_among name_cmp user r.users) t.roles own q)
        ∙ ap (λ p. is_kept_and (λ (r : Role). is_among name_cmp user r.users) (get t.roles q) || list_any p (groups_of t user))
        (λ i g. found_among nat_list_cmp_total names_exact (λ (row : Role). row.name) (λ (r : Role). is_among name_cmp g r.groups) t.roles own q i)
        ∙ of_row (get t.roles q)

  among_held : OwnKeys (λ (row : Group). row.name) t.groups → (w : Owner) (q : List ℕ) → is_among name_cmp q (roles_naming t w) ≡ is_kept_and (holds_role t w) (get t.roles q)
  among_held own_groups (Own.User user) q = among_naming user own_groups q
  among_held own_groups (Own.Service service) q =
      found_among nat_list_cmp_total names_exact (λ (row : Role). row.name) (λ (r : Role). is_among name_cmp service r.services) t.roles own q

  -- the names that the look-ups find, in order, are those of the roles that the owner holds
  pub names_in_order : OwnKeys (λ (row : Group). row.name) t.groups → (w : Owner) → in_order name_cmp (roles_naming t w) ≡ map (λ (role : Role). role.name) (roles_held t w)
  names_in_order own_groups w =
      found_in_order nat_list_cmp_total names_exact (λ (row : Role). row.name) (holds_role t w) t.roles own (roles_naming t w) (among_held own_groups w)

  -- the scopes at these names are those of the roles
  pub held_scopes : (w : Owner) → flat_map (λ name. role_scopes (get t.roles name)) (map (λ (role : Role). role.name) (roles_held t w)) ≡ flat_map (λ (role : Role). role.scopes) (roles_held t w)
  held_scopes w = found_give nat_list_cmp_total names_exact (λ (row : Role). row.name) (holds_role t w) t.roles own role_scopes
