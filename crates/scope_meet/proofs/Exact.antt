-- What is within a filter admits no more, and what two filters both admit is within one of them, or common to two servers.
use Rattle.std.proofs.Common.{◌≡◌, ℕ, Bool, true, false, ◌&&◌, ◌||◌, cond, if◌then◌else◌, List, [], ◌∷◌, refl, sym, ap, ◌∙◌, ◌⊎◌, inl, inr}
use Rattle.std.specs.Ordering.{nat_cmp, eq_by_cmp, is_eq}
use Rattle.std.specs.declared.cmp.Ordering.TheVariants.{Less, Equal, Greater}
use Rattle.std.specs.Cmp.Lexicographic.{slice_cmp, nat_list_eq_equiv, texts_ties}
use Rattle.std.specs.FinMap.{nat_cmp-IsAntisymmetric, slice_cmp-IsAntisymmetric}
use Rattle.scope_names.specs.declared.action.Action.{Action}
use Rattle.scope_filters.specs.declared.object.Object.{Object}
use Rattle.scope_filters.specs.declared.object.Object.TheVariants as Ob
use Rattle.scope_filters.specs.declared.filter.Filter.{Filter}
use Rattle.scope_filters.specs.declared.filter.Filter.TheVariants as Fi
use Rattle.scope_filters.specs.Admits.{reads_names, admits, any_admits}
use Rattle.scope_filters.specs.Contexts.{Context, same, is_member}
use Rattle.scope_meet.specs.Meets.{within, is_group}

-- ---- names
pub tied : (a b : List ℕ) → eq_by_cmp (slice_cmp nat_cmp) a b ≡ true → a ≡ b
tied a b h = elim (slice_cmp nat_cmp a b) as (λ r. slice_cmp nat_cmp a b ≡ r → is_eq r ≡ true → a ≡ b) [
  | Less ↦ λ e k. absurd (cc)
  | Equal ↦ λ e k. slice_cmp-IsAntisymmetric nat_cmp-IsAntisymmetric a b e
  | Greater ↦ λ e k. absurd (cc)
] refl h

pub same_is : (a b : List ℕ) → same a b ≡ true → a ≡ b
same_is a b h = tied a b (sym (texts_ties a b) ∙ h)

pub same_refl : (a : List ℕ) → same a a ≡ true
same_refl a = nat_list_eq_equiv.refl a

pub is_same : (a b : List ℕ) → a ≡ b → same a b ≡ true
is_same a b h = ap (same a) (sym h) ∙ same_refl a

pub left : (a b : Bool) → (a && b) ≡ true → a ≡ true
left true b h = refl
left false b h = cc

pub right : (a b : Bool) → (a && b) ≡ true → b ≡ true
right true b h = h
right false b h = cc

pub both_true : (a b : Bool) → a ≡ true → b ≡ true → (a && b) ≡ true
both_true true b h k = k
both_true false b h k = cc

pub exactly : (b x y : Bool) → (b ≡ true → (x ≡ true) × (y ≡ true)) → (x ≡ true → y ≡ true → b ≡ true) → b ≡ (x && y)
exactly true x y to from = sym (both_true x y (to refl).0 (to refl).1)
exactly false true true to from = from refl refl
exactly false true false to from = refl
exactly false false y to from = refl

-- what two servers have in common, of which neither is within the other: the right to read the name of their user
abbrev pub common : Action → Filter → Filter → List Filter
common a (Fi.Server k) (Fi.Server l) = if (reads_names a && same k.user l.user) then Fi.OwnerOf k.user ∷ [] else []
common a _ _ = []

abbrev pub are_groups : Filter → Filter → Bool
are_groups f g = is_group f && is_group g

-- ---- what is within admits no more
module _ (a : Action) (m : Context) where
  -- a test of a name carries over to a name that is the same
  moved : (p : List ℕ → Bool) (u w : List ℕ) → same u w ≡ true → p u ≡ true → p w ≡ true
  moved p u w e h = ap p (sym (same_is u w e)) ∙ h

  moved_back : (p : List ℕ → Bool) (u w : List ℕ) → same u w ≡ true → p w ≡ true → p u ≡ true
  moved_back p u w e h = ap p (same_is u w e) ∙ h

  pub within_sound : (f g : Filter) (x : Object) → within a m f g ≡ true → admits a m f x ≡ true → admits a m g x ≡ true
  within_sound f Fi.All x h k = refl
  within_sound (Fi.User u) (Fi.User w) (Ob.User v) h k = moved (λ n. same n v) u w h k
  within_sound (Fi.User u) (Fi.User w) (Ob.Server l) h k = moved (λ n. same n l.user) u w h k
  within_sound (Fi.Server l) (Fi.User u) (Ob.User v) h k = moved (λ n. same n v) l.user u h (right (reads_names a) _ k)
  within_sound (Fi.Server l) (Fi.User u) (Ob.Server n) h k = moved (λ p. same p n.user) l.user u h (left (same l.user n.user) _ k)
  within_sound (Fi.OwnerOf w) (Fi.User u) (Ob.User v) h k = moved (λ n. same n v) w u h k
  within_sound (Fi.User u) (Fi.Group g) (Ob.User v) h k = moved (λ n. is_member m n g) u v k h
  within_sound (Fi.User u) (Fi.Group g) (Ob.Server l) h k = moved (λ n. is_member m n g) u l.user k h
  within_sound (Fi.Group g) (Fi.Group n) (Ob.Group o) h k = moved (λ p. same p o) g n h k
  within_sound (Fi.Group g) (Fi.Group n) (Ob.User u) h k = moved (λ p. is_member m u p) g n h k
  within_sound (Fi.Group g) (Fi.Group n) (Ob.Server l) h k = moved (λ p. is_member m l.user p) g n h k
  within_sound (Fi.Server l) (Fi.Group g) (Ob.User v) h k = moved (λ n. is_member m n g) l.user v (right (reads_names a) _ k) h
  within_sound (Fi.Server l) (Fi.Group g) (Ob.Server n) h k = moved (λ p. is_member m p g) l.user n.user (left (same l.user n.user) _ k) h
  within_sound (Fi.OwnerOf w) (Fi.Group g) (Ob.User v) h k = moved (λ n. is_member m n g) w v k h
  within_sound (Fi.Server l) (Fi.Server n) (Ob.User v) h k = both_true (reads_names a) _ (left (reads_names a) _ k) (moved (λ p. same p v) l.user n.user (left (same l.user n.user) _ h) (right (reads_names a) _ k))
  within_sound (Fi.Server l) (Fi.Server n) (Ob.Server o) h k = both_true (same n.user o.user) _
      (moved (λ p. same p o.user) l.user n.user (left (same l.user n.user) _ h) (left (same l.user o.user) _ k))
      (moved (λ p. same p o.server) l.server n.server (right (same l.user n.user) _ h) (right (same l.user o.user) _ k))
  within_sound (Fi.OwnerOf w) (Fi.Server l) (Ob.User v) h k = both_true (reads_names a) _ (left (reads_names a) _ h) (moved (λ n. same n v) w l.user (right (reads_names a) _ h) k)
  within_sound (Fi.Service v) (Fi.Service w) (Ob.Service o) h k = moved (λ n. same n o) v w h k
  within_sound (Fi.OwnerOf u) (Fi.OwnerOf w) (Ob.User v) h k = moved (λ n. same n v) u w h k
  within_sound _ _ _ h k = cc

  -- ---- what both admit
  joined : (u v w : List ℕ) → same u w ≡ true → same v w ≡ true → same u v ≡ true
  joined u v w h k = is_same u v (same_is u w h ∙ sym (same_is v w k))

  owner_admits : (c : Bool) (u v : List ℕ) → c ≡ true → same u v ≡ true → any_admits a m (cond c (Fi.OwnerOf u ∷ []) []) (Ob.User v) ≡ true
  owner_admits true u v h k = rw k refl
  owner_admits false u v h k = cc

  pub both : (f g : Filter) (x : Object) → admits a m f x ≡ true → admits a m g x ≡ true → (within a m f g ≡ true) ⊎ ((within a m g f ≡ true) ⊎ ((any_admits a m (common a f g) x ≡ true) ⊎ (are_groups f g ≡ true)))
  both f Fi.All x h k = inl refl
  both Fi.All g x h k = inr (inl refl)
  both (Fi.User u) (Fi.User w) (Ob.User v) h k = inl (joined u w v h k)
  both (Fi.User u) (Fi.User w) (Ob.Server l) h k = inl (joined u w l.user h k)
  both (Fi.User u) (Fi.Group g) (Ob.User v) h k = inl (moved_back (λ n. is_member m n g) u v h k)
  both (Fi.User u) (Fi.Group g) (Ob.Server l) h k = inl (moved_back (λ n. is_member m n g) u l.user h k)
  both (Fi.Group g) (Fi.User u) (Ob.User v) h k = inr (inl (moved_back (λ n. is_member m n g) u v k h))
  both (Fi.Group g) (Fi.User u) (Ob.Server l) h k = inr (inl (moved_back (λ n. is_member m n g) u l.user k h))
  both (Fi.User u) (Fi.Server l) (Ob.User v) h k = inr (inl (joined l.user u v (right (reads_names a) _ k) h))
  both (Fi.User u) (Fi.Server l) (Ob.Server n) h k = inr (inl (joined l.user u n.user (left (same l.user n.user) _ k) h))
  both (Fi.Server l) (Fi.User u) (Ob.User v) h k = inl (joined l.user u v (right (reads_names a) _ h) k)
  both (Fi.Server l) (Fi.User u) (Ob.Server n) h k = inl (joined l.user u n.user (left (same l.user n.user) _ h) k)
  both (Fi.User u) (Fi.OwnerOf w) (Ob.User v) h k = inr (inl (joined w u v k h))
  both (Fi.OwnerOf w) (Fi.User u) (Ob.User v) h k = inl (joined w u v h k)
  both (Fi.Group g) (Fi.Group n) (Ob.Group o) h k = inl (joined g n o h k)
  both (Fi.Group g) (Fi.Group n) (Ob.User u) h k = inr (inr (inr refl))
  both (Fi.Group g) (Fi.Group n) (Ob.Server l) h k = inr (inr (inr refl))
  both (Fi.Group g) (Fi.Server l) (Ob.User v) h k = inr (inl (moved_back (λ n. is_member m n g) l.user v (right (reads_names a) _ k) h))
  both (Fi.Group g) (Fi.Server l) (Ob.Server n) h k = inr (inl (moved_back (λ p. is_member m p g) l.user n.user (left (same l.user n.user) _ k) h))
  both (Fi.Server l) (Fi.Group g) (Ob.User v) h k = inl (moved_back (λ n. is_member m n g) l.user v (right (reads_names a) _ h) k)
  both (Fi.Server l) (Fi.Group g) (Ob.Server n) h k = inl (moved_back (λ p. is_member m p g) l.user n.user (left (same l.user n.user) _ h) k)
  both (Fi.Group g) (Fi.OwnerOf w) (Ob.User v) h k = inr (inl (moved_back (λ n. is_member m n g) w v k h))
  both (Fi.OwnerOf w) (Fi.Group g) (Ob.User v) h k = inl (moved_back (λ n. is_member m n g) w v h k)
  both (Fi.Server l) (Fi.Server n) (Ob.User v) h k = inr (inr (inl (owner_admits _ l.user v
      (both_true (reads_names a) _ (left (reads_names a) _ h) (joined l.user n.user v (right (reads_names a) _ h) (right (reads_names a) _ k))) (right (reads_names a) _ h))))
  both (Fi.Server l) (Fi.Server n) (Ob.Server o) h k = inl (both_true (same l.user n.user) _
      (joined l.user n.user o.user (left (same l.user o.user) _ h) (left (same n.user o.user) _ k))
      (joined l.server n.server o.server (right (same l.user o.user) _ h) (right (same n.user o.user) _ k)))
  both (Fi.Server l) (Fi.OwnerOf w) (Ob.User v) h k = inr (inl (both_true (reads_names a) _ (left (reads_names a) _ h) (joined w l.user v k (right (reads_names a) _ h))))
  both (Fi.OwnerOf w) (Fi.Server l) (Ob.User v) h k = inl (both_true (reads_names a) _ (left (reads_names a) _ k) (joined w l.user v h (right (reads_names a) _ k)))
  both (Fi.Service v) (Fi.Service w) (Ob.Service o) h k = inl (joined v w o h k)
  both (Fi.OwnerOf u) (Fi.OwnerOf w) (Ob.User v) h k = inl (joined u w v h k)
  both (Fi.Service v) g Ob.Hub h k = cc
  both f (Fi.Service v) Ob.Hub h k = cc
  both _ _ _ h k = cc

  one_or_none : (b : Bool) → (b || false) ≡ true → b ≡ true
  one_or_none true h = refl
  one_or_none false h = h

  owner_only : (c : Bool) (u : List ℕ) (x : Object) → any_admits a m (cond c (Fi.OwnerOf u ∷ []) []) x ≡ true → (c ≡ true) × (admits a m (Fi.OwnerOf u) x ≡ true)
  owner_only true u x h = (refl, one_or_none (admits a m (Fi.OwnerOf u) x) h)
  owner_only false u x h = cc

  -- what is in common both admit
  pub common_sound : (f g : Filter) (x : Object) → any_admits a m (common a f g) x ≡ true → (admits a m f x ≡ true) × (admits a m g x ≡ true)
  common_sound (Fi.Server l) (Fi.Server n) (Ob.User v) e =
      let k = owner_only _ l.user (Ob.User v) e in
      (both_true (reads_names a) _ (left (reads_names a) _ k.0) k.1, both_true (reads_names a) _ (left (reads_names a) _ k.0) (moved (λ p. same p v) l.user n.user (right (reads_names a) _ k.0) k.1))
  common_sound (Fi.Server l) (Fi.Server n) Ob.Hub e = let k = (owner_only _ l.user Ob.Hub e).1 in cc
  common_sound (Fi.Server l) (Fi.Server n) (Ob.Group o) e = let k = (owner_only _ l.user (Ob.Group o) e).1 in cc
  common_sound (Fi.Server l) (Fi.Server n) (Ob.Server o) e = let k = (owner_only _ l.user (Ob.Server o) e).1 in cc
  common_sound (Fi.Server l) (Fi.Server n) (Ob.Service o) e = let k = (owner_only _ l.user (Ob.Service o) e).1 in cc
  common_sound _ _ _ e = cc

-- ---- choices
pub or_cases : (a b : Bool) → (a || b) ≡ true → (a ≡ true) ⊎ (b ≡ true)
or_cases true b h = inl refl
or_cases false b h = inr h

pub or_left : (a b : Bool) → a ≡ true → (a || b) ≡ true
or_left true b h = refl
or_left false b h = cc

pub or_right : (a b : Bool) → b ≡ true → (a || b) ≡ true
or_right true b h = refl
or_right false b h = h
