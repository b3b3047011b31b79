-- A filter that a list of filters admits whole is within one of them.
use Rattle.std.proofs.Common.{◌≡◌, ℕ, Bool, true, false, ◌&&◌, ◌||◌, ◌<◌, ◌^◌, List, [], ◌∷◌, length, map, suc, Option, Some, refl, sym, ap, ◌∙◌, inl, inr}
use Rattle.std.specs.List.{list_any}
use Rattle.std.specs.FinMap.{len, len-entries}
use Rattle.std.specs.FinSet.{FinSet}
use Rattle.scope_names.specs.declared.action.Action.{Action}
use Rattle.scope_filters.specs.declared.object.Object.{Object}
use Rattle.scope_filters.specs.declared.filter.Filter.{Filter}
use Rattle.scope_filters.specs.declared.filter.Filter.TheVariants as Fi
use Rattle.scope_filters.specs.Admits.{admits, any_admits}
use Rattle.scope_filters.specs.Contexts.{Context, same}
use Rattle.scope_filters.specs.FilterOrder.{filter_cmp}
use Rattle.scope_filters.specs.Grants.{Rights, filters_at, listed}
use Rattle.scope_expand.specs.Passes.{is_owner_of}
use Rattle.scope_expand.proofs.Ones.{not_true, clash}
use Rattle.scope_meet.specs.Meets.{within}
use Rattle.scope_meet.specs.Named.{IsFilter}
use Rattle.scope_meet.specs.Containment.{IsOutside}
use Rattle.scope_meet.proofs.Exact.{within_sound, same_is, is_same, left, right, or_cases, or_left, or_right}
use Rattle.scope_meet.proofs.Fresh.{names_server, unnamed}
use Rattle.scope_meet.proofs.Witnesses.{witness, own_witness, named_witness}

-- a filter is held whole where it is within a single one
abbrev pub holds_whole : Context → Rights → Action → Filter → Bool
holds_whole m h a f = list_any (within a m f) (filters_at h a)

neither : (a b : Bool) → (a || b) ≡ false → (a ≡ false) × (b ≡ false)
neither true b h = cc
neither false b h = (refl, h)

module _ (a : Action) (m : Context) where
  swapped : (u w : List ℕ) → same u w ≡ true → same w u ≡ true
  swapped u w h = is_same w u (sym (same_is u w h))

  around : (s : List ℕ) (f g : Filter) → is_owner_of f ≡ false → names_server s g ≡ false → admits a m g (witness s f) ≡ true → within a m f g ≡ true
  around s f Fi.All o n h = refl
  around s (Fi.User u) (Fi.User w) o n h = swapped w u h
  around s (Fi.User u) (Fi.Group g) o n h = h
  around s (Fi.User u) (Fi.Server l) o n h = let k = right (same l.user u) _ h in cc
  around s (Fi.Group g) (Fi.Group k) o n h = swapped k g h
  around s (Fi.Server l) (Fi.User u) o n h = swapped u l.user h
  around s (Fi.Server l) (Fi.Group g) o n h = h
  around s (Fi.Server l) (Fi.Server k) o n h =
      let p = swapped k.user l.user (left (same k.user l.user) _ h) in
      let q = swapped k.server l.server (right (same k.user l.user) _ h) in
      ap (λ b. b && same l.server k.server) p ∙ q
  around s (Fi.Service v) (Fi.Service w) o n h = swapped w v h
  around s (Fi.OwnerOf u) g o n h = cc
  around _ _ _ o n h = cc

  pub one_around : (s : List ℕ) (f : Filter) (gs : List Filter) → is_owner_of f ≡ false → list_any (names_server s) gs ≡ false
      → any_admits a m gs (witness s f) ≡ true → list_any (within a m f) gs ≡ true
  one_around s f [] o n h = cc
  one_around s f (g ∷ gs) o n h = elim (or_cases (admits a m g (witness s f)) _ h) as (λ _. list_any (within a m f) (g ∷ gs) ≡ true) [
    | inl h ↦ or_left _ _ (around s f g o (neither (names_server s g) _ n).0 h)
    | inr h ↦ or_right _ _ (one_around s f gs o (neither (names_server s g) _ n).1 h)
  ]

  pub within_all : (f : Filter) (gs : List Filter) (x : Object) → list_any (within a m f) gs ≡ true → admits a m f x ≡ true → any_admits a m gs x ≡ true
  within_all f [] x h k = cc
  within_all f (g ∷ gs) x h k = elim (or_cases (within a m f g) _ h) as (λ _. any_admits a m (g ∷ gs) x ≡ true) [
    | inl h ↦ or_left _ _ (within_sound a m f g x h k)
    | inr h ↦ or_right _ _ (within_all f gs x h k)
  ]

-- a filter that isn't held whole admits an object that the grant doesn't
pub outside : (m : Context) (h : Rights) (a : Action) (f : Filter) → IsFilter f → length (filters_at h a) < 2 ^ 64 → is_owner_of f ≡ false → holds_whole m h a f ≡ false → IsOutside m h a f
outside m h a f named few plain none =
    let n = unnamed (filters_at h a) few in (
      witness n.0 f,
      named_witness n.0 f n.1 named,
      own_witness a m n.0 f,
      not_true (any_admits a m (filters_at h a) (witness n.0 f)) (λ k. clash (holds_whole m h a f) (one_around a m n.0 f (filters_at h a) plain n.2 k) none),
    )

-- and one that is held whole admits no such object
pub held_whole : (m : Context) (h : Rights) (a : Action) (f : Filter) → IsOutside m h a f → holds_whole m h a f ≡ false
held_whole m h a f out = not_true (holds_whole m h a f) (λ k. clash (any_admits a m (filters_at h a) out.0) (within_all a m f (filters_at h a) out.0 k out.2) out.3)

length_of : {K X : Type 0} (es : List (K × X)) → length es ≡ length (map (λ e. e.0) es)
length_of [] = refl
length_of (e ∷ es) = ap suc (length_of es)

pub number_of : (filters : FinSet filter_cmp) (o : Option (FinSet filter_cmp)) → Some filters ≡ o → len filters ≡ length (listed o)
number_of filters o e = len-entries filters ∙ length_of _ ∙ ap (λ o. length (listed o)) e
