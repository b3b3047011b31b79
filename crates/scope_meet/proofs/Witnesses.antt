-- Each filter admits some object.
use Rattle.std.proofs.Common.{◌≡◌, ℕ, Bool, true, false, ◌&&◌, List, [], ◌∷◌, Option, Some, None, refl, sym, ap, ◌∙◌, IsTrue, ◌↔◌}
use Rattle.hub_kit.specs.Names.{IsServerName}
use Rattle.std.specs.FinMap.{get, keys}
use Rattle.std.specs.FinSet.{FinSet}
use Rattle.scope_names.specs.declared.action.Action.{Action}
use Rattle.scope_filters.specs.declared.object.Object.{Object}
use Rattle.scope_filters.specs.declared.object.Object.TheVariants as Ob
use Rattle.scope_filters.specs.declared.filter.Filter.{Filter}
use Rattle.scope_filters.specs.declared.filter.Filter.TheVariants as Fi
use Rattle.scope_filters.specs.Admits.{admits, any_admits}
use Rattle.scope_filters.specs.Contexts.{Context, same}
use Rattle.scope_filters.specs.FilterOrder.{filter_cmp}
use Rattle.scope_filters.specs.Grants.{Rights, listed}
use Rattle.scope_meet.specs.Named.{IsObject, IsFilter, AdmitsSomething}
use Rattle.scope_meet.proofs.Exact.{same_refl, or_left}

-- an object that a filter admits, and those around it. For a user it is a server of the user of a given name
abbrev pub witness : List ℕ → Filter → Object
witness s Fi.All = Ob.Hub
witness s (Fi.User u) = Ob.Server (record { user = u; server = s })
witness s (Fi.Group g) = Ob.Group g
witness s (Fi.Server k) = Ob.Server k
witness s (Fi.Service v) = Ob.Service v
witness s (Fi.OwnerOf u) = Ob.User u

pub own_witness : (a : Action) (m : Context) (s : List ℕ) (f : Filter) → admits a m f (witness s f) ≡ true
own_witness a m s Fi.All = refl
own_witness a m s (Fi.User u) = same_refl u
own_witness a m s (Fi.Group g) = same_refl g
own_witness a m s (Fi.Server k) = ap (λ b. b && same k.server k.server) (same_refl k.user) ∙ same_refl k.server
own_witness a m s (Fi.Service v) = same_refl v
own_witness a m s (Fi.OwnerOf u) = same_refl u

pub named_witness : (s : List ℕ) (f : Filter) → IsServerName s → IsFilter f → IsObject (witness s f)
named_witness s Fi.All n v = tt
named_witness s (Fi.User u) n v = (v, n)
named_witness s (Fi.Group g) n v = v
named_witness s (Fi.Server k) n v = v
named_witness s (Fi.Service k) n v = v
named_witness s (Fi.OwnerOf u) n v = v

-- ---- whether something is admitted

no_object : (a : Action) (m : Context) (x : Object) (fs : List Filter) → fs ≡ [] → any_admits a m fs x ≡ true → ⊥
no_object a m x [] e h = cc
no_object a m x (f ∷ fs) e h = cc

first_object : (a : Action) (m : Context) (fs : List Filter) → (fs ≡ [] → ⊥) → ((f : Filter) (gs : List Filter) → fs ≡ f ∷ gs → IsFilter f)
    → (x : Object) × IsObject x × IsTrue (any_admits a m fs x)
first_object a m [] full named = absurd (full refl)
first_object a m (f ∷ fs) full named =
    (witness [] f, named_witness [] f tt (named f fs refl), or_left (admits a m f (witness [] f)) (any_admits a m fs (witness [] f)) (own_witness a m [] f))

pub something : (g : Rights) (a : Action) (filters : FinSet filter_cmp) (b : Bool) → get g a ≡ Some filters
    → (IsTrue b → (f : Filter) (fs : List Filter) → keys filters ≡ f ∷ fs → IsFilter f) → (IsTrue b → keys filters ≡ [] → ⊥) → (b ≡ false → keys filters ≡ [])
    → (m : Context) → IsTrue b ↔ AdmitsSomething m g a
something g a filters true at named full none m =
    let k = first_object a m (keys filters) (full refl) (named refl) in
    (λ h. (k.0, k.1, ap (λ (o : Option (FinSet filter_cmp)). any_admits a m (listed o) k.0) at ∙ k.2), λ h. refl)
something g a filters false at named full none m =
    (λ h. absurd (cc), λ h. absurd (no_object a m h.0 (keys filters) (none refl) (ap (λ (o : Option (FinSet filter_cmp)). any_admits a m (listed o) h.0) (sym at) ∙ h.2)))

pub nothing : (g : Rights) (a : Action) → get g a ≡ None → (m : Context) → IsTrue false ↔ AdmitsSomething m g a
nothing g a at m = (λ h. absurd (cc), λ h. absurd (no_object a m h.0 [] refl (ap (λ (o : Option (FinSet filter_cmp)). any_admits a m (listed o) h.0) (sym at) ∙ h.2)))
