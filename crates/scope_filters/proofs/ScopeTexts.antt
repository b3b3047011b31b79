-- The text of a scope reads as that scope, and no other text does.
use Rattle.std.proofs.Common.{◌≡◌, ℕ, ◌+◌, true, IsTrue, IfOk, List, ◌∷◌, ◌++◌, length, Option, Some, None, Result, Ok, Err, refl, sym, ap, ◌∙◌, ⊎_elim, append-nil}
use Rattle.std.specs.Prelude.{codes}
use Rattle.std.specs.Cmp.Lexicographic.{bytes_decides}
use Rattle.std.proofs.lemmas.Bool.{cases_Bool}
use Rattle.hub_kit.specs.Names.{name_read}
use Rattle.hub_kit.specs.ServerKeys.{key_read}
use Rattle.hub_kit.proofs.NameTexts.{key_reads}
use Rattle.hub_kit.specs.declared.names.NameError.{NameError}
use Rattle.scope_names.specs.declared.action.Action.{Action}
use Rattle.scope_names.specs.Actions.{text_of, is_action, action_read}
use Rattle.scope_filters.specs.Contexts.{same}
use Rattle.scope_filters.specs.ScopeNames.{IsFilterName}
use Rattle.scope_filters.specs.Scopes.{before, after, kind_read, holder_read, filter_of, value_read, kinded_read, filter_read, meta_read, filtered, plain_read, named_read, scope_read, filter_text, scope_text}
use Rattle.scope_filters.specs.declared.scope.Kind.{Kind}
use Rattle.scope_filters.specs.declared.scope.Kind.TheVariants as Ki
use Rattle.scope_filters.specs.declared.scope.RawFilter.{RawFilter}
use Rattle.scope_filters.specs.declared.scope.RawFilter.TheVariants as Raw
use Rattle.scope_filters.specs.declared.scope.RawScope.{RawScope}
use Rattle.scope_filters.specs.declared.scope.RawScope.TheVariants.{Plain, SelfScope, Inherit}
use Rattle.scope_filters.specs.declared.scope.ScopeError.{ScopeError}
use Rattle.scope_filters.proofs.Cuts.{is_without, before_marked, after_marked, before_unmarked, after_unmarked, joined, join}
use Rattle.scope_names.proofs.Texts.{read_text, text_read}
use Rattle.scope_filters.proofs.ActionTexts.{text_unmarked, not_self, not_inherit}
use Rattle.scope_filters.proofs.NameTexts.{name_only, key_only}

abbrev kind_text : Kind → List ℕ
kind_text Ki.User = codes "user"
kind_text Ki.Group = codes "group"
kind_text Ki.Server = codes "server"
kind_text Ki.Service = codes "service"

-- ---- the text reads as the scope

kind_reads : (kind : Kind) → kind_read (kind_text kind) ≡ Some kind
kind_reads Ki.User = refl
kind_reads Ki.Group = refl
kind_reads Ki.Server = refl
kind_reads Ki.Service = refl

kind_unmarked : (kind : Kind) → is_without 61 (kind_text kind) ≡ true
kind_unmarked Ki.User = refl
kind_unmarked Ki.Group = refl
kind_unmarked Ki.Server = refl
kind_unmarked Ki.Service = refl

holder_reads : (kind : Kind) (filter : RawFilter) → ((end : ℕ) → holder_read end kind ≡ Ok filter) → (at : ℕ) → filter_read at (kind_text kind) ≡ Ok filter
holder_reads kind filter h at =
    (λ i. kinded_read (at + length (before_unmarked 61 (kind_text kind) (kind_unmarked kind) i)) (kind_read (before_unmarked 61 (kind_text kind) (kind_unmarked kind) i)) (after_unmarked 61 (kind_text kind) (kind_unmarked kind) i))
    ∙ ap (λ k. kinded_read (at + length (kind_text kind)) k None) (kind_reads kind) ∙ h _

value_reads : (kind : Kind) (value : List ℕ) (filter : RawFilter) → ((at : ℕ) → value_read at kind value ≡ Ok filter) → (at : ℕ) → filter_read at (kind_text kind ++ 61 ∷ value) ≡ Ok filter
value_reads kind value filter h at =
    (λ i. kinded_read (at + length (before_marked 61 (kind_text kind) value (kind_unmarked kind) i)) (kind_read (before_marked 61 (kind_text kind) value (kind_unmarked kind) i)) (after_marked 61 (kind_text kind) value (kind_unmarked kind) i))
    ∙ ap (λ k. kinded_read (at + length (kind_text kind)) k (Some value)) (kind_reads kind) ∙ h _

named : (a : Action) (o : Option (List ℕ)) → IsTrue (is_action a) → named_read (text_of a) o ≡ plain_read (length (text_of a)) (Some a) o
named a o h = rw (not_self a h, not_inherit a h) (ap (λ x. plain_read (length (text_of a)) x o) (text_read a h))

plain_reads : (a : Action) (filter : RawFilter) (rest : List ℕ) → IsTrue (is_action a) → ((at : ℕ) → filter_read at rest ≡ Ok filter) → scope_read (text_of a ++ 33 ∷ rest) ≡ Ok (Plain a filter)
plain_reads a filter rest h reads =
    (λ i. named_read (before_marked 33 (text_of a) rest (text_unmarked a h) i) (after_marked 33 (text_of a) rest (text_unmarked a h) i)) ∙ named a (Some rest) h ∙ ap (filtered a) (reads (length (text_of a) + 1))

bare_reads : (a : Action) → IsTrue (is_action a) → scope_read (text_of a) ≡ Ok (Plain a Raw.Unfiltered)
bare_reads a h = (λ i. named_read (before_unmarked 33 (text_of a) (text_unmarked a h) i) (after_unmarked 33 (text_of a) (text_unmarked a h) i)) ∙ named a None h

pub scope_reads : (a : Action) (filter : RawFilter) → IsTrue (is_action a) → IsFilterName filter → scope_read (text_of a ++ filter_text filter) ≡ Ok (Plain a filter)
scope_reads a Raw.Unfiltered h n = ap scope_read (append-nil (text_of a)) ∙ bare_reads a h
scope_reads a (Raw.User user) h n = plain_reads a _ (kind_text Ki.User ++ 61 ∷ user) h (value_reads Ki.User user _ (λ at. ap (filter_of Raw.User at) n))
scope_reads a (Raw.Group group) h n = plain_reads a _ (kind_text Ki.Group ++ 61 ∷ group) h (value_reads Ki.Group group _ (λ at. ap (filter_of Raw.Group at) n))
scope_reads a (Raw.Server key) h n =
    plain_reads a _ (kind_text Ki.Server ++ 61 ∷ (key.user ++ codes "/" ++ key.server)) h (value_reads Ki.Server (key.user ++ codes "/" ++ key.server) _ (λ at. ap (filter_of Raw.Server at) (key_reads key.user key.server n.0 n.1)))
scope_reads a (Raw.Service service) h n = plain_reads a _ (kind_text Ki.Service ++ 61 ∷ service) h (value_reads Ki.Service service _ (λ at. ap (filter_of Raw.Service at) n))
scope_reads a Raw.HolderUser h n = plain_reads a _ (kind_text Ki.User) h (holder_reads Ki.User _ (λ end. refl))
scope_reads a Raw.HolderServer h n = plain_reads a _ (kind_text Ki.Server) h (holder_reads Ki.Server _ (λ end. refl))
scope_reads a Raw.HolderService h n = plain_reads a _ (kind_text Ki.Service) h (holder_reads Ki.Service _ (λ end. refl))

-- ---- and no other text does

kind_only : (text : List ℕ) (kind : Kind) → kind_read text ≡ Some kind → text ≡ kind_text kind
kind_only text kind h =
    ⊎_elim
    (λ yes. let it : Ki.User ≡ kind = let here : Some Ki.User ≡ Some kind = rw yes at h in cc in (bytes_decides text (codes "user")).0 yes ∙ ap kind_text it)
    (λ no. let h = rw no at h in
    ⊎_elim
    (λ yes. let it : Ki.Group ≡ kind = let here : Some Ki.Group ≡ Some kind = rw yes at h in cc in (bytes_decides text (codes "group")).0 yes ∙ ap kind_text it)
    (λ no. let h = rw no at h in
    ⊎_elim
    (λ yes. let it : Ki.Server ≡ kind = let here : Some Ki.Server ≡ Some kind = rw yes at h in cc in (bytes_decides text (codes "server")).0 yes ∙ ap kind_text it)
    (λ no. let h = rw no at h in
    ⊎_elim
    (λ yes. let it : Ki.Service ≡ kind = let here : Some Ki.Service ≡ Some kind = rw yes at h in cc in (bytes_decides text (codes "service")).0 yes ∙ ap kind_text it)
    (λ no. let here : None ≡ Some kind = rw no at h in cc)
    (cases_Bool (same text (codes "service"))))
    (cases_Bool (same text (codes "server"))))
    (cases_Bool (same text (codes "group"))))
    (cases_Bool (same text (codes "user")))

holder_only : (end : ℕ) (kind : Kind) (filter : RawFilter) → holder_read end kind ≡ Ok filter → 33 ∷ kind_text kind ≡ filter_text filter
holder_only end Ki.User filter h = let it : Raw.HolderUser ≡ filter = cc in ap filter_text it
holder_only end Ki.Group filter h = cc
holder_only end Ki.Server filter h = let it : Raw.HolderServer ≡ filter = cc in ap filter_text it
holder_only end Ki.Service filter h = let it : Raw.HolderService ≡ filter = cc in ap filter_text it

of_only : {X : Type 0} (make : X → RawFilter) (at : ℕ) (r : Result X NameError) (filter : RawFilter) → filter_of make at r ≡ Ok filter → (x : X) × (r ≡ Ok x) × (make x ≡ filter)
of_only make at (Ok x) filter h = (x, refl, cc)
of_only make at (Err e) filter h = cc

value_only : (at : ℕ) (kind : Kind) (value : List ℕ) (filter : RawFilter) → value_read at kind value ≡ Ok filter → 33 ∷ (kind_text kind ++ 61 ∷ value) ≡ filter_text filter
value_only at Ki.User value filter h =
    let it = of_only Raw.User at (name_read value) filter h in ap (λ v. 33 ∷ (kind_text Ki.User ++ 61 ∷ v)) (name_only value it.0 it.1) ∙ ap filter_text it.2
value_only at Ki.Group value filter h =
    let it = of_only Raw.Group at (name_read value) filter h in ap (λ v. 33 ∷ (kind_text Ki.Group ++ 61 ∷ v)) (name_only value it.0 it.1) ∙ ap filter_text it.2
value_only at Ki.Server value filter h =
    let it = of_only Raw.Server at (key_read value) filter h in ap (λ v. 33 ∷ (kind_text Ki.Server ++ 61 ∷ v)) (key_only value it.0 it.1) ∙ ap filter_text it.2
value_only at Ki.Service value filter h =
    let it = of_only Raw.Service at (name_read value) filter h in ap (λ v. 33 ∷ (kind_text Ki.Service ++ 61 ∷ v)) (name_only value it.0 it.1) ∙ ap filter_text it.2

kinded_only : (end : ℕ) (text : List ℕ) (k : Option Kind) (o : Option (List ℕ)) (filter : RawFilter) → ((kind : Kind) → k ≡ Some kind → text ≡ kind_text kind)
    → kinded_read end k o ≡ Ok filter → 33 ∷ joined 61 text o ≡ filter_text filter
kinded_only end text None o filter is h = cc
kinded_only end text (Some kind) None filter is h = ap (λ t. 33 ∷ t) (is kind refl) ∙ holder_only end kind filter h
kinded_only end text (Some kind) (Some value) filter is h = ap (λ t. 33 ∷ (t ++ 61 ∷ value)) (is kind refl) ∙ value_only (end + 1) kind value filter h

filter_only : (at : ℕ) (text : List ℕ) (filter : RawFilter) → filter_read at text ≡ Ok filter → 33 ∷ text ≡ filter_text filter
filter_only at text filter h = ap (λ t. 33 ∷ t) (join 61 text) ∙ kinded_only _ (before 61 text) (kind_read (before 61 text)) (after 61 text) filter (kind_only (before 61 text)) h

filtered_only : (a : Action) (r : Result RawFilter ScopeError) (scope : RawScope) → filtered a r ≡ Ok scope → (filter : RawFilter) × (r ≡ Ok filter) × (Plain a filter ≡ scope)
filtered_only a (Ok filter) scope h = (filter, refl, cc)
filtered_only a (Err e) scope h = cc

plain_only : (end : ℕ) (name : List ℕ) (x : Option Action) (o : Option (List ℕ)) (scope : RawScope) → ((a : Action) → x ≡ Some a → name ≡ text_of a)
    → plain_read end x o ≡ Ok scope → joined 33 name o ≡ scope_text scope
plain_only end name None o scope is h = cc
plain_only end name (Some a) None scope is h = let it : Plain a Raw.Unfiltered ≡ scope = cc in is a refl ∙ sym (append-nil (text_of a)) ∙ ap scope_text it
plain_only end name (Some a) (Some rest) scope is h =
    let it = filtered_only a (filter_read (end + 1) rest) scope h in
    ap (λ n. n ++ 33 ∷ rest) (is a refl) ∙ ap (λ r. text_of a ++ r) (filter_only (end + 1) rest it.0 it.1) ∙ ap scope_text it.2

meta_only : (word name : List ℕ) (meta scope : RawScope) (o : Option (List ℕ)) → name ≡ word → scope_text meta ≡ word → meta_read meta o ≡ Ok scope → joined 33 name o ≡ scope_text scope
meta_only word name meta scope None e w h = let it : meta ≡ scope = cc in e ∙ sym w ∙ ap scope_text it
meta_only word name meta scope (Some rest) e w h = cc

named_only : (name : List ℕ) (o : Option (List ℕ)) (scope : RawScope) → named_read name o ≡ Ok scope → joined 33 name o ≡ scope_text scope
named_only name o scope h =
    ⊎_elim
    (λ yes. meta_only (codes "self") name SelfScope scope o ((bytes_decides name (codes "self")).0 yes) refl (rw yes at h))
    (λ no. let h = rw no at h in
    ⊎_elim
    (λ yes. meta_only (codes "inherit") name Inherit scope o ((bytes_decides name (codes "inherit")).0 yes) refl (rw yes at h))
    (λ no. plain_only (length name) name (action_read name) o scope (λ a k. sym (read_text name a k)) (rw no at h))
    (cases_Bool (same name (codes "inherit"))))
    (cases_Bool (same name (codes "self")))

pub scope_only : (scope : RawScope) (text : List ℕ) → scope_read text ≡ Ok scope → text ≡ scope_text scope
scope_only scope text h = join 33 text ∙ named_only (before 33 text) (after 33 text) scope h

-- the text of a metascope that was written
pub word_only : {E : Type 0} (scope meta : RawScope) (r : Result (List ℕ) E) → scope ≡ meta → IfOk r (λ text. text ≡ scope_text meta)
    → IfOk r (λ text. (other : List ℕ) → scope_read other ≡ Ok scope → other ≡ text)
word_only scope meta (Ok text) e written = λ other h. scope_only scope other h ∙ ap scope_text e ∙ sym written
word_only scope meta (Err x) e written = tt
