-- The members of an object that are kept of an addition.
use Rattle.std.proofs.Common.{◌≡◌, ℕ, List, [], ◌∷◌, ◌++◌, Bool, true, false, Less, Greater, string_bytes, string_cmp, nat_cmp, ap, ◌∙◌}
use Rattle.std.proofs.lemmas.Cmp.{nat_list_cmp_total}
use Rattle.std.specs.Cmp.Lexicographic.{slice_cmp}
use Rattle.std.specs.List.{AllByRecursion}
use Rattle.std.specs.List.Sorted.{IsStrictlySortedBy}
use Rattle.std.specs.Map.{keys_of}
use Rattle.std.specs.Ordering.{ordering_reverse}
use Rattle.std.specs.Prelude.{if◌then◌else◌}
use Rattle.serde_json.specs.Data.{Data, Members, member, put}
use Rattle.serde_json.specs.View.{view, members_view}
use Rattle.serde_json.proofs.Views.{Entry}
use Rattle.proxy_api.specs.Entries.{is_own, others}

below_last : (first : Entry) (es : List Entry) (e : Entry) (more : List Entry) → AllByRecursion (λ y. string_cmp first.0 y ≡ Less) (keys_of (es ++ e ∷ more)) → string_cmp first.0 e.0 ≡ Less
below_last first [] e more h = h.0
below_last first (x ∷ es) e more h = below_last first es e more h.1

put_behind : (own : Bool) (k l : List ℕ) (d v : Data) (ms more : Members) → slice_cmp nat_cmp k l ≡ Greater → put k d ms ≡ more
    → put k d (if own then ms else member l v ms) ≡ (if own then more else member l v more)
put_behind true k l d v ms more above is = is
put_behind false k l d v ms more above is = rw above (ap (member l v) is)

-- a member that is kept and stands above those before it goes last
pub others_last : (done : List Entry) (e : Entry) (more : List Entry) → IsStrictlySortedBy string_cmp (keys_of (done ++ e ∷ more)) → is_own (string_bytes e.0) ≡ false
    → put (string_bytes e.0) (view e.1) (others (members_view done)) ≡ others (members_view (done ++ e ∷ []))
unfolding IsStrictlySortedBy
others_last [] e more h kept = rw kept
others_last (first ∷ done) e more h kept =
    let above : slice_cmp nat_cmp (string_bytes e.0) (string_bytes first.0) ≡ Greater =
    nat_list_cmp_total.antisymm (string_bytes e.0) (string_bytes first.0) ∙ ap ordering_reverse (below_last first done e more h.0) in
    put_behind (is_own (string_bytes first.0)) _ _ _ _ _ _ above (others_last done e more h.1 kept)

same_behind : (own : Bool) (l : List ℕ) (v : Data) (ms more : Members) → ms ≡ more → (if own then ms else member l v ms) ≡ (if own then more else member l v more)
same_behind own l v ms more is = ap (λ (x : Members). if own then x else member l v x) is

-- a member that isn't kept changes nothing
pub others_same : (done : List Entry) (e : Entry) → is_own (string_bytes e.0) ≡ true → others (members_view (done ++ e ∷ [])) ≡ others (members_view done)
others_same [] e own = rw own
others_same (first ∷ done) e own = same_behind (is_own (string_bytes first.0)) _ _ _ _ (others_same done e own)
