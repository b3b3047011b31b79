-- The path of the post of a token.
use Rattle.std.proofs.Common.{◌≡◌, ◌==◌, ◌+◌, arith, nat_eq, ℕ, Bool, true, false, not, cond, List, [], ◌∷◌, ◌++◌, length, take, take_at, codes, Option, Some, Result, if◌then◌else◌, refl, sym, ap, ◌∙◌}
use Rattle.std.specs.List.{list_all, find, starts_with, prefix_len, before_first}
use Rattle.std.specs.Cmp.Lexicographic.{pointwise}
use Rattle.std.specs.Result.{result_ok}
use Rattle.std.proofs.lemmas.List.Folds.{list_all-append}
use Rattle.std.proofs.lemmas.List.Splits.{slice_split_at}
use Rattle.percent_encoding.specs.Percent.{percent_decode}
use Rattle.http_wire.specs.Target.{path_of as path_in}
use Rattle.hub_kit.specs.Names.{IsName}
use Rattle.hub_kit.specs.declared.names.NameError.{NameError}
use Rattle.hub_kit.proofs.NameTexts.{server_of_name, name_is_text}
use Rattle.request_parts.specs.Names.{name_of}
use Rattle.request_parts.specs.Paths.{segment, read_in_path}
use Rattle.request_parts.proofs.Texts.{segment_is_text}
use Rattle.hub_paths.specs.Paths.{path_of, every_path, fits_part, segments, text_of}
use Rattle.hub_paths.specs.declared.paths.Path.{Path}
use Rattle.hub_paths.specs.declared.paths.Path.TheVariants.{Tokens}
use Rattle.access_laws.proofs.Names.{EachByte}
use Rattle.hub_loading.proofs.BoolLemmas.{both, both_first, both_rest}
use Rattle.hub_loading.proofs.GetLemmas.{passes, no_slash, no_mark, no_percent, whole_before, undecoded, no_cut, some_bytes, slash}

abbrev pub tokens_target : List ℕ → List ℕ
tokens_target user = codes "/hub/api/users/" ++ (user ++ codes "/tokens")

-- a test that each byte of a name passes, and each of the rest
pub all_pass : (p : ℕ → Bool) (user : List ℕ) → EachByte p → IsName user → list_all p (codes "/tokens") ≡ true → list_all p (user ++ codes "/tokens") ≡ true
all_pass p user each is rest =
    list_all-append p user (codes "/tokens") ∙ both (list_all p user) (list_all p (codes "/tokens")) (passes p user each is) rest

pub tokens_path : (user : List ℕ) → IsName user → path_in (tokens_target user) ≡ tokens_target user
tokens_path user is = whole_before (λ b. b == 63) (tokens_target user) (all_pass (λ b. not (b == 63)) user no_mark is refl)

-- ---- its segments

cut_is : (user : List ℕ) → IsName user → segments (tokens_target user) ≡ [] ∷ codes "hub" ∷ codes "api" ∷ codes "users" ∷ user ∷ codes "tokens" ∷ []
cut_is user is =
    ap (λ (parts : List (List ℕ)). [] ∷ codes "hub" ∷ codes "api" ∷ codes "users" ∷ parts)
    (slice_split_at slash user 47 (codes "tokens") (no_cut slash user (passes (λ b. not (b == 47)) user no_slash is)) refl)

-- the path, by whether the name has a byte
abbrev fitting : List ℕ → Bool → Option Path
fitting user t =
    find (λ path.
    pointwise (λ part segment. if starts_with nat_eq part (codes "{") then t else pointwise nat_eq part segment) (segments (text_of path))
    ([] ∷ codes "hub" ∷ codes "api" ∷ codes "users" ∷ user ∷ codes "tokens" ∷ []))
    every_path

pub tokens_named : (user : List ℕ) → IsName user → path_of (tokens_target user) ≡ Some Tokens
unfolding path_of every_path
tokens_named user is =
    ap (λ (parts : List (List ℕ)). find (λ path. pointwise fits_part (segments (text_of path)) parts) every_path) (cut_is user is)
    ∙ ap (fitting user) (some_bytes user is)

-- ---- the name in it

prefix_cut : (p : ℕ → Bool) (bs rest : List ℕ) (c : ℕ) → list_all p bs ≡ true → p c ≡ false → prefix_len p (bs ++ c ∷ rest) ≡ length bs
prefix_cut p [] rest c all stops = ap (λ (t : Bool). cond t (1 + prefix_len p rest) 0) stops
prefix_cut p (b ∷ bs) rest c all stops =
    let more : prefix_len p (bs ++ c ∷ rest) ≡ length bs = prefix_cut p bs rest c (both_rest (p b) (list_all p bs) all) stops in
    ap (λ (t : Bool). cond t (1 + prefix_len p (bs ++ c ∷ rest)) 0) (both_first (p b) (list_all p bs) all) ∙ omega (arith, more)

before_cut : (user rest : List ℕ) → list_all (λ b. not (slash b)) user ≡ true → before_first slash (user ++ 47 ∷ rest) ≡ user
before_cut user rest is =
    ap (λ (n : ℕ). take n (user ++ 47 ∷ rest)) (prefix_cut (λ b. not (slash b)) user rest 47 is refl) ∙ take_at user (47 ∷ rest) _ refl

pub tokens_owner : (user : List ℕ) → IsName user → read_in_path name_of 4 (tokens_target user) ≡ Some user
unfolding segment
tokens_owner user is =
    sym (segment_is_text name_of 4 (tokens_target user) user
    (sym (ap percent_decode (before_cut user (codes "tokens") (passes (λ b. not (b == 47)) user no_slash is))
    ∙ undecoded user (passes (λ b. not (b == 37)) user no_percent is)))
    (name_is_text user (server_of_name user is)))
    ∙ ap (λ (r : Result (List ℕ) NameError). result_ok r) is
