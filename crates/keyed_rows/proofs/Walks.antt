-- Walks over keys, one key after another: what the rest of the keys still gives, at a key and behind it.
use Rattle.std.proofs.Common.{◌≡◌, ℕ, ◌+◌, ◌<◌, ◌≤◌, Bool, true, false, not, cond, ◌&&◌, List, [], ◌∷◌, ◌++◌, length, get_or, drop, append_assoc, sym, ap, ◌∙◌}
use Rattle.std.proofs.lemmas.List.{append-nil, drop_all, drop_more}
use Rattle.std.specs.declared.cmp.Ordering.{Ordering}
use Rattle.std.specs.Ordering.{is_lt}
use Rattle.keyed_rows.specs.Sorted.{is_among, without_keys, rises_from}

module _ {K : Type 0} (R : K → K → Ordering) (keys : List K) (i : ℕ) where
  from_key : (key : K) → i < length keys → key ≡ get_or keys i key → drop i keys ≡ key ∷ drop (i + 1) keys
  from_key key within is = drop_more keys i key within ∙ ap (λ k. k ∷ drop (i + 1) keys) (sym is)

  module _ (gone left all : List K) (so_far : left ++ without_keys R gone (drop i keys) ≡ all) where
    module _ (key : K) (within : i < length keys) (is : key ≡ get_or keys i key) where
      judged : (b : Bool) → is_among R key gone ≡ b → left ++ cond (not b) (key ∷ without_keys R gone (drop (i + 1) keys)) (without_keys R gone (drop (i + 1) keys)) ≡ all
      judged b t =
          ap (λ b. left ++ cond (not b) (key ∷ without_keys R gone (drop (i + 1) keys)) (without_keys R gone (drop (i + 1) keys))) (sym t)
          ∙ sym (ap (λ ks. left ++ without_keys R gone ks) (from_key key within is)) ∙ so_far

      pub is_gone : is_among R key gone ≡ true → left ++ without_keys R gone (drop (i + 1) keys) ≡ all
      is_gone t = judged true t

      pub is_left : is_among R key gone ≡ false → (left ++ key ∷ []) ++ without_keys R gone (drop (i + 1) keys) ≡ all
      is_left t = append_assoc left (key ∷ []) (without_keys R gone (drop (i + 1) keys)) ∙ judged false t

    pub all_left : length keys ≤ i → left ≡ all
    all_left past = sym (ap (λ ks. left ++ without_keys R gone ks) (drop_all i keys past) ∙ append-nil left) ∙ so_far

  module _ (last : K) (whole : Bool) (so_far : rises_from R last (drop i keys) ≡ whole) where
    module _ (key : K) (within : i < length keys) (is : key ≡ get_or keys i key) where
      stepped : (b : Bool) → is_lt (R last key) ≡ b → (b && rises_from R key (drop (i + 1) keys)) ≡ whole
      stepped b t = ap (λ b. b && rises_from R key (drop (i + 1) keys)) (sym t) ∙ sym (ap (rises_from R last) (from_key key within is)) ∙ so_far

      pub rises_on : is_lt (R last key) ≡ true → rises_from R key (drop (i + 1) keys) ≡ whole
      rises_on t = stepped true t

      pub stays : is_lt (R last key) ≡ false → false ≡ whole
      stays t = stepped false t

    pub risen : length keys ≤ i → true ≡ whole
    risen past = sym (ap (rises_from R last) (drop_all i keys past)) ∙ so_far
