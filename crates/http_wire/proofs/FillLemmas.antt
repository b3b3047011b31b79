-- A part of a body is filled.
use Rattle.std.proofs.Common.{◌≡◌, ℕ, ◌+◌, ◌≤◌, List, [], ◌++◌, length, take, drop, Option, sym, ap, ◌∙◌, arith, append_assoc, length-append, length-drop}
use Rattle.std.proofs.lemmas.List.{append-nil, length-take-le, take-append-le, drop_at}
use Rattle.std.proofs.lemmas.Slice.{take-put_mid_below}
use Rattle.std.proofs.Math.Seq.{take-add}
use borrow.Rule.Slice.PartMut.{put_mid, post_of}
use Rattle.http_wire.specs.Took.{Took}
use Rattle.http_wire.proofs.TookLemmas.{Took_behind, Took_as}

-- what is filled after one more part
pub filled : (a k n : ℕ) (xs ys : List ℕ) → a ≤ length xs → n ≤ length ys → take (a + n) (put_mid a k xs ys) ≡ take a xs ++ take n ys
filled a k n xs ys inside fits =
    let front : length (take a xs) ≡ a = length-take-le a xs inside in
    let behind : drop a (put_mid a k xs ys) ≡ ys ++ post_of a k xs = drop_at (take a xs) (ys ++ post_of a k xs) a front in
    take-add a n (put_mid a k xs ys)
    ∙ (ap (λ t. t ++ take n (drop a (put_mid a k xs ys))) (take-put_mid_below a k xs ys a (omega arith) inside)
    ∙ ap (λ t. take a xs ++ t) (ap (take n) behind ∙ take-append-le n ys (post_of a k xs) fits))

pub took_more : (before between after : Option (List ℕ)) (kept rest new : List ℕ) (a k n : ℕ) (xs ys : List ℕ) → a ≤ length xs → n ≤ length ys
    → Took before kept between (take a xs ++ rest) → Took between rest after (take n ys ++ new)
    → Took before kept after (take (a + n) (put_mid a k xs ys) ++ new)
took_more before between after kept rest new a k n xs ys inside fits first second =
    Took_as before after kept (take a xs ++ (take n ys ++ new)) (take (a + n) (put_mid a k xs ys) ++ new)
    (Took_behind before between after kept (take a xs) rest (take n ys ++ new) first second)
    (sym (append_assoc (take a xs) (take n ys) new) ∙ ap (λ t. t ++ new) (sym (filled a k n xs ys inside fits)))

pub took_no_more : (before between after : Option (List ℕ)) (kept rest new bytes : List ℕ) (a : ℕ) (xs : List ℕ)
    → Took before kept between (take a xs ++ rest) → Took between rest after (bytes ++ new) → bytes ≡ [] → new ≡ []
    → Took before kept after (take a xs)
took_no_more before between after kept rest new bytes a xs first second none ended =
    Took_as before after kept (take a xs ++ (bytes ++ new)) (take a xs)
    (Took_behind before between after kept (take a xs) rest (bytes ++ new) first second)
    (ap (λ t. take a xs ++ (t ++ new)) none ∙ (ap (λ t. take a xs ++ t) ended ∙ append-nil (take a xs)))

pub same_length : (a k : ℕ) (xs ys : List ℕ) → a + k ≡ length xs → length ys ≡ k → length (put_mid a k xs ys) ≡ length xs
same_length a k xs ys split fits =
    let front : length (take a xs) ≡ a = length-take-le a xs (omega (arith, split)) in
    let back : length (post_of a k xs) ≡ 0 = omega (arith, length-drop k (drop a xs), length-drop a xs, split) in
    length-append (take a xs) (ys ++ post_of a k xs) ∙ omega (arith, front, back, length-append ys (post_of a k xs), fits, split)
