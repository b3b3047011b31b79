-- How takings follow one another.
use Rattle.std.proofs.Common.{◌≡◌, ℕ, List, [], ◌++◌, ◌+◌, length, take, drop, Option, sym, ap, ◌∙◌, subst, append_assoc, arith, length-append}
use Rattle.std.proofs.lemmas.List.{append-nil, nil_from_length}
use Rattle.std.proofs.Math.Seq.{take-add}
use Rattle.hub_devices.specs.Streams.{Appends}
use Rattle.hub_devices.proofs.StreamLemmas.{Takes_none, Takes_then, Appends_then}
use Rattle.http_wire.specs.declared.error.WireError.{WireError}
use Rattle.http_wire.specs.declared.error.WireError.TheVariants.{BadHead, TooLarge, Coding, Ended, Cut, ReadFault, Memory}
use Rattle.http_wire.specs.Next.{HeadRefused, RefusedAt}
use Rattle.http_wire.specs.Took.{Took}

-- nothing came
pub Took_none : (left : Option (List ℕ)) (kept : List ℕ) → Took left kept left kept
Took_none left kept = record { taken = []; takes = Takes_none left; whole = append-nil kept }

-- what came, and then more
pub Took_then : (a b c : Option (List ℕ)) (x y z : List ℕ) → Took a x b y → Took b y c z → Took a x c z
Took_then a b c x y z first second = record {
  taken = first.taken ++ second.taken;
  takes = Takes_then a b c first.taken second.taken first.takes second.takes;
  whole =
      sym (append_assoc x first.taken second.taken)
      ∙ (ap (λ front. front ++ second.taken) first.whole ∙ second.whole);
}

-- the same bytes in other words
pub Took_as : (a b : Option (List ℕ)) (x y z : List ℕ) → Took a x b y → y ≡ z → Took a x b z
Took_as a b x y z took same = record { taken = took.taken; takes = took.takes; whole = took.whole ∙ same }

-- where the length is as it was, nothing came
pub Took_length : (a b : Option (List ℕ)) (x y : List ℕ) → Took a x b y → length y ≡ length x → y ≡ x
Took_length a b x y took same =
    let none : took.taken ≡ [] =
    nil_from_length took.taken
    (let counted : length x + length took.taken ≡ length y = sym (length-append x took.taken) ∙ ap length took.whole in omega (arith, counted, same)) in
    sym took.whole ∙ (ap (λ t. x ++ t) none ∙ append-nil x)

-- a refusal of the head is one of the request
pub refused : (left : Option (List ℕ)) (bytes : List ℕ) (e : WireError) → HeadRefused bytes e → RefusedAt left bytes e
refused left bytes BadHead r = r
refused left bytes (TooLarge n) r = r
refused left bytes Coding r = absurd r
refused left bytes Ended r = absurd r
refused left bytes Cut r = absurd r
refused left bytes ReadFault r = absurd r
refused left bytes Memory r = r

-- a part that was written, and then the next
pub Appends_part : (a b c : Option (List ℕ)) (bytes : List ℕ) (at n : ℕ) → Appends a (take at bytes) b
    → Appends b (take n (drop at bytes)) c → Appends a (take (at + n) bytes) c
Appends_part a b c bytes at n first second =
    subst (λ (part : List ℕ). Appends a part c) (sym (take-add at n bytes))
    (Appends_then a b c (take at bytes) (take n (drop at bytes)) first second)

-- what came, and then more behind the front of it
pub Took_behind : (a b c : Option (List ℕ)) (kept front x y : List ℕ) → Took a kept b (front ++ x) → Took b x c y → Took a kept c (front ++ y)
Took_behind a b c kept front x y first second = record {
  taken = first.taken ++ second.taken;
  takes = Takes_then a b c first.taken second.taken first.takes second.takes;
  whole =
      sym (append_assoc kept first.taken second.taken)
      ∙ (ap (λ all. all ++ second.taken) first.whole
      ∙ (append_assoc front x second.taken ∙ ap (λ rest. front ++ rest) second.whole));
}
