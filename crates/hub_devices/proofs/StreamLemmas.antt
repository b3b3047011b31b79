-- How calls of a source and of a sink follow one another.
use Rattle.std.proofs.Common.{◌≡◌, ℕ, ◌+◌, List, [], ◌++◌, length, take, drop, Option, Some, refl, sym, ap, ◌∙◌, append_assoc}
use Rattle.std.proofs.lemmas.List.{append-nil, take_at, take-append-drop, drop-drop}
use Rattle.hub_devices.specs.Streams.{Takes, Appends}

pub some_same : (a b : List ℕ) → Some a ≡ Some b → a ≡ b
some_same a b e = cc

module _ {A : Type 0} where
  -- nothing was taken
  pub Takes_none : (left : Option (List A)) → Takes left [] left
  Takes_none left = record { leaves = λ items told. (items, refl, told) }

  -- one taking and then another
  pub Takes_then : (a b c : Option (List A)) (x y : List A) → Takes a x b → Takes b y c → Takes a (x ++ y) c
  Takes_then a b c x y first second = record {
    leaves = λ left told.
        let one = first.leaves left told in
        let two = second.leaves one.0 one.2 in
        (two.0, one.1 ∙ (ap (λ r. x ++ r) two.1 ∙ sym (append_assoc x y two.0)), two.2);
  }

-- the part that a read wrote to the front of its buffer
pub Takes_part : (bytes into part : List ℕ) (at n : ℕ) → part ≡ take n (drop at bytes) → length part ≡ n
    → Takes (Some (drop at bytes)) (take n (part ++ drop n into)) (Some (drop (at + n) bytes))
Takes_part bytes into part at n is len = record {
  leaves = λ left told. (
    drop (at + n) bytes,
    sym (some_same (drop at bytes) left told)
        ∙ (sym (take-append-drop n (drop at bytes))
        ∙ (ap (λ front. front ++ drop n (drop at bytes)) (sym is ∙ sym (take_at part (drop n into) n len))
        ∙ ap (λ rest. take n (part ++ drop n into) ++ rest) (drop-drop n at bytes))),
    refl,
  );
}

-- nothing was added
pub Appends_none : (held : Option (List ℕ)) → Appends held [] held
Appends_none held = record { adds = λ bytes told. told ∙ ap Some (sym (append-nil bytes)) }

-- one writing and then another
pub Appends_then : (a b c : Option (List ℕ)) (x y : List ℕ) → Appends a x b → Appends b y c → Appends a (x ++ y) c
Appends_then a b c x y first second = record {
  adds = λ held told. second.adds (held ++ x) (first.adds held told) ∙ ap Some (append_assoc held x y);
}
