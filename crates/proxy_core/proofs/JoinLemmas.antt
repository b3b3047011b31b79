-- The first bytes of a reply's body, in one write with its head.
use Rattle.std.proofs.Common.{◌≡◌, ℕ, ◌+◌, ◌≤◌, List, [], ◌++◌, length, take, drop, Option, Result, Ok, Err, OnErr, refl, sym, ap, ◌∙◌, subst, append_assoc, arith}
use Rattle.std.proofs.lemmas.List.{append-nil, take-append-drop, take_at, drop_at, drop-drop}
use Rattle.std.proofs.Math.Seq.{take-add}
use Rattle.hub_devices.specs.Streams.{Appends}
use Rattle.hub_devices.proofs.StreamLemmas.{Appends_then}
use Rattle.upstreams.specs.Upstream.{Told, Moves}
use Rattle.proxy_wire.specs.declared.framing.Framing.{Framing}
use Rattle.proxy_bodies.specs.declared.backs.Remainder.{Remainder}
use Rattle.proxy_bodies.specs.Backs.{IsBehind, EndsBehind}
use Rattle.proxy_bodies.proofs.BackLemmas.{none_back, behind_part, later_end}
use Rattle.proxy_core.specs.declared.refusals.Forwarded.TheVariants.{Passed}
use Rattle.proxy_core.specs.Passes.{IsCutBack, BackEnds}

pub both_err : {T E P Q R : Type 0} (r : Result T E) → (P → Q → R) → OnErr r P → OnErr r Q → OnErr r R
both_err (Ok v) f p q = tt
both_err (Err e) f p q = f p q

-- the text, and the first n bytes behind it
past : (text behind : List ℕ) (n : ℕ) → take (length text + n) (text ++ behind) ≡ text ++ take n behind
past text behind n =
    take-add (length text) n (text ++ behind)
    ∙ (ap (λ (x : List ℕ). x ++ take n (drop (length text) (text ++ behind))) (take_at text behind (length text) refl)
    ∙ ap (λ (x : List ℕ). text ++ take n x) (drop_at text behind (length text) refl))

-- what is behind those
past_drop : (text behind : List ℕ) (n : ℕ) → drop (length text + n) (text ++ behind) ≡ drop n behind
past_drop text behind n = sym (drop-drop n (length text) (text ++ behind)) ∙ ap (drop n) (drop_at text behind (length text) refl)

-- the window held the head and what was behind it, and its first bytes were written
pub gave_both : (held held' : Option (List ℕ)) (text behind window left : List ℕ) (n : ℕ) → window ≡ text ++ behind → left ≡ drop (length text + n) window
    → Appends held (take (length text + n) window) held' → (left ≡ drop n behind) × Appends held (text ++ take n behind) held'
gave_both held held' text behind window left n put dropped wrote = (
  dropped ∙ (ap (drop (length text + n)) put ∙ past_drop text behind n),
  subst (λ (x : List ℕ). Appends held x held') (ap (take (length text + n)) put ∙ past text behind n) wrote,
)

-- a part of them was
pub gave_part : (held held' : Option (List ℕ)) (text behind window window' part more : List ℕ) (n : ℕ) → window ≡ text ++ behind → window' ≡ window
    → take (length text + n) window' ≡ part ++ more → Appends held part held'
    → (part more : List ℕ) × (text ++ take n behind ≡ part ++ more) × Appends held part held'
gave_part held held' text behind window window' part more n put same split wrote =
    (part, more, sym (past text behind n) ∙ (sym (ap (take (length text + n)) (same ∙ put)) ∙ split), wrote)

-- a part of the head by itself was
pub gave_front : (held held' : Option (List ℕ)) (text behind part more : List ℕ) (n : ℕ) → text ≡ part ++ more → Appends held part held'
    → (part more : List ℕ) × (text ++ take n behind ≡ part ++ more) × Appends held part held'
gave_front held held' text behind part more n split wrote =
    (part, more ++ take n behind, ap (λ (x : List ℕ). x ++ take n behind) split ∙ append_assoc part more (take n behind), wrote)

-- the head went whole, and then a part of what is behind it
pub gave_rest : (held mid held' : Option (List ℕ)) (text behind window window' part more : List ℕ) (n : ℕ) → window ≡ behind → window' ≡ window
    → Appends held text mid → take n window' ≡ part ++ more → Appends mid part held'
    → (part more : List ℕ) × (text ++ take n behind ≡ part ++ more) × Appends held part held'
gave_rest held mid held' text behind window window' part more n before same head split wrote = (
  text ++ part,
  more,
  ap (λ (x : List ℕ). text ++ x) (sym (ap (take n) (same ∙ before)) ∙ split) ∙ sym (append_assoc text part more),
  Appends_then held mid held' text part head wrote,
)

-- both went, one after the other
pub gave_apart : (held mid held' : Option (List ℕ)) (text behind window left : List ℕ) (n : ℕ) → window ≡ behind → left ≡ drop n window
    → Appends held text mid → Appends mid (take n window) held' → (left ≡ drop n behind) × Appends held (text ++ take n behind) held'
gave_apart held mid held' text behind window left n before dropped head wrote = (
  dropped ∙ ap (drop n) before,
  Appends_then held mid held' text (take n behind) head (subst (λ (x : List ℕ). Appends mid x held') (ap (take n) before) wrote),
)

-- a part of a head is one of the head and what follows
pub head_cut : (text : List ℕ) (f : Framing) (behind part more : List ℕ) → text ≡ part ++ more → IsCutBack text f behind part more
head_cut text f behind part more split = ([], behind, refl, none_back f, append-nil text ∙ split)

-- a part of a head and of the body's first bytes
pub joined_cut : (text : List ℕ) (f : Framing) (left : Remainder) (behind part more : List ℕ) (n : ℕ) → IsBehind f (take n behind) left
    → text ++ take n behind ≡ part ++ more → IsCutBack text f behind part more
joined_cut text f left behind part more n is split =
    (take n behind, drop n behind, sym (take-append-drop n behind), behind_part f (take n behind) left is, split)

-- the head and the first bytes were written, and then the rest went back
pub back_joined : (text : List ℕ) (f : Framing) (left : Remainder) (n : ℕ) (behind window body got tail : List ℕ) (held mid held' : Option (List ℕ)) (told told' : Option Told) (l l' w0 w1 w' : ℕ)
    → IsBehind f (take n behind) left → window ≡ drop n behind → Appends held (text ++ take n behind) mid
    → window ++ got ≡ body ++ tail → Moves told [] got told' → Appends mid body held' → EndsBehind left told' body tail l l' w1 w' → l ≤ l' → w0 ≤ w1 → w1 ≤ w'
    → BackEnds text f behind held held' told told' l l' w0 w' (Ok Passed)
back_joined text f left n behind window body got tail held mid held' told told' l l' w0 w1 w' is dropped wrote more moves passed ended links early late =
    let front : List ℕ = take n behind in (
      front ++ body,
      got,
      tail,
      ap (λ (x : List ℕ). x ++ got) (sym (take-append-drop n behind) ∙ ap (λ (x : List ℕ). front ++ x) (sym dropped))
          ∙ (append_assoc front window got ∙ (ap (λ (x : List ℕ). front ++ x) more ∙ sym (append_assoc front body tail))),
      moves,
      subst (λ (x : List ℕ). Appends held x held') (append_assoc text front body) (Appends_then held mid held' (text ++ front) body wrote passed),
      later_end f told' (front ++ body) tail l l l' w0 w1 w' (omega arith) links early late (ended f front is),
    )
