-- A head that stands whole in front isn't refused.
use Rattle.std.proofs.Common.{◌≡◌, ◌<◌, ◌*◌, arith, inl, inr, ℕ, List, [], ◌++◌, length, Option, Some, append-nil, refl, sym, ap, ◌∙◌, subst}
use Rattle.httparse.specs.Grammar.{RequestHead, ReadsRequest, print_request}
use Rattle.httparse.proofs.GrammarLemmas.{ReadsRequest-append, request_unique}
use Rattle.http_wire.specs.Next.{RefusedAt}
use Rattle.http_wire.specs.Told.{IsOfBytes}
use Rattle.http_wire.specs.Wire.{IsOpen, HasPath, IsServedHead}
use Rattle.http_wire.specs.declared.error.WireError.{WireError}
use Rattle.http_wire.specs.declared.error.WireError.TheVariants as wire
use Rattle.http_wire.proofs.RoomLemmas.{head_counts}
use Rattle.http_wire.proofs.StreamLemmas.{front_of}

-- a stream that begins with a head that is served, of which these bytes came
module _ (head : RequestHead) (more bytes rest : List ℕ) (is : print_request head ++ more ≡ bytes ++ rest) (served : IsServedHead head) where
  reads : ReadsRequest (bytes ++ rest) head more
  reads = (served.valid, sym is)

  -- a head in front of the bytes is this one
  same : (h : RequestHead) (behind : List ℕ) → ReadsRequest bytes h behind → h ≡ head
  same h behind found = (request_unique (bytes ++ rest) h head (behind ++ rest) more (ReadsRequest-append bytes h behind rest found) reads).0

  -- not all has come
  not_all : IsOpen bytes → rest ≡ [] → ⊥
  not_all waits none =
      waits.none head more (subst (λ (b : List ℕ). ReadsRequest b head more) (ap (λ (r : List ℕ). bytes ++ r) none ∙ append-nil bytes) reads)

  not_long : IsOpen bytes → length bytes ≡ 16384 → ⊥
  not_long waits long =
      let inside = front_of (bytes ++ rest) (print_request head) bytes more rest (sym is) refl (omega (arith, served.size, long)) in
      waits.none head inside.0 (served.valid, inside.1)

  something : bytes ≡ [] → rest ≡ [] → ⊥
  something none none' =
      let empty : bytes ++ rest ≡ [] = ap (λ (b : List ℕ). b ++ rest) none ∙ none' in
      let counted : 3 * length head.fields < length (bytes ++ rest) = head_counts (bytes ++ rest) head more reads in
      omega (arith, counted, ap length empty)

  pub never_refused : (left : Option (List ℕ)) (e : WireError) → left ≡ Some rest → IsOfBytes e → RefusedAt left bytes e → ⊥
  never_refused left wire.BadHead at decided (inl bad) = bad.never rest head more reads
  never_refused left wire.BadHead at decided (inr (h, behind, found, none)) =
      none (subst (λ (k : RequestHead). HasPath k.target) (sym (same h behind found)) served.path)
  never_refused left (wire.TooLarge n) at decided (inl (long, counts)) = not_long long.0 long.1
  never_refused left (wire.TooLarge n) at decided (inr (h, behind, found, path, many, counts)) =
      omega (arith, subst (λ (k : RequestHead). 64 < length k.fields) (same h behind found) many, served.headers)
  never_refused left wire.Coding at decided refused = refused
  never_refused left wire.Ended at decided (none, end) = something none (end.none rest at)
  never_refused left wire.Cut at decided (waits, some, few, end) = not_all waits (end.none rest at)
  never_refused left wire.ReadFault at decided refused = decided
  never_refused left wire.Memory at decided refused = decided
