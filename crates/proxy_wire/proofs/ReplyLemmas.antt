-- From heads that were read to a reply, or to none.
use Rattle.std.proofs.Common.{◌≡◌, ℕ, Bool, true, false, ◌+◌, ◌≤◌, ◌⊎◌, inl, inr, List, [], ◌∷◌, ◌++◌, length, take, drop, Option, Some, None, refl, sym, ap, ◌∙◌, subst, append_assoc, arith, length-append, length-drop, All}
use Rattle.std.specs.List.{flat_map}
use Rattle.std.proofs.lemmas.List.{append-nil, nil_from_length, take-append-drop, drop-drop, length-take-le, take_at, take-append-le}
use Rattle.std.proofs.lemmas.Grind.{flat_map-append}
use Rattle.std.proofs.Math.Seq.{take-add}
use Rattle.std.proofs.lemmas.List.Elements.{All-head, All-tail, All-nil, All-cons, All-append}
use Rattle.httparse.specs.Grammar.{ResponseHead, IsResponseHead, print_response, ReadsResponse, HasNoResponse, status_code}
use Rattle.httparse.proofs.GrammarLemmas.{response_unique}
use Rattle.http_wire.specs.Wire.{head_limit, header_limit}
use Rattle.proxy_wire.specs.declared.framing.Framing.{Framing}
use Rattle.proxy_wire.specs.Framing.{framing}
use Rattle.proxy_wire.specs.Replies.{IsSkipped, IsFinal, IsInterim, BeginsReply, NoReply, IsHeadOf, NoHead}
use Rattle.upstreams.specs.Upstream.{Told, IsSpent}

some_same : {A : Type 0} (a b : A) → Some a ≡ Some b → a ≡ b
some_same a b e = cc

-- no status is both
apart : (up : Bool) (s : ℕ) → IsSkipped s → IsFinal up s → ⊥
apart up s (inl is) (inl low) = omega (arith, is, low)
apart up s (inl is) (inr (inl high)) = omega (arith, is, high)
apart up s (inl is) (inr (inr (at, on))) = omega (arith, is, at)
apart up s (inr (from, to)) (inl low) = omega (arith, from, low)
apart up s (inr (from, to)) (inr (inl high)) = omega (arith, to, high)
apart up s (inr (from, to)) (inr (inr (at, on))) = omega (arith, from, at)

-- a head that can stand next where a reply begins
pub record Next (up : Bool) (method bytes : List ℕ) (at : ℕ) : Type 0 where
  pub head : ResponseHead
  pub rest : List ℕ
  pub reads : ReadsResponse bytes head rest
  pub headers : length head.fields ≤ header_limit
  pub size : at + length (print_response head) ≤ head_limit
  pub kind : IsSkipped (status_code head) ⊎ (IsFinal up (status_code head) × (f : Framing) × (framing method head ≡ Some f))

-- behind the skipped heads of bytes that begin with a reply
pub next_head : (up : Bool) (method : List ℕ) (front : List ResponseHead) (behind : List ℕ) (at : ℕ) (interim : List ResponseHead) (r : ResponseHead) (f : Framing) (rest : List ℕ)
    → All IsInterim front → All IsInterim interim → IsResponseHead r → IsFinal up (status_code r) → length r.fields ≤ header_limit
    → at + (length (flat_map print_response interim) + length (print_response r)) ≤ head_limit
    → flat_map print_response front ++ behind ≡ flat_map print_response interim ++ (print_response r ++ rest)
    → framing method r ≡ Some f → Next up method behind (at + length (flat_map print_response front))
next_head up method [] behind at [] r f rest fs is head final few size whole framed = record {
  head = r;
  rest = rest;
  reads = (head, whole);
  headers = few;
  size = omega (arith, size);
  kind = inr (final, f, framed);
}
next_head up method [] behind at (i ∷ interim) r f rest fs is head final few size whole framed =
    let one = All-head IsInterim i interim is in record {
      head = i;
      rest = flat_map print_response interim ++ (print_response r ++ rest);
      reads = (one.head, whole ∙ append_assoc (print_response i) (flat_map print_response interim) (print_response r ++ rest));
      headers = one.headers;
      size = omega (arith, size, length-append (print_response i) (flat_map print_response interim));
      kind = inl one.status;
    }
next_head up method (h ∷ front) behind at [] r f rest fs is head final few size whole framed =
    let one = All-head IsInterim h front fs in
    let same = response_unique (print_response r ++ rest) h r (flat_map print_response front ++ behind) rest
    (one.head, sym whole ∙ append_assoc (print_response h) (flat_map print_response front) behind) (head, refl) in
    absurd (apart up (status_code r) (subst (λ (k : ResponseHead). IsSkipped (status_code k)) same.0 one.status) final)
next_head up method (h ∷ front) behind at (i ∷ interim) r f rest fs is head final few size whole framed =
    let one = All-head IsInterim h front fs in
    let two = All-head IsInterim i interim is in
    let bytes : List ℕ = print_response i ++ (flat_map print_response interim ++ (print_response r ++ rest)) in
    let there = append_assoc (print_response i) (flat_map print_response interim) (print_response r ++ rest) in
    let same = response_unique bytes h i (flat_map print_response front ++ behind) (flat_map print_response interim ++ (print_response r ++ rest))
    (one.head, sym there ∙ (sym whole ∙ append_assoc (print_response h) (flat_map print_response front) behind)) (two.head, refl) in
    let long : length (print_response h) ≡ length (print_response i) = ap (λ (k : ResponseHead). length (print_response k)) same.0 in
    let more = next_head up method front behind (at + length (print_response h)) interim r f rest (All-tail IsInterim h front fs) (All-tail IsInterim i interim is) head final few
    (omega (arith, size, long, length-append (print_response i) (flat_map print_response interim))) same.1 framed in
    subst (Next up method behind) (omega (arith, length-append (print_response h) (flat_map print_response front))) more

-- the heads in front of `at` were skipped
pub record Skipped (bytes : List ℕ) (at : ℕ) : Type 0 where
  pub heads : List ResponseHead
  pub each : All IsInterim heads
  pub front : take at bytes ≡ flat_map print_response heads
  pub fits : at ≤ length bytes

pub skipped_none : (bytes : List ℕ) → Skipped bytes 0
skipped_none bytes = record { heads = []; each = All-nil IsInterim; front = refl; fits = omega arith }

pub skipped_more : (bytes piece : List ℕ) (at : ℕ) → Skipped bytes at → Skipped (bytes ++ piece) at
skipped_more bytes piece at s = record {
  heads = s.heads;
  each = s.each;
  front = take-append-le at bytes piece s.fits ∙ s.front;
  fits = omega (arith, s.fits, length-append bytes piece);
}

pub skipped_head : (bytes : List ℕ) (at n : ℕ) (h : ResponseHead) → Skipped bytes at → IsHeadOf (drop at bytes) h n → IsSkipped (status_code h) → Skipped bytes (at + n)
skipped_head bytes at n h s is skipped = record {
  heads = s.heads ++ h ∷ [];
  each = All-append IsInterim s.heads (h ∷ []) s.each (All-cons IsInterim h [] (record { head = is.head; status = skipped; headers = is.headers }) (All-nil IsInterim));
  front =
      take-add at n bytes
      ∙ (ap (λ (x : List ℕ). x ++ take n (drop at bytes)) s.front
      ∙ (ap (λ (x : List ℕ). flat_map print_response s.heads ++ x) (is.front ∙ sym (append-nil (print_response h)))
      ∙ sym (flat_map-append print_response s.heads (h ∷ []))));
  fits = omega (arith, is.fits, s.fits, length-drop at bytes);
}

skipped_length : (bytes : List ℕ) (at : ℕ) (s : Skipped bytes at) → at ≡ length (flat_map print_response s.heads)
skipped_length bytes at s = sym (length-take-le at bytes s.fits) ∙ ap length s.front

-- the reply's head is there
pub begins : (up : Bool) (method bytes : List ℕ) (at n : ℕ) (h : ResponseHead) (f : Framing) → Skipped bytes at → IsHeadOf (drop at bytes) h n → IsFinal up (status_code h)
    → length bytes ≤ 16384 → framing method h ≡ Some f → BeginsReply up method bytes h f (drop (at + n) bytes)
begins up method bytes at n h f s is final short framed = record {
  interim = s.heads;
  each = s.each;
  head = is.head;
  final = final;
  headers = is.headers;
  size = omega (arith, skipped_length bytes at s, is.size, is.fits, s.fits, short, length-drop at bytes);
  whole =
      sym (take-append-drop at bytes)
      ∙ (ap (λ (x : List ℕ). x ++ drop at bytes) s.front
      ∙ ap (λ (x : List ℕ). flat_map print_response s.heads ++ x)
      (sym (take-append-drop n (drop at bytes)) ∙ (ap (λ (x : List ℕ). x ++ drop n (drop at bytes)) is.front ∙ ap (λ (x : List ℕ). print_response h ++ x) (drop-drop n at bytes))));
  framed = framed;
}

-- no head that can stand next comes
pub none_next : (up : Bool) (method bytes : List ℕ) (at : ℕ) (told : Option Told) → Skipped bytes at
    → ((more : List ℕ) → (IsSpent told → more ≡ []) → Next up method (drop at bytes ++ more) at → ⊥) → NoReply up method told bytes
none_next up method bytes at told s none r f rest more spent begun =
    let split : bytes ++ more ≡ flat_map print_response s.heads ++ (drop at bytes ++ more) =
    ap (λ (x : List ℕ). x ++ more) (sym (take-append-drop at bytes) ∙ ap (λ (x : List ℕ). x ++ drop at bytes) s.front)
    ∙ append_assoc (flat_map print_response s.heads) (drop at bytes) more in
    none more spent (subst (Next up method (drop at bytes ++ more)) (omega (arith, skipped_length bytes at s))
    (next_head up method s.heads (drop at bytes ++ more) 0 begun.interim r f rest s.each begun.each begun.head begun.final begun.headers (omega (arith, begun.size)) (sym split ∙ begun.whole) begun.framed))

not_between : (s : ℕ) → s ≡ 101 → IsSkipped s → ⊥
not_between s is (inl same) = omega (arith, is, same)
not_between s is (inr (from, to)) = omega (arith, is, from)

on_and_off : (up : Bool) → up ≡ true → up ≡ false → ⊥
on_and_off up on off = cc

not_final : (up : Bool) (s : ℕ) → (s ≡ 101) × (up ≡ false) → IsFinal up s → ⊥
not_final up s (is, off) (inl low) = omega (arith, is, low)
not_final up s (is, off) (inr (inl high)) = omega (arith, is, high)
not_final up s (is, off) (inr (inr (at, on))) = on_and_off up on off

-- bytes that begin with a head which fits in them have it
front_of : (bytes more head rest : List ℕ) → bytes ++ more ≡ head ++ rest → length head ≤ length bytes → bytes ≡ head ++ drop (length head) bytes
front_of bytes more head rest is le =
    sym (take-append-drop (length head) bytes)
    ∙ ap (λ (x : List ℕ). x ++ drop (length head) bytes)
    (sym (take-append-le (length head) bytes more le) ∙ (ap (take (length head)) is ∙ take_at head rest (length head) refl))

abbrev Kind : Bool → List ℕ → ResponseHead → Type 0
Kind up m h = IsSkipped (status_code h) ⊎ (IsFinal up (status_code h) × (f : Framing) × (framing m h ≡ Some f))

refuse_bad : (up : Bool) (m : List ℕ) (h : ResponseHead) → Kind up m h → (status_code h ≡ 101) × (up ≡ false) → ⊥
refuse_bad up m h (inl skipped) is = not_between (status_code h) is.0 skipped
refuse_bad up m h (inr (final, f, framed)) is = not_final up (status_code h) is final

none_some : {A : Type 0} (a : A) → None ≡ Some a → ⊥
none_some a e = cc

refuse_unframed : (up : Bool) (m : List ℕ) (h k : ResponseHead) → h ≡ k → IsFinal up (status_code h) → framing m h ≡ None → Kind up m k → ⊥
refuse_unframed up m h k same final none (inl skipped) =
    apart up (status_code k) skipped (subst (λ (x : ResponseHead). IsFinal up (status_code x)) same final)
refuse_unframed up m h k same final none (inr (fin, f, framed)) = none_some f (sym none ∙ (ap (framing m) same ∙ framed))

pub bad_reply : (up : Bool) (method bytes : List ℕ) (at : ℕ) (told : Option Told) → Skipped bytes at → NoHead up (drop at bytes) → NoReply up method told bytes
bad_reply up method bytes at told s bad =
    none_next up method bytes at told s
    (λ more spent next. refuse_bad up method next.head next.kind (bad more next.head next.rest next.reads next.headers))

pub spent_reply : (up : Bool) (method bytes : List ℕ) (at : ℕ) (told : Option Told) → Skipped bytes at → HasNoResponse (drop at bytes) → IsSpent told → NoReply up method told bytes
spent_reply up method bytes at told s unread end =
    none_next up method bytes at told s
    (λ more spent next. unread next.head next.rest
    (subst (λ (x : List ℕ). ReadsResponse x next.head next.rest)
    (ap (λ (m : List ℕ). drop at bytes ++ m) (spent end) ∙ append-nil (drop at bytes)) next.reads))

pub full_reply : (up : Bool) (method bytes : List ℕ) (at : ℕ) (told : Option Told) → Skipped bytes at → HasNoResponse (drop at bytes) → length bytes ≡ 16384 → NoReply up method told bytes
full_reply up method bytes at told s unread full =
    none_next up method bytes at told s
    (λ more spent next. unread next.head (drop (length (print_response next.head)) (drop at bytes)) (
      next.reads.0,
      front_of (drop at bytes) more (print_response next.head) next.rest next.reads.1 (omega (arith, next.size, s.fits, full, length-drop at bytes)),
    ))

pub unframed_reply : (up : Bool) (method bytes : List ℕ) (at n : ℕ) (h : ResponseHead) (told : Option Told) → Skipped bytes at → IsHeadOf (drop at bytes) h n → IsFinal up (status_code h)
    → framing method h ≡ None → NoReply up method told bytes
unframed_reply up method bytes at n h told s is final none =
    none_next up method bytes at told s
    (λ more spent next.
    let here : drop at bytes ++ more ≡ print_response h ++ (drop n (drop at bytes) ++ more) =
    ap (λ (x : List ℕ). x ++ more) (sym (take-append-drop n (drop at bytes)) ∙ ap (λ (x : List ℕ). x ++ drop n (drop at bytes)) is.front)
    ∙ append_assoc (print_response h) (drop n (drop at bytes)) more in
    let same = response_unique (drop at bytes ++ more) h next.head (drop n (drop at bytes) ++ more) next.rest (is.head, here) next.reads in
    refuse_unframed up method h next.head same.0 final none next.kind)

-- the last receive gave nothing
pub spent_more : (up : Bool) (method bytes piece : List ℕ) (at : ℕ) (told : Option Told) → Skipped bytes at → HasNoResponse (drop at bytes) → length piece ≡ 0 → IsSpent told
    → NoReply up method told (bytes ++ piece)
spent_more up method bytes piece at told s unread none end =
    subst (NoReply up method told) (sym (append-nil bytes) ∙ ap (λ (x : List ℕ). bytes ++ x) (sym (nil_from_length piece none)))
    (spent_reply up method bytes at told s unread end)
