-- On every stream at most one thing stands next.
use Rattle.std.proofs.lemmas.Bool.{eq-eqb, ne_eqb, le-leb, lt-leb}
use Rattle.std.proofs.Common.{Result, Ok, Err, ◌≡◌, ℕ, Bool, true, false, if◌then◌else◌, ◌==◌, nat_le, ◌+◌, ◌<◌, ◌≤◌, inl, inr, List, [], ◌∷◌, ◌++◌, length, take, drop, refl, sym, ap, ◌∙◌, subst, arith, length-append}
use Rattle.std.proofs.lemmas.List.{take-append-drop, take-append-le, nil_from_length}
use Rattle.std.proofs.Math.Seq.{take-append_seam}
use Rattle.httparse.specs.Grammar.{RequestHead, print_request, ReadsRequest}
use Rattle.httparse.proofs.GrammarLemmas.{ReadsRequest-append, request_unique}
use Rattle.http_wire.specs.declared.error.WireError.{WireError}
use Rattle.http_wire.specs.declared.head.Head.{Head}
use Rattle.http_wire.specs.Head.{head_of}
use Rattle.http_wire.specs.declared.error.WireError.TheVariants.{BadHead, TooLarge, Coding, Ended, Cut, ReadFault, Memory}
use Rattle.http_wire.specs.Wire.{IsOpen, IsBad, HasPath}
use Rattle.http_wire.specs.Next.{IsLong}
use Rattle.http_wire.specs.Stream.{HeadNext}
use Rattle.http_wire.proofs.BadLemmas.{IsBad-append, empty_not_bad}
use Rattle.http_wire.proofs.RoomLemmas.{head_counts}

-- of two fronts of one stream the shorter begins the longer
pub front_of : (stream a b x y : List ℕ) → stream ≡ a ++ x → stream ≡ b ++ y → length a ≤ length b → (z : List ℕ) × (b ≡ a ++ z)
front_of stream a b x y one two short =
    let begins : take (length a) b ≡ a =
    sym (take-append-le (length a) b y short) ∙ (ap (take (length a)) (sym two ∙ one) ∙ take-append_seam a x) in
    (drop (length a) b, sym (take-append-drop (length a) b) ∙ ap (λ front. front ++ drop (length a) b) begins)

-- a head at the front of the bytes, in the same stream
grown : (bytes z more : List ℕ) (h : RequestHead) (rest : List ℕ) → more ≡ bytes ++ z → ReadsRequest bytes h rest → ReadsRequest more h (rest ++ z)
grown bytes z more h rest is reads =
    subst (λ (b : List ℕ). ReadsRequest b h (rest ++ z)) (sym is) (ReadsRequest-append bytes h rest z reads)

-- bytes that are bad aren't open
pub bad_not_open : (bytes : List ℕ) → IsBad bytes → IsOpen bytes → ⊥
bad_not_open bytes bad open' = elim open'.may [
  | inl found ↦ bad.never found.0 found.1 [] found.2
  | inr ends ↦ bad.outside ends
]

-- bad bytes in front, and a head
bad_no_head : (stream front more : List ℕ) (h : RequestHead) (rest : List ℕ) → stream ≡ front ++ more → IsBad front → ReadsRequest stream h rest → ⊥
bad_no_head stream front more h rest is bad reads =
    bad.never more h rest (subst (λ (b : List ℕ). ReadsRequest b h rest) is reads)

-- ---- the kinds of fronts

data Kind : Type 0 where
  whole : RequestHead → Kind
  bad long none part : Kind

abbrev Stands : List ℕ → Kind → Type 0
Stands s (whole h) = (rest : List ℕ) × ReadsRequest s h rest × (length (print_request h) ≤ 16384)
Stands s bad = (front : List ℕ) × (more : List ℕ) × (s ≡ front ++ more) × (length front ≤ 16384) × IsBad front
Stands s long = (front : List ℕ) × (more : List ℕ) × (s ≡ front ++ more) × IsLong front
Stands s none = s ≡ []
Stands s part = IsOpen s × (0 < length s) × (length s < 16384)

never_bad_empty : IsBad [] → ⊥
never_bad_empty is = empty_not_bad is

whole_bad : (s : List ℕ) (h : RequestHead) → Stands s (whole h) → Stands s bad → ⊥
whole_bad s h (rest, reads, size) (front, more, is, short, b) = bad_no_head s front more h rest is b reads

whole_long : (s : List ℕ) (h : RequestHead) → Stands s (whole h) → Stands s long → ⊥
whole_long s h (rest, reads, size) (front, more, is, l) =
    let inside = front_of s (print_request h) front rest more reads.1 is (omega (arith, size, l.1)) in
    l.0.none h inside.0 (reads.0, inside.1)

whole_none : (s : List ℕ) (h : RequestHead) → Stands s (whole h) → Stands s none → ⊥
whole_none s h (rest, reads, size) empty =
    omega (arith, head_counts s h rest reads, ap length empty)

whole_part : (s : List ℕ) (h : RequestHead) → Stands s (whole h) → Stands s part → ⊥
whole_part s h (rest, reads, size) p = p.0.none h rest reads

bad_long : (s : List ℕ) → Stands s bad → Stands s long → ⊥
bad_long s (front, more, is, short, b) (whole_front, more', is', l) =
    let inside = front_of s front whole_front more more' is is' (omega (arith, short, l.1)) in
    bad_not_open whole_front (subst IsBad (sym inside.1) (IsBad-append front inside.0 b)) l.0

bad_none : (s : List ℕ) → Stands s bad → Stands s none → ⊥
bad_none s (front, more, is, short, b) empty =
    let nothing : front ≡ [] =
    nil_from_length front (let counted : length s ≡ length front + length more = ap length is ∙ length-append front more in omega (arith, counted, ap length empty)) in
    never_bad_empty (subst IsBad nothing b)

bad_part : (s : List ℕ) → Stands s bad → Stands s part → ⊥
bad_part s (front, more, is, short, b) p = bad_not_open s (subst IsBad (sym is) (IsBad-append front more b)) p.0

long_short : (s : List ℕ) → Stands s long → length s < 16384 → ⊥
long_short s (front, more, is, l) short =
    let counted : length s ≡ length front + length more = ap length is ∙ length-append front more in omega (arith, counted, l.1, short)

stands_once : (s : List ℕ) (a b : Kind) → Stands s a → Stands s b → a ≡ b
stands_once s (whole h) (whole k) x y = ap whole (request_unique s h k x.0 y.0 x.1 y.1).0
stands_once s (whole h) bad x y = absurd (whole_bad s h x y)
stands_once s (whole h) long x y = absurd (whole_long s h x y)
stands_once s (whole h) none x y = absurd (whole_none s h x y)
stands_once s (whole h) part x y = absurd (whole_part s h x y)
stands_once s bad (whole h) x y = absurd (whole_bad s h y x)
stands_once s bad bad x y = refl
stands_once s bad long x y = absurd (bad_long s x y)
stands_once s bad none x y = absurd (bad_none s x y)
stands_once s bad part x y = absurd (bad_part s x y)
stands_once s long (whole h) x y = absurd (whole_long s h y x)
stands_once s long bad x y = absurd (bad_long s y x)
stands_once s long long x y = refl
stands_once s long none x y = absurd (long_short s x (omega (arith, ap length y)))
stands_once s long part x y = absurd (long_short s x y.2)
stands_once s none (whole h) x y = absurd (whole_none s h y x)
stands_once s none bad x y = absurd (bad_none s y x)
stands_once s none long x y = absurd (long_short s y (omega (arith, ap length x)))
stands_once s none none x y = refl
stands_once s none part x y = absurd (omega (arith, ap length x, y.1))
stands_once s part (whole h) x y = absurd (whole_part s h y x)
stands_once s part bad x y = absurd (bad_part s y x)
stands_once s part long x y = absurd (long_short s y x.2)
stands_once s part none x y = absurd (omega (arith, ap length y, x.1))
stands_once s part part x y = refl

-- ---- what each kind means

abbrev has_path : List ℕ → Bool
has_path [] = false
has_path (b ∷ bytes) = b == 47

path_yes : (t : List ℕ) → HasPath t → has_path t ≡ true
path_yes [] p = absurd p
path_yes (b ∷ bytes) p = eq-eqb b 47 p

path_no : (t : List ℕ) → ¬ (HasPath t) → has_path t ≡ false
path_no [] p = refl
path_no (b ∷ bytes) p = ne_eqb b 47 p

abbrev verdict : Kind → Result Head WireError
verdict (whole h) =
    if has_path h.target then (if nat_le (length h.fields) 64 then Ok (head_of h) else Err (TooLarge (length h.fields)))
    else Err BadHead
verdict bad = Err BadHead
verdict long = Err (TooLarge 16385)
verdict none = Err Ended
verdict part = Err Cut

as_whole : (s front more : List ℕ) (h : RequestHead) (rest : List ℕ) → s ≡ front ++ more → length front ≤ 16384 → ReadsRequest front h rest
    → Stands s (whole h)
as_whole s front more h rest is short reads =
    let counted : length front ≡ length (print_request h) + length rest = ap length reads.1 ∙ length-append (print_request h) rest in
    (rest ++ more, grown front more s h rest is reads, omega (arith, counted, short))

kind_of : (s : List ℕ) (n : Result Head WireError) → HeadNext s n → (k : Kind) × Stands s k × (n ≡ verdict k)
kind_of s (Ok head) (h, rest, is, value, same) =
    let path = path_yes h.target is.path in
    let few : nat_le (length h.fields) 64 ≡ true = le-leb (length h.fields) 64 is.headers in
    (whole h, (rest, (is.valid, same), is.size), rw (path, few) (ap Ok value))
kind_of s (Err BadHead) (front, more, is, short, r) =
    elim r [
      | inl b ↦ (bad, (front, more, is, short, b), refl)
      | inr other ↦
          let path = path_no other.0.target other.3 in
          (whole other.0, as_whole s front more other.0 other.1 is short other.2, rw path refl)
    ]
kind_of s (Err (TooLarge n)) (front, more, is, short, r) =
    elim r [
      | inl l ↦ (long, (front, more, is, l.0), ap (λ (m : ℕ). Err (TooLarge m)) l.1)
      | inr other ↦
          let path = path_yes other.0.target other.3 in
          let many : nat_le (length other.0.fields) 64 ≡ false = lt-leb (length other.0.fields) 64 other.4 in (
            whole other.0,
            as_whole s front more other.0 other.1 is short other.2,
            rw (path, many) (ap (λ (m : ℕ). Err (TooLarge m)) other.5),
          )
    ]
kind_of s (Err Coding) x = absurd x
kind_of s (Err Ended) x = (none, x, refl)
kind_of s (Err Cut) x = (part, x, refl)
kind_of s (Err ReadFault) x = absurd x
kind_of s (Err Memory) x = absurd x

-- however a stream is read, one thing stands next on it
pub next_head_once : (s : List ℕ) (a b : Result Head WireError) → HeadNext s a → HeadNext s b → a ≡ b
next_head_once s a b x y =
    let one = kind_of s a x in
    let two = kind_of s b y in
    one.2 ∙ (ap verdict (stands_once s one.0 two.0 one.1 two.1) ∙ sym two.2)
