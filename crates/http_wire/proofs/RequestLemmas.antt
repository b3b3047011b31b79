-- On every stream at most one request, or one thing in its place, stands next.
use Rattle.std.proofs.Common.{◌≡◌, ℕ, Bool, true, false, if◌then◌else◌, nat_le, ◌<◌, ◌≤◌, ◌⊎◌, inl, inr, List, [], ◌++◌, length, take, Option, Some, Result, Ok, Err, refl, sym, ap, ◌∙◌, subst, append_assoc, arith, length-append}
use Rattle.std.specs.Prelude.{IfOk, IfErr}
use Rattle.std.proofs.lemmas.Bool.{le-leb, lt-leb}
use Rattle.std.proofs.lemmas.List.{take_at}
use Rattle.httparse.specs.Grammar.{RequestHead, print_request}
use Rattle.httparse.proofs.GrammarLemmas.{request_unique}
use Rattle.http_wire.specs.declared.error.WireError.{WireError}
use Rattle.http_wire.specs.declared.error.WireError.TheVariants.{BadHead, TooLarge, Coding, Ended, Cut, ReadFault, Memory}
use Rattle.http_wire.specs.declared.head.Head.{Head}
use Rattle.http_wire.specs.declared.request.Request.{Request}
use Rattle.http_wire.specs.Head.{head_of}
use Rattle.http_wire.specs.Wire.{IsServedHead}
use Rattle.http_wire.specs.Due.{body_due}
use Rattle.http_wire.specs.Request.{request_of, body_due_of, IsRequestText}
use Rattle.http_wire.specs.Body.{IsShort, NoBody, RequestRefusedAt, AtMostDue, WithinRequest}
use Rattle.http_wire.specs.Took.{Took}
use Rattle.http_wire.specs.Told.{IsOfBytes, IsDecided}
use Rattle.http_wire.specs.Stream.{HeadNext}
use Rattle.http_wire.specs.Requests.{BodyRefused, RequestNext}
use Rattle.http_wire.proofs.TookLemmas.{Took_behind, Took_as}
use Rattle.http_wire.proofs.ToldLemmas.{told, head_next}
use Rattle.http_wire.proofs.StreamLemmas.{next_head_once}

-- ---- a head and what is behind it decide the answer

abbrev answer : Result ℕ WireError → RequestHead → List ℕ → Result Request WireError
answer (Err e) h behind = Err e
answer (Ok n) h behind = if nat_le n (length behind) then Ok (request_of (head_of h) (take n behind)) else Err Cut

answer_short : (n : ℕ) (h : RequestHead) (behind : List ℕ) → length behind < n → Err Cut ≡ answer (Ok n) h behind
answer_short n h behind short =
    let none : nat_le n (length behind) ≡ false = lt-leb n (length behind) short in
    ap (λ (t : Bool). if t then Ok (request_of (head_of h) (take n behind)) else Err Cut) (sym none)

refused_is : (r : Result ℕ WireError) (h : RequestHead) (behind : List ℕ) (e : WireError) → BodyRefused r behind e → Err e ≡ answer r h behind
refused_is (Err refusal) h behind e is = ap Err is
refused_is (Ok n) h behind BadHead bad = absurd bad
refused_is (Ok n) h behind (TooLarge m) bad = absurd bad
refused_is (Ok n) h behind Coding bad = absurd bad
refused_is (Ok n) h behind Ended bad = absurd bad
refused_is (Ok n) h behind Cut short = answer_short n h behind short
refused_is (Ok n) h behind ReadFault bad = absurd bad
refused_is (Ok n) h behind Memory bad = absurd bad

answer_whole : (h : RequestHead) (body rest : List ℕ) → Ok (request_of (head_of h) body) ≡ answer (Ok (length body)) h (body ++ rest)
answer_whole h body rest =
    let enough : nat_le (length body) (length (body ++ rest)) ≡ true =
    le-leb (length body) (length (body ++ rest)) (omega (arith, length-append body rest)) in
    ap (λ (b : List ℕ). Ok (request_of (head_of h) b)) (sym (take_at body rest (length body) refl))
    ∙ ap (λ (t : Bool). if t then Ok (request_of (head_of h) (take (length body) (body ++ rest))) else Err Cut) (sym enough)

abbrev Headed : List ℕ → Result Request WireError → Type 0
Headed s a = (h : RequestHead) × (behind : List ℕ) × IsServedHead h × (s ≡ print_request h ++ behind) × (a ≡ answer (body_due_of h) h behind)

abbrev Headless : List ℕ → Result Request WireError → Type 0
Headless s a = (e : WireError) × HeadNext s (Err e) × (a ≡ Err e)

stands : (s : List ℕ) (a : Result Request WireError) → RequestNext s a → Headed s a ⊎ Headless s a
stands s (Ok request) (text, rest, is, same) =
    inl (
      is.head,
      request.body ++ rest,
      is.served,
      same ∙ (ap (λ t. t ++ rest) is.printed ∙ append_assoc (print_request is.head) request.body rest),
      ap Ok is.value
          ∙ (answer_whole is.head request.body rest
          ∙ ap (λ (r : Result ℕ WireError). answer r is.head (request.body ++ rest)) (sym is.due)),
    )
stands s (Err e) next =
    elim next [
      | inl head ↦ inr (e, head, refl)
      | inr body ↦ inl (body.0, body.1, body.2, body.3, refused_is (body_due_of body.0) body.0 body.1 e body.4)
    ]

headed_once : (s : List ℕ) (a b : Result Request WireError) → Headed s a → Headed s b → a ≡ b
headed_once s a b (h, behind, served, same, is) (k, beyond, served', same', is') =
    let one = request_unique s h k behind beyond (served.valid, same) (served'.valid, same') in
    is
    ∙ (ap (λ (g : RequestHead). answer (body_due_of g) g behind) one.0
    ∙ (ap (λ (rest : List ℕ). answer (body_due_of k) k rest) one.1 ∙ sym is'))

no_mix : (h : Head) (e : WireError) → Ok h ≡ Err e → ⊥
no_mix h e same = cc

headed_headless : (s : List ℕ) (a b : Result Request WireError) → Headed s a → Headless s b → ⊥
headed_headless s a b (h, behind, served, same, is) (e, next, is') =
    no_mix (head_of h) e (next_head_once s (Ok (head_of h)) (Err e) (h, behind, served, refl, same) next)

same_error : (e d : WireError) → (x y : Result Head WireError) → x ≡ Err e → y ≡ Err d → x ≡ y → e ≡ d
same_error e d x y one two same = cc

-- however a stream is read, one thing stands next on it
pub next_request_once : (s : List ℕ) (a b : Result Request WireError) → RequestNext s a → RequestNext s b → a ≡ b
next_request_once s a b x y =
    elim (stands s a x) [
      | inl one ↦ elim (stands s b y) [ inl two ↦ headed_once s a b one two | inr two ↦ absurd (headed_headless s a b one two) ]
      | inr one ↦
          elim (stands s b y) [
            | inl two ↦ absurd (headed_headless s b a two one)
            | inr two ↦ one.2 ∙ (ap Err (same_error one.0 two.0 (Err one.0) (Err two.0) refl refl (next_head_once s (Err one.0) (Err two.0) one.1 two.1)) ∙ sym two.2)
          ]
    ]

-- ---- from the bytes that were taken to the whole stream

no_body_next : (r : Result ℕ WireError) (after : Option (List ℕ)) (behind rest : List ℕ) (e : WireError)
    → NoBody r after behind e → after ≡ Some rest → IsOfBytes e → BodyRefused r (behind ++ rest) e
no_body_next (Err refusal) after behind rest e bad is decided = bad
no_body_next (Ok n) after behind rest BadHead bad is decided = absurd bad
no_body_next (Ok n) after behind rest (TooLarge m) bad is decided = absurd bad
no_body_next (Ok n) after behind rest Coding bad is decided = absurd bad
no_body_next (Ok n) after behind rest Ended bad is decided = absurd bad
no_body_next (Ok n) after behind rest Cut (short, end) is decided =
    let nothing : rest ≡ [] = end.none rest is in
    omega (arith, length-append behind rest, ap length nothing, short)
no_body_next (Ok n) after behind rest ReadFault bad is decided = absurd decided
no_body_next (Ok n) after behind rest Memory bad is decided = absurd decided

pub request_next : (left kept new : List ℕ) (before after : Option (List ℕ)) (r : Result Request WireError)
    → IfOk r (λ request. (text : List ℕ) × IsRequestText request text × Took before kept after (text ++ new))
    → IfErr r (λ e. (gone : List ℕ) × WithinRequest gone × Took before kept after (gone ++ new) × RequestRefusedAt after (gone ++ new) e)
    → before ≡ Some left → IsDecided r → RequestNext (kept ++ left) r
request_next left kept new before after (Ok request) ok err is decided =
    let split = told left kept (ok.0 ++ new) before after ok.2 is in
    (ok.0, new ++ split.0, ok.1, split.1 ∙ append_assoc ok.0 new split.0)
request_next left kept new before after (Err e) ok err is decided =
    elim err.3 [
      | inl head ↦ inl (head_next left kept (err.0 ++ new) before after (Err e) head.0 tt (err.2, head.1) is decided)
      | inr body ↦
          let split = told left kept (err.0 ++ new) before after err.2 is in
          inr (
            body.0,
            body.1 ++ split.0,
            body.2,
            split.1 ∙ (ap (λ t. t ++ split.0) body.3 ∙ append_assoc (print_request body.0) body.1 split.0),
            no_body_next (body_due_of body.0) after body.1 split.0 e body.4 split.2 decided,
          )
    ]

-- ---- a head, and then its body

due_is : (h : RequestHead) (head : Head) (r : Result ℕ WireError) → head ≡ head_of h → r ≡ body_due head.headers → body_due_of h ≡ r
due_is h head r is due = ap (λ (g : Head). body_due g.headers) (sym is) ∙ sym due

took_both : (before between after : Option (List ℕ)) (kept rest new front part : List ℕ) → Took before kept between (front ++ rest)
    → Took between rest after (part ++ new) → Took before kept after ((front ++ part) ++ new)
took_both before between after kept rest new front part first second =
    Took_as before after kept (front ++ (part ++ new)) ((front ++ part) ++ new)
    (Took_behind before between after kept front rest (part ++ new) first second) (sym (append_assoc front part new))

pub body_missed : (before between after : Option (List ℕ)) (kept rest new part : List ℕ) (h : RequestHead) (head : Head) (n : ℕ) (e : WireError)
    → IsServedHead h → head ≡ head_of h → Ok n ≡ body_due head.headers → Took before kept between (print_request h ++ rest)
    → Took between rest after (part ++ new) → length part ≤ n → IsShort n after (part ++ new) e
    → (gone : List ℕ) × WithinRequest gone × Took before kept after (gone ++ new) × RequestRefusedAt after (gone ++ new) e
body_missed before between after kept rest new part h head n e served is said first second most short =
    let due : body_due_of h ≡ Ok n = due_is h head (Ok n) is said in (
      print_request h ++ part,
      inr (h, part, served, refl, subst (λ (r : Result ℕ WireError). AtMostDue r (length part)) (sym due) most),
      took_both before between after kept rest new (print_request h) part first second,
      inr (
        h,
        part ++ new,
        served,
        append_assoc (print_request h) part new,
        subst (λ (r : Result ℕ WireError). NoBody r after (part ++ new) e) (sym due) short,
      ),
    )

pub request_made : (before between after : Option (List ℕ)) (kept rest new body : List ℕ) (h : RequestHead) (head : Head) (n : ℕ) (request : Request)
    → IsServedHead h → head ≡ head_of h → Ok n ≡ body_due head.headers → Took before kept between (print_request h ++ rest)
    → Took between rest after (body ++ new) → length body ≡ n → request ≡ request_of head body
    → (text : List ℕ) × IsRequestText request text × Took before kept after (text ++ new)
request_made before between after kept rest new body h head n request served is said first second whole made =
    let same : request.body ≡ body = ap (λ (r : Request). r.body) made in (
      print_request h ++ body,
      record {
        head = h;
        served = served;
        due = due_is h head (Ok n) is said ∙ ap Ok (sym whole ∙ ap length (sym same));
        value = made ∙ (ap (λ (g : Head). request_of g body) is ∙ ap (request_of (head_of h)) (sym same));
        printed = ap (λ b. print_request h ++ b) (sym same);
      },
      took_both before between after kept rest new (print_request h) body first second,
    )
