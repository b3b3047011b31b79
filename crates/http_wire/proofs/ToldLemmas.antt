-- From the bytes that were taken to the whole stream.
use Rattle.std.proofs.Common.{◌≡◌, ℕ, ◌≤◌, List, ◌++◌, length, Option, Some, Result, Ok, Err, sym, ap, ◌∙◌, subst, append_assoc}
use Rattle.std.proofs.lemmas.List.{append-nil}
use Rattle.std.specs.Prelude.{IfOk, IfErr}
use Rattle.httparse.specs.Grammar.{RequestHead, print_request}
use Rattle.http_wire.specs.declared.error.WireError.{WireError}
use Rattle.http_wire.specs.declared.error.WireError.TheVariants.{BadHead, TooLarge, Coding, Ended, Cut, ReadFault, Memory}
use Rattle.http_wire.specs.declared.head.Head.{Head}
use Rattle.http_wire.specs.Head.{head_of}
use Rattle.http_wire.specs.Wire.{IsServedHead}
use Rattle.http_wire.specs.Next.{RefusedAt}
use Rattle.http_wire.specs.Took.{Took}
use Rattle.http_wire.specs.Stream.{HeadNext}
use Rattle.http_wire.specs.Told.{IsDecided}

-- the stream is what was kept and taken, and then what is left
pub told : (left kept bytes : List ℕ) (before after : Option (List ℕ)) → Took before kept after bytes → before ≡ Some left
    → (rest : List ℕ) × (kept ++ left ≡ bytes ++ rest) × (after ≡ Some rest)
told left kept bytes before after took is =
    let split = took.takes.leaves left is in (
      split.0,
      ap (λ l. kept ++ l) split.1 ∙ (sym (append_assoc kept took.taken split.0) ∙ ap (λ front. front ++ split.0) took.whole),
      split.2,
    )

pub head_next : (left kept new : List ℕ) (before after : Option (List ℕ)) (r : Result Head WireError) → length new ≤ 16384
    → IfOk r (λ head. (h : RequestHead) × IsServedHead h × (head ≡ head_of h) × Took before kept after (print_request h ++ new))
    → IfErr r (λ e. Took before kept after new × RefusedAt after new e) → before ≡ Some left → IsDecided r → HeadNext (kept ++ left) r
head_next left kept new before after (Ok head) short ok err is decided =
    let split = told left kept (print_request ok.0 ++ new) before after ok.3 is in
    (ok.0, new ++ split.0, ok.1, ok.2, split.1 ∙ append_assoc (print_request ok.0) new split.0)
head_next left kept new before after (Err BadHead) short ok err is decided =
    let split = told left kept new before after err.0 is in (new, split.0, split.1, short, err.1)
head_next left kept new before after (Err (TooLarge n)) short ok err is decided =
    let split = told left kept new before after err.0 is in (new, split.0, split.1, short, err.1)
head_next left kept new before after (Err Coding) short ok err is decided = err.1
head_next left kept new before after (Err Ended) short ok err is decided =
    let split = told left kept new before after err.0 is in
    split.1 ∙ (ap (λ bytes. bytes ++ split.0) err.1.0 ∙ err.1.1.none split.0 split.2)
head_next left kept new before after (Err Cut) short ok err is decided =
    let split = told left kept new before after err.0 is in
    let all : new ≡ kept ++ left =
    sym (split.1 ∙ (ap (λ rest. new ++ rest) (err.1.3.none split.0 split.2) ∙ append-nil new)) in
    subst (λ (bytes : List ℕ). HeadNext bytes (Err Cut)) all (err.1.0, err.1.1, err.1.2)
head_next left kept new before after (Err ReadFault) short ok err is decided = absurd decided
head_next left kept new before after (Err Memory) short ok err is decided = absurd decided
