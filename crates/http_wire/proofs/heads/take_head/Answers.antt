use Rattle.std.proofs.Common.{◌≡◌, ◌++◌, ◌∙◌, sym, ap, refl, inr, arith, drop, get_or}
use Rattle.httparse.specs.Grammar.{print_request}
use Rattle.httparse.specs.Spans.{span_bytes}
use Rattle.http_wire.specs.Head.{head_at}
use Rattle.http_wire.proofs.HeadLemmas.{target_path, field_count, head_at_is, head_is_served}
use Rattle.http_wire.proofs.heads.take_head.Goals as goal

pub returns-then-r-gt-HEADER_LIMIT-clause-err : goal.returns-then-r-gt-HEADER_LIMIT-clause-err
returns-then-r-gt-HEADER_LIMIT-clause-err c =
    let h = c.requires.head.0 in
    let at = c.requires.head.1 in
    let slash : get_or (span_bytes c.args.kept.now c.args.r.path) 0 0 ≡ 47 = grind arith in
    let count = field_count c.args.kept.now c.args.spans.now c.args.r h c.requires.within.section.count_fits at in
    (refl, inr (h, drop c.args.r.len c.args.kept.now, at.reads, target_path c.args.kept.now c.args.spans.now c.args.r h at slash, omega (arith, count), count))

pub returns-clause-ok : goal.returns-clause-ok
returns-clause-ok c =
    let h = c.requires.head.0 in
    let at = c.requires.head.1 in
    let slash : get_or (span_bytes c.args.kept.now c.args.r.path) 0 0 ≡ 47 = grind arith in (
      h,
      head_is_served c.args.kept.now c.args.spans.now c.args.r h c.requires.within at c.requires.short slash (omega arith),
      c.in-Ok.ensures ∙ (ap (λ bytes. head_at bytes c.args.spans.now c.args.r) c.as_slice-bytes.ensures.value
          ∙ head_at_is c.args.kept.now c.args.spans.now c.args.r h at),
      at.reads.1 ∙ ap (λ rest. print_request h ++ rest) (sym c.drop_front.ensures),
    )
