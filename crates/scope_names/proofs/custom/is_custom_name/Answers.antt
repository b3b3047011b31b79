use Rattle.std.proofs.Common.{◌≡◌, true, sym, ◌∙◌, nat_eq, take}
use Rattle.std.specs.Prelude.{codes}
use Rattle.std.specs.Cmp.Lexicographic.{pointwise}
use Rattle.scope_names.proofs.CustomNames.{named_is, short_is, not-false}
use Rattle.scope_names.proofs.custom.is_custom_name.Goals as goal

pub returns-then-bytes-lt8 : goal.returns-then-bytes-lt8
returns-then-bytes-lt8 c = short_is c.args.bytes.now c.if-bytes-lt8.true

pub returns : goal.returns
returns c =
    let same : pointwise nat_eq (take 7 c.args.bytes.now) (codes "custom:") ≡ true = not-false _ (sym c.ne.ensures ∙ c.if-ne.false) in
    c.is_custom_rest.ensures ∙ named_is c.args.bytes.now same
