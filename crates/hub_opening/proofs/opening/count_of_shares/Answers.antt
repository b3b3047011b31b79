use Rattle.std.proofs.Common.{◌∙◌, ap, sym, length}
use Rattle.std.proofs.lemmas.List.{length-map}
use Rattle.std.specs.FinMap.{entries, len-entries}
use Rattle.hub_opening.proofs.opening.count_of_shares.Goals as goal

pub returns : goal.returns
returns c =
    c.len.ensures.value ∙ ap length c.shares.ensures.rows ∙ length-map (entries c.args.tables.now.shares) (λ e. e.1) ∙ sym (len-entries c.args.tables.now.shares)
