use Rattle.std.proofs.Common.{◌∙◌, get_or}
use Rattle.std.proofs.lemmas.List.{get_or_default}
use Rattle.hub_rows.specs.declared.changes.RowChange.TheVariants.{Remove}
use Rattle.hub_rows.specs.declared.rows.RowKey.TheVariants as RowKey
use Rattle.hub_tables.specs.Lookups.{tokens_of}
use Rattle.admin_rules.proofs.Taken.{removed_more, removed_all}
use Rattle.admin_rules.proofs.purges.remove_tokens.Goals as goal

pub loop-id-preserved : goal.loop-id-preserved
loop-id-preserved c =
    let ids = c.as_slice-id-items.result.now in
    let i = c.loop-id.id-index in
    let id = get_or ids i 0 in
    removed_more (λ key. Remove (RowKey.Token key)) ids i id c.loop-id-test.true (get_or_default ids i 0 id c.loop-id-test.true) c.args.changes.now.items c.loop-id.changes.items c.append.new.changes.items c.loop-id.invariant c.in_ok-append.ensures

pub returns : goal.returns
returns c =
    let ids = c.as_slice-id-items.result.now in
    removed_all (λ key. Remove (RowKey.Token key)) ids c.loop-id.id-index (tokens_of c.args.tables.now c.args.owner.now) (c.as_slice-id-items.ensures.value ∙ c.in_ok-ids.ensures) c.loop-id-test.false c.args.changes.now.items c.loop-id.changes.items c.loop-id.invariant
