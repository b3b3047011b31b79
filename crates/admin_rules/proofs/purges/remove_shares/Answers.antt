use Rattle.std.proofs.Common.{◌∙◌}
use Rattle.hub_rows.specs.declared.changes.RowChange.TheVariants.{Remove}
use Rattle.hub_rows.specs.declared.rows.RowKey.TheVariants as RowKey
use Rattle.hub_tables.specs.Lookups.{shares_with}
use Rattle.admin_rules.proofs.Taken.{removed_more, removed_all}
use Rattle.admin_rules.proofs.purges.remove_shares.Goals as goal

pub loop-key-preserved : goal.loop-key-preserved
loop-key-preserved c =
    let keys = c.as_slice-key-items.result.now in
    removed_more (λ key. Remove (RowKey.Share key)) keys c.loop-key.key-index c.key-item.result c.loop-key-test.true c.key-item.is c.args.changes.now.items c.loop-key.changes.items c.append.new.changes.items c.loop-key.invariant c.in_ok-append.ensures

pub returns : goal.returns
returns c =
    let keys = c.as_slice-key-items.result.now in
    removed_all (λ key. Remove (RowKey.Share key)) keys c.loop-key.key-index (shares_with c.args.tables.now c.args.to.now) (c.as_slice-key-items.ensures.value ∙ c.in_ok-keys.ensures) c.loop-key-test.false c.args.changes.now.items c.loop-key.changes.items c.loop-key.invariant
