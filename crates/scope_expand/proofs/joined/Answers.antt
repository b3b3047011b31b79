use Rattle.scope_expand.proofs.Joins.{joined_both}
use Rattle.scope_expand.proofs.joined.Goals as goal

pub returns : goal.returns
returns c =
    joined_both c.fresh-grant.result c.args.one.now c.args.other.now c.add_all.new.into c.add_all-2.new.into c.fresh-grant.ensures c.in_ok-add_all.ensures c.in_ok-add_all-2.ensures
