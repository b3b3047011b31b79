use Rattle.std.proofs.Common.{ap, ◌∙◌}
use Rattle.std.proofs.lemmas.Result.{IfOk-weaker}
use Rattle.std.specs.FinMap.{values}
use Rattle.std.specs.List.{filter}
use Rattle.hub_rows.specs.declared.keys.Recipient.TheVariants as To
use Rattle.hub_rows.specs.declared.records.Share.{Share}
use Rattle.hub_tables.specs.Lookups.{is_share_with}
use Rattle.shares.specs.Lists.{is_share_of}
use Rattle.shares.proofs.Picked.{picked_of_all}
use Rattle.shares.proofs.lists.shares_of.Goals as goal

pub returns : goal.returns
returns c =
    let whose = c.args.whose.now in
    IfOk-weaker c.shares_among.result _ _
    (λ found h. h ∙ ap (filter (is_share_of whose)) (c.as_slice.ensures.value ∙ c.in_ok-among.ensures)
    ∙ picked_of_all (λ (share : Share). share.key) (is_share_with (To.User c.user_of.result)) (is_share_of whose) c.user_of.ensures (values c.args.tables.now.shares))
    c.shares_among.ensures
