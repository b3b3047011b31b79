use Rattle.std.proofs.Common.{◌≡◌, false, sym, ◌∙◌}
use Rattle.std.proofs.lemmas.Result.{IfOk-weaker}
use Rattle.std.specs.Option.{option_copied}
use Rattle.hub_view.specs.Records.{share_body}
use Rattle.access_calls.specs.ShareCalls.{share_put}
use Rattle.access_calls.proofs.Ruling.{put_with_room}
use Rattle.access_calls.proofs.share_calls.put_share.Goals as goal

pub returns : goal.returns
returns c =
    let share = c.args.share.now in
    let kept = option_copied c.share-kept.result in
    put_with_room c.args.hub.now share c.tables-tables.result.now kept c.told.result c.tables-tables.ensures (sym c.is_without_room.ensures ∙ c.if-is_without_room.false) c.share-kept.ensures.value
    (IfOk-weaker c.told.result _ _ (λ a h. h (share_put share kept) (share_body share) c.share_put.ensures c.share_body.ensures) c.told.ensures)
