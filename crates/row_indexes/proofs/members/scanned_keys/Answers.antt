use Rattle.std.proofs.Common.{◌++◌, ◌∷◌, [], Bool, map, sym, ap, ◌∙◌}
use Rattle.std.specs.List.{filter}
use Rattle.keyed_rows.specs.Sorted.{is_among}
use Rattle.row_indexes.proofs.MemberRows.{passed_over, picked}
use Rattle.row_indexes.proofs.members.scanned_keys.Goals as goal

pub loop-row-preserved : goal.loop-row-preserved
loop-row-preserved g c =
    passed_over g.R.Keyed.key_of (λ row. is_among g.M.Ord.cmp c.args.member.now (g.R.HasMembers.members_of row)) c.loop-row.keys.items c.in-Some.row.now c.loop-row.row-iterator c.next.new.self _ c.in-Some.ensures.steps c.loop-row.invariant
    (sym (c.contains.ensures ∙ ap (is_among g.M.Ord.cmp c.args.member.now) c.members.ensures) ∙ c.if-contains.false)

pub loop-row-preserved-in-Continue-1 : goal.loop-row-preserved-in-Continue-1
loop-row-preserved-in-Continue-1 g c =
    let has : g.row.R.Denot → Bool = λ row. is_among g.M.Ord.cmp c.args.member.now (g.R.HasMembers.members_of row) in
    ap (λ keys. keys ++ map g.R.Keyed.key_of (filter has c.next.new.self)) (c.in_ok-push.ensures.items ∙ ap (λ key. c.loop-row.keys.items ++ key ∷ []) c.key.ensures)
    ∙ picked g.R.Keyed.key_of has c.loop-row.keys.items c.in-Some.row.now c.loop-row.row-iterator c.next.new.self _ c.in-Some.ensures.steps c.loop-row.invariant
    (sym (c.contains.ensures ∙ ap (is_among g.M.Ord.cmp c.args.member.now) c.members.ensures) ∙ c.if-contains.true)
