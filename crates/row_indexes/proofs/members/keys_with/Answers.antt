use Rattle.std.proofs.Common.{◌∙◌, sym, ap, map}
use Rattle.std.specs.List.{filter}
use Rattle.keyed_rows.specs.Sorted.{is_among}
use Rattle.keyed_rows.proofs.Finite.{values_row}
use Rattle.row_indexes.proofs.MemberRows.{told_keys}
use Rattle.row_indexes.proofs.Indexed.{if_ok}
use Rattle.row_indexes.proofs.members.keys_with.Goals as goal

pub returns-in-Some : goal.returns-in-Some
returns-in-Some g c =
    if_ok c.owned_keys.result (λ keys e.
    e ∙ told_keys g.M.Ord.cmp g.K.Ord.cmp g.met.M.Ord.total g.met.M.Key.exact g.met.K.Ord.total g.met.K.Key.exact g.R.Keyed.key_of g.R.HasMembers.members_of _ _ c.requires.told c.requires.own c.in-Some.entries c.in-Some.is c.args.member.now)
    c.owned_keys.ensures

pub returns-in-None : goal.returns-in-None
returns-in-None g c =
    if_ok c.scanned_keys.result (λ keys e.
    e ∙ ap (λ rows. map g.R.Keyed.key_of (filter (λ row. is_among g.M.Ord.cmp c.args.member.now (g.R.HasMembers.members_of row)) rows)) (sym (values_row g.met.K.Ord.total c.args.rows.now c.scanned_keys.ensures.ordered)))
    c.scanned_keys.ensures.keys
