use Rattle.std.proofs.Common.{◌∙◌, sym}
use Rattle.keyed_rows.proofs.Finite.{kept_row}
use Rattle.keyed_rows.proofs.Puts.{memory_after_ok}
use Rattle.keyed_rows.specs.Rows.{map_of}
use Rattle.row_indexes.specs.Owned.{owned_cmp}
use Rattle.hub_rows.specs.ShareOrder.{share_cmp, share_exact}
use Rattle.hub_tables.specs.Parties.{party_cmp}
use Rattle.hub_rows.specs.contracts.keys.ShareKeyOrd.TheImpl.Laws.{total-law}
use Rattle.hub_tables.proofs.Owners.{when_ok, when_err, put_undone, share_in_place, share_noted, share_undone}
use Rattle.hub_tables.proofs.owned.put_share.Goals as goal

pub returns-then-contains_key-clause-owned : goal.returns-then-contains_key-clause-owned
returns-then-contains_key-clause-owned c =
    share_in_place _ _ _ (map_of (owned_cmp party_cmp share_cmp) c.args.parties.now) c.requires.owned c.requires.own c.args.value c.put.result c.put.ensures.ok c.put.ensures.err
    (kept_row total-law c.args.rows.now c.args.value.key ∙ sym c.contains_key.ensures ∙ c.if-contains_key.true)

pub returns-then-is_ok-clause-owned : goal.returns-then-is_ok-clause-owned
returns-then-is_ok-clause-owned c =
    share_noted _ _ _ _ c.requires.owned c.requires.own c.args.value c.in_ok-put.ensures.ok
    (kept_row total-law c.args.rows.now c.args.value.key ∙ sym c.contains_key.ensures ∙ c.if-contains_key.false)
    (when_ok c.note_parties.result (sym c.is_ok.ensures.value ∙ c.if-is_ok.true) c.note_parties.ensures.ok)

pub returns-clause-answer : goal.returns-clause-answer
returns-clause-answer c =
    memory_after_ok _ _
    (kept_row total-law c.args.rows.now c.args.value.key ∙ sym c.contains_key.ensures ∙ c.if-contains_key.false)
    c.args.room c.in_ok-put.ensures.answer

pub returns-clause-err : goal.returns-clause-err
returns-clause-err c =
    put_undone total-law share_exact _ _ _ c.args.value.key c.args.value c.in_ok-put.ensures.ok c.remove_row.ensures.removed
    (kept_row total-law c.args.rows.now c.args.value.key ∙ sym c.contains_key.ensures ∙ c.if-contains_key.false)

pub returns-clause-owned : goal.returns-clause-owned
returns-clause-owned c =
    share_undone _ _ _ _ c.requires.owned c.requires.own c.args.value.key _ (returns-clause-err c)
    (kept_row total-law c.args.rows.now c.args.value.key ∙ sym c.contains_key.ensures ∙ c.if-contains_key.false)
    (when_err c.note_parties.result (sym c.is_ok.ensures.value ∙ c.if-is_ok.false) c.note_parties.ensures.err) c.giver_of-giver.result c.giver_of-giver.ensures c.forget.ensures
