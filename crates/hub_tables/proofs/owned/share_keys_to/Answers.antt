use Rattle.std.proofs.Common.{◌≡◌, ◌∙◌, ap, sym}
use Rattle.std.specs.Map.{keys_of}
use Rattle.std.specs.Ordering.{is_eq}
use Rattle.hub_rows.specs.contracts.keys.ShareKeyOrd.TheImpl.Laws as share_key
use Rattle.keyed_rows.proofs.Finite.{keys_row}
use Rattle.row_indexes.proofs.Indexed.{owned_total}
use Rattle.row_indexes.specs.Owned.{keys_under}
use Rattle.hub_tables.proofs.SharesTo.{keys_to, had, begun, collected_on, collected_out, collected_through, told_apart, told_alike}
use Rattle.hub_tables.specs.Parties.{party_cmp, of_recipient}
use Rattle.hub_tables.specs.contracts.parties.PartyOrd.TheImpl.Laws as party
use Rattle.hub_tables.proofs.owned.share_keys_to.Goals.{in-None, in-Some+then-is_ne}
use Rattle.hub_tables.proofs.owned.share_keys_to.Goals as goal

pub loop-entry-init : goal.loop-entry-init
loop-entry-init c =
    begun c.of_recipient-party.result c.args.to.now c.args.parties.now.entries c.range-entry-items.ensures.ordered _ _ c.new-keys.ensures.items
    (c.into_iter-entry-iterator.ensures.into_iter_gives ∙ c.range-entry-items.ensures.between tt)

pub loop-entry-preserved : goal.loop-entry-preserved
loop-entry-preserved c =
    collected_on c.of_recipient-party.result c.args.to.now c.args.parties.now.entries c.loop-entry.keys.items _ c.loop-entry.invariant _ _ (c.in-Some.entry.now, c.in-Some.field-0-1.now)
    c.in-Some.ensures.steps (ap is_eq (sym c.cmp.ensures) ∙ told_alike c.cmp.result (sym c.is_ne.ensures ∙ c.if-is_ne.false)) (c.in_ok-push_key_to.ensures)

pub returns : goal.returns
returns c =
    (elim c.match-next.branch as (λ _. c.loop-entry.keys.items ≡ had c.of_recipient-party.result c.args.to.now c.args.parties.now.entries) [
      | in-None w ↦ collected_through c.of_recipient-party.result c.args.to.now c.args.parties.now.entries c.loop-entry.keys.items _ c.loop-entry.invariant w.in-None.ensures.steps.0
      | in-Some+then-is_ne w ↦ collected_out c.of_recipient-party.result c.args.to.now c.args.parties.now.entries c.loop-entry.keys.items _ c.loop-entry.invariant _
          (w.in-Some.entry.now, w.in-Some.field-0-1.now) w.in-Some.ensures.steps (ap is_eq (sym w.cmp.ensures) ∙ told_apart w.cmp.result (sym w.is_ne.ensures ∙ w.if-is_ne.true))
    ])
    ∙ ap (λ p. keys_to c.args.to.now (keys_under party_cmp p (keys_of c.args.parties.now.entries))) c.of_recipient-party.ensures
    ∙ ap (λ entries. keys_to c.args.to.now (keys_under party_cmp (of_recipient c.args.to.now) entries)) (sym (keys_row (owned_total party.total-law share_key.total-law) c.args.parties.now c.range-entry-items.ensures.ordered))
