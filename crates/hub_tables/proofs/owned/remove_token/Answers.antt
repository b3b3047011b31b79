use Rattle.std.proofs.Common.{◌∙◌, sym, ap, subst}
use Rattle.std.specs.Ordering.{nat_cmp}
use Rattle.std.specs.Option.{option_copied}
use Rattle.keyed_rows.specs.Rows.{map_of}
use Rattle.row_indexes.specs.Owned.{owned_cmp, IsIndex}
use Rattle.hub_rows.specs.declared.records.Token.{Token}
use Rattle.hub_tables.specs.Parties.{is_numbered, owner_number}
use Rattle.hub_tables.proofs.Owners.{token_taken, no_token_taken}
use Rattle.hub_tables.proofs.owned.remove_token.Goals.{in-Some, in-None}
use Rattle.hub_tables.proofs.owned.remove_token.Goals as goal

pub returns-clause-owned : goal.returns-clause-owned
returns-clause-owned c = elim c.match-row_at.branch as (λ _. IsIndex nat_cmp nat_cmp is_numbered (map_of nat_cmp c.remove_hashed.new.rows) (map_of (owned_cmp nat_cmp nat_cmp) c.match-row_at.owners)) [
  | in-Some w ↦ subst (λ m. IsIndex nat_cmp nat_cmp is_numbered (map_of nat_cmp c.remove_hashed.new.rows) (map_of (owned_cmp nat_cmp nat_cmp) m)) (sym w.owners-is)
      (token_taken _ _ _ _ c.requires.owned c.args.id w.in-Some.kept.now w.owner_number.result (sym c.row_at.ensures ∙ ap option_copied w.in-Some.is)
      (w.owner_number.ensures ∙ ap (λ (t : Token). owner_number t.owner) w.row.ensures) c.remove_hashed.ensures.removed w.forget.ensures)
  | in-None w ↦ subst (λ m. IsIndex nat_cmp nat_cmp is_numbered (map_of nat_cmp c.remove_hashed.new.rows) (map_of (owned_cmp nat_cmp nat_cmp) m)) (sym w.owners-is)
      (no_token_taken _ _ _ (map_of (owned_cmp nat_cmp nat_cmp) c.args.owners.now) c.requires.owned c.args.id (sym c.row_at.ensures ∙ ap option_copied w.in-None.is) c.remove_hashed.ensures.removed)
]
