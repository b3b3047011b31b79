use Rattle.std.proofs.Common.{◌∙◌, sym, ap, subst}
use Rattle.std.specs.Cmp.{nat_cmp_total}
use Rattle.std.specs.FinMap.{remove, nat_cmp-IsAntisymmetric}
use Rattle.std.specs.Ordering.{nat_cmp}
use Rattle.keyed_rows.specs.Rows.{map_of}
use Rattle.row_indexes.specs.Owned.{owned_cmp, IsNoted}
use Rattle.hub_rows.specs.declared.records.Token.{Token}
use Rattle.hub_tables.specs.Parties.{owner_number}
use Rattle.hub_tables.proofs.Owners.{when_ok, when_err, put_undone, tokens_as_before, token_noted}
use Rattle.hub_tables.proofs.owned.put_new_token.Goals as goal

pub returns-then-is_ok-clause-owned : goal.returns-then-is_ok-clause-owned
returns-then-is_ok-clause-owned c =
    token_noted _ _ _ _ c.requires.owned c.args.value c.owner_number-number.result (c.owner_number-number.ensures ∙ ap (λ (t : Token). owner_number t.owner) c.row-2.ensures) c.in_ok-put_hashed.ensures.ok c.requires.new
    (subst (λ id. IsNoted nat_cmp nat_cmp c.owner_number-number.result id (map_of (owned_cmp nat_cmp nat_cmp) c.args.owners.now) (map_of (owned_cmp nat_cmp nat_cmp) c.note.new.index)) (ap (λ (t : Token). t.id) c.row.ensures)
    (when_ok c.note.result (sym c.is_ok.ensures.value ∙ c.if-is_ok.true) c.note.ensures.ok))

pub returns-clause-err : goal.returns-clause-err
returns-clause-err c =
    put_undone nat_cmp_total nat_cmp-IsAntisymmetric _ _ _ c.args.value.id c.args.value c.in_ok-put_hashed.ensures.ok
    (c.remove_hashed.ensures.removed ∙ ap (λ (t : Token). remove (map_of nat_cmp c.put_hashed.new.rows) t.id) c.row.ensures) c.requires.new

pub returns-clause-owned : goal.returns-clause-owned
returns-clause-owned c = tokens_as_before _ _ _ _ c.requires.owned (returns-clause-err c) (when_err c.note.result (sym c.is_ok.ensures.value ∙ c.if-is_ok.false) c.note.ensures.err)
