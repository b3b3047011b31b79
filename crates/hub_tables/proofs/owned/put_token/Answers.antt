use Rattle.std.proofs.Common.{◌∙◌, sym, ap, subst, Result, Ok, Err}
use Rattle.std.specs.Cmp.{nat_cmp_total}
use Rattle.std.specs.FinMap.{contains_key}
use Rattle.std.specs.Ordering.{nat_cmp}
use Rattle.keyed_rows.specs.Rows.{map_of}
use Rattle.keyed_rows.specs.Puts.{IsAnswerIn, room_left}
use Rattle.keyed_rows.specs.declared.PutError.{PutError}
use Rattle.keyed_rows.proofs.Finite.{kept_row, len_row}
use Rattle.keyed_rows.proofs.Puts.{kept_answer}
use Rattle.row_indexes.specs.Owned.{owned_cmp}
use Rattle.row_indexes.proofs.ByHash.{index_kept_put}
use Rattle.hub_rows.specs.declared.records.Token.{Token}
use Rattle.hub_tables.specs.Rooms.{for_memory}
use Rattle.hub_tables.proofs.Owners.{token_in_place, no_memory}
use Rattle.hub_tables.proofs.owned.put_token.Goals as goal

pub replace_token-requires : goal.replace_token-requires
replace_token-requires c = kept_row nat_cmp_total c.args.rows.now c.args.value.id ∙ sym c.contains_key.ensures ∙ c.if-contains_key.true

pub returns-then-contains_key-clause-answer : goal.returns-then-contains_key-clause-answer
returns-then-contains_key-clause-answer c =
    kept_answer c.args.room (map_of nat_cmp c.args.rows.now) c.args.value.id (kept_row nat_cmp_total c.args.rows.now c.args.value.id ∙ sym c.contains_key.ensures ∙ c.if-contains_key.true)

pub returns-then-contains_key-clause-indexed : goal.returns-then-contains_key-clause-indexed
returns-then-contains_key-clause-indexed c =
    index_kept_put (λ (row : Token). row.id) (λ (row : Token). row.hash) _ _ c.requires.indexed c.args.value c.requires.fits.hash _ (let r : Result (Unit {0}) PutError = Ok tt in r) c.replace_token.ensures.row tt
    (kept_row nat_cmp_total c.args.rows.now c.args.value.id ∙ sym c.contains_key.ensures ∙ c.if-contains_key.true)

pub returns-then-contains_key-clause-owned : goal.returns-then-contains_key-clause-owned
returns-then-contains_key-clause-owned c =
    token_in_place _ _ _ (map_of (owned_cmp nat_cmp nat_cmp) c.args.owners.now) c.requires.owned c.args.value c.requires.fits c.replace_token.ensures.row
    (kept_row nat_cmp_total c.args.rows.now c.args.value.id ∙ sym c.contains_key.ensures ∙ c.if-contains_key.true)

pub put_new_token-requires-clause-new : goal.put_new_token-requires-clause-new
put_new_token-requires-clause-new c =
    ap (λ (row : Token). contains_key (map_of nat_cmp c.args.rows.now) row.id) c.in-Ok.ensures ∙ kept_row nat_cmp_total c.args.rows.now c.args.value.id ∙ sym c.contains_key.ensures ∙ c.if-contains_key.false

pub returns-in-Err-clause-answer : goal.returns-in-Err-clause-answer
returns-in-Err-clause-answer c =
    subst (λ e. IsAnswerIn c.args.room (map_of nat_cmp c.args.rows.now) c.args.value.id (Err e))
    (sym (c.for_memory.ensures ∙ ap (λ n. for_memory (room_left n c.args.room)) (c.len.ensures.len ∙ sym (len_row nat_cmp_total c.args.rows.now c.len.ensures.ordered))))
    (no_memory (map_of nat_cmp c.args.rows.now) c.args.value.id (kept_row nat_cmp_total c.args.rows.now c.args.value.id ∙ sym c.contains_key.ensures ∙ c.if-contains_key.false) c.args.room)
