use Rattle.std.proofs.Common.{ℕ, List, ◌∙◌, ◌||◌, not, ap}
use Rattle.std.specs.Option.{is_some}
use Rattle.std.specs.FinMap.{contains_key}
use Rattle.hub_rows.specs.declared.records.ShareCode.{ShareCode}
use Rattle.hub_tables.proofs.Fresh.{id_is_new, hash_is_new, copied_is_some}
use Rattle.row_rules.proofs.Hashed.{code_fits}
use Rattle.row_rules.proofs.put.code_is_new.Goals as goal

abbrev id_of : ShareCode → ℕ
id_of row = row.id

abbrev hash_of : ShareCode → List ℕ
hash_of row = row.hash

pub returns-clause-value : goal.returns-clause-value
returns-clause-value c =
    c.neither.ensures
    ∙ ap (λ one. not (one || c.is_some-2.result)) (c.is_some.ensures ∙ copied_is_some c.code.result ∙ ap is_some c.code.ensures.value)
    ∙ ap (λ other. not (contains_key c.args.tables.now.codes c.args.id || other)) (c.is_some-2.ensures ∙ copied_is_some c.code_of_hash.result ∙ ap is_some c.code_of_hash.ensures)

pub returns-clause-fits : goal.returns-clause-fits
returns-clause-fits c = λ new row id hash. code_fits c.args.tables.now.codes row (id_is_new id_of hash_of c.args.tables.now.codes c.args.id c.args.hash.now _ (returns-clause-value c) new row id) (hash_is_new id_of hash_of c.args.tables.now.codes c.args.id c.args.hash.now _ (returns-clause-value c) new row hash)
