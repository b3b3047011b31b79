use Rattle.std.proofs.Common.{ℕ, List, ◌∙◌, ◌||◌, not, ap}
use Rattle.std.specs.Option.{is_some}
use Rattle.std.specs.FinMap.{contains_key}
use Rattle.hub_rows.specs.declared.records.Token.{Token}
use Rattle.hub_tables.proofs.Fresh.{token_fits, id_is_new, hash_is_new, copied_is_some}
use Rattle.hub_tables.proofs.tables.Tables.token_is_new.Goals as goal

abbrev id_of : Token → ℕ
id_of row = row.id

abbrev hash_of : Token → List ℕ
hash_of row = row.hash

pub returns-clause-value : goal.returns-clause-value
returns-clause-value c =
    c.neither.ensures
    ∙ ap (λ one. not (one || c.is_some-2.result)) (c.is_some.ensures ∙ copied_is_some c.token.result ∙ ap is_some c.token.ensures.value)
    ∙ ap (λ other. not (contains_key c.args.self.now.tokens c.args.id || other)) (c.is_some-2.ensures ∙ copied_is_some c.token_of_hash.result ∙ ap is_some c.token_of_hash.ensures)

pub returns-clause-fits : goal.returns-clause-fits
returns-clause-fits c = λ new row id hash. token_fits c.args.self.now.tokens row (id_is_new id_of hash_of c.args.self.now.tokens c.args.id c.args.hash.now _ (returns-clause-value c) new row id) (hash_is_new id_of hash_of c.args.self.now.tokens c.args.id c.args.hash.now _ (returns-clause-value c) new row hash)
