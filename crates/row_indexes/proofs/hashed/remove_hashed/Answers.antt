use Rattle.std.proofs.Common.{sym, ap, ◌∙◌}
use Rattle.row_indexes.specs.Numbers.{number_of}
use Rattle.row_indexes.proofs.ByHash.{index_taken, index_none_taken}
use Rattle.row_indexes.proofs.hashed.remove_hashed.Goals as goal

pub returns-in-Some-clause-indexed : goal.returns-in-Some-clause-indexed
returns-in-Some-clause-indexed g c =
    index_taken g.R.Keyed.key_of g.R.Hashed.hash_of _ _ c.requires _ _ c.args.id c.in-Some.row _ (sym c.in-Some.ensures.row) (c.number_of.ensures ∙ ap number_of (c.as_bytes.ensures ∙ c.hash.ensures)) c.take_row.ensures.removed c.forget_id.ensures

pub returns-in-None-clause-indexed : goal.returns-in-None-clause-indexed
returns-in-None-clause-indexed g c = index_none_taken g.R.Keyed.key_of g.R.Hashed.hash_of _ _ c.requires _ c.args.id (sym c.in-None.ensures.row) c.take_row.ensures.removed
