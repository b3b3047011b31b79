use Rattle.std.proofs.Common.{◌≡◌}
use Rattle.form_urlencoded.specs.Form.{raw_pairs}
use Rattle.form_urlencoded.specs.Parse.{pairs_left}
use Rattle.request_parts.specs.Queries.{value_of}
use Rattle.request_parts.proofs.query.form_value.Given as goal

abbrev pub invariant-loop-pair : goal.invariant-loop-pair
invariant-loop-pair l = value_of l.fn.key (pairs_left l.pair-iterator) ≡ value_of l.fn.key (raw_pairs l.fn.form)
