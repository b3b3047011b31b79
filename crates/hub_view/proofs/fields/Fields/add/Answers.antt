use Rattle.std.proofs.Common.{◌++◌}
use Rattle.hub_view.specs.Json.{member}
use Rattle.hub_view.specs.Words.{word_text}
use Rattle.hub_view.proofs.fields.Fields.add.Goals as goal

pub returns-then-is_err : goal.returns-then-is_err
returns-then-is_err c = λ before json h made. c.fail.ensures (before ++ member c.args.shown (word_text c.args.key) json)
