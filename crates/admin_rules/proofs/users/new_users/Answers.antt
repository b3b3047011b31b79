use Rattle.admin_rules.specs.Users.{new_user}
use Rattle.admin_rules.proofs.Walked.{made_more, made_all}
use Rattle.std.proofs.Common.{◌∙◌, ◌++◌, ◌∷◌, [], ap}
use Rattle.admin_rules.proofs.users.new_users.Goals as goal

pub loop-name-preserved : goal.loop-name-preserved
loop-name-preserved c =
    made_more c.args.names.now c.loop-name.name-index c.name-item.result c.name-item.is c.loop-name-test.true (new_user c.args.admin c.args.now) c.loop-name.users.items c.append.new.changes.items
    (c.in_ok-append.ensures ∙ ap (λ row. c.loop-name.users.items ++ row ∷ []) c.new_user.ensures)
    c.loop-name.invariant

pub returns : goal.returns
returns c = made_all c.args.names.now c.loop-name.name-index (new_user c.args.admin c.args.now) c.loop-name.users.items c.loop-name-test.false c.loop-name.invariant
