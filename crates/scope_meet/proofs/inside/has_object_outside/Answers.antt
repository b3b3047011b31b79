use Rattle.std.proofs.Common.{ℕ, ◌<◌, ◌^◌, subst}
use Rattle.scope_meet.proofs.Contained.{outside}
use Rattle.scope_meet.proofs.inside.has_object_outside.Goals as goal

pub returns : goal.returns
returns g c =
    outside (g.M.Members.context c.args.members.now) c.args.b.now c.args.action.now c.args.filter.now c.names_are_names.ensures
    (subst (λ (n : ℕ). n < 2 ^ 64) c.number_at.ensures c.number_at.type_inv) c.requires.plain c.requires.none
