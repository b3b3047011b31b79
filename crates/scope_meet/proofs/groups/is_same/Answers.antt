use Rattle.std.proofs.Common.{sym, ◌∙◌}
use Rattle.std.specs.FinMap.{slice_cmp-IsAntisymmetric}
use Rattle.keyed_rows.proofs.Finite.{tied}
use Rattle.scope_filters.specs.FilterOrder.{filter_exact}
use Rattle.scope_meet.proofs.groups.is_same.Goals as goal

pub returns : goal.returns
returns c h = slice_cmp-IsAntisymmetric filter_exact c.args.a.now c.args.b.now (sym c.cmp.ensures ∙ tied c.cmp.result (sym c.is_eq.ensures ∙ h))
