use Rattle.std.proofs.Common.{sym, ap, ◌∙◌, subst}
use Rattle.route_table.specs.Path.{ends_empty, parts, IsKey}
use Rattle.route_table.proofs.ListedLemmas.{ends_in_slash}
use Rattle.route_table.proofs.path.ends_empty.Goals as goal

pub returns-in-Some : goal.returns-in-Some
returns-in-Some c =
    let cut = c.in-Some.ensures.cases.0 in
    sym (ap (λ k. ends_empty (parts k)) cut ∙ ends_in_slash _ c.in-Some.last.now (subst IsKey cut c.requires))
