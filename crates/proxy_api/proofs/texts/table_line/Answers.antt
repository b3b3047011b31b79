use Rattle.std.proofs.Common.{sym, ap}
use Rattle.std.specs.Fmt.{digits}
use Rattle.route_table.specs.declared.route.RouteRefusal.{RouteRefusal}
use Rattle.proxy_core.specs.Refusals.{status_line}
use Rattle.proxy_api.specs.Texts.{table_status}
use Rattle.proxy_api.proofs.texts.table_line.Goals as goal

pub returns-in-NotFound : goal.returns-in-NotFound
unfolding digits
returns-in-NotFound c = ap (λ (r : RouteRefusal). status_line (table_status r)) (sym c.in-NotFound.is)

pub returns-in-Stale : goal.returns-in-Stale
unfolding digits
returns-in-Stale c = ap (λ (r : RouteRefusal). status_line (table_status r)) (sym c.in-Stale.is)

pub returns-in-BadPath : goal.returns-in-BadPath
unfolding digits
returns-in-BadPath c = ap (λ (r : RouteRefusal). status_line (table_status r)) (sym c.in-BadPath.is)

pub returns-in-BadTarget : goal.returns-in-BadTarget
unfolding digits
returns-in-BadTarget c = ap (λ (r : RouteRefusal). status_line (table_status r)) (sym c.in-BadTarget.is)

pub returns-in-Full : goal.returns-in-Full
unfolding digits
returns-in-Full c = ap (λ (r : RouteRefusal). status_line (table_status r)) (sym c.in-Full.is)

pub returns-in-Memory : goal.returns-in-Memory
unfolding digits
returns-in-Memory c = ap (λ (r : RouteRefusal). status_line (table_status r)) (sym c.in-Memory.is)
