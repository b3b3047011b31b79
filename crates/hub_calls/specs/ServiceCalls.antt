-- The calls on services.
use Rattle.std.specs.Prelude.{ℕ, List, codes}
use Rattle.std.specs.FinMap.{values}
use Rattle.hub_view.specs.Fields.{Rights}
use Rattle.hub_view.specs.Pages.{paged_list}
use Rattle.hub_view.specs.declared.pages.Page.{Page}
use Rattle.admin_rules.specs.Services as services
use Rattle.hub_machine.specs.State.{Hub}
use Rattle.hub_calls.specs.Facts.{services_shown, service_body}
use Rattle.hub_machine.specs.Replies.{Answer, gives, good}
use Rattle.hub_calls.specs.Calling.{by_rules, done}

-- GET /services: those that the caller may list
abbrev pub get_services : Hub → Rights → Page → Answer
get_services s may page = gives (good 200 (paged_list (codes "/services") page (services_shown may s (values s.tables.services))))

-- GET /services/{service}
abbrev pub get_service : Hub → Rights → List ℕ → Answer
get_service s may v = gives (good 200 (service_body may s v))

-- POST /services/{service}
abbrev pub post_service : Hub → Rights → List ℕ → Answer
post_service s may v = by_rules s (services.add_service s.tables v) (λ after. good 201 (service_body may after v))

-- DELETE /services/{service}
abbrev pub delete_service : Hub → List ℕ → Answer
delete_service s v = by_rules s (services.delete_service s.tables v) done
