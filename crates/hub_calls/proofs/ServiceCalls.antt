-- The calls on services: none is answered by a 503.
use Rattle.std.proofs.Common.{◌≡◌, ℕ, false, List, refl}
use Rattle.admin_rules.specs.Services as services
use Rattle.hub_view.specs.Fields.{Rights}
use Rattle.hub_machine.specs.State.{Hub}
use Rattle.hub_machine.specs.Replies.{good}
use Rattle.hub_calls.specs.Calling.{done}
use Rattle.hub_calls.specs.Facts.{service_body}
use Rattle.hub_calls.specs.ServiceCalls as calls
use Rattle.hub_machine.proofs.Statuses.{is_503}
use Rattle.hub_calls.proofs.Statuses.{ruled}

pub post_service : (s : Hub) (may : Rights) (service : List ℕ) → is_503 (calls.post_service s may service) ≡ false
post_service s may service = ruled s (services.add_service s.tables service) (λ after. good 201 (service_body may after service)) (λ t. refl)

pub delete_service : (s : Hub) (service : List ℕ) → is_503 (calls.delete_service s service) ≡ false
delete_service s service = ruled s (services.delete_service s.tables service) done (λ t. refl)
