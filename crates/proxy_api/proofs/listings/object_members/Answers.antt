use Rattle.std.proofs.Common.{sym, ap, ◌∙◌}
use Rattle.serde_json.specs.View.{view}
use Rattle.serde_json.proofs.Views.{view-Object}
use Rattle.serde_json.specs.declared.value.Value.{Value}
use Rattle.proxy_api.specs.Listings.{members_of}
use Rattle.proxy_api.proofs.listings.object_members.Goals as goal

pub returns-in-Object : goal.returns-in-Object
returns-in-Object c = sym (ap (λ (v : Value). members_of (view v)) c.in-Object.is ∙ ap members_of (view-Object c.in-Object.members))
