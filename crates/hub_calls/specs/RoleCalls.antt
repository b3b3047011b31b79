-- The calls on roles.
use Rattle.std.specs.Prelude.{ℕ, List, map, codes, if◌then◌else◌}
use Rattle.std.specs.FinMap.{contains_key, values}
use Rattle.hub_kit.specs.KeyOrder.{name_cmp}
use Rattle.keyed_rows.specs.Sorted.{in_order}
use Rattle.scope_filters.specs.declared.scope.RawScope.{RawScope}
use Rattle.hub_rows.specs.declared.records.Role.{Role}
use Rattle.hub_view.specs.Pages.{paged_list}
use Rattle.hub_view.specs.Records.{role_body}
use Rattle.hub_view.specs.declared.pages.Page.{Page}
use Rattle.admin_rules.specs.Roles as rules
use Rattle.hub_machine.specs.State.{Hub}
use Rattle.hub_calls.specs.Facts.{role_at}
use Rattle.hub_machine.specs.Replies.{Answer, gives, good}
use Rattle.hub_calls.specs.Calling.{by_rules, done}

-- GET /roles
abbrev pub get_roles : Hub → Page → Answer
get_roles s page = gives (good 200 (paged_list (codes "/roles") page (map role_body (values s.tables.roles))))

-- GET /roles/{role}
abbrev pub get_role : Hub → List ℕ → Answer
get_role s r = gives (good 200 (role_at s r))

-- ---- PUT /roles/{role}

-- the role with these lists, its names in order
abbrev pub role_of : List ℕ → List RawScope → (users groups services : List (List ℕ)) → Role
role_of r scopes users groups services = record {
  name = r;
  groups = in_order name_cmp groups;
  scopes = scopes;
  services = in_order name_cmp services;
  users = in_order name_cmp users;
}

abbrev put_status : Hub → Role → ℕ
put_status s r = if contains_key s.tables.roles r.name then 200 else 201

abbrev pub put_role : Hub → Role → Answer
put_role s r = by_rules s (rules.put_role s.tables r) (λ after. good (put_status s r) (role_body r))

-- DELETE /roles/{role}
abbrev pub delete_role : Hub → List ℕ → Answer
delete_role s r = by_rules s (rules.delete_role s.tables r) done
