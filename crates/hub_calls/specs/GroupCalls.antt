-- The calls on groups.
use Rattle.std.specs.Prelude.{ℕ, List, codes}
use Rattle.std.specs.FinMap.{values}
use Rattle.hub_view.specs.Fields.{Rights}
use Rattle.hub_view.specs.Pages.{paged_list}
use Rattle.hub_view.specs.declared.pages.Page.{Page}
use Rattle.admin_rules.specs.Groups as groups
use Rattle.hub_machine.specs.State.{Hub}
use Rattle.hub_calls.specs.Facts.{groups_shown, group_at}
use Rattle.hub_machine.specs.Replies.{Answer, gives, good}
use Rattle.hub_calls.specs.Calling.{by_rules, done}

-- GET /groups: those that the caller may list
abbrev pub get_groups : Hub → Rights → Page → Answer
get_groups s may page = gives (good 200 (paged_list (codes "/groups") page (groups_shown may s (values s.tables.groups))))

-- GET /groups/{group}
abbrev pub get_group : Hub → Rights → List ℕ → Answer
get_group s may g = gives (good 200 (group_at may s g))

-- POST /groups/{group}
abbrev pub post_group : Hub → Rights → List ℕ → List (List ℕ) → Answer
post_group s may g users = by_rules s (groups.add_group s.tables g users) (λ after. good 201 (group_at may after g))

-- DELETE /groups/{group}
abbrev pub delete_group : Hub → List ℕ → Answer
delete_group s g = by_rules s (groups.delete_group s.tables g) done

-- POST /groups/{group}/users
abbrev pub join_group : Hub → Rights → List ℕ → List (List ℕ) → Answer
join_group s may g users = by_rules s (groups.join_group s.tables g users) (λ after. good 200 (group_at may after g))

-- DELETE /groups/{group}/users
abbrev pub leave_group : Hub → Rights → List ℕ → List (List ℕ) → Answer
leave_group s may g users = by_rules s (groups.leave_group s.tables g users) (λ after. good 200 (group_at may after g))
