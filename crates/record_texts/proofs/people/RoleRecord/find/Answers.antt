use Rattle.std.proofs.Common.{◌≡◌, sym, ap, codes, ℕ, List}
use Rattle.serde_json.specs.Find.{get}
use Rattle.serde_json.specs.View.{view}
use Rattle.key_texts.proofs.Results.{absent}
use Rattle.record_texts.specs.People.{role_object}
use Rattle.record_texts.proofs.people.RoleRecord.find.Goals as goal

pub returns-in_err-name : goal.returns-in_err-name
returns-in_err-name c r valid key shape =
    let at : (name : List ℕ) → get name (view c.args.value.now) ≡ get name (role_object r) = λ name. ap (get name) (sym shape) in
    let first = c.both-first.ensures r.groups r.scopes (c.sorted_at.ensures r.groups valid.groups valid.groups_in_order (at (codes "groups"))) (c.texts_at.ensures r.scopes valid.scopes (at (codes "scopes"))) in
    let last = c.both-last.ensures r.services r.users (c.sorted_at-2.ensures r.services valid.services valid.services_in_order (at (codes "services"))) (c.sorted_at-3.ensures r.users valid.users valid.users_in_order (at (codes "users"))) in
    let left = c.of_text-name.ensures r.name valid.name key in
    let right = c.both.ensures (r.groups, r.scopes) (r.services, r.users) first last in
    absent _ _ (r.name, ((r.groups, r.scopes), (r.services, r.users))) r c.from_residual.ensures.1 (c.in_err-name.ensures r.name ((r.groups, r.scopes), (r.services, r.users)) left right)

pub returns : goal.returns
returns c r valid key shape =
    let at : (name : List ℕ) → get name (view c.args.value.now) ≡ get name (role_object r) = λ name. ap (get name) (sym shape) in
    let first = c.both-first.ensures r.groups r.scopes (c.sorted_at.ensures r.groups valid.groups valid.groups_in_order (at (codes "groups"))) (c.texts_at.ensures r.scopes valid.scopes (at (codes "scopes"))) in
    let last = c.both-last.ensures r.services r.users (c.sorted_at-2.ensures r.services valid.services valid.services_in_order (at (codes "services"))) (c.sorted_at-3.ensures r.users valid.users valid.users_in_order (at (codes "users"))) in
    let left = c.of_text-name.ensures r.name valid.name key in
    let right = c.both.ensures (r.groups, r.scopes) (r.services, r.users) first last in
    let all = c.in_ok-name.ensures r.name ((r.groups, r.scopes), (r.services, r.users)) left right in
    λ i. record {
      name = (all i).0;
      groups = (all i).1.0.0;
      scopes = (all i).1.0.1;
      services = (all i).1.1.0;
      users = (all i).1.1.1;
    }
