use Rattle.std.proofs.Common.{◌≡◌, sym, ap, codes, ℕ, List}
use Rattle.serde_json.specs.Find.{get}
use Rattle.serde_json.specs.View.{view}
use Rattle.key_texts.proofs.Results.{absent}
use Rattle.record_texts.specs.People.{user_object}
use Rattle.record_texts.proofs.people.UserRecord.find.Goals as goal

pub returns-in_err-name : goal.returns-in_err-name
returns-in_err-name c r valid key shape =
    let at : (name : List ℕ) → get name (view c.args.value.now) ≡ get name (user_object r) = λ name. ap (get name) (sym shape) in
    let left = c.both-named.ensures r.name r.admin (c.of_text.ensures r.name valid.name key) (c.bool_at.ensures r.admin (at (codes "admin"))) in
    let right = c.both-seen.ensures r.created r.last_activity (c.number_at.ensures r.created valid.created (at (codes "created"))) (c.maybe_number_at.ensures r.last_activity valid.last_activity (at (codes "last_activity"))) in
    absent _ _ ((r.name, r.admin), (r.created, r.last_activity)) r c.from_residual.ensures.1 (c.in_err-name.ensures (r.name, r.admin) (r.created, r.last_activity) left right)

pub returns : goal.returns
returns c r valid key shape =
    let at : (name : List ℕ) → get name (view c.args.value.now) ≡ get name (user_object r) = λ name. ap (get name) (sym shape) in
    let left = c.both-named.ensures r.name r.admin (c.of_text.ensures r.name valid.name key) (c.bool_at.ensures r.admin (at (codes "admin"))) in
    let right = c.both-seen.ensures r.created r.last_activity (c.number_at.ensures r.created valid.created (at (codes "created"))) (c.maybe_number_at.ensures r.last_activity valid.last_activity (at (codes "last_activity"))) in
    let all = c.in_ok-name.ensures (r.name, r.admin) (r.created, r.last_activity) left right in
    λ i. record {
      name = (all i).0.0;
      admin = (all i).0.1;
      created = (all i).1.0;
      last_activity = (all i).1.1;
    }
