use Rattle.std.proofs.Common.{◌≡◌, sym, ap, codes, ℕ, List}
use Rattle.serde_json.specs.Find.{get}
use Rattle.serde_json.specs.View.{view}
use Rattle.key_texts.proofs.Results.{absent}
use Rattle.record_texts.specs.People.{group_object}
use Rattle.record_texts.proofs.people.GroupRecord.find.Goals as goal

pub returns-in_err-sorted_at : goal.returns-in_err-sorted_at
returns-in_err-sorted_at c r valid key shape =
    let at : (name : List ℕ) → get name (view c.args.value.now) ≡ get name (group_object r) = λ name. ap (get name) (sym shape) in
    absent _ _ r.users r c.from_residual-in_err-sorted_at.ensures.1 (c.in_err-sorted_at.ensures r.users valid.users valid.in_order (at (codes "users")))

pub returns : goal.returns
returns c r valid key shape =
    let at : (name : List ℕ) → get name (view c.args.value.now) ≡ get name (group_object r) = λ name. ap (get name) (sym shape) in
    λ i. record {
      name = c.in_ok-of_text.ensures r.name valid.name key i;
      users = c.in_ok-sorted_at.ensures r.users valid.users valid.in_order (at (codes "users")) i;
    }
