use Rattle.std.proofs.Common.{◌≡◌, ℕ, List, Some, None, refl, sym, subst, ◌∙◌, arith}
use Rattle.std.proofs.lemmas.Bool.Decides.{not_from_Decides}
use Rattle.std.proofs.lemmas.Slice.Eq.{bytes_eq-Decides}
use Rattle.json.specs.Json.{read_key}
use Rattle.serde_json.specs.Data.{no_members, boolean, put}
use Rattle.request_parts.proofs.Truths.{members_begin, members_go_on, members_end, truth_put, truth_kept, value_truth}
use Rattle.request_parts.proofs.truth.truth_of_members.Goals as goal

pub members-init : goal.members-init
members-init c = (no_members, members_begin 126 c.args.reader.now, refl)

pub returns-in_default-next : goal.returns-in_default-next
returns-in_default-next c =
    let (found, on, truth) = c.members.invariant in
    let end : read_key c.members.reader ≡ Some (None, c.next_key.new.self) = grind arith in
    (found, members_end 126 c.args.reader.now c.members.reader c.next_key.new.self found on end, truth)

pub members-preserved-then-eq : goal.members-preserved-then-eq
members-preserved-then-eq c =
    let (found, on, truth) = c.members.invariant in
    let name = c.in-Some.name.now in
    let named : read_key c.members.reader ≡ Some (Some name, c.next_key.new.self) = grind arith in
    let same : name ≡ c.args.key.now = (bytes_eq-Decides name c.args.key.now).0 (sym c.if-eq.ensures) in
    let value = value_truth 126 c.in-Some-Bool.truth c.next.new.self c.next_key.new.self (grind arith) in (
      put c.args.key.now (boolean c.in-Some-Bool.truth) found,
      members_go_on 126 c.args.reader.now c.members.reader c.next_key.new.self c.next.new.self found c.args.key.now (boolean c.in-Some-Bool.truth) on
          (subst (λ (k : List ℕ). read_key c.members.reader ≡ Some (Some k, c.next_key.new.self)) same named) value.0 value.1,
      sym (truth_put c.args.key.now c.in-Some-Bool.truth found),
    )

pub members-preserved : goal.members-preserved
members-preserved c =
    let (found, on, truth) = c.members.invariant in
    let name = c.in-Some.name.now in
    let named : read_key c.members.reader ≡ Some (Some name, c.next_key.new.self) = grind arith in
    let other : c.args.key.now ≡ name → ⊥ = λ e. not_from_Decides _ (bytes_eq-Decides name c.args.key.now) (sym c.if-eq.ensures) (sym e) in
    let passed = c.if-not-pass_value.ensures.passed refl in (
      put name passed.0 found,
      members_go_on 126 c.args.reader.now c.members.reader c.next_key.new.self c.pass_value.new.reader found name passed.0 on named passed.1 (c.if-not-pass_value.ensures.shorter refl),
      truth ∙ sym (truth_kept c.args.key.now name passed.0 found other),
    )
