use Rattle.std.proofs.Common.{◌≡◌, ◌<◌, ◌∷◌, List, length, Some, None, refl, subst, arith}
use Rattle.json.specs.Token.{Token}
use Rattle.json.specs.Json.{after_end_array, read_key}
use Rattle.serde_json.specs.Data.{no_members, put}
use Rattle.request_parts.proofs.Truths.{Passes, items_go_on, items_end, members_begin, members_go_on, members_end, passes_string, passes_truth, passes_null, passes_array, passes_object}
use Rattle.request_parts.proofs.truth.+pass.Goals as goal

pub pass_items-items-preserved : goal.pass_items-items-preserved
pass_items-items-preserved t c =
    let going : (after_end_array c.items.reader ≡ None) × (c.take_end_array.new.self ≡ c.items.reader) = c.items-test.ensures in
    let passed : Passes c.args.depth c.take_end_array.new.self c.pass_value.new.reader = c.if-not-pass_value.ensures.passed refl in
    let shorter : length c.pass_value.new.reader < length c.take_end_array.new.self = c.if-not-pass_value.ensures.shorter refl in
    items_go_on c.args.depth c.args.reader.now c.items.reader c.pass_value.new.reader c.items.invariant going.0
    (subst (λ (ts : List Token). Passes c.args.depth ts c.pass_value.new.reader) going.1 passed)
    (subst (λ (ts : List Token). length c.pass_value.new.reader < length ts) going.1 shorter)

pub pass_items-returns-clause-passed : goal.pass_items-returns-clause-passed
pass_items-returns-clause-passed t c is_so = items_end c.args.depth c.args.reader.now c.items.reader c.take_end_array.new.self c.items.invariant c.items-test.ensures

pub pass_members-members-init : goal.pass_members-members-init
pass_members-members-init t c = (no_members, members_begin c.args.depth c.args.reader.now)

pub pass_members-returns-in_default-next-clause-passed : goal.pass_members-returns-in_default-next-clause-passed
pass_members-returns-in_default-next-clause-passed t c is_so =
    let (found, on) = c.members.invariant in
    let end : read_key c.members.reader ≡ Some (None, c.next_key.new.self) = grind arith in
    (found, members_end c.args.depth c.args.reader.now c.members.reader c.next_key.new.self found on end)

pub pass_members-members-preserved : goal.pass_members-members-preserved
pass_members-members-preserved t c =
    let (found, on) = c.members.invariant in
    let name = c.in-Some._name.now in
    let named : read_key c.members.reader ≡ Some (Some name, c.next_key.new.self) = grind arith in
    let passed = c.if-not-pass_value.ensures.passed refl in (
      put name passed.0 found,
      members_go_on c.args.depth c.args.reader.now c.members.reader c.next_key.new.self c.pass_value.new.reader found name passed.0 on named passed.1 (c.if-not-pass_value.ensures.shorter refl),
    )

pub pass_value-returns-then-depth-gt0-clause-passed : goal.pass_value-returns-then-depth-gt0-clause-passed
pass_value-returns-then-depth-gt0-clause-passed t c is_so =
    let is : c.args.reader.now ≡ Token.begin_array ∷ c.next.new.self = grind arith in
    let all = c.pass_items.ensures.passed is_so in
    passes_array c.args.depth c.args.reader.now c.next.new.self c.pass_items.new.reader all.0 is (omega arith) all.1

pub pass_value-returns-then-depth-gt0-2-clause-passed : goal.pass_value-returns-then-depth-gt0-2-clause-passed
pass_value-returns-then-depth-gt0-2-clause-passed t c is_so =
    let is : c.args.reader.now ≡ Token.begin_object ∷ c.next.new.self = grind arith in
    let all = c.pass_members.ensures.passed is_so in
    passes_object c.args.depth c.args.reader.now c.next.new.self c.pass_members.new.reader all.0 is (omega arith) all.1

pub pass_value-returns-in-Some-String-clause-passed : goal.pass_value-returns-in-Some-String-clause-passed
pass_value-returns-in-Some-String-clause-passed t c is_so =
    passes_string c.args.depth c.in-Some-String._text.now c.next.new.self c.args.reader.now (grind arith)

pub pass_value-returns-in-Some-Bool-clause-passed : goal.pass_value-returns-in-Some-Bool-clause-passed
pass_value-returns-in-Some-Bool-clause-passed t c is_so =
    passes_truth c.args.depth c.in-Some-Bool._truth c.next.new.self c.args.reader.now (grind arith)

pub pass_value-returns-in-Some-Null-clause-passed : goal.pass_value-returns-in-Some-Null-clause-passed
pass_value-returns-in-Some-Null-clause-passed t c is_so = passes_null c.args.depth c.next.new.self c.args.reader.now (grind arith)
