use Rattle.std.proofs.Common.{rules, ◌≡◌, true}
use Rattle.hub_words.specs.Values.{is_number}
use Rattle.hub_words.proofs.Numbers.{past_u64}
use Rattle.hub_words.proofs.values.number_in.Goals as goal

pub returns-in-Err : goal.returns-in-Err
returns-in-Err c =
    let number : is_number c.args.text.now ≡ true = search rules in
    past_u64 c.args.text.now c.in-Err.field-0 c.in-Err.ensures.value.0 number
