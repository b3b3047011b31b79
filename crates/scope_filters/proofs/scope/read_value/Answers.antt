use Rattle.std.proofs.Common.{sym}
use Rattle.scope_filters.proofs.ValuePlaces.{name_in, key_in, countable}
use Rattle.scope_filters.proofs.scope.read_value.Goals as goal

pub value_error-requires : goal.value_error-requires
value_error-requires c = countable c.args.at c.args.value.now _ c.requires (name_in _ _ (sym c.in-Err.ensures))

pub value_error-requires-in-Err-read_group : goal.value_error-requires-in-Err-read_group
value_error-requires-in-Err-read_group c = countable c.args.at c.args.value.now _ c.requires (name_in _ _ (sym c.in-Err-read_group.ensures))

pub value_error-requires-in-Err-read_key : goal.value_error-requires-in-Err-read_key
value_error-requires-in-Err-read_key c = countable c.args.at c.args.value.now _ c.requires (key_in _ _ (sym c.in-Err-read_key.ensures))

pub value_error-requires-in-Err-read_service : goal.value_error-requires-in-Err-read_service
value_error-requires-in-Err-read_service c = countable c.args.at c.args.value.now _ c.requires (name_in _ _ (sym c.in-Err-read_service.ensures))
