use Rattle.scope_names.proofs.TextOrder.{text_order}
use Rattle.scope_names.proofs.action.actions_stand_in_order_of_texts.Goals as goal

pub returns : goal.returns
returns c = text_order
