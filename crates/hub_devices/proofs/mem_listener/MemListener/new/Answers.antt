use Rattle.std.proofs.Common.{reverse, ap, ◌∙◌}
use Rattle.std.proofs.lemmas.List.{reverse-reverse}
use Rattle.hub_devices.proofs.mem_listener.MemListener.new.Goals as goal

pub returns-clause-doors : goal.returns-clause-doors
returns-clause-doors g c = ap reverse c.reverse.ensures.items ∙ reverse-reverse c.args.doors.items
