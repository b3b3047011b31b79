use Rattle.std.proofs.Common.{refl}
use Rattle.store_thread.proofs.Telling.{read_at_choice}
use Rattle.store_thread.proofs.caller.Caller.open.Goals as goal

pub keep-requires : goal.keep-requires
keep-requires g c = read_at_choice c.args.self.now c.args.place c.in-Some.answer c.ask.new.self c.in-Some.answer.rows c.in-Some.ensures c.in-Ok.is refl
