use Rattle.piece_window.proofs.InsideLemmas.{none_inside}
use Rattle.piece_window.proofs.window.Window.clear.Goals as goal

pub returns : goal.returns
returns c = none_inside c.self.inside.bytes 64
