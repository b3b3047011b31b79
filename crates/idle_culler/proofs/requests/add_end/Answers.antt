use Rattle.std.proofs.Common.{[], codes}
use Rattle.idle_culler.specs.Requests.{line}
use Rattle.idle_culler.proofs.Additions.{both}
use Rattle.idle_culler.proofs.requests.add_end.Goals as goal

pub returns : goal.returns
returns c =
    both c.add_line-2.result c.args.text.now c.add_line.new.text c.add_line-2.new.text (line (codes "Connection: close")) (line [])
    c.in_ok-add_line.ensures c.add_line-2.ensures
