use Rattle.std.proofs.Common.{append_assoc}
use Rattle.proxy_wire.proofs.heads.push_status_line.Goals as goal

pub returns : goal.returns
returns c = rw (c.in_ok-push_all-4.ensures.ok, c.in_ok-push_all-3.ensures.ok, c.in_ok-push_all-2.ensures.ok, c.in_ok-push_all.ensures.ok) (simp append_assoc)
