use Rattle.std.proofs.Common.{[], ◌/◌, take, drop, length, sym, refl}
use Rattle.std.proofs.lemmas.List.{take-append-drop}
use Rattle.upstreams.proofs.UpstreamLemmas.{told_moves}
use Rattle.upstreams.proofs.mem_upstream.MemUpstreamUpstream.send.Goals as goal

pub returns-in-Ok-clause-err : goal.returns-in-Ok-clause-err
returns-in-Ok-clause-err c = (
  take (length c.args.bytes.now / 2) c.args.bytes.now,
  drop (length c.args.bytes.now / 2) c.args.bytes.now,
  sym (take-append-drop (length c.args.bytes.now / 2) c.args.bytes.now),
  rw c.in-Ok.ensures.ok (told_moves _ (take (length c.args.bytes.now / 2) c.args.bytes.now) [] _ refl),
)
