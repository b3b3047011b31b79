use Rattle.std.proofs.Common.{length, arith, ◌<◌, ◌*◌, ap}
use Rattle.http_wire.proofs.RoomLemmas.{no_room_needed}
use Rattle.http_wire.proofs.heads.look_at_many.Goals as goal

pub unreachable-requires : goal.unreachable-requires
unreachable-requires c =
    let room : length c.as_slice-2.result.now < 3 * length c.find_front.new.spans = omega (arith, ap length c.as_slice.ensures.value, ap length c.as_slice-2.ensures.value, c.find_front.auto.spans, c.in-Ok.ensures.len, c.deref_mut.ensures.len) in
    no_room_needed c.as_slice-2.result.now (length c.find_front.new.spans) room c.in-Crowded.ensures
