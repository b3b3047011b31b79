-- Passes.
use denote.RattleType.{RattleType}
use denote.Param.Send.{IsSend, IsSync, struct_sync, sendable}
use denote.Struct.Declared.{shape}
use Rattle.atomic_table.proofs.shared.Seat.TheSendSync.{the_send as seat_send}
use Rattle.atomic_table.proofs.shared.Shared.TheSendSync.{the_send as table_send, the_sync as table_sync}
use Rattle.atomic_table.proofs.send_lease.SendLease.TheSendSync.{the_sync as lease_sync}
use Rattle.std.proofs.Crossing.{crosses, frees}
use Rattle.std.proofs.Crossing.{send as heap_send, sync as heap_sync}
use Rattle.desk.specs.declared.booked.Booked as booked
use Rattle.desk.specs.contracts.desk.Desk as Desk
use Rattle.desk.specs.contracts.desk.Desk.TheInside as Inside
use Rattle.desk.specs.contracts.desk.Pass as Pass
use Rattle.hub_core.specs.contracts.kit.HubKit as HubKit

module _ (B E A : RattleType) (g : booked.Ghosts B.Denot E.Denot A.Denot) where
  pub pass_send : IsSend B → IsSend (Pass.the_row B E A g)
  pass_send s = search (sendable, seat_send) depth 14

  desk_fields_sync : IsSend B → IsSync (Inside.the_field B E A g).row
  desk_fields_sync s = struct_sync (shape (Inside.the_type B E A g)) (
    search (sendable, table_sync, lease_sync, frees, heap_send, heap_sync) depth 12,
    (search (sendable, crosses) depth 12, tt),
  )

  pub desk_sync : IsSend B → IsSync (Desk.the_row B E A g)
  desk_sync s = search (sendable, desk_fields_sync)

module _ (S P C R : RattleType) where
  pub kit_send : IsSend S → IsSend P → IsSend C → IsSend R → IsSend (HubKit.the_row S P C R)
  kit_send s p c r = search sendable depth 10
