-- A worker may go to another thread where its server may.
use denote.RattleType.{RattleType}
use denote.Param.Send.{IsSend, struct_send, sendable}
use denote.Struct.Declared.{shape}
use Rattle.std.proofs.sync.ledger.Share.TheSendSync.{the_send}
use Rattle.std.specs.declared.sync.ledger.Ledger as ledger
use Rattle.hub_devices.specs.declared.listener.Listener as listener
use Rattle.hub_devices.specs.declared.sink.Sink as sink
use Rattle.hub_devices.specs.declared.source.Source as source
use Rattle.worker_hall.specs.declared.doors.Doorway as doorway
use Rattle.worker_hall.specs.contracts.workers.Worker as Worker

module _ (L S N I O : RattleType) (l : listener.Ghosts L.Denot I.Denot O.Denot) (i : source.Ghosts I.Denot) (o : sink.Ghosts O.Denot)
    (d : doorway.Ghosts N.Denot) (b : ledger.Ghosts N.Denot) where
  fields_send : IsSend L → IsSend S → IsSend N → IsSend (Worker.the_field L S N I O l i o d b).row
  fields_send a s n = struct_send (shape (Worker.the_type L S N I O l i o d b)) (search sendable, (search (sendable, the_send), (s, (search sendable, tt))))

  pub worker_send : IsSend L → IsSend S → IsSend N → IsSend (Worker.the_row L S N I O l i o d b)
  worker_send a s n = search (sendable, fields_send)
