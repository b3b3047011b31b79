-- What a worker asks the routes by may go to another thread.
use denote.RattleType.{RattleType}
use denote.Ref.{NamedLft}
use denote.Param.Send.{IsSend, IsSync, struct_sync, sendable}
use denote.Struct.Declared.{shape}
use Rattle.atomic_table.proofs.shared.Seat.TheSendSync.{the_send as seat_send}
use Rattle.atomic_table.proofs.shared.Shared.TheSendSync.{the_send as table_send, the_sync as table_sync}
use Rattle.atomic_table.proofs.send_lease.SendLease.TheSendSync.{the_send as lease_send, the_sync as lease_sync}
use Rattle.std.proofs.Crossing.{crosses, frees}
use Rattle.std.proofs.Crossing.{send as heap_send, sync as heap_sync}
use Rattle.std.specs.contracts.string.String as String
use Rattle.std.specs.contracts.alloc.Global as Heap
use Rattle.std.specs.contracts.impls.GlobalAllocator.TheImpl.{ghosts}
use Rattle.desk.specs.declared.booked.Booked as booked
use Rattle.desk.specs.contracts.desk.Desk as Desk
use Rattle.desk.specs.contracts.desk.Desk.TheInside as Inside
use Rattle.desk.specs.contracts.desk.Pass as Pass
use Rattle.hub_kit.specs.contracts.bytes.Bytes as Bytes
use Rattle.hub_kit.specs.contracts.moment.Moment as Moment
use Rattle.hub_kit.specs.contracts.target.Target as Target
use Rattle.hub_kit.specs.contracts.text.Text as Text
use Rattle.route_table.specs.contracts.extra.Extra as Extra
use Rattle.route_table.specs.contracts.route.RouteEntry as RouteEntry
use Rattle.route_table.specs.contracts.route.Route as Route
use Rattle.route_table.specs.contracts.row.Row as Row
use Rattle.route_table.specs.contracts.routes.Routes as Routes
use Rattle.route_desk.specs.contracts.past.Past as Past
use Rattle.route_desk.specs.contracts.route_book.RouteBook as RouteBook
use Rattle.route_desk.specs.contracts.router.Router as Router

module _ (B E A : RattleType) (g : booked.Ghosts B.Denot E.Denot A.Denot) where
  pub pass_send : IsSend B → IsSend (Pass.the_row B E A g)
  pass_send s = search (sendable, seat_send) depth 14

  desk_fields_sync : IsSend B → IsSync (Inside.the_field B E A g).row
  desk_fields_sync s = struct_sync (shape (Inside.the_type B E A g)) (
    search (sendable, table_sync, lease_sync, frees, heap_send, heap_sync) depth 12,
    (search (sendable, crosses) depth 12, tt),
  )

  pub desk_sync : IsSend B → IsSync (Desk.the_row B E A g)
  desk_sync s = search (sendable, desk_fields_sync)

string_send : IsSend (String.the_field Heap.the_row ghosts).row
string_send = search (sendable, crosses) depth 12

text_send : IsSend Text.the_row
text_send = search (sendable, string_send) depth 10

target_send : IsSend Target.the_row
target_send = search (sendable, text_send) depth 10

bytes_send : IsSend Bytes.the_row
bytes_send = search (sendable, crosses) depth 12

moment_send : IsSend Moment.the_row
moment_send = search sendable depth 10

extra_send : IsSend Extra.the_row
extra_send = search (sendable, text_send) depth 12

entry_send : IsSend (RouteEntry.the_field).row
entry_send = search (sendable, target_send, extra_send) depth 14

route_send : IsSend (Route.the_field).row
route_send = search (sendable, text_send, moment_send, entry_send) depth 12

row_send : IsSend (Row.the_field).row
row_send = search (sendable, bytes_send, route_send) depth 14

pub routes_send : IsSend Routes.the_row
routes_send = search (sendable, crosses, row_send) depth 14

pub past_send : IsSend Past.the_row
past_send = search (sendable, crosses, frees, seat_send, table_send, lease_send, heap_send) depth 14

pub book_send : IsSend RouteBook.the_row
book_send = search (sendable, crosses, routes_send, past_send) depth 14

pub router_send : (κ : NamedLft) (W : RattleType) → IsSync W → IsSend (Router.the_row κ W)
router_send κ W s = search (sendable, crosses, pass_send, desk_sync, book_send) depth 16
