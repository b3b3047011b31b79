-- A book may go to another thread where its keeper and its history may.
use denote.RattleType.{RattleType}
use denote.Param.Send.{IsSend, IsSync, struct_send, sendable}
use denote.Struct.Declared.{shape}
use Rattle.keeper.specs.declared.keeper.Keeper as keeper
use Rattle.keeper.specs.declared.trail.Trail as trail
use Rattle.hub_machine.specs.declared.change.Change.{Change}
use Rattle.hub_serve.proofs.SentState.{machine_send, cache_send}
use Rattle.hub_core.specs.contracts.book.Book as Book
use Rattle.hub_core.specs.contracts.book.Book.TheInside as Inside

module _ (K T : RattleType) (k : keeper.Ghosts K.Denot) (t : trail.Ghosts T.Denot Change) where
  book_fields_send : IsSend K → IsSend T → IsSend (Inside.the_field K T k t).row
  book_fields_send a b = struct_send (shape (Inside.the_type K T k t)) (
    a,
    (b, (machine_send, (cache_send, (search sendable, (search sendable depth 8, (search sendable depth 8, (search sendable depth 14, tt))))))),
  )

  pub book_send : IsSend K → IsSend T → IsSend (Book.the_row K T k t)
  book_send a b = search (sendable, book_fields_send)
