-- How a session ends, and which status that has.
use Rattle.std.specs.Prelude.{ℕ, Result, Ok, Err}
use Rattle.http_wire.specs.declared.error.SessionFault.{SessionFault}
use Rattle.http_wire.specs.declared.error.SessionFault.TheVariants.{ReadFault, WriteFault}
use Rattle.hub_opening.specs.declared.open_error.OpenError.{OpenError}
use Rattle.hub_opening.specs.declared.open_error.OpenError.TheVariants as opening
use Rattle.hub_run.specs.declared.served.Served.{Served}
use Rattle.hub_run.specs.declared.served.Served.TheVariants.{Ended, Cut, Closed}
use Rattle.hub_main.specs.declared.cause.Cause.{Cause}
use Rattle.hub_main.specs.declared.cause.Cause.TheVariants.{Words, Memory, NoFile, NoConfig, UnknownName, NoStore, NotOpened}

-- how its connection ended, or why there was none
abbrev pub End : Type 0
End = Result (Result Served SessionFault) Cause

-- The status of a connection that was served: 0 where the input ended between two requests or the hub closed it, 10 where the input ended
-- inside a request, 5 where the input failed, and 6 where the output did
abbrev pub served_status : Result Served SessionFault → ℕ
served_status (Ok (Ended n)) = 0
served_status (Ok (Closed n)) = 0
served_status (Ok (Cut n)) = 10
served_status (Err (ReadFault n)) = 5
served_status (Err (WriteFault n)) = 6

-- The status where no book was opened, by the reason: 3 for what the configuration limits, the targets and the numbers of rows; 4 for the
-- store or a row in it; 7 for want of memory
abbrev pub open_status : OpenError → ℕ
open_status (opening.LostTarget target) = 3
open_status (opening.Full kind limit) = 3
open_status opening.KeeperFault = 4
open_status (opening.BadRow kind key) = 4
open_status opening.Memory = 7

-- The status where no connection was served, by the cause: 2 for the words, 3 for the file or a name in it, 4 for the store, 7 for want of
-- memory; where no book was opened, that of the reason
abbrev pub cause_status : Cause → ℕ
cause_status Words = 2
cause_status NoFile = 3
cause_status (NoConfig bytes) = 3
cause_status (UnknownName name) = 3
cause_status NoStore = 4
cause_status (NotOpened e) = open_status e
cause_status Memory = 7

-- The exit status of the command that ended so
abbrev pub status_of : End → ℕ
status_of (Ok end) = served_status end
status_of (Err cause) = cause_status cause
