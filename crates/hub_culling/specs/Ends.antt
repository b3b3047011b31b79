-- How the command ends, and which status that has.
use Rattle.std.specs.Prelude.{ℕ, Result, Ok, Err}
use Rattle.idle_culler.specs.declared.pages.CullFault.{CullFault}
use Rattle.idle_culler.specs.declared.pages.CullFault.TheVariants as fault
use Rattle.hub_culling.specs.declared.cause.Cause.{Cause}
use Rattle.hub_culling.specs.declared.cause.Cause.TheVariants.{Words, NoFile, NoToken, Output, Memory, Link, BadReply}

-- after its last round, or before it for a cause
abbrev pub End : Type 0
End = Result (Unit {0}) Cause

abbrev pub cause_of : CullFault → Cause
cause_of fault.LinkFault = Link
cause_of (fault.BadReply status) = BadReply status
cause_of fault.Memory = Memory

abbrev pub cause_status : Cause → ℕ
cause_status Words = 2
cause_status NoFile = 3
cause_status NoToken = 3
cause_status Output = 6
cause_status Memory = 7
cause_status Link = 9
cause_status (BadReply status) = 11

abbrev pub status_of : End → ℕ
status_of (Ok u) = 0
status_of (Err cause) = cause_status cause
