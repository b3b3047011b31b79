-- How a connection ends by a turn without a whole reply.
use Rattle.std.proofs.Common.{◌≡◌, ◌+◌, ◌<◌, ◌==◌, ℕ, List, [], length, Option, Result, Ok, Err, refl, sym, subst}
use Rattle.hub_devices.specs.Faults.{Rises}
use Rattle.http_wire.specs.Took.{Took}
use Rattle.http_wire.specs.declared.error.SessionFault.{SessionFault}
use Rattle.http_wire.specs.declared.error.SessionFault.TheVariants as fault
use Rattle.hub_core.specs.declared.start.Start.{Start}
use Rattle.hub_run.specs.Connections.{Known, Ran, ConnectionEnds}
use Rattle.hub_run.specs.Steps.{TurnEnds}
use Rattle.hub_run.specs.Turns.{Turn, View, Turns}
use Rattle.hub_run.specs.declared.served.Served.{Served}
use Rattle.hub_run.specs.declared.served.Served.TheVariants as served
use Rattle.hub_run.specs.declared.served.TurnEnd.{TurnEnd}
use Rattle.hub_run.specs.declared.served.TurnEnd.TheVariants as end
use Rattle.hub_run.proofs.RanLemmas.{Ran_stop, Ran_reply, Ran_ended}
use Rattle.hub_run.proofs.TurnsLemmas.{turns_more}
use Rattle.hub_run.proofs.EndLemmas.{turns_same, ended_is_empty, ended_is_end}

abbrev Ending : Type 0
Ending = Result Served SessionFault

pub stopped : (start : Start) (x z : Known) (y : View) (left1 held1 : Option (List ℕ)) (kept : List ℕ) (e : TurnEnd) (count : ℕ) (ending : Ending) (turns : List Turn) (bytes : List ℕ)
    → length turns ≡ count → count < 1000 → Ran start x.input.bytes x.output.bytes left1 held1 turns kept [] → Turns x.view turns y
    → Took left1 kept z.input.bytes bytes → TurnEnds start (count + 1 == 1000) y z.view z.input.bytes held1 z.output.bytes bytes e
    → (e ≡ end.ReadFault → Rises x.input.faults z.input.faults) → (e ≡ end.WriteFault → Rises x.output.faults z.output.faults)
    → (e ≡ end.Ended → ending ≡ Ok (served.Ended count)) → (e ≡ end.Cut → ending ≡ Ok (served.Cut count))
    → (e ≡ end.ReadFault → ending ≡ Err (fault.ReadFault count)) → (e ≡ end.WriteFault → ending ≡ Err (fault.WriteFault count))
    → ConnectionEnds start x z ending
stopped start x z y left1 held1 kept end.Ended count ending turns bytes counted below ran done took at reads writes is cut read write =
    subst (ConnectionEnds start x z) (sym (is refl))
    (turns, (counted, below), Ran_ended (Ran_stop bytes ran took at.2) (ended_is_empty _ bytes at.0), turns_same _ _ _ turns done at.1, ended_is_end _ bytes at.0)
stopped start x z y left1 held1 kept end.Cut count ending turns bytes counted below ran done took at reads writes ended is read write =
    subst (ConnectionEnds start x z) (sym (is refl))
    (turns, bytes, (counted, below), Ran_stop bytes ran took at.2, turns_same _ _ _ turns done at.1, at.0)
stopped start x z y left1 held1 kept end.ReadFault count ending turns bytes counted below ran done took at reads writes ended cut is write =
    subst (ConnectionEnds start x z) (sym (is refl))
    (turns, bytes, (counted, below), Ran_stop bytes ran took at.2, turns_same _ _ _ turns done at.1, at.0, reads refl)
stopped start x z y left1 held1 kept end.WriteFault count ending turns bytes counted below ran done took broken reads writes ended cut read is =
    subst (ConnectionEnds start x z) (sym (is refl)) (
      turns,
      broken.turn,
      bytes,
      broken.rest,
      broken.part,
      broken.more,
      (counted, below),
      Ran_reply bytes broken.part ran took broken.wrote,
      turns_more _ _ _ turns broken.turn done broken.moves,
      (broken.at, broken.kept),
      broken.text,
      writes refl,
    )
