-- What an upstream's two sides tell, by the ghost members of their traits.
use Rattle.std.specs.Prelude.{Bool}
use Rattle.hub_devices.specs.declared.source.Source as source
use Rattle.hub_devices.specs.declared.sink.Sink as sink
use Rattle.carries.specs.Carries.{Sides}

-- How a tunnel left the upstream's two sides, beside whether the client's is shut
abbrev pub sides_of : {R W : Type 0} → source.Ghosts R → sink.Ghosts W → (lower_shut : Bool) → R → W → Sides
sides_of r w lower_shut reads writes = record {
  left = r.left reads;
  held = w.held writes;
  reads = r.faults reads;
  writes = w.faults writes;
  upper_shut = w.closed writes;
  lower_shut = lower_shut;
}
