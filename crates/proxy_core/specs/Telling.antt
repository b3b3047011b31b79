-- What the devices of an exchange tell, by the ghost members of their traits. A clause names these as `I.Source`, `O.Sink`, `U.Upstream`.
use Rattle.std.specs.Prelude.{ℕ, List}
use Rattle.hub_devices.specs.declared.source.Source as source
use Rattle.hub_devices.specs.declared.sink.Sink as sink
use Rattle.upstreams.specs.declared.upstream.Upstream as upstream
use Rattle.proxy_core.specs.Passes.{Place}

-- What a call touches: the client's two sides, what was read of it and belongs to nothing yet, and the upstream
abbrev pub place_of : {I O U : Type 0} → source.Ghosts I → sink.Ghosts O → upstream.Ghosts U → I → (kept : List ℕ) → O → U → Place
place_of i o u input kept output up = record {
  left = i.left input;
  kept = kept;
  held = o.held output;
  told = u.told up;
  reads = i.faults input;
  links = u.faults up;
  writes = o.faults output;
}
