use Rattle.std.proofs.Common.{◌≡◌, length}
use Rattle.hub_paths.specs.Paths.{fits}
use Rattle.hub_paths.proofs.paths.fits.Given as goal

abbrev pub invariant-segments : goal.invariant-segments
invariant-segments l = fits l.parts l.segments ≡ fits l.fn.path l.fn.text

abbrev pub decreases-segments : goal.decreases-segments
decreases-segments l = length l.parts
