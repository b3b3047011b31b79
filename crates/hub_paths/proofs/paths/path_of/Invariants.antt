use Rattle.std.proofs.Common.{◌≡◌, drop}
use Rattle.std.specs.List.{find}
use Rattle.hub_paths.specs.Paths.{every_path, text_of, fits}
use Rattle.hub_paths.proofs.paths.path_of.Given as goal

abbrev pub invariant-loop-path : goal.invariant-loop-path
invariant-loop-path l = find (λ path. fits (text_of path) l.fn.text) (drop l.path-index l.path-items) ≡ find (λ path. fits (text_of path) l.fn.text) every_path
