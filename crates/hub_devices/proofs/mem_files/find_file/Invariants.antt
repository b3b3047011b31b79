use Rattle.std.proofs.Common.{◌≡◌, drop}
use Rattle.hub_devices.specs.NamedFiles.{file_of}
use Rattle.hub_devices.proofs.mem_files.find_file.Given as goal

abbrev pub invariant-loop-other : goal.invariant-loop-other
invariant-loop-other l = file_of l.files l.name ≡ file_of (drop l.other-index l.files) l.name
