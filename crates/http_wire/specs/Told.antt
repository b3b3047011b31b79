-- Answers that the bytes decide, and not the source or the memory.
use Rattle.std.specs.Prelude.{Result, Ok, Err}
use Rattle.http_wire.specs.declared.error.WireError.{WireError}
use Rattle.http_wire.specs.declared.error.WireError.TheVariants.{BadHead, TooLarge, Coding, Ended, Cut, ReadFault, Memory}

-- neither the source failed nor was memory wanting
abbrev pub IsOfBytes : WireError → Type 0
IsOfBytes BadHead = Unit {0}
IsOfBytes (TooLarge n) = Unit {0}
IsOfBytes Coding = Unit {0}
IsOfBytes Ended = Unit {0}
IsOfBytes Cut = Unit {0}
IsOfBytes ReadFault = ⊥
IsOfBytes Memory = ⊥

-- the bytes decide the answer
abbrev pub IsDecided : {T : Type 0} → Result T WireError → Type 0
IsDecided (Ok value) = Unit {0}
IsDecided (Err e) = IsOfBytes e
