-- What a reader gives where there is something to read.
use Rattle.std.specs.Prelude.{◌≡◌, Result, Ok, Err, ⊤}
use Rattle.key_texts.specs.declared.unread.Unread.{Unread}
use Rattle.key_texts.specs.declared.unread.Unread.TheVariants.{Bad, Memory}

-- this one was found, unless there was no memory for it
abbrev pub Finds : {X : Type 0} → Result X Unread → X → Type 0
Finds (Ok found) x = found ≡ x
Finds (Err Bad) x = ⊥
Finds (Err Memory) x = ⊤
