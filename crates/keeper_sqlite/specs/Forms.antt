-- The forms of a store, by the number that it holds.
use Rattle.std.specs.Prelude.{ℤ, pos}
use Rattle.keeper_sqlite.specs.declared.store.Form.{Form}
use Rattle.keeper_sqlite.specs.declared.store.Form.TheVariants.{Old, New}

-- The number that a store of this form holds
abbrev pub number_of : Form → ℤ
number_of Old = pos 1
number_of New = pos 2
