-- The data that a record text may hold, so that its text reads back: whole numbers, texts, and members in the order of their keys.
use Rattle.std.specs.Prelude.{◌≡◌, ◌<◌, ◌≤◌, ◌^◌, ⊤}
use Rattle.json.specs.Tree as tree
use Rattle.serde_json.specs.Data.{Num, unsigned, negative, float, Data, null, boolean, number, string, array, object, Items, no_items, item}
use Rattle.serde_json.specs.Data.{Members, no_members, member, put}
use Rattle.serde_json.specs.Written.{outline}

abbrev pub rebuilt : Members → Members → Members
rebuilt found no_members = found
rebuilt found (member k d ms) = rebuilt (put k d found) ms

abbrev pub IsWhole : Num → Type 0
IsWhole (unsigned n) = n < 2 ^ 64
IsWhole (negative z) = ⊥
IsWhole (float x) = ⊥

abbrev mutual
  pub IsPlain : Data → Type 0
  IsPlain null = ⊤
  IsPlain (boolean b) = ⊤
  IsPlain (number n) = IsWhole n
  IsPlain (string s) = ⊤
  IsPlain (array ds) = ItemsArePlain ds
  IsPlain (object ms) = (rebuilt no_members ms ≡ ms) × MembersArePlain ms

  pub ItemsArePlain : Items → Type 0
  ItemsArePlain no_items = ⊤
  ItemsArePlain (item d ds) = IsPlain d × ItemsArePlain ds

  pub MembersArePlain : Members → Type 0
  MembersArePlain no_members = ⊤
  MembersArePlain (member k d ms) = IsPlain d × MembersArePlain ms

-- a value that a record may have: plain, and nested at most 100 deep
abbrev pub IsRecordData : Data → Type 0
IsRecordData d = IsPlain d × (tree.depth (outline d) ≤ 100)
