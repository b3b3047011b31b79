-- An object while its members are added.
use Rattle.std.specs.Prelude.{◌≡◌, false, List}
use Rattle.hub_view.specs.Json.{Member}
use Rattle.hub_view.specs.Body.{members}
use Rattle.hub_view.specs.declared.fields.Fields.{Fields}

-- these are its members, unless memory ran out
abbrev pub holds : Fields → List Member → Type 0
holds f ms = f.failed ≡ false → members f.list.items ≡ ms
