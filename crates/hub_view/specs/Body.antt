-- The tokens of a body.
use Rattle.std.specs.Prelude.{ℕ, List, [], map}
use Rattle.hub_view.specs.Json.{Json, Member, line, whole, truth, nothing, items, items_on, pairs, pairs_on}
use Rattle.hub_kit.specs.MomentTexts.{moment_text}
use Rattle.hub_view.specs.Words.{word_text}
use Rattle.hub_view.specs.declared.body.Body.{Body, fold-Body}
use Rattle.hub_view.specs.declared.body.Body.TheOpen.{Body-F}

-- one level, with each body inside already as its tokens
abbrev pub body_step : Body-F Json → Json
body_step Body-F.Nothing = []
body_step Body-F.Null = nothing
body_step (Body-F.Truth b) = truth b
body_step (Body-F.Number n) = whole n
body_step (Body-F.Fixed w) = line (word_text w)
body_step (Body-F.At m) = line (moment_text m)
body_step (Body-F.Line s) = line s
body_step (Body-F.Items v) = items v.items
body_step (Body-F.Pairs v) = pairs v.items
body_step (Body-F.Record v) = pairs v.items

abbrev pub body_tokens : Body → Json
body_tokens = fold-Body Json body_step

abbrev pub bodies : List Body → List Json
bodies bs = map body_tokens bs

-- the members of an object's body
abbrev pub members : List (List ℕ × Body) → List Member
members ps = map (λ p. (p.0, body_tokens p.1)) ps

-- what stands behind the opening bracket of a list
abbrev pub items_tokens : List Body → Json
items_tokens bs = items_on (bodies bs)

-- what stands behind the opening bracket of an object
abbrev pub pairs_tokens : List (List ℕ × Body) → Json
pairs_tokens ps = pairs_on (members ps)
