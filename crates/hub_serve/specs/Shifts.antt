-- The connections that a worker serves one after the other, by a pass and a kit of its own.
use Rattle.std.specs.Prelude.{◌≡◌, ℕ, ◌+◌, List, [], ◌∷◌, map, length, All, Result}
use Rattle.desk.specs.Passes.{PassState, fresh}
use Rattle.desk.specs.OwnEntries.{merged}
use Rattle.http_wire.specs.declared.error.SessionFault.{SessionFault}
use Rattle.keeper.specs.Pasts.{entries_of}
use Rattle.keeper.specs.declared.past.Past.{Past}
use Rattle.hub_run.specs.Connections.{StreamTold}
use Rattle.hub_run.specs.declared.served.Served.{Served}
use Rattle.hub_serve.specs.declared.tally.Connection.{Connection}
use Rattle.hub_serve.specs.declared.tally.Seen.{Seen}
use Rattle.hub_serve.specs.declared.tally.Tally.{Tally}

-- How many there are in all lists
abbrev pub count_of : {X : Type 0} → List (List X) → ℕ
count_of [] = 0
count_of (xs ∷ rest) = length xs + count_of rest

-- these came one after the other, by what was k before the first and is k' behind the last: each had what the one before it had left
abbrev pub Spans : {X K : Type 0} → (before after : X → K) → K → List X → K → Type 0
Spans before after k [] k' = k ≡ k'
Spans before after k (x ∷ xs) k' = (k ≡ before x) × Spans before after (after x) xs k'

-- each worker had what stands at its own place of the first list, and left what stands there in the second; what no worker had is as it was
abbrev pub AreOf : {X K : Type 0} → (before after : X → K) → List K → List (List X) → List K → Type 0
AreOf before after ks [] ks' = ks ≡ ks'
AreOf before after [] (xs ∷ xss) ks' = ⊥
AreOf before after (k ∷ ks) (xs ∷ xss) [] = ⊥
AreOf before after (k ∷ ks) (xs ∷ xss) (k' ∷ ks') = Spans before after k xs k' × AreOf before after ks xss ks'

-- The pass that is split off this one
abbrev pub split_from : {E A : Type 0} → PassState E A → PassState E A
split_from p = fresh p.of p.base p.seen p.faults

-- How a connection ends: a fact of the pass, of what serves and of what both streams tell, before and after it
abbrev pub Ends : Type 0 → Type 0 → Type 1
Ends P Q = P → Q → StreamTold → StreamTold → P → Q → StreamTold → StreamTold → Result Served SessionFault → Type 0

module _ {P Q I O : Type 0} where
  -- for each worker the connections that it served
  abbrev pub shifts_of : Tally P Q I O → List (List (Connection P Q I O))
  shifts_of tally = map entries_of (entries_of tally.shifts)

  -- The pass of its worker before it
  abbrev pub pass_before : Connection P Q I O → P
  pass_before c = c.before.pass.value

  -- The pass of its worker after it
  abbrev pub pass_after : Connection P Q I O → P
  pass_after c = c.after.pass.value

  -- The kit of its worker before it
  abbrev pub kit_before : Connection P Q I O → Q
  kit_before c = c.before.kit.value

  -- The kit of its worker after it
  abbrev pub kit_after : Connection P Q I O → Q
  kit_after c = c.after.kit.value

  -- these came behind that one, each where the one before it had left the pass and the kit
  abbrev pub GoOn : Connection P Q I O → List (Connection P Q I O) → Type 0
  GoOn c [] = Unit {0}
  GoOn c (d ∷ ds) = (c.after.pass.value ≡ d.before.pass.value) × (c.after.kit.value ≡ d.before.kit.value) × GoOn d ds

  -- all of a worker that began with the pass p
  abbrev pub GoFrom : P → List (Connection P Q I O) → Type 0
  GoFrom p [] = Unit {0}
  GoFrom p (c ∷ cs) = (p ≡ c.before.pass.value) × GoOn c cs

  -- The two sides of the connection are those of one (`are_sides`), and it ended so (`ends`), where the sides tell `told` and `wrote`
  abbrev pub IsServed : (I → O → Type 0) → Ends P Q → (I → StreamTold) → (O → StreamTold) → Connection P Q I O → Type 0
  IsServed are_sides ends told wrote c = are_sides c.before.input.value c.before.output.value
      × ends c.before.pass.value c.before.kit.value (told c.before.input.value) (wrote c.before.output.value)
      c.after.pass.value c.after.kit.value (told c.after.input.value) (wrote c.after.output.value) c.ended

  -- A worker that began with the pass p and the kit j served these connections, and has the pass q and the kit k in the end
  abbrev pub IsShift : (I → O → Type 0) → Ends P Q → (I → StreamTold) → (O → StreamTold) → P → Q → List (Connection P Q I O) → P → Q → Type 0
  IsShift are_sides ends told wrote p j cs q k =
      Spans pass_before pass_after p cs q × Spans kit_before kit_after j cs k × All (IsServed are_sides ends told wrote) cs

  -- These are all connections of a worker that began with the pass p, each with its own two sides and its right end
  abbrev pub IsWhole : (I → O → Type 0) → Ends P Q → (I → StreamTold) → (O → StreamTold) → P → List (Connection P Q I O) → Type 0
  IsWhole are_sides ends told wrote p cs = GoFrom p cs × All (IsServed are_sides ends told wrote) cs

-- What the pass of a worker that began with p has made in the end
abbrev pub own_of : {E A Q I O : Type 0} → PassState E A → List (Connection (PassState E A) Q I O) → List (ℕ × E)
own_of p [] = p.mine
own_of p (c ∷ cs) = own_of c.after.pass.value cs

-- Own entries, with those that the passes of these workers have made, each of which began with the pass p
abbrev pub all_own : {E A Q I O : Type 0} → PassState E A → List (ℕ × E) → List (List (Connection (PassState E A) Q I O)) → List (ℕ × E)
all_own p mine [] = mine
all_own p mine (cs ∷ rest) = all_own p (merged mine (own_of p cs)) rest
