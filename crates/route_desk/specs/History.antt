-- A table of routes that many threads share: the steps on it, and what one of them tells its pass.
use Rattle.std.specs.Prelude.{◌≡◌, ◌⊎◌, ℕ, ◌+◌, ◌≤◌, ◌^◌, true, List, [], ◌∷◌, ◌++◌, length, Result, Some, Ok, Err, IfErr}
use mathlib.Core.List.{IsPrefix}
use Rattle.route_table.specs.declared.route.RouteRefusal.{RouteRefusal}
use Rattle.route_table.specs.declared.route.Route.{Route}
use Rattle.route_table.specs.declared.route.RouteRefusal.TheVariants.{BadPath, Memory}
use Rattle.route_table.specs.Path.{bad_place}
use Rattle.route_table.specs.Table.{Table, IsFound, IsLook, IsLookRefusal}
use Rattle.proxy_api.specs.Api.{judged, IsAnswered}
use Rattle.proxy_api.specs.declared.calls.ApiRefusal.TheVariants.{Memory as NoMemory}
use Rattle.proxy_api.specs.declared.texts.ApiReply.TheVariants.{Refused}
use Rattle.desk.specs.Passes.{PassState, IsSamePass}
use Rattle.route_desk.specs.declared.step.Step.{Step}
use Rattle.route_desk.specs.declared.step.Step.TheVariants.{Looked, Asked}

-- what a step answers of a table, and what it leaves
abbrev pub Makes : Table → Step → Table → Type 0
Makes t (Looked path now answer) t' = IsLook t path now answer t'
Makes t (Asked secret now request reply) t' = IsAnswered (judged secret request) t now request reply t'

-- the steps lead from one table to the other
abbrev pub Leads : Table → List Step → Table → Type 0
Leads t [] t' = t' ≡ t
Leads t (step ∷ steps) t' = (m : Table) × Makes t step m × Leads m steps t'

-- the table at first, the steps since, and the table that they left
pub record Standing : Type 0 where
  pub first : Table
  pub past : List Step
  pub table : Table

abbrev pub first_book : Table → Standing
first_book t = record { first = t; past = []; table = t }

-- a step was made and noted
pub record Noted (b : Standing) (step : Step) (b' : Standing) : Type 0 where
  pub leads : Leads b.first b.past b.table
  pub makes : Makes b.table step b'.table
  pub past : b'.past ≡ b.past ++ step ∷ []
  pub first : b'.first ≡ b.first

-- as many steps were made as can be noted
abbrev pub IsFull : List Step → Type 0
IsFull past = 2 ^ 62 ≤ length past

-- a look-up that isn't noted: the target that is found isn't told
abbrev pub IsUntold : Result Route RouteRefusal → Result (List ℕ) RouteRefusal → Type 0
IsUntold (Ok route) answer = answer ≡ Err Memory
IsUntold (Err refusal) answer = answer ≡ Err refusal

-- what is answered where no more steps can be noted
abbrev pub IsUnmade : Table → Step → Type 0
IsUnmade t (Looked path now answer) = (found : Result Route RouteRefusal) × IsFound t path found × IsUntold found answer
IsUnmade t (Asked secret now request reply) = reply ≡ Refused NoMemory

-- no more steps can be noted, and none was made
pub record Unmade (b : Standing) (step : Step) (b' : Standing) : Type 0 where
  pub full : IsFull b.past
  pub leads : Leads b.first b.past b.table
  pub says : IsUnmade b.table step
  pub same : b' ≡ b

abbrev pub Steps : Standing → Step → Standing → Type 0
Steps b step b' = Noted b step b' ⊎ Unmade b step b'

-- what every look-up answers
pub record IsLookAnswer (path : List ℕ) (answer : Result (List ℕ) RouteRefusal) : Type 0 where
  pub bad : (at : ℕ) → bad_place path ≡ Some at → answer ≡ Err (BadPath at)
  pub few : IfErr answer (IsLookRefusal path)

-- a pass made a step: on the table that the steps before it left, of which the first are those that the pass had seen
pub record MadeStep (p : PassState Step Table) (step : Step) (q : PassState Step Table) : Type 0 where
  pub first : Table
  pub past : List Step
  pub table : Table
  pub after : Table
  pub base : p.base ≡ Some first
  pub begins : IsPrefix p.seen past
  pub whole : p.alone ≡ true → past ≡ p.seen
  pub leads : Leads first past table
  pub makes : Makes table step after
  pub seen : q.seen ≡ past ++ step ∷ []
  pub mine : q.mine ≡ p.mine ++ (length past, step) ∷ []
  pub same : IsSamePass p q

-- no more steps can be noted after those that the pass sees now, and none was made
pub record MadeNone (p : PassState Step Table) (step : Step) (q : PassState Step Table) : Type 0 where
  pub first : Table
  pub table : Table
  pub base : p.base ≡ Some first
  pub begins : IsPrefix p.seen q.seen
  pub whole : p.alone ≡ true → q.seen ≡ p.seen
  pub full : IsFull q.seen
  pub leads : Leads first q.seen table
  pub says : IsUnmade table step
  pub mine : q.mine ≡ p.mine
  pub same : IsSamePass p q

abbrev pub Stepped : PassState Step Table → Step → PassState Step Table → Type 0
Stepped p step q = MadeStep p step q ⊎ MadeNone p step q
