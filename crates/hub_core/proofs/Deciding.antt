-- Answers, from what was decided on the way.
use Rattle.std.proofs.Common.{◌≡◌, ℕ, Bool, true, false, List, Option, refl}
use Rattle.std.specs.Prelude.{Some, None, ◌↔◌}
use Rattle.scope_names.specs.declared.action.Action.{Action}
use Rattle.scope_filters.specs.Grants as grants
use Rattle.scope_meet.specs.Named.{AdmitsSomething}
use Rattle.scope_meet.specs.declared.inside.Inside.{Inside}
use Rattle.scope_meet.specs.declared.inside.Inside.TheVariants.{Yes}
use Rattle.hub_tables.specs.State.{State}
use Rattle.hub_rows.specs.declared.records.Token.{Token}
use Rattle.roles.specs.Rights.{context, IsAllowed, Holds, IsGrantOf}
use Rattle.hub_machine.specs.State.{Hub}
use Rattle.hub_machine.specs.Replies.{Answer, refuses}
use Rattle.hub_core.specs.Needs.{needs, needs_token}
use Rattle.hub_machine.specs.Trails.{in_trail}
use Rattle.hub_core.specs.Answer.{Judgement, by_nobody, caller, is_past, named}
use Rattle.hub_core.specs.Judged.{HeldOf, HasHeld, InsideOf, JudgesToken, ByRights}
use Rattle.hub_core.specs.History.{Answers}
use Rattle.hub_calls.specs.Rights.{may_of}
use Rattle.hub_core.specs.declared.need.Need.{Need}
use Rattle.hub_core.specs.declared.need.Need.TheVariants.{GoodToken, Held, On}
use Rattle.hub_machine.specs.declared.refusal.Refusal.TheVariants.{SeenPast, NoValidToken}
use Rattle.hub_machine.specs.declared.call.Asked.{Asked}
use Rattle.hub_machine.specs.declared.call.Call.{Call}

nobody : Judgement
nobody = record { may = λ a x. false; is_held = false; inside = Yes }

pub past : (s : Hub) (now : ℕ) (draw : Option (List ℕ)) (asked : Asked) (seen length : ℕ) → is_past s.length asked.seen ≡ true
    → seen ≡ named asked.seen → length ≡ s.length → Answers s now draw asked (refuses (SeenPast seen length))
past s now draw asked seen length h e f = record { judgement = nobody; judged = rw h tt; is = rw h (λ i. refuses (SeenPast (e i) (f i))) }

pub tokenless : (s : Hub) (now : ℕ) (draw : Option (List ℕ)) (asked : Asked) (r : Answer) → is_past s.length asked.seen ≡ false → needs_token asked.call ≡ false
    → r ≡ in_trail s (by_nobody s now draw asked.call) → Answers s now draw asked r
tokenless s now draw asked r h n e = record { judgement = nobody; judged = rw (h, n) tt; is = rw (h, n) e }

pub nobody_known : (s : Hub) (now : ℕ) (draw : Option (List ℕ)) (asked : Asked) → is_past s.length asked.seen ≡ false → needs_token asked.call ≡ true
    → caller s now asked ≡ None → Answers s now draw asked (refuses NoValidToken)
nobody_known s now draw asked h n e = record { judgement = nobody; judged = rw (h, n, e) tt; is = rw (h, n, e) refl }

pub by_token : (s : Hub) (now : ℕ) (draw : Option (List ℕ)) (asked : Asked) (k : Token) (r : Answer) → is_past s.length asked.seen ≡ false → needs_token asked.call ≡ true
    → caller s now asked ≡ Some k → ByRights s now draw k asked.call r → Answers s now draw asked r
by_token s now draw asked k r h n e b = record { judgement = b.judgement; judged = rw (h, n, e) b.judged; is = rw (h, n, e) b.is }

-- ---- the judgement of a grant

held : (t : State) (k : Token) (grant : grants.Rights) (is_held : Bool) (need : Need)
    → ((a : Action) → AdmitsSomething (context t) grant a ↔ Holds t k a) → HasHeld grant is_held need → HeldOf t k is_held need
held t k grant is_held GoodToken holds h = tt
held t k grant is_held (Held a) holds h = let f = h (context t) in let g = holds a in (λ x. g.0 (f.0 x), λ x. f.1 (g.1 x))
held t k grant is_held (On a x) holds h = let f = h (context t) in let g = holds a in (λ y. g.0 (f.0 y), λ y. f.1 (g.1 y))

pub judged : (s : Hub) (k : Token) (grant : grants.Rights) (is_held : Bool) (inside : Inside) (call : Call)
    → IsGrantOf s.tables (IsAllowed s.tables k) grant → ((a : Action) → AdmitsSomething (context s.tables) grant a ↔ Holds s.tables k a) → HasHeld grant is_held (needs call) → InsideOf s.tables call inside
    → JudgesToken s.tables k call (record { may = may_of s grant; is_held = is_held; inside = inside })
judged s k grant is_held inside call may holds h is_inside = record { may = may; held = held s.tables k grant is_held (needs call) holds h; inside = is_inside }
