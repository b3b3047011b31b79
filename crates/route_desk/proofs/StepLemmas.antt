-- A step that is noted, and what it tells a pass.
use Rattle.std.proofs.Common.{◌≡◌, ℕ, List, [], ◌∷◌, ◌++◌, length, refl, sym, ap, subst, inl, inr, ◌∙◌, append-nil}
use Rattle.std.proofs.Math.Seq.{drop-append_seam, drop-length}
use mathlib.Core.List.{IsPrefix}
use Rattle.route_table.specs.Table.{Table}
use Rattle.desk.specs.Passes.{PassState}
use Rattle.desk.specs.Visits.{Visited}
use Rattle.desk.specs.OwnEntries.{added, placed}
use Rattle.route_desk.specs.declared.step.Step.{Step}
use Rattle.route_desk.specs.History.{Makes, Leads, Standing, IsFull, IsUnmade, Steps, Stepped}

-- one step more
pub leads_on : (first : Table) (past : List Step) (table : Table) (step : Step) (after : Table) → Leads first past table → Makes table step after
    → Leads first (past ++ step ∷ []) after
leads_on first [] table step after leads makes = (after, subst (λ (t : Table). Makes t step after) leads makes, refl)
leads_on first (s ∷ past) table step after (m, made, leads) makes = (m, made, leads_on m past table step after leads makes)

added_one : (past : List Step) (step : Step) → added past (past ++ step ∷ []) ≡ (length past, step) ∷ []
added_one past step = ap (λ (xs : List Step). placed (length past) xs) (drop-append_seam past (step ∷ []))

added_none : (past : List Step) → added past past ≡ []
added_none past = ap (λ (xs : List Step). placed (length past) xs) (drop-length past)

pub appends : (b b' : Standing) (step : Step) → Steps b step b' → IsPrefix b.past b'.past
appends b b' step (inl noted) = (step ∷ [], sym noted.past)
appends b b' step (inr unmade) = ([], append-nil b.past ∙ sym (ap (λ (s : Standing). s.past) unmade.same))

-- a step that can't be noted isn't made
pub not_made : (b : Standing) (step : Step) → IsFull b.past → Leads b.first b.past b.table → IsUnmade b.table step → Steps b step b
not_made b step full leads says = inr (record { full = full; leads = leads; says = says; same = refl })

-- what a visit with a step tells
pub stepped : (p q : PassState Step Table) (b b' : Standing) (step : Step) → Steps b step b'
    → Visited (λ (s : Standing). s.past) (λ (s : Standing). s.first) (λ (s : Standing). 0) p q b b' → Stepped p step q
stepped p q b b' step (inl noted) visited = inl (record {
  first = b.first;
  past = b.past;
  table = b.table;
  after = b'.table;
  base = visited.found_base;
  begins = visited.begins;
  whole = visited.whole;
  leads = noted.leads;
  makes = noted.makes;
  seen = visited.seen ∙ noted.past;
  mine = visited.mine ∙ (ap (λ (xs : List Step). p.mine ++ added b.past xs) noted.past ∙ ap (λ xs. p.mine ++ xs) (added_one b.past step));
  same = visited.same;
})
stepped p q b b' step (inr unmade) visited =
    let seen : q.seen ≡ b.past = visited.seen ∙ ap (λ (s : Standing). s.past) unmade.same in inr (record {
      first = b.first;
      table = b.table;
      base = visited.found_base;
      begins = subst (λ (xs : List Step). IsPrefix p.seen xs) (sym seen) visited.begins;
      whole = λ alone. seen ∙ visited.whole alone;
      full = subst (λ (xs : List Step). IsFull xs) (sym seen) unmade.full;
      leads = subst (λ (xs : List Step). Leads b.first xs b.table) (sym seen) unmade.leads;
      says = unmade.says;
      mine = visited.mine
          ∙ (ap (λ (s : Standing). p.mine ++ added b.past s.past) unmade.same ∙ (ap (λ xs. p.mine ++ xs) (added_none b.past) ∙ append-nil p.mine));
      same = visited.same;
    })
