-- The visit with an outcome.
use Rattle.std.proofs.Common.{◌≡◌, ◌≢◌, ℕ, ◌+◌, ◌≤◌, Bool, true, false, ltb, if◌then◌else◌, List, [], ◌∷◌, ◌++◌, length, drop, Option, Some, Result, Ok, Err, refl, sym, ap, ◌∙◌, subst, arith}
use Rattle.std.proofs.Math.Seq.{drop-append_seam, drop-length}
use Rattle.std.proofs.lemmas.List.{append-nil, length_push}
use Rattle.std.proofs.lemmas.Bool.{le-ltb}
use mathlib.Core.List.{IsPrefix}
use Rattle.desk.specs.Passes.{PassState}
use Rattle.desk.specs.OwnEntries.{placed}
use Rattle.desk.specs.Visits.{Visited}
use Rattle.server_life.specs.declared.life.LifeEvent.{LifeEvent}
use Rattle.server_life.specs.declared.life.LifeRefusal.{LifeRefusal}
use Rattle.server_life.specs.declared.life.Todo.TheVariants.{Nothing}
use Rattle.server_work.specs.declared.book.Lived.{Lived}
use Rattle.server_work.specs.LifeSteps.{Lives}
use Rattle.server_work.specs.Outcomes.{todo_of}
use Rattle.server_work.specs.LifeVisits.{LifeVisited}
use Rattle.server_work.specs.Chains.{Sight, sight}
use Rattle.server_work.specs.Taken.{Took}

pub same_sight : {E : Type 0} {h k : List E} {m n : ℕ} → h ≡ k → m ≡ n → ◌≡◌ {A = Sight E} (record { entries = h; faults = m }) (record { entries = k; faults = n })
same_sight a b = cc (a, b)

pub taken : {B E A : Type 0} (entries : B → List E) (base : B → A) (faults : B → ℕ) (lives : B → Lives)
    (reached : Option A → List E → Lives → Type 0) (notes : E → ℕ → LifeEvent → Type 0)
    (p q : PassState E A) (b b' : B) (g : ℕ) (outcome : LifeEvent) (r : Result Lived LifeRefusal)
    → todo_of outcome ≢ Nothing
    → reached (Some (base b)) (entries b) (lives b) → reached (Some (base b')) (entries b') (lives b')
    → LifeVisited notes (entries b) (entries b') (lives b) (lives b') (faults b) (faults b') g outcome r
    → Visited entries base faults p q b b'
    → Took reached notes p q g outcome r
taken {B} {E} {A} entries base faults lives reached notes p q b b' g outcome (Ok l) some at later v d = record {
  step = record { found = record { entries = entries b; faults = faults b }; lives = lives b; entry = v.entry; outcome = outcome; made = v.made; owes = l.todo; kept = l.kept; after = lives b'; faults = faults b' };
  of = refl;
  owes = refl;
  kept = refl;
  longer = v.longer ∙ (ap length v.appends ∙ length_push (entries b) v.entry);
  comes = (d.begins, d.known, λ alone. same_sight (d.whole alone) (d.exact alone));
  is = record {
    some = some;
    of = refl;
    at = subst (λ (o : Option A). reached o (entries b) (lives b)) (sym d.found_base) at;
    takes = (v.taken, v.takes);
    row = v.row;
    left = v.left;
    later = subst (λ (h : List E). reached p.base h (lives b')) v.appends
        (subst (λ (o : Option A). reached o (entries b') (lives b')) (sym (d.found_base ∙ ap Some (sym d.left_base))) later);
    entry = v.notes_it;
    kept = v.kept;
    grown = d.grown;
  };
  same = d.same;
  seen = same_sight (d.seen ∙ v.appends) d.count;
  mine = d.mine ∙ ap (λ h. p.mine ++ placed (length (entries b)) h)
      (ap (λ h. drop (length (entries b)) h) v.appends ∙ drop-append_seam (entries b) (v.entry ∷ []));
  failed = d.failed;
}
taken {B} {E} {A} entries base faults lives reached notes p q b b' g outcome (Err e) some at later v d = record {
  refused = record {
    lives = lives b;
    error = e;
    comes = (
      subst (λ (h : List E). IsPrefix p.seen h) (sym (d.seen ∙ v.0)) d.begins,
      omega (arith, d.known, d.count, v.1),
      λ alone. same_sight ((d.seen ∙ v.0) ∙ d.whole alone) ((d.count ∙ v.1) ∙ d.exact alone),
    );
    at = subst (λ (h : List E). reached p.base h (lives b)) (sym (d.seen ∙ v.0))
        (subst (λ (o : Option A). reached o (entries b) (lives b)) (sym d.found_base) at);
    row = v.2;
  };
  same = d.same;
  mine = d.mine ∙ (ap (λ h. p.mine ++ placed (length (entries b)) h)
      (ap (λ h. drop (length (entries b)) h) v.0 ∙ drop-length (entries b)) ∙ append-nil p.mine);
  failed =
      let none : ◌≡◌ {A = ℕ} (if ltb (faults b) (faults b') then 1 else 0) 0 = ap {B = ℕ} (λ (t : Bool). if t then 1 else 0) (le-ltb (faults b) (faults b') (omega (arith, v.1))) in
      omega (arith, d.failed, none);
}
