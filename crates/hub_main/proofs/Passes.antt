-- What the one pass of a session leaves.
use Rattle.std.proofs.Common.{◌≡◌, ◌≤◌, ◌∙◌, inl, inr, ℕ, true, IsTrue, List, [], Option, Some, Result, Ok, Err, refl, sym, ap, subst, arith}
use Rattle.atomic_table.specs.Seated.{TableId}
use Rattle.desk.specs.Passes.{PassState, opening}
use Rattle.http_wire.specs.declared.error.SessionFault.{SessionFault}
use Rattle.keeper.specs.Rows.{Rows}
use Rattle.server_work.specs.declared.adopt.Adopted.{Adopted}
use Rattle.hub_core.specs.Visits.{Entry, Reached, Standing, entries_of}
use Rattle.hub_core.specs.declared.start.Start.{Start}
use Rattle.hub_machine.specs.KeptRows.{Keeps}
use Rattle.hub_run.specs.Connections.{ConnectionEnds, Known}
use Rattle.hub_run.specs.Turns.{View}
use Rattle.hub_run.specs.declared.served.Served.{Served}
use Rattle.hub_run.proofs.CountLemmas.{ends_grow}
use Rattle.hub_adopt.specs.Adopting.{TakesBack}
use Rattle.hub_main.specs.Told.{Sides, IsQuiet}
use Rattle.hub_main.specs.Ends.{End}
use Rattle.hub_main.specs.Served.{SessionEndsBy, SessionEndsOver, IsServed, PassEnds, kit_in, known_at, view_with}
use Rattle.hub_main.specs.declared.cause.Cause.TheVariants.{Memory}
use Rattle.hub_main.proofs.Commands.{still}

pub served : (start : Start) (x ready y : View) (told : Adopted) (s s' : Sides) (end : Result Served SessionFault) → TakesBack start x told ready
    → ConnectionEnds start (known_at ready s) (known_at y s') end → s'.kit ≡ kit_in y → IsServed start x y s s' end
served start x ready y told s s' end takes connection kit =
    record { told = told; ready = ready; takes = takes; connection = connection; kit = kit }

-- what a pass knows of faults doesn't fall, neither before nor in its connection
pub pass_grows : (start : Start) (before : ℕ) (x y : Known) (end : Result Served SessionFault)
    → before ≤ x.view.pass.faults → ConnectionEnds start x y end → before ≤ y.view.pass.faults
pass_grows start before x y end less ends =
    let grown = ends_grow start x y end ends in omega (arith, less, grown)

same_start : (base : Option Start) (found start : Start) → base ≡ Some found → base ≡ Some start → found ≡ start
same_start base found start first second = cc

-- the book that a pass closed stands in the state that these entries left
pub last_state : (start : Start) (base : Option Start) (entries : List Entry) (book : Standing) → base ≡ Some book.start → base ≡ Some start
    → entries_of book ≡ entries → Reached book.start (entries_of book) book.hub → Reached start entries book.hub
last_state start base entries book found given seen reached =
    subst (λ (b : Start). Reached b entries book.hub) (same_start base book.start start found given)
    (subst (λ (h : List Entry). Reached book.start h book.hub) seen reached)

module _ {K : Type 0} (Tells : K → Type 0) (rows : K → Rows) (faults : K → ℕ) where
  -- the pass ended at the view `last`, and its book was closed
  pub ends_by : (pass : PassState Entry Start) (start : Start) (now : ℕ) (s s' : Sides) (k' : K) (end : End) (last : View) (book : Standing)
      → PassEnds start (view_with pass now s.kit) last s s' end → last.pass.base ≡ Some book.start → last.pass.base ≡ Some start
      → entries_of book ≡ last.pass.seen → Reached book.start (entries_of book) book.hub → (Tells k' → Keeps (rows k') book.hub.tables)
      → faults k' ≡ last.pass.faults → SessionEndsBy Tells rows faults pass start now s s' k' end
  ends_by pass start now s s' k' end last book ends found given seen reached kept count = record {
    last = last;
    ends = ends;
    kept = record { state = book.hub; reached = last_state start last.pass.base last.pass.seen book found given seen reached; kept = kept };
    count = count;
  }

  -- the first pass of a book without entries
  pub over_opened : (book : Standing) (now : ℕ) (s s' : Sides) (k' : K) (end : End) (table : TableId) (pass : PassState Entry Start)
      → pass ≡ opening table book.start (entries_of book) book.faults → entries_of book ≡ []
      → ((start : Start) → pass.base ≡ Some start → SessionEndsBy Tells rows faults pass start now s s' k' end)
      → SessionEndsOver Tells rows faults book.start book.faults now s s' k' end
  over_opened book now s s' k' end table pass first none ends =
      let first' : pass ≡ opening table book.start [] book.faults = first ∙ ap (λ (h : List Entry). opening table book.start h book.faults) none in
      inr (
        table,
        subst (λ (p : PassState Entry Start). SessionEndsBy Tells rows faults p book.start now s s' k' end) first'
            (ends book.start (ap (λ (p : PassState Entry Start). p.base) first')),
      )

  -- no memory for a pass
  pub untouched : (book back : Standing) (now : ℕ) (s : Sides) (k' : K) → back ≡ book → entries_of book ≡ []
      → Reached back.start (entries_of back) back.hub → (Tells k' → Keeps (rows k') back.hub.tables)
      → SessionEndsOver Tells rows faults book.start book.faults now s s k' (Err Memory)
  untouched book back now s k' same none reached kept = inl (
    refl,
    record {
      kept = record {
        state = back.hub;
        reached = subst (λ (h : List Entry). Reached book.start h back.hub) none
            (subst (λ (b : Standing). Reached b.start (entries_of b) back.hub) same reached);
        kept = kept;
      };
      quiet = still s;
    },
  )
