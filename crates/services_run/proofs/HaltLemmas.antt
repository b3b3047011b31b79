-- No service is Up after the end, and a round keeps what never changes.
use Rattle.std.proofs.Common.{◌≡◌, ◌≢◌, ◌<◌, ◌^◌, ℕ, ◌+◌, Bool, true, false, nat_eq, List, length, Option, Some, slice_get, slice_set, refl, sym, ap, ◌∙◌, subst, arith}
use Rattle.std.proofs.lemmas.Bool.Decides.{nat_tests}
use Rattle.std.proofs.lemmas.List.{length-map}
use Rattle.services_run.specs.Calls.{RunCall, PathCall}
use Rattle.services_run.specs.declared.place.State.{State}
use Rattle.services_run.specs.declared.place.State.TheVariants.{Down, Up, Loose, GivenUp}
use Rattle.services_run.specs.declared.place.Place.{Place}
use Rattle.services_run.specs.declared.place.Turn.{Turn}
use Rattle.services_run.specs.declared.place.Tended.{Tended}
use Rattle.services_run.specs.Rules.{Answers, Rule, halting, Visited, freed, halt_turn}
use Rattle.services_run.specs.Rounds.{World, put_turn, moves_from, fresh, Rounded}
use Rattle.services_run.specs.Law.{label, labels, HasDistinctNames, HasPaths}
use Rattle.services_run.specs.Book.{IsBook, NoneUp}
use Rattle.services_run.proofs.LawLemmas.{some_same, get_set, get_other, labels_run}

freed_down : (g h : ℕ) (delete stop : Bool) → freed delete stop g ≢ Up h
freed_down g h true true e = cc
freed_down g h true false e = cc
freed_down g h false stop e = cc

halt_down_all : (a : Answers) (last tries h : ℕ) (s : State) → (halt_turn a last tries s).state ≢ Up h
halt_down_all a last tries h Down e = cc
halt_down_all a last tries h (Up g) e = freed_down g h a.delete a.stop e
halt_down_all a last tries h (Loose g) e = freed_down g h a.delete a.stop e
halt_down_all a last tries h GivenUp e = cc

pub halted_down : (last : ℕ) (p : Place) (t : Turn) (r r' : Option (List RunCall)) (q q' : Option (List PathCall)) (h : ℕ)
    → Visited halting last p t r r' q q' → t.state ≢ Up h
halted_down last p t r r' q q' h v e = halt_down_all v.answers last p.tries h p.state (sym (ap (λ (u : Turn). u.state) v.turn_is) ∙ e)

by_place : (ps : List Place) (n i : ℕ) (p x : Place) (t : Turn) (g : ℕ) (b : Bool) → nat_eq i n ≡ b → slice_get ps n ≡ Some p → NoneUp ps n
    → ((h : ℕ) → t.state ≢ Up h) → i < n + 1 → slice_get (slice_set ps n (put_turn p t)) i ≡ Some x → x.state ≢ Up g
by_place ps n i p x t g true e here none down within hx up =
    let at : i ≡ n = grind (arith, nat_tests) in
    let is : put_turn p t ≡ x = some_same (put_turn p t) x (sym (get_set ps n (put_turn p t) n p here) ∙ (ap (slice_get (slice_set ps n (put_turn p t))) (sym at) ∙ hx)) in
    down g (ap (λ (y : Place). y.state) is ∙ up)
by_place ps n i p x t g false e here none down within hx up =
    let away : i ≢ n = grind (arith, nat_tests) in
    let below : i < n = grind (arith, nat_tests) in
    none i x g below (sym (get_other ps n i (put_turn p t) away) ∙ hx) up

pub none_up_more : (ps : List Place) (n : ℕ) (p : Place) (t : Turn) → slice_get ps n ≡ Some p → NoneUp ps n → ((h : ℕ) → t.state ≢ Up h)
    → NoneUp (slice_set ps n (put_turn p t)) (n + 1)
none_up_more ps n p t here none down i x g within hx = by_place ps n i p x t g (nat_eq i n) refl here none down within hx

pub book_stays : (rule : Rule) (old new : List Place) (last last' n : ℕ) (r r' : Option (List RunCall)) (q q' : Option (List PathCall)) (tally : Tended)
    → Rounded rule old last r q n new last' tally r' q' → IsBook (record { places = old; last = last }) → IsBook (record { places = new; last = last' })
book_stays rule old new last last' n r r' q q' tally so book =
    let same : labels old ≡ labels new =
    sym (labels_run (fresh old last) (moves_from 0 rule so.answers)) ∙ ap (λ (w : World). labels w.places) so.is in
    let size : length old ≡ length new = sym (length-map old label) ∙ (ap length same ∙ length-map new label) in record {
      few = subst (λ (k : ℕ). k < 2 ^ 32) size book.few;
      distinct = subst HasDistinctNames same book.distinct;
      paths = subst HasPaths same book.paths;
    }
