use Rattle.std.proofs.Common.{refl, ◌≡◌, arith, sym, get_or, slice_set, length-set, ap, ◌∙◌}
use Rattle.std.proofs.lemmas.List.{get_or_default}
use Rattle.services_run.specs.declared.place.Place.{Place}
use Rattle.services_run.specs.Rounds.{put_turn}
use Rattle.services_run.proofs.RoundLemmas.{Rounded_none, Rounded_more, Rounded_as, get_there}
use Rattle.services_run.proofs.rounds.tend_all.Goals as goal

pub visits-init : goal.visits-init
visits-init g c = record {
  size = refl;
  within = omega arith;
  few = omega arith;
  so = Rounded_none _ _ _ _ _;
  runs = omega arith;
  paths = omega arith;
}

pub visits-preserved : goal.visits-preserved
visits-preserved g c =
    let p = get_or c.visits.places c.visits.at c.index-places-at.result in
    let same : put_turn (get_or c.visits.places c.visits.at c.index-places-at-in-visits.result) c.tend_one-turn.result ≡ put_turn p c.tend_one-turn.result =
    ap (λ (x : Place). put_turn x c.tend_one-turn.result)
    (get_or_default c.visits.places c.visits.at c.index-places-at-in-visits.result c.index-places-at.result c.visits-test.true) in record {
      size = length-set c.visits.places c.visits.at c.put.new.place ∙ c.visits.invariant.size;
      within = omega (arith, length-set c.visits.places c.visits.at c.put.new.place, c.visits-test.true);
      few = omega (arith, c.count-tally.ensures.more, c.visits.invariant.few);
      so =
          Rounded_as _ _ _ _ _ _ _ _ _ _ _ _ _ (ap (slice_set c.visits.places c.visits.at) (sym (c.put.ensures ∙ same))) (sym c.count-tally.ensures.is)
          (Rounded_more _ _ _ _ _ _ _ _ _ c.visits.at c.visits.places _ c.visits.tally p c.tend_one-turn.result c.visits.invariant.so
          (get_there c.visits.places c.visits.at c.index-places-at.result c.visits-test.true) c.tend_one-turn.ensures.visited);
      runs = omega (arith, c.visits.invariant.runs, c.tend_one-turn.ensures.runs);
      paths = omega (arith, c.visits.invariant.paths, c.tend_one-turn.ensures.paths);
    }
