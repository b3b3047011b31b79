use Rattle.std.proofs.Common.{sym, ap, codes, ◌∙◌}
use Rattle.serde_json.specs.Find.{get}
use Rattle.key_texts.proofs.Results.{absent}
use Rattle.record_texts.proofs.Leases.{lease_server, lease_generation}
use Rattle.record_texts.proofs.servers.LeaseRecord.find.Goals as goal

pub returns-in_err-target : goal.returns-in_err-target
returns-in_err-target c r valid key shape =
    let held = c.both-held.ensures r.target r.server (c.of_text.ensures r.target valid.target key) (c.text_at.ensures r.server valid.server (ap (get (codes "server")) (sym shape) ∙ lease_server r)) in
    let generation = c.lacking_number_at.ensures r.generation valid.generation (ap (get (codes "generation")) (sym shape) ∙ lease_generation r) in
    absent _ _ ((r.target, r.server), r.generation) r c.from_residual.ensures.1 (c.in_err-target.ensures (r.target, r.server) r.generation held generation)

pub returns : goal.returns
returns c r valid key shape =
    let held = c.both-held.ensures r.target r.server (c.of_text.ensures r.target valid.target key) (c.text_at.ensures r.server valid.server (ap (get (codes "server")) (sym shape) ∙ lease_server r)) in
    let generation = c.lacking_number_at.ensures r.generation valid.generation (ap (get (codes "generation")) (sym shape) ∙ lease_generation r) in
    let all = c.in_ok-target.ensures (r.target, r.server) r.generation held generation in
    λ i. record {
      target = (all i).0.0;
      server = (all i).0.1;
      generation = (all i).1;
    }
