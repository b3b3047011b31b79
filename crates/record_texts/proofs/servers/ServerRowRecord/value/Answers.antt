use Rattle.std.proofs.Common.{rules, ap, codes, ◌∙◌}
use Rattle.serde_json.specs.Data.{object, put}
use Rattle.record_texts.specs.Fields.{whole, maybe}
use Rattle.record_texts.proofs.servers.ServerRowRecord.value.Goals as goal

pub returns-clause-shape : goal.returns-clause-shape
returns-clause-shape c =
    let created = c.in_ok-number.ensures ∙ (λ i. put (codes "created") (whole (c.seconds.ensures.value i)) (c.new.ensures i)) in
    let last_activity = c.in_ok-maybe_number.ensures.members ∙ ap (put (codes "last_activity") (maybe whole c.args.self.now.last_activity)) created in
    let started = c.in_ok-fields.ensures.members ∙ ap (put (codes "started") (maybe whole c.args.self.now.started)) last_activity in
    c.into_object.ensures ∙ ap object started

pub returns-clause-valid : goal.returns-clause-valid
returns-clause-valid c = search rules
