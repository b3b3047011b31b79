use Rattle.std.proofs.Common.{sym, ap, codes, ◌∙◌}
use Rattle.serde_json.specs.Data.{string, object, member, no_members, put}
use Rattle.record_texts.specs.Fields.{whole}
use Rattle.key_texts.specs.KeyTexts.{server_text}
use Rattle.record_texts.specs.Servers.{with_generation}
use Rattle.record_texts.proofs.servers.LeaseRecord.value.Goals as goal

pub returns-in_ok-number-in-Some-clause-shape : goal.returns-in_ok-number-in-Some-clause-shape
returns-in_ok-number-in-Some-clause-shape c =
    let server = c.in_ok-fields.ensures.members ∙ ap (put (codes "server") (string (server_text c.args.self.now.server))) c.new.ensures in
    let generation = c.in_ok-number-in-Some.ensures ∙ ap (put (codes "generation") (whole c.in-Some.generation)) server in
    c.into_object.ensures ∙ ap object generation ∙ ap (λ o. object (with_generation o (member (codes "server") (string (server_text c.args.self.now.server)) no_members))) (sym c.in-Some.is)

pub returns-in-None-clause-shape : goal.returns-in-None-clause-shape
returns-in-None-clause-shape c =
    let server = c.in_ok-fields.ensures.members ∙ ap (put (codes "server") (string (server_text c.args.self.now.server))) c.new.ensures in
    c.into_object-in-None.ensures ∙ ap object server ∙ ap (λ o. object (with_generation o (member (codes "server") (string (server_text c.args.self.now.server)) no_members))) (sym c.in-None.is)
