use Rattle.serde_json.specs.Data.{string}
use Rattle.key_texts.specs.KeyTexts.{server_text}
use Rattle.record_texts.specs.Fields.{maybe}
use Rattle.record_texts.proofs.KnownForms.{middle_is}
use Rattle.record_texts.proofs.known_form.cut_middle.Goals as goal

pub returns-clause-text : goal.returns-clause-text
returns-clause-text c =
    middle_is (string c.in-Some.hash.now) (maybe (λ key. string (server_text key)) c.in-Some-cut_maybe_server.issued_for) (string c.in-Some-cut_string.note.now) _ _ _ _ _ _ _
    c.in_ok-text.ensures c.in-Some.ensures c.in_ok-text-2.ensures c.in-Some-cut_maybe_server.ensures.0 c.in_ok-text-3.ensures c.in-Some-cut_string.ensures
