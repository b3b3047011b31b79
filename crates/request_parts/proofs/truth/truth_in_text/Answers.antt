use Rattle.std.proofs.Common.{◌≡◌, [], ◌∷◌, length, Some, List, sym, ap, subst, ◌∙◌}
use Rattle.json.specs.Token.{Token}
use Rattle.json.specs.Lex.{tokens}
use Rattle.json.specs.Reads.{token_of}
use Rattle.serde_json.specs.Data.{no_members}
use Rattle.request_parts.proofs.Truths.{members_at, truth_of_text}
use Rattle.request_parts.proofs.truth.truth_in_text.Goals as goal

pub returns-in-None : goal.returns-in-None
returns-in-None c =
    let (ms, all, found) = c.in_ok-found.ensures in
    let first : c.in-Ok.reader ≡ token_of c.in-Some-BeginObject.field-0 ∷ c.next.new.self = c.in-Some-BeginObject.ensures.value in
    let begins : tokens c.args.text.now ≡ Token.begin_object ∷ c.next.new.self =
    sym c.in-Ok.ensures.ok ∙ first ∙ ap (λ t. token_of t ∷ c.next.new.self) c.in-Some-BeginObject.field-0-is in
    let none : c.truth_of_members.new.reader ≡ [] = c.in-None.ensures.value.0 in
    found ∙ truth_of_text c.args.text.now c.args.key.now c.next.new.self ms begins
    (subst (λ (ts : List Token). members_at 126 (length c.next.new.self) no_members c.next.new.self ≡ Some (ms, ts)) none all)
