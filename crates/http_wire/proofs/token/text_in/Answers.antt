use Rattle.std.proofs.Common.{◌≡◌, Bool, true, false, if◌then◌else◌, List, ℕ, Some, None, ◌∙◌, ap, inl, inr}
use Rattle.std.specs.Str.{is_utf8}
use Rattle.std.proofs.lemmas.Bool.{cases_Bool}
use Rattle.std.proofs.lemmas.Str.{is_utf8-from_IsUtf8, IsUtf8-from_is_utf8}
use Rattle.http_wire.proofs.token.text_in.Goals as goal

some_if : (b : Bool) (bytes : List ℕ) → b ≡ true → Some bytes ≡ (if b then Some bytes else None)
some_if b bytes is = rw is

none_if : (b : Bool) (bytes : List ℕ) → b ≡ false → None ≡ (if b then Some bytes else None)
none_if b bytes is = rw is

pub returns-in-Ok : goal.returns-in-Ok
returns-in-Ok c =
    ap Some c.in-Ok.ensures.cases.0 ∙ some_if (is_utf8 c.args.bytes.now) c.args.bytes.now (is_utf8-from_IsUtf8 c.args.bytes.now c.in-Ok.ensures.cases.1)

pub returns-in-Err : goal.returns-in-Err
returns-in-Err c =
    elim (cases_Bool (is_utf8 c.args.bytes.now)) [
      | inl is ↦ absurd (c.in-Err.ensures.cases.0 (IsUtf8-from_is_utf8 c.args.bytes.now is))
      | inr isnt ↦ none_if (is_utf8 c.args.bytes.now) c.args.bytes.now isnt
    ]
