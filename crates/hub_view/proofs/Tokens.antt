-- The tokens of a text, of a list and of an object.
use Rattle.std.proofs.Common.{◌≡◌, ℕ, Bool, List, Vec, Global, sym, ap, ◌∙◌}
use Rattle.hub_kit.specs.MomentTexts.{moment_text}
use Rattle.hub_view.specs.Json.{Json, nothing, line, whole, truth, items, pairs}
use Rattle.hub_view.specs.Body.{body_step, body_tokens, bodies, members}
use Rattle.hub_view.specs.Words.{word_text}
use Rattle.hub_view.specs.declared.body.Body.{Body}
use Rattle.hub_view.specs.declared.body.Body.TheOpen.{Body-F}
use Rattle.hub_view.specs.declared.body.Body.TheVariants.{Null, Truth, Number, Fixed, At, Line, Items, Pairs, Record, rolls-Null, rolls-Truth, rolls-Number, rolls-Fixed, rolls-At, rolls-Line, rolls-Items, rolls-Pairs, rolls-Record}
use Rattle.hub_view.specs.declared.body.Body.TheFolds.{fold-roll-Body}
use Rattle.hub_view.specs.declared.word.Word.{Word}

pub tokens_of_line : (text : List ℕ) → body_tokens (Line text) ≡ line text
tokens_of_line text = ap body_tokens (sym (rolls-Line text)) ∙ fold-roll-Body Json body_step (Body-F.Line text)

pub tokens_of_items : (list : Vec Body Global) → body_tokens (Items list) ≡ items (bodies list.items)
tokens_of_items list = ap body_tokens (sym (rolls-Items list)) ∙ fold-roll-Body Json body_step (Body-F.Items list)

pub tokens_of_pairs : (fields : Vec (List ℕ × Body) Global) → body_tokens (Pairs fields) ≡ pairs (members fields.items)
tokens_of_pairs fields = ap body_tokens (sym (rolls-Pairs fields)) ∙ fold-roll-Body Json body_step (Body-F.Pairs fields)

pub tokens_of_record : (fields : Vec (List ℕ × Body) Global) → body_tokens (Record fields) ≡ pairs (members fields.items)
tokens_of_record fields = ap body_tokens (sym (rolls-Record fields)) ∙ fold-roll-Body Json body_step (Body-F.Record fields)

pub tokens_of_fixed : (w : Word) → body_tokens (Fixed w) ≡ line (word_text w)
tokens_of_fixed w = ap body_tokens (sym (rolls-Fixed w)) ∙ fold-roll-Body Json body_step (Body-F.Fixed w)

pub tokens_of_at : (m : ℕ) → body_tokens (At m) ≡ line (moment_text m)
tokens_of_at m = ap body_tokens (sym (rolls-At m)) ∙ fold-roll-Body Json body_step (Body-F.At m)

pub tokens_of_number : (n : ℕ) → body_tokens (Number n) ≡ whole n
tokens_of_number n = ap body_tokens (sym (rolls-Number n)) ∙ fold-roll-Body Json body_step (Body-F.Number n)

pub tokens_of_truth : (b : Bool) → body_tokens (Truth b) ≡ truth b
tokens_of_truth b = ap body_tokens (sym (rolls-Truth b)) ∙ fold-roll-Body Json body_step (Body-F.Truth b)

pub tokens_of_null : body_tokens Null ≡ nothing
tokens_of_null = ap body_tokens (sym rolls-Null) ∙ fold-roll-Body Json body_step Body-F.Null
