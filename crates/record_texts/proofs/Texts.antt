-- The compact text of plain data reads back as that data.
use Rattle.std.proofs.Common.{Bool, false, ◌||◌, ◌≡◌, ℕ, List, [], ◌++◌, Some, option_map, option_and_then, refl, sym, ap, ◌∙◌, arith, append-nil}
use Rattle.json.specs.Lex.{tokens}
use Rattle.json.specs.Json as json
use Rattle.json.specs.Print.{print}
use Rattle.json.specs.Tree as tree
use Rattle.json.specs.Tree.{json_tokens}
use Rattle.json.proofs.Printed.Decimals.{IsNumber-decimal}
use Rattle.json.proofs.Printed.Tokens.{tokens-print}
use Rattle.json.proofs.Printed.Trees.{value-json_tokens, ArePrintable-json_tokens}
use Rattle.serde_json.specs.Data.{Num, unsigned, negative, float, Data, null, boolean, number, string, array, object, Items, no_items, item, Members, no_members, member, put}
use Rattle.serde_json.specs.Read.{of_json, of_items, of_members, read, max_depth}
use Rattle.serde_json.specs.Written.{outline, items_outline, members_outline, has_float, items_have_float, members_have_float, compact_text}
use Rattle.serde_json.proofs.Numbers.{number_of-decimal}
use Rattle.serde_json.proofs.Texts.{print-outline}
use Rattle.record_texts.specs.Plain.{rebuilt, IsWhole, IsPlain, ItemsArePlain, MembersArePlain, IsRecordData}
use Rattle.record_texts.specs.Rows.{row_with}
use Rattle.keeper.specs.declared.keeper.Row.{Row}

number_outline : (n : Num) → IsWhole n → of_json (outline (number n)) ≡ Some (number n)
number_outline (unsigned n) h = ap (option_map number) (number_of-decimal n h)
number_outline (negative z) h = absurd h
number_outline (float x) h = absurd h

mutual
  of_json-outline : (d : Data) → IsPlain d → of_json (outline d) ≡ Some d
  of_json-outline null h = refl
  of_json-outline (boolean b) h = refl
  of_json-outline (number n) h = number_outline n h
  of_json-outline (string s) h = refl
  of_json-outline (array ds) h = ap (option_map array) (of_items-outline ds h)
  of_json-outline (object ms) h = ap (option_map object) (of_members-outline ms no_members h.1 ∙ ap Some h.0)

  of_items-outline : (ds : Items) → ItemsArePlain ds → of_items (items_outline ds) ≡ Some ds
  of_items-outline no_items h = refl
  of_items-outline (item d ds) h = rw (of_json-outline d h.0, of_items-outline ds h.1) refl

  of_members-outline : (ms found : Members) → MembersArePlain ms → of_members (members_outline ms) found ≡ Some (rebuilt found ms)
  of_members-outline no_members found h = refl
  of_members-outline (member k d ms) found h = rw (of_json-outline d h.0) (of_members-outline ms (put k d found) h.1)

has_number : (n : Num) → IsWhole n → tree.HasNumbers (outline (number n))
has_number (unsigned n) h = IsNumber-decimal n h
has_number (negative z) h = absurd h
has_number (float x) h = absurd h

mutual
  has_numbers : (d : Data) → IsPlain d → tree.HasNumbers (outline d)
  has_numbers null h = tt
  has_numbers (boolean b) h = tt
  has_numbers (number n) h = has_number n h
  has_numbers (string s) h = tt
  has_numbers (array ds) h = items_have_numbers ds h
  has_numbers (object ms) h = members_have_numbers ms h.1

  items_have_numbers : (ds : Items) → ItemsArePlain ds → tree.ItemsHaveNumbers (items_outline ds)
  items_have_numbers no_items h = tt
  items_have_numbers (item d ds) h = (has_numbers d h.0, items_have_numbers ds h.1)

  members_have_numbers : (ms : Members) → MembersArePlain ms → tree.MembersHaveNumbers (members_outline ms)
  members_have_numbers no_members h = tt
  members_have_numbers (member k d ms) h = (has_numbers d h.0, members_have_numbers ms h.1)

pub read_compact : (d : Data) → IsRecordData d → read (compact_text d) ≡ Some d
read_compact d h =
    let j = outline d in
    let lexed : tokens (print (json_tokens j)) ≡ json_tokens j = tokens-print (json_tokens j) (ArePrintable-json_tokens j (has_numbers d h.0)) in
    let parsed : json.value max_depth (json_tokens j ++ []) ≡ Some (j, []) = value-json_tokens j max_depth [] (omega (arith, h.1)) in
    ap read (sym (print-outline d))
    ∙ ap (λ ts. option_and_then of_json (option_and_then (λ p. json.if_last p.0 p.1) (json.value max_depth ts))) (lexed ∙ sym (append-nil (json_tokens j)))
    ∙ ap (λ o. option_and_then of_json (option_and_then (λ p. json.if_last p.0 p.1) o)) parsed
    ∙ of_json-outline d h.0

either : (a b : Bool) → a ≡ false → b ≡ false → (a || b) ≡ false
either a b p q = rw (p, q) refl

no_float : (n : Num) → IsWhole n → has_float (number n) ≡ false
no_float (unsigned n) h = refl
no_float (negative z) h = absurd h
no_float (float x) h = absurd h

mutual
  pub plain-no_float : (d : Data) → IsPlain d → has_float d ≡ false
  plain-no_float null h = refl
  plain-no_float (boolean b) h = refl
  plain-no_float (number n) h = no_float n h
  plain-no_float (string s) h = refl
  plain-no_float (array ds) h = items_no_float ds h
  plain-no_float (object ms) h = members_no_float ms h.1

  items_no_float : (ds : Items) → ItemsArePlain ds → items_have_float ds ≡ false
  items_no_float no_items h = refl
  items_no_float (item d ds) h = either (has_float d) (items_have_float ds) (plain-no_float d h.0) (items_no_float ds h.1)

  members_no_float : (ms : Members) → MembersArePlain ms → members_have_float ms ≡ false
  members_no_float no_members h = refl
  members_no_float (member k d ms) h = either (has_float d) (members_have_float ms) (plain-no_float d h.0) (members_no_float ms h.1)

-- what the text of a record's row reads as
pub row_reads : (kind : ℕ) (key : List ℕ) (d : Data) (row : Row) → IsRecordData d → row ≡ row_with kind key d → read row.text ≡ Some d
row_reads kind key d row plain h = ap (λ (r : Row). read r.text) h ∙ read_compact d plain
