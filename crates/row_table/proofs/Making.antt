-- What the texts that make a store mean.
use Rattle.std.proofs.Common.{◌≡◌, ℕ, pos, negsuc, List, [], ◌∷◌, Bool, true, false, None, codes, Ok, refl, take, drop}
use Rattle.sqlite_tied.specs.Compute.{everything}
use Rattle.sqlite.specs.Batch.{first_len}
use Rattle.sqlite.specs.Collation.TheVariants.{Binary}
use Rattle.sqlite.specs.Command.TheVariants.{CreateTable, Insert, Update}
use Rattle.sqlite.specs.Compile.{table_defined_by}
use Rattle.sqlite.specs.Listing.{understood}
use Rattle.sqlite.specs.Query.{Query, inner, end}
use Rattle.sqlite.specs.Source.TheVariants.{Values}
use Rattle.sqlite.specs.Term.{Term, lit, col, op2}
use Rattle.sqlite.specs.declared.types.Value.TheVariants.{Null, Int, Text}
use Rattle.sqlite.proofs.Callers.{IsPlain, command_of, statement_of}
use Rattle.sqlite_sql.specs.declared.ops.BinaryOp.TheVariants.{Compare}
use Rattle.sqlite_sql.specs.declared.ops.CompareOp.TheVariants.{Eq}
use Rattle.row_table.specs.Tables.{no_schema, row_schema, store_schema, row_table, meta_table}
use Rattle.row_table.specs.Texts.{make_text, raise_text, number_text}

abbrev pub first_text : List ℕ
first_text = codes "CREATE TABLE row (kind INTEGER, key TEXT, text TEXT, PRIMARY KEY (kind, key)) STRICT;"

abbrev pub second_text : List ℕ
second_text = codes " CREATE TABLE meta (name TEXT PRIMARY KEY, value INTEGER) STRICT;"

abbrev pub third_text : List ℕ
third_text = codes " INSERT INTO meta (name, value) VALUES ('schema', 2)"

abbrev pub row_text : List ℕ
row_text = codes "CREATE TABLE row (kind INTEGER, key TEXT, text TEXT, PRIMARY KEY (kind, key)) STRICT"

abbrev pub meta_text : List ℕ
meta_text = codes "CREATE TABLE meta (name TEXT PRIMARY KEY, value INTEGER) STRICT"

pub first_is : (command_of (understood no_schema first_text) ≡ CreateTable) × (statement_of first_text (understood no_schema first_text) ≡ row_text) × (table_defined_by row_text ≡ Ok row_table)
unfolding understood everything
first_is = (refl, refl, refl)

pub first_plain : IsPlain (understood no_schema first_text)
unfolding understood everything
first_plain = (refl, refl)

pub second_is : (command_of (understood row_schema second_text) ≡ CreateTable) × (statement_of second_text (understood row_schema second_text) ≡ meta_text) × (table_defined_by meta_text ≡ Ok (record meta_table { tree = 0 }))
unfolding understood everything
second_is = (refl, refl, refl)

pub second_plain : IsPlain (understood row_schema second_text)
unfolding understood everything
second_plain = (refl, refl)

abbrev pub form_terms : List Term
form_terms = lit Null ∷ lit (Text (codes "schema")) ∷ lit (Int (pos 2)) ∷ []

pub third_is : command_of (understood store_schema third_text) ≡ Insert 1 (Values form_terms 3)
unfolding understood everything
third_is = refl

pub third_plain : IsPlain (understood store_schema third_text)
unfolding understood everything
third_plain = (refl, refl)

-- the row of the number, with the newest number
abbrev pub raised : Query
raised = record {
  from = inner 2 end;
  filter = op2 (Compare Eq Binary) (col 1 1) (lit (Text (codes "schema"))) ∷ [];
  group = None;
  project = col 1 0 ∷ col 1 0 ∷ col 1 1 ∷ lit (Int (pos 2)) ∷ [];
  distinct = false;
  collations = [];
  order = [];
  limit = lit (Int (negsuc 0));
  offset = lit (Int (pos 0));
}

pub raise_is : command_of (understood store_schema raise_text) ≡ Update 1 (record { lets = []; body = raised })
unfolding understood everything
raise_is = refl

pub raise_plain : IsPlain (understood store_schema raise_text)
unfolding understood everything
raise_plain = (refl, refl)

pub number_plain : IsPlain (understood store_schema number_text)
unfolding understood everything
number_plain = (refl, refl)

abbrev pub is_some_text : List ℕ → Bool
is_some_text [] = false
is_some_text (b ∷ more) = true

-- the three statements of the text, in turn
abbrev pub after_first : List ℕ
after_first = drop (first_len make_text) make_text

abbrev pub after_second : List ℕ
after_second = drop (first_len after_first) after_first

pub cut_is : (take (first_len make_text) make_text ≡ first_text) × (take (first_len after_first) after_first ≡ second_text) × (after_second ≡ third_text)
unfolding everything
cut_is = (refl, refl, refl)

pub cut_third : (take (first_len third_text) third_text ≡ third_text) × (drop (first_len third_text) third_text ≡ [])
unfolding everything
cut_third = (refl, refl)

pub cut_raise : (take (first_len raise_text) raise_text ≡ raise_text) × (drop (first_len raise_text) raise_text ≡ [])
unfolding everything
cut_raise = (refl, refl)

pub some_second : is_some_text after_first ≡ true
unfolding everything
some_second = refl
