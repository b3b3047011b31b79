-- What the upsert means.
use Rattle.std.proofs.Common.{◌≡◌, pos, negsuc, List, [], ◌∷◌, false, None, Some, codes, refl}
use Rattle.sqlite_tied.specs.Compute.{everything}
use Rattle.sqlite.specs.declared.types.Value.TheVariants.{Null, Int}
use Rattle.sqlite.specs.Term.{Term, lit, col, op2}
use Rattle.sqlite.specs.Query.{Query, inner, end}
use Rattle.sqlite.specs.Command.TheVariants.{InsertOr, Select}
use Rattle.sqlite.specs.Source.TheVariants.{Values}
use Rattle.sqlite.specs.Listing.{understood, reads_listing}
use Rattle.sqlite.proofs.Callers.{IsPlain, command_of}
use Rattle.sqlite.specs.Collation.TheVariants.{Binary}
use Rattle.sqlite_sql.specs.declared.ops.BinaryOp.TheVariants.{Compare}
use Rattle.sqlite_sql.specs.declared.ops.CompareOp.TheVariants.{Eq}
use Rattle.sqlite_schema.specs.declared.command.Conflict.TheVariants.{Abort}
use Rattle.sqlite_schema.specs.declared.command.Upsert.{Upsert}
use Rattle.row_table.specs.Tables.{store_schema}
use Rattle.row_table.specs.Texts.{put_text, select_text, all_text}
use Rattle.row_table.proofs.Words.{listed}

-- the row that is there, with the new text
abbrev pub changed : Query
changed = record {
  from = inner 0 end;
  filter = op2 (Compare Eq Binary) (col 1 0) (col 0 3) ∷ [];
  group = None;
  project = col 1 0 ∷ col 1 0 ∷ col 1 1 ∷ col 1 2 ∷ col 0 7 ∷ [];
  distinct = false;
  collations = [];
  order = [];
  limit = lit (Int (negsuc 0));
  offset = lit (Int (pos 0));
}

abbrev pub clause : Upsert
clause = record { target = Some (1 ∷ 2 ∷ []); update = Some (record { lets = []; body = changed }) }

abbrev pub given : List Term
given = lit Null ∷ col 0 0 ∷ col 0 1 ∷ col 0 2 ∷ []

pub upsert_is : command_of (understood store_schema put_text) ≡ InsertOr 0 Abort (Values given 4) (clause ∷ [])
unfolding understood everything
upsert_is = refl

pub select_is : command_of (understood store_schema select_text) ≡ Select (record { lets = []; body = listed }) (codes "kind" ∷ codes "key" ∷ codes "text" ∷ [])
unfolding understood everything
select_is = refl

pub select_unlisted : reads_listing store_schema select_text ≡ false
unfolding understood everything
select_unlisted = refl

pub select_plain : IsPlain (understood store_schema select_text)
unfolding understood everything
select_plain = (refl, refl)

-- the whole table with its rowids
abbrev pub by_rowid : Query
by_rowid = record {
  from = inner 0 end;
  filter = [];
  group = None;
  project = col 1 0 ∷ col 1 1 ∷ col 1 2 ∷ col 1 3 ∷ [];
  distinct = false;
  collations = [];
  order = (col 1 0, record { collation = Binary; descending = false }) ∷ [];
  limit = lit (Int (negsuc 0));
  offset = lit (Int (pos 0));
}

pub all_is : command_of (understood store_schema all_text) ≡ Select (record { lets = []; body = by_rowid }) (codes "rowid" ∷ codes "kind" ∷ codes "key" ∷ codes "text" ∷ [])
unfolding understood everything
all_is = refl

pub all_unlisted : reads_listing store_schema all_text ≡ false
unfolding understood everything
all_unlisted = refl

pub all_plain : IsPlain (understood store_schema all_text)
unfolding understood everything
all_plain = (refl, refl)
