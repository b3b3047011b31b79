-- Rows that are read one after the other.
use Rattle.std.proofs.Common.{◌≡◌, List, [], ◌∷◌, ◌++◌, sym}
use Rattle.std.specs.Prelude.{Err}
use Rattle.hub_rows.specs.declared.rows.Row.{Row}
use Rattle.keeper.specs.declared.keeper.Row.{Row as KeptRow}
use Rattle.record_texts.specs.declared.record.RowError.{RowError}
use Rattle.record_texts.specs.declared.record.RowError.TheVariants.{BadRow, Memory}
use Rattle.kept_rows.specs.Reading.{IsReadAs, AreReadAs, IsReading, AreReading}

-- one more
pub read_more : (kept : List KeptRow) (rows : List Row) (one : KeptRow) (row : Row) → AreReadAs kept rows → IsReadAs one row → AreReadAs (kept ++ one ∷ []) (rows ++ row ∷ [])
read_more [] [] one row are is = (is, tt)
read_more [] (r ∷ rows) one row are is = absurd are
read_more (k ∷ kept) [] one row are is = absurd are
read_more (k ∷ kept) (r ∷ rows) one row are is = (are.0, read_more kept rows one row are.1 is)

-- the first that doesn't read, and what stands behind it
pub read_not : (kept before after : List KeptRow) (one : KeptRow) (rows : List Row) (e : RowError) → before ++ one ∷ after ≡ kept
    → AreReadAs before rows → IsReading one (Err e) → AreReading kept (Err e)
read_not kept before after one rows (BadRow number name) parts are bad = record {
  before = before;
  bad = one;
  after = after;
  rows = rows;
  parts = sym parts;
  read = are;
  unread = bad.0;
  kind = bad.1;
  key = bad.2;
}
read_not kept before after one rows Memory parts are bad = tt
