-- The statements, each of which has a text of its own.
use Rattle.std.specs.Prelude.{◌≡◌, List, ℕ, codes, IsTrue, Result, OnOk}
use Rattle.sqlite.specs.Given.{IsPlain}
use Rattle.sqlite.specs.Listing.{understood}
use Rattle.sqlite.specs.State.{State, KeepsCommit}

-- The statements that make the two tables, and the number of the newest form in them
abbrev pub make_text : List ℕ
make_text = codes "CREATE TABLE row (kind INTEGER, key TEXT, text TEXT, PRIMARY KEY (kind, key)) STRICT; CREATE TABLE meta (name TEXT PRIMARY KEY, value INTEGER) STRICT; INSERT INTO meta (name, value) VALUES ('schema', 2)"

-- The statement that marks a store of the first form as one of the newest
abbrev pub raise_text : List ℕ
raise_text = codes "UPDATE meta SET value = 2 WHERE name = 'schema'"

-- The query of the number of a store's form
abbrev pub number_text : List ℕ
number_text = codes "SELECT value FROM meta WHERE name = 'schema'"

-- The statement that puts a row, in place of the one of its kind and key, if there is one
abbrev pub put_text : List ℕ
put_text = codes "INSERT INTO row (kind, key, text) VALUES (?1, ?2, ?3) ON CONFLICT (kind, key) DO UPDATE SET text = excluded.text"

-- The statement that deletes the row of a kind and key
abbrev pub delete_text : List ℕ
delete_text = codes "DELETE FROM row WHERE kind = ?1 AND key = ?2"

-- The query of all rows, in the order of kind and key
abbrev pub select_text : List ℕ
select_text = codes "SELECT kind, key, text FROM row ORDER BY kind, key"

-- The query of all rows with their rowids, in the order of these
abbrev pub all_text : List ℕ
all_text = codes "SELECT rowid, kind, key, text FROM row ORDER BY rowid"

-- a step in a transaction commits nothing, and the transaction goes on after a step that was done
abbrev pub StaysInside : {A E : Type 0} → State → State → Result A E → Type 0
StaysInside old new result = IsTrue old.in_transaction → KeepsCommit old new × OnOk result (IsTrue new.in_transaction)

-- The query of this text led the connection from `old` to `new`, and left what it sees, where it is no write and the connection saw the
-- last commit, as long as it stays open. This holds also where the query fails
abbrev pub Leaves : List ℕ → State → State → Type 0
Leaves sql old new =
    IsTrue new.is_open → IsTrue old.is_open × (IsPlain (understood old.now.schema sql) → old.now ≡ old.committed → (new.now ≡ old.now)
    × (new.committed ≡ old.committed))
