-- What a body says: it is one JSON object (RFC 8259), of whose equal keys the last counts. The empty body says what {} says.
use Rattle.std.specs.Prelude.{ℕ, Bool, List, [], ◌∷◌, Option, Some, None, option_and_then, option_map, if◌then◌else◌}
use Rattle.std.specs.Option.{is_some}
use Rattle.std.specs.Str.{is_utf8}
use Rattle.serde_json.specs.Data.{Data, null, boolean, number, string, array, object, Items, no_items, item, no_members}
use Rattle.serde_json.specs.Read.{read}
use Rattle.serde_json.specs.Find.{get, as_bool, as_null, as_number, as_str, as_array, as_u64}

infixl 10 ◌>>=◌
abbrev pub ◌>>=◌ : {A B : Type 0} → Option A → (A → Option B) → Option B
value >>= f = option_and_then f value

abbrev pub if_object : Data → Option Data
if_object null = None
if_object (boolean b) = None
if_object (number n) = None
if_object (string s) = None
if_object (array items) = None
if_object (object members) = Some (object members)

-- the object that a text is, and that bytes are
abbrev pub object_in : List ℕ → Option Data
object_in text = read text >>= if_object

abbrev pub object_of : List ℕ → Option Data
object_of bytes = if is_utf8 bytes then object_in bytes else None

-- the object of a body
unfoldable pub body_object : List ℕ → Option Data
body_object [] = Some (object no_members)
body_object (b ∷ bytes) = object_of (b ∷ bytes)

-- ---- truth values

-- the truth value at a key: none where the key is absent or anything else stands there
unfoldable pub truth_at : List ℕ → Data → Option Bool
truth_at key body = get key body >>= as_bool

-- the truth value at a key of the object that a text is, and of the object of a body
abbrev pub truth_in_text : List ℕ → List ℕ → Option Bool
truth_in_text key text = object_in text >>= truth_at key

abbrev pub truth_in : List ℕ → List ℕ → Option Bool
truth_in key bytes = body_object bytes >>= truth_at key

abbrev pub truth_of : Bool → Option Data → Option Bool
truth_of default None = Some default
truth_of default (Some value) = as_bool value

-- the same with a default for the absent key
unfoldable pub truth_or : Bool → List ℕ → Data → Option Bool
truth_or default key body = truth_of default (get key body)

-- ---- numbers

-- the number of a `u64` that a value is, or null for none
abbrev pub number_of : Data → Option (Option ℕ)
number_of value = if is_some (as_null value) then Some None else option_map Some (as_number value >>= as_u64)

abbrev pub number_or_none : Option Data → Option (Option ℕ)
number_or_none None = Some None
number_or_none (Some value) = number_of value

-- the number at a key, which may be absent or null: none where anything else stands there
unfoldable pub number_at : List ℕ → Data → Option (Option ℕ)
number_at key body = number_or_none (get key body)

abbrev pub default_or : ℕ → Option Data → Option ℕ
default_or default None = Some default
default_or default (Some value) = as_number value >>= as_u64

-- the number at a key with a default for the absent key: none where anything else stands there
unfoldable pub number_or : ℕ → List ℕ → Data → Option ℕ
number_or default key body = default_or default (get key body)

-- ---- lists of texts

-- an absent list has no items
abbrev pub list_of : Option Data → Option Items
list_of None = Some no_items
list_of (Some value) = as_array value

-- what an item is by a reader of texts
abbrev pub item_read : {N : Type 0} → (List ℕ → Option N) → Data → Option N
item_read reads value = as_str value >>= reads

abbrev pub optional : {N : Type 0} → (List ℕ → Option N) → Option Data → Option (Option N)
optional reads None = Some None
optional reads (Some value) = option_map Some (item_read reads value)

-- the text of a form at a key, which may be absent: none where anything else stands there
unfoldable pub optional_at : {N : Type 0} → (List ℕ → Option N) → List ℕ → Data → Option (Option N)
optional_at reads key body = optional reads (get key body)

-- what the items are: none where one of them is no text, or not of its form
abbrev pub each_read : {N : Type 0} → (List ℕ → Option N) → Items → Option (List N)
each_read reads no_items = Some []
each_read reads (item value rest) = do
  first ← item_read reads value
  others ← each_read reads rest
  Some (first ∷ others)

-- the list at a key
unfoldable pub list_at : {N : Type 0} → (List ℕ → Option N) → List ℕ → Data → Option (List N)
list_at reads key body = list_of (get key body) >>= each_read reads
