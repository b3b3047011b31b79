-- What is read of a body of which no tree is made.
use Rattle.std.proofs.Common.{◌≡◌, ◌≤◌, ◌<◌, ◌-◌, ℕ, Bool, List, [], ◌∷◌, length, Option, Some, None, IsUtf8, refl, sym, ap, ◌∙◌, arith}
use Rattle.json.specs.Token.{Token}
use Rattle.json.specs.Json.{parse_map, after_end_array, read_key, items, members, value}
use Rattle.json.specs.Lex.{tokens}
use Rattle.json.proofs.Grammar.{value_is, value-begin_array, value-begin_object, read_key-shorter}
use Rattle.serde_json.specs.Data.{Data, null, boolean, string, array, object, Items, no_items, item, Members, no_members, put}
use Rattle.serde_json.specs.Find.{get_member, as_bool}
use Rattle.serde_json.specs.Read.{of_json, of_items, of_members, converted, read}
use Rattle.request_parts.proofs.Turns.{converted-array, converted-object, item_read, items_over, member_read, members_over, whole_read}
use Rattle.serde_json.proofs.OnLiterals.{serde_json_on_literals}
use Rattle.serde_json.proofs.Views.{get_member-put, get_member-put_other}
use Rattle.request_parts.specs.Bodies.{◌>>=◌, if_object, body_object, truth_at, truth_in_text, truth_in}
use Rattle.request_parts.proofs.Texts.{object_of_text}

abbrev pub value_at : ℕ → List Token → Option (Data × List Token)
value_at depth ts = converted of_json (value depth ts)

abbrev pub items_at : ℕ → ℕ → List Token → Option (Items × List Token)
items_at depth n ts = converted of_items (items (value depth) n ts)

abbrev pub members_at : ℕ → ℕ → Members → List Token → Option (Members × List Token)
members_at depth n found ts = converted (λ ms. of_members ms found) (members (value depth) n ts)

-- a value stands there, and these tokens behind it
abbrev pub Passes : ℕ → List Token → List Token → Type 0
Passes depth old new = (d : Data) × (value_at depth old ≡ Some (d, new))

-- ---- one value

pub passes_string : (depth : ℕ) (s : List ℕ) (ts old : List Token) → old ≡ Token.string s ∷ ts → Passes depth old ts
passes_string depth s ts old is = (string s, ap (value_at depth) is ∙ ap (converted of_json) (value_is depth (Token.string s ∷ ts)))

pub passes_truth : (depth : ℕ) (b : Bool) (ts old : List Token) → old ≡ Token.boolean b ∷ ts → Passes depth old ts
passes_truth depth b ts old is = (boolean b, ap (value_at depth) is ∙ ap (converted of_json) (value_is depth (Token.boolean b ∷ ts)))

pub passes_null : (depth : ℕ) (ts old : List Token) → old ≡ Token.null ∷ ts → Passes depth old ts
passes_null depth ts old is = (null, ap (value_at depth) is ∙ ap (converted of_json) (value_is depth (Token.null ∷ ts)))

pub passes_array : (depth : ℕ) (old ts new : List Token) (ds : Items) → old ≡ Token.begin_array ∷ ts → 0 < depth → items_at (depth - 1) (length ts) ts ≡ Some (ds, new) → Passes depth old new
passes_array depth old ts new ds is some all = (
  array ds,
  ap (value_at depth) is ∙ ap (converted of_json) (value-begin_array depth ts some) ∙ converted-array (items (value (depth - 1)) (length ts) ts) ∙ ap (parse_map array) all,
)

pub passes_object : (depth : ℕ) (old ts new : List Token) (ms : Members) → old ≡ Token.begin_object ∷ ts → 0 < depth
    → members_at (depth - 1) (length ts) no_members ts ≡ Some (ms, new) → Passes depth old new
passes_object depth old ts new ms is some all = (
  object ms,
  ap (value_at depth) is ∙ ap (converted of_json) (value-begin_object depth ts some) ∙ converted-object (members (value (depth - 1)) (length ts) ts) ∙ ap (parse_map object) all,
)

-- ---- the items of a list

-- what is to come ends the items of `old`
abbrev pub ItemsGoOn : ℕ → List Token → List Token → Type 0
ItemsGoOn depth old ts =
    (n : ℕ) × (length ts ≤ n)
    × ((ds : Items) (new : List Token) → items_at depth n ts ≡ Some (ds, new) → (all : Items) × (items_at depth (length old) old ≡ Some (all, new)))
    × (length ts ≤ length old)

pub items_begin : (depth : ℕ) (old : List Token) → ItemsGoOn depth old old
items_begin depth old = (length old, omega arith, (λ ds new is. (ds, is)), omega arith)

pub items_go_on : (depth : ℕ) (old ts new : List Token) → ItemsGoOn depth old ts → after_end_array ts ≡ None → Passes depth ts new → length new < length ts → ItemsGoOn depth old new
items_go_on depth old ts new (n, enough, on, within) going (d, is) less = (
  n - 1,
  omega (arith, enough, less),
  (λ ds rest more. on (item d ds) rest (item_read (value depth) n ts new d (omega (arith, enough, less)) going is ∙ ap (parse_map (item d)) more)),
  omega (arith, within, less),
)

pub items_end : (depth : ℕ) (old ts new : List Token) → ItemsGoOn depth old ts → after_end_array ts ≡ Some new → (ds : Items) × (items_at depth (length old) old ≡ Some (ds, new))
items_end depth old ts new (n, enough, on, within) end = on no_items new (items_over (value depth) n ts new enough end)

-- ---- the members of an object

-- with what is to come, the members of `old` are those that come after the ones that were found
abbrev pub MembersGoOn : ℕ → List Token → Members → List Token → Type 0
MembersGoOn depth old found ts =
    (n : ℕ) × (length ts ≤ n) × (members_at depth (length old) no_members old ≡ members_at depth n found ts) × (length ts ≤ length old)

pub members_begin : (depth : ℕ) (old : List Token) → MembersGoOn depth old no_members old
members_begin depth old = (length old, omega arith, refl, omega arith)

pub members_go_on : (depth : ℕ) (old ts behind new : List Token) (found : Members) (k : List ℕ) (d : Data) → MembersGoOn depth old found ts → read_key ts ≡ Some (Some k, behind)
    → value_at depth behind ≡ Some (d, new) → length new < length behind → MembersGoOn depth old (put k d found) new
members_go_on depth old ts behind new found k d (n, enough, on, within) key is less =
    let shorter = read_key-shorter ts (Some k) behind key in (
      n - 1,
      omega (arith, enough, less, shorter),
      on ∙ member_read (value depth) found n k ts behind new d (omega (arith, enough, shorter)) key is,
      omega (arith, within, less, shorter),
    )

pub members_end : (depth : ℕ) (old ts new : List Token) (found : Members) → MembersGoOn depth old found ts → read_key ts ≡ Some (None, new)
    → members_at depth (length old) no_members old ≡ Some (found, new)
members_end depth old ts new found (n, enough, on, within) end = on ∙ members_over (value depth) found n ts new enough end

-- ---- the truth value at a key

abbrev pub truth_among : List ℕ → Members → Option Bool
truth_among key ms = get_member key ms >>= as_bool

pub truth_put : (key : List ℕ) (b : Bool) (ms : Members) → truth_among key (put key (boolean b) ms) ≡ Some b
truth_put key b ms = ap (λ (d : Option Data). d >>= as_bool) (get_member-put key (boolean b) ms)

pub truth_kept : (key name : List ℕ) (d : Data) (ms : Members) → (key ≡ name → ⊥) → truth_among key (put name d ms) ≡ truth_among key ms
truth_kept key name d ms other = ap (λ (o : Option Data). o >>= as_bool) (get_member-put_other key name d ms other)

-- of a token
pub value_truth : (depth : ℕ) (b : Bool) (ts old : List Token) → old ≡ Token.boolean b ∷ ts → (value_at depth old ≡ Some (boolean b, ts)) × (length ts < length old)
value_truth depth b ts old is = (ap (value_at depth) is ∙ ap (converted of_json) (value_is depth (Token.boolean b ∷ ts)), omega (arith, ap (λ (l : List Token). length l) is))

-- of a whole text
pub truth_of_text : (text key : List ℕ) (ts : List Token) (ms : Members) → tokens text ≡ Token.begin_object ∷ ts
    → members_at 126 (length ts) no_members ts ≡ Some (ms, []) → truth_among key ms ≡ truth_in_text key text
unfolding truth_at passes_object
truth_of_text text key ts ms is all =
    let whole_one : read text ≡ Some (object ms) =
    whole_read (value 127 (tokens text)) (object ms)
    ((passes_object 127 (tokens text) ts [] ms is (omega arith) all).1) in
    ap (λ (d : Option Data). (d >>= if_object) >>= truth_at key) (sym whole_one)

-- a body that is a text
pub truth_of_body : (bytes key : List ℕ) → IsUtf8 bytes → truth_in_text key bytes ≡ truth_in key bytes
unfolding body_object truth_at serde_json_on_literals
truth_of_body [] key is = refl
truth_of_body (b ∷ bytes) key is = ap (λ (d : Option Data). d >>= truth_at key) (sym (object_of_text (b ∷ bytes) is))
