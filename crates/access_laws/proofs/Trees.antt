-- The tokens of a body as those of a tree: no number stands in them, so they are read, and they nest no deeper than so.
use Rattle.std.proofs.Common.{◌≡◌, ℕ, suc, ◌≤◌, arith, Bool, true, false, List, [], ◌∷◌, ◌++◌, map, Option, Some, None, option_map, option_and_then, refl, ap, ◌∙◌}
use Rattle.std.specs.List.{AllByRecursion}
use Rattle.json.specs.Token as token
use Rattle.json.specs.Json as json
use Rattle.json.specs.Tree.{json_tokens, items_tokens, members_tokens, depth, items_depth, members_depth, HasNumbers, ItemsHaveNumbers, MembersHaveNumbers}
use Rattle.serde_json.specs.Data.{Data, null, boolean, string, array, object, Items, no_items, item, Members, no_members, put}
use Rattle.serde_json.specs.Read.{of_json, of_items, of_members}
use Rattle.hub_view.specs.Json.{Json, Member, line, lines, truth, nothing, maybe, items_on, pairs, pairs_on, member}

-- no number stands in it
abbrev mutual
  pub IsNumberless : json.Json → Type 0
  IsNumberless json.null = Unit {0}
  IsNumberless (json.boolean b) = Unit {0}
  IsNumberless (json.number s) = ⊥
  IsNumberless (json.string s) = Unit {0}
  IsNumberless (json.array js) = ItemsNumberless js
  IsNumberless (json.object ms) = MembersNumberless ms

  pub ItemsNumberless : json.Items → Type 0
  ItemsNumberless json.no_items = Unit {0}
  ItemsNumberless (json.item j js) = IsNumberless j × ItemsNumberless js

  pub MembersNumberless : json.Members → Type 0
  MembersNumberless json.no_members = Unit {0}
  MembersNumberless (json.member k j ms) = IsNumberless j × MembersNumberless ms

mutual
  json_numbers : (j : json.Json) → IsNumberless j → HasNumbers j
  json_numbers json.null none = tt
  json_numbers (json.boolean b) none = tt
  json_numbers (json.number s) none = absurd none
  json_numbers (json.string s) none = tt
  json_numbers (json.array js) none = items_numbers js none
  json_numbers (json.object ms) none = members_numbers ms none

  items_numbers : (js : json.Items) → ItemsNumberless js → ItemsHaveNumbers js
  items_numbers json.no_items none = tt
  items_numbers (json.item j js) none = (json_numbers j none.0, items_numbers js none.1)

  pub members_numbers : (ms : json.Members) → MembersNumberless ms → MembersHaveNumbers ms
  members_numbers json.no_members none = tt
  members_numbers (json.member k j ms) none = (json_numbers j none.0, members_numbers ms none.1)

-- so it is read whatever it says
mutual
  json_reads : (j : json.Json) → IsNumberless j → (d : Data) × (of_json j ≡ Some d)
  json_reads json.null none = (null, refl)
  json_reads (json.boolean b) none = (boolean b, refl)
  json_reads (json.number s) none = absurd none
  json_reads (json.string s) none = (string s, refl)
  json_reads (json.array js) none = let (read, is) = items_read js none in (array read, ap (λ (o : Option Items). option_map array o) is)
  json_reads (json.object ms) none =
      let (read, is) = members_read ms no_members none in (object read, ap (λ (o : Option Members). option_map object o) is)

  items_read : (js : json.Items) → ItemsNumberless js → (read : Items) × (of_items js ≡ Some read)
  items_read json.no_items none = (no_items, refl)
  items_read (json.item j js) none =
      let (d, first) = json_reads j none.0 in
      let (more, rest) = items_read js none.1 in (
        item d more,
        ap (λ (o : Option Data). option_and_then (λ e. option_map (item e) (of_items js)) o) first
            ∙ ap (λ (o : Option Items). option_map (item d) o) rest,
      )

  pub members_read : (ms : json.Members) (found : Members) → MembersNumberless ms → (read : Members) × (of_members ms found ≡ Some read)
  members_read json.no_members found none = (found, refl)
  members_read (json.member k j ms) found none =
      let (d, first) = json_reads j none.0 in
      let (read, rest) = members_read ms (put k d found) none.1 in
      (read, ap (λ (o : Option Data). option_and_then (λ e. of_members ms (put k e found)) o) first ∙ rest)

pub record IsTree (ts : Json) (d : ℕ) : Type 0 where
  pub tree : json.Json
  pub is : ts ≡ json_tokens tree
  pub numbers : IsNumberless tree
  pub shallow : depth tree ≤ d

pub line_tree : (s : List ℕ) (d : ℕ) → IsTree (line s) d
line_tree s d = record { tree = json.string s; is = refl; numbers = tt; shallow = omega arith }

pub truth_tree : (b : Bool) (d : ℕ) → IsTree (truth b) d
truth_tree b d = record { tree = json.boolean b; is = refl; numbers = tt; shallow = omega arith }

pub nothing_tree : (d : ℕ) → IsTree nothing d
nothing_tree d = record { tree = json.null; is = refl; numbers = tt; shallow = omega arith }

pub maybe_tree : {X : Type 0} (f : X → Json) (d : ℕ) → ((x : X) → IsTree (f x) d) → (o : Option X) → IsTree (maybe f o) d
maybe_tree f d each None = nothing_tree d
maybe_tree f d each (Some x) = each x

-- ---- lists of texts

pub record ItemsTree (js : List Json) (d : ℕ) : Type 0 where
  pub tree : json.Items
  pub is : items_on js ≡ items_tokens tree
  pub numbers : ItemsNumberless tree
  pub shallow : items_depth tree ≤ d

line_items : (ss : List (List ℕ)) (d : ℕ) → ItemsTree (map line ss) d
line_items [] d = record { tree = json.no_items; is = refl; numbers = tt; shallow = omega arith }
line_items (s ∷ ss) d =
    let rest = line_items ss d in record {
      tree = json.item (json.string s) rest.tree;
      is = ap (λ ts. token.string s ∷ ts) rest.is;
      numbers = (tt, rest.numbers);
      shallow = omega (arith, rest.shallow);
    }

pub lines_tree : (ss : List (List ℕ)) (d : ℕ) → IsTree (lines ss) (suc d)
lines_tree ss d =
    let all = line_items ss d in record {
      tree = json.array all.tree;
      is = ap (λ ts. token.begin_array ∷ ts) all.is;
      numbers = all.numbers;
      shallow = omega (arith, all.shallow);
    }

-- ---- members

pub record MembersTree (ms : List Member) (d : ℕ) : Type 0 where
  pub tree : json.Members
  pub is : pairs_on ms ≡ members_tokens tree
  pub numbers : MembersNumberless tree
  pub shallow : members_depth tree ≤ d

abbrev pub ValueIsTree : ℕ → Member → Type 0
ValueIsTree d m = IsTree m.1 d

unfoldable pub members_tree : (ms : List Member) (d : ℕ) → AllByRecursion (ValueIsTree d) ms → MembersTree ms d
members_tree [] d all = record { tree = json.no_members; is = refl; numbers = tt; shallow = omega arith }
members_tree (m ∷ ms) d all =
    let first = all.0 in
    let rest = members_tree ms d all.1 in record {
      tree = json.member m.0 first.tree rest.tree;
      is = ap (λ ts. token.key m.0 ∷ (ts ++ pairs_on ms)) first.is ∙ ap (λ ts. token.key m.0 ∷ (json_tokens first.tree ++ ts)) rest.is;
      numbers = (first.numbers, rest.numbers);
      shallow = omega (arith, first.shallow, rest.shallow);
    }

pub pairs_tree : (ms : List Member) (d : ℕ) → AllByRecursion (ValueIsTree d) ms → IsTree (pairs ms) (suc d)
pairs_tree ms d all =
    let members = members_tree ms d all in record {
      tree = json.object members.tree;
      is = ap (λ ts. token.begin_object ∷ ts) members.is;
      numbers = members.numbers;
      shallow = omega (arith, members.shallow);
    }

pub all_then : {X : Type 0} (P : X → Type 0) (xs ys : List X) → AllByRecursion P xs → AllByRecursion P ys → AllByRecursion P (xs ++ ys)
all_then P [] ys one two = two
all_then P (x ∷ xs) ys one two = (one.0, all_then P xs ys one.1 two)

pub all_member : (P : Member → Type 0) (shown : Bool) (name : List ℕ) (value : Json) → P (name, value) → AllByRecursion P (member shown name value)
all_member P true name value is = (is, tt)
all_member P false name value is = tt

pub all_map : {X Y : Type 0} (P : Y → Type 0) (f : X → Y) → ((x : X) → P (f x)) → (xs : List X) → AllByRecursion P (map f xs)
all_map P f each [] = tt
all_map P f each (x ∷ xs) = (each x, all_map P f each xs)
