-- A walk over the entries of one party that collects the keys of the shares to a recipient.
use Rattle.std.proofs.Common.{◌≡◌, Bool, true, false, ◌&&◌, cond, List, [], ◌∷◌, ◌++◌, Option, Some, None, refl, sym, ap, ◌∙◌, subst}
use Rattle.std.proofs.lemmas.List.{append-nil, append_assoc}
use Rattle.std.proofs.lemmas.List.Elements.{filter-append}
use Rattle.std.proofs.lemmas.List.Concat.{flat_map-cons}
use Rattle.std.specs.declared.cmp.Ordering.{Ordering}
use Rattle.std.specs.declared.cmp.Ordering.TheVariants.{Less, Equal, Greater}
use Rattle.std.specs.declared.ops.Bound.TheVariants.{Included, Unbounded}
use Rattle.std.specs.Cmp.{alike_right}
use Rattle.std.specs.Option.{option_cmp}
use Rattle.std.specs.Ordering.{ordering_then, ordering_reverse, eq_by_cmp, is_eq, is_gt, is_le, is_ne}
use Rattle.std.specs.List.{AllByRecursion, filter, flat_map}
use Rattle.std.specs.List.Sorted.{IsStrictlySortedBy}
use Rattle.std.specs.Map.{keys_of}
use Rattle.std.specs.BTreeMap.Range.{range_contains, entries_between}
use Rattle.hub_rows.specs.ShareOrder.{share_cmp}
use Rattle.hub_rows.specs.declared.keys.Recipient.{Recipient}
use Rattle.hub_rows.specs.declared.keys.ShareKey.{ShareKey}
use Rattle.row_indexes.specs.Owned.{owned_cmp, owned_together, key_list, keys_under}
use Rattle.row_indexes.specs.declared.owned.OwnedKey.{OwnedKey}
use Rattle.hub_tables.specs.Lookups.{same_recipient}
use Rattle.hub_tables.specs.Parties.{party_cmp}
use Rattle.hub_tables.specs.declared.parties.Party.{Party}
use Rattle.hub_tables.specs.contracts.parties.PartyOrd.TheImpl.Laws as party

abbrev Entry : Type 0
Entry = OwnedKey Party ShareKey

abbrev Entries : Type 0
Entries = List (Entry × Unit {0})

-- ---- the order of the entries

abbrev entry_cmp : Entry → Entry → Ordering
entry_cmp = owned_cmp party_cmp share_cmp

-- by how a party stands to that of an entry
not_reached : (r : Ordering) (x : Option ShareKey) → (is_le (ordering_then r (option_cmp share_cmp None x)) && true) ≡ false → is_eq (ordering_reverse r) ≡ false
not_reached Less x h = refl
not_reached Equal None h = cc
not_reached Equal (Some key) h = cc
not_reached Greater x h = refl

left_behind : (r : Ordering) (x : Option ShareKey) → (is_le (ordering_then r (option_cmp share_cmp None x)) && true) ≡ true → is_eq (ordering_reverse r) ≡ false → r ≡ Less
left_behind Less x h g = refl
left_behind Equal x h g = cc
left_behind Greater x h g = cc

reversed : (r : Ordering) → r ≡ Less → is_eq (ordering_reverse r) ≡ false
reversed Less h = refl
reversed Equal h = cc
reversed Greater h = cc

then_less : (a b c : Party) → party_cmp a b ≡ Less → is_gt (party_cmp b c) ≡ false → party_cmp a c ≡ Less
then_less a b c h g = elim (party_cmp b c) as (λ r. party_cmp b c ≡ r → is_gt r ≡ false → party_cmp a c ≡ Less) [
  | Less ↦ λ e g. party.total-law.trans a b c h e
  | Equal ↦ λ e g. sym (alike_right party.total-law b c a e) ∙ h
  | Greater ↦ λ e g. absurd (cc)
] refl g

pub told_apart : (r : Ordering) → is_ne r ≡ true → is_eq r ≡ false
told_apart Less h = refl
told_apart Equal h = cc
told_apart Greater h = refl

pub told_alike : (r : Ordering) → is_ne r ≡ false → is_eq r ≡ true
told_alike Less h = cc
told_alike Equal h = refl
told_alike Greater h = cc

-- ---- the walk

abbrev pub keys_to : Recipient → List ShareKey → List ShareKey
keys_to to keys = filter (λ key. same_recipient key.to to) keys

module _ (owner : Party) (to : Recipient) where
  abbrev pub is_own : Entry → Bool
  is_own entry = eq_by_cmp party_cmp entry.owner owner

  abbrev in_range : Entry → Bool
  in_range entry = range_contains entry_cmp (Included (record { owner = owner; key = None })) Unbounded entry

  -- what the entries have for the recipient
  abbrev pub had : Entries → List ShareKey
  had es = keys_to to (keys_under party_cmp owner (keys_of es))

  other_has_none : (e : Entry × Unit {0}) (es : Entries) → is_own e.0 ≡ false → had (e ∷ es) ≡ had es
  other_has_none e es h = ap (λ b. keys_to to (flat_map (λ entry. key_list entry.key) (cond b (e.0 ∷ filter is_own (keys_of es)) (filter is_own (keys_of es))))) h

  own_has : (e : Entry × Unit {0}) (es : Entries) → is_own e.0 ≡ true → had (e ∷ es) ≡ keys_to to (key_list e.0.key) ++ had es
  own_has e es h =
      ap (λ b. keys_to to (flat_map (λ entry. key_list entry.key) (cond b (e.0 ∷ filter is_own (keys_of es)) (filter is_own (keys_of es))))) h
      ∙ ap (keys_to to) (flat_map-cons (λ (entry : Entry). key_list entry.key) e.0 (filter is_own (keys_of es)))
      ∙ filter-append (λ key. same_recipient key.to to) (key_list e.0.key) (keys_under party_cmp owner (keys_of es))

  -- behind an entry of another party none is of this one
  abbrev Ends : Entries → Type 0
  Ends [] = Unit {0}
  Ends (e ∷ es) = (is_own e.0 ≡ false → had es ≡ []) × Ends es

  -- what was collected, and what is to come, is all
  pub record Collecting (all : Entries) (keys : List ShareKey) (rest : Entries) : Type 0 where
    pub so_far : keys ++ had rest ≡ had all
    pub ends : Ends rest

  outside : (k : Entry) → in_range k ≡ false → is_own k ≡ false
  outside k h = ap is_eq (party.total-law.antisymm k.owner owner) ∙ not_reached (party_cmp owner k.owner) k.key h

  past : (a b : Entry) → in_range a ≡ true → is_own a ≡ false → entry_cmp a b ≡ Less → is_own b ≡ false
  past a b h other less =
      let behind = left_behind (party_cmp owner a.owner) a.key h (ap is_eq (sym (party.total-law.antisymm a.owner owner)) ∙ other) in
      ap is_eq (party.total-law.antisymm b.owner owner) ∙ reversed (party_cmp owner b.owner) (then_less owner a.owner b.owner behind (owned_together party_cmp share_cmp a b less))

  skipped : (es : Entries) → had (filter (λ e. in_range e.0) es) ≡ had es
  skipped [] = refl
  skipped (e ∷ es) = elim (in_range e.0) as (λ b. in_range e.0 ≡ b → had (cond b (e ∷ filter (λ e. in_range e.0) es) (filter (λ e. in_range e.0) es)) ≡ had (e ∷ es)) [
    | true ↦ λ h. elim (is_own e.0) as (λ b. is_own e.0 ≡ b → had (e ∷ filter (λ e. in_range e.0) es) ≡ had (e ∷ es)) [
      | true ↦ λ g. own_has e (filter (λ e. in_range e.0) es) g ∙ ap (λ ks. keys_to to (key_list e.0.key) ++ ks) (skipped es) ∙ sym (own_has e es g)
      | false ↦ λ g. other_has_none e (filter (λ e. in_range e.0) es) g ∙ skipped es ∙ sym (other_has_none e es g)
    ] refl
    | false ↦ λ h. skipped es ∙ sym (other_has_none e es (outside e.0 h))
  ] refl

  none_behind : (a : Entry) → in_range a ≡ true → is_own a ≡ false → (es : Entries) → AllByRecursion (λ b. entry_cmp a b ≡ Less) (keys_of es) → had es ≡ []
  none_behind a h o [] s = refl
  none_behind a h o (e ∷ es) s = other_has_none e es (past a e.0 h o s.0) ∙ none_behind a h o es s.1

  ends_in_order : (es : Entries) → IsStrictlySortedBy entry_cmp (keys_of es) → Ends (filter (λ e. in_range e.0) es)
  unfolding IsStrictlySortedBy
  ends_in_order [] s = tt
  ends_in_order (e ∷ es) s = elim (in_range e.0) as (λ b. in_range e.0 ≡ b → Ends (cond b (e ∷ filter (λ e. in_range e.0) es) (filter (λ e. in_range e.0) es))) [
    | true ↦ λ h. (λ o. skipped es ∙ none_behind e.0 h o es s.0, ends_in_order es s.1)
    | false ↦ λ h. ends_in_order es s.1
  ] refl

  pub begun : (es : Entries) → IsStrictlySortedBy entry_cmp (keys_of es) → (keys : List ShareKey) (rest : Entries) → keys ≡ []
      → rest ≡ entries_between entry_cmp (Included (record { owner = owner; key = None })) Unbounded es → Collecting es keys rest
  begun es s keys rest e f = record {
    so_far = ap (λ ks. ks ++ had rest) e ∙ ap had f ∙ skipped es;
    ends = subst Ends (sym f) (ends_in_order es s);
  }

  module _ (all : Entries) (keys : List ShareKey) (left : Entries) (w : Collecting all keys left) where
    pub collected_on : (keys' : List ShareKey) (rest : Entries) (e : Entry × Unit {0}) → left ≡ e ∷ rest → is_own e.0 ≡ true → keys' ≡ keys ++ keys_to to (key_list e.0.key)
        → Collecting all keys' rest
    collected_on keys' rest e l own more = record {
      so_far =
          ap (λ ks. ks ++ had rest) more ∙ append_assoc keys (keys_to to (key_list e.0.key)) (had rest) ∙ ap (λ ks. keys ++ ks) (sym (own_has e rest own) ∙ ap had (sym l)) ∙ w.so_far;
      ends = (subst Ends l w.ends).1;
    }

    pub collected_out : (rest : Entries) (e : Entry × Unit {0}) → left ≡ e ∷ rest → is_own e.0 ≡ false → keys ≡ had all
    collected_out rest e l other =
        sym (append-nil keys) ∙ ap (λ ks. keys ++ ks) (sym ((subst Ends l w.ends).0 other) ∙ sym (other_has_none e rest other) ∙ ap had (sym l)) ∙ w.so_far

    pub collected_through : left ≡ [] → keys ≡ had all
    collected_through l = sym (append-nil keys) ∙ ap (λ ks. keys ++ ks) (ap had (sym l)) ∙ w.so_far
