-- The tokens, shares and servers of an owner, as a scan over all rows gives them.
use Rattle.std.proofs.Common.{◌≡◌, ℕ, Bool, true, false, not, ◌&&◌, ◌||◌, List, Option, Some, None, is_some, is_ok, map, Result, Ok, Err, OnOk, OnErr, refl, sym, ap, ◌∙◌, subst}
use Rattle.std.specs.Ordering.{nat_cmp, eq_by_cmp, is_eq}
use Rattle.std.specs.Cmp.{IsTotalOrder, nat_cmp_total, eq_by_cmp_equiv, tied_itself}
use Rattle.std.specs.Cmp.Lexicographic.{nat_list_cmp_total, texts_ties}
use Rattle.std.specs.declared.cmp.Ordering.{Ordering}
use Rattle.std.specs.FinMap.{FinMap, len, keys, values, get, insert, remove, contains_key, IsAntisymmetric, nat_cmp-IsAntisymmetric}
use Rattle.std.specs.List.{filter}
use Rattle.hub_kit.specs.KeyOrder.{name_cmp, key_cmp, key_exact}
use Rattle.hub_kit.specs.contracts.names.ServerKeyOrd.TheImpl.Laws as server_key
use Rattle.keyed_rows.specs.Rows.{OwnKeys, is_kept_and}
use Rattle.keyed_rows.specs.declared.PutError.{PutError}
use Rattle.keyed_rows.specs.declared.Room.{Room}
use Rattle.keyed_rows.specs.Puts.{IsAnswerIn, room_left}
use Rattle.keyed_rows.proofs.Puts.{full_answer, new_answer}
use Rattle.hub_tables.specs.Rooms.{for_memory}
use Rattle.keyed_rows.proofs.Finite.{put_and_removed, tied}
use Rattle.keyed_rows.proofs.InOrder.{own_keys}
use Rattle.hub_rows.specs.declared.keys.ShareKey.{ShareKey}
use Rattle.hub_tables.specs.Ends.{is_over}
use Rattle.hub_tables.specs.Hashes.{FitsToken}
use Rattle.hub_tables.specs.declared.parties.Party.{Party}
use Rattle.hub_tables.specs.declared.parties.Party.TheVariants.{User, Group, Service}
use Rattle.hub_tables.proofs.Picked.{found_among_found}
use Rattle.row_indexes.specs.Numbers.{number_of}
use Rattle.row_indexes.specs.Owned.{owned_cmp, under, keys_under, IsIndex, IsNoted, IsForgotten}
use Rattle.row_indexes.proofs.Indexed.{tells, put_new, put_in_place, taken, none_taken, forgot_none, noted_twice, forgotten_twice, noted_forgotten}
use Rattle.scope_filters.specs.Contexts.{same}
use Rattle.scope_filters.specs.declared.holder.Owner.{Owner}
use Rattle.scope_filters.specs.declared.holder.Owner.TheVariants as Of
use Rattle.hub_rows.specs.ShareOrder.{share_cmp, share_exact}
use Rattle.hub_rows.specs.contracts.keys.ShareKeyOrd.TheImpl.Laws as share_key
use Rattle.hub_rows.specs.declared.keys.Recipient.{Recipient}
use Rattle.hub_rows.specs.declared.keys.Recipient.TheVariants as To
use Rattle.hub_rows.specs.declared.records.ServerRow.{ServerRow}
use Rattle.hub_rows.specs.declared.records.Share.{Share}
use Rattle.hub_rows.specs.declared.records.Token.{Token}
use Rattle.hub_tables.specs.Lookups.{same_owner, same_recipient, is_given_by, is_share_with}
use Rattle.hub_tables.specs.Parties.{party_cmp, party_exact, of_owner, owner_number, of_recipient, giver_of, is_numbered, is_token_of, is_over_token_of, is_share_of}
use Rattle.hub_tables.specs.contracts.parties.PartyOrd.TheImpl.Laws as party

same_names : (a b : List ℕ) → eq_by_cmp name_cmp a b ≡ same b a
same_names a b = (eq_by_cmp_equiv nat_list_cmp_total).symm a b ∙ sym (texts_ties b a)

owner_test : (w o : Owner) → eq_by_cmp party_cmp (of_owner w) (of_owner o) ≡ same_owner o w
owner_test (Of.User a) (Of.User b) = same_names a b
owner_test (Of.User a) (Of.Service b) = refl
owner_test (Of.Service a) (Of.User b) = refl
owner_test (Of.Service a) (Of.Service b) = same_names a b

giver_test : (to : Recipient) (share : Share) → eq_by_cmp party_cmp (of_recipient to) (giver_of share.key) ≡ is_given_by to share.key
giver_test (To.User u) share = same_names u share.key.server.user
giver_test (To.Group g) share = refl

recipient_test : (w o : Recipient) → eq_by_cmp party_cmp (of_recipient w) (of_recipient o) ≡ same_recipient o w
recipient_test (To.User a) (To.User b) = same_names a b
recipient_test (To.User a) (To.Group b) = refl
recipient_test (To.Group a) (To.User b) = refl
recipient_test (To.Group a) (To.Group b) = same_names a b

share_test : (to : Recipient) (share : Share) → is_share_of (of_recipient to) share ≡ is_share_with to share
share_test to share =
    ap (λ b. b || eq_by_cmp party_cmp (of_recipient to) (of_recipient share.key.to)) (giver_test to share) ∙ ap (λ b. is_given_by to share.key || b) (recipient_test to share.key.to)

-- ---- the tokens of an owner, among those of its number

-- the number of the name in a party
abbrev number_in : Party → ℕ
number_in (User user) = number_of user
number_in (Group group) = number_of group
number_in (Service service) = number_of service

owner_number_in : (w : Owner) → number_in (of_owner w) ≡ owner_number w
owner_number_in (Of.User user) = refl
owner_number_in (Of.Service service) = refl

-- the tokens of an owner have its number
numbered : (w : Owner) (row : Token) → is_token_of (of_owner w) row ≡ true → is_numbered (owner_number w) row ≡ true
numbered w row h =
    ap (eq_by_cmp nat_cmp (owner_number w)) (sym (owner_number_in row.owner) ∙ ap number_in (sym (party_exact (of_owner w) (of_owner row.owner) (tied (party_cmp (of_owner w) (of_owner row.owner)) h))) ∙ owner_number_in w)
    ∙ ap is_eq (tied_itself nat_cmp_total (owner_number w))

pub token_ids : (rows : FinMap nat_cmp Token) (index : _) → IsIndex nat_cmp nat_cmp is_numbered rows index → OwnKeys (λ (row : Token). row.id) rows → (owner : Owner)
    → filter (λ id. is_kept_and (is_token_of (of_owner owner)) (get rows id)) (keys_under nat_cmp (owner_number owner) (keys index))
    ≡ map (λ (row : Token). row.id) (filter (λ (row : Token). same_owner row.owner owner) (values rows))
token_ids rows index x own owner =
    ap (filter (λ id. is_kept_and (is_token_of (of_owner owner)) (get rows id)))
    (tells nat_cmp nat_cmp nat_cmp_total nat_cmp-IsAntisymmetric nat_cmp_total nat_cmp-IsAntisymmetric (λ (row : Token). row.id) is_numbered rows index x own (owner_number owner))
    ∙ found_among_found nat_cmp-IsAntisymmetric nat_cmp_total (λ (row : Token). row.id) (is_token_of (of_owner owner)) (is_numbered (owner_number owner)) (numbered owner) rows own
    ∙ ap (λ p. map (λ (row : Token). row.id) (filter p (values rows))) (λ i row. owner_test owner row.owner i)

both : (a b c : Bool) → (a ≡ true → c ≡ true) → a && b ≡ true → c ≡ true
both true b c f h = f refl
both false b c f h = cc

-- the same of those that are over
pub over_ids : (now : ℕ) (rows : FinMap nat_cmp Token) (index : _) → IsIndex nat_cmp nat_cmp is_numbered rows index → OwnKeys (λ (row : Token). row.id) rows → (owner : Owner)
    → filter (λ id. is_kept_and (is_over_token_of (of_owner owner) now) (get rows id)) (keys_under nat_cmp (owner_number owner) (keys index))
    ≡ map (λ (row : Token). row.id) (filter (λ (row : Token). same_owner row.owner owner && is_over now row.expires_at) (values rows))
over_ids now rows index x own owner =
    ap (filter (λ id. is_kept_and (is_over_token_of (of_owner owner) now) (get rows id)))
    (tells nat_cmp nat_cmp nat_cmp_total nat_cmp-IsAntisymmetric nat_cmp_total nat_cmp-IsAntisymmetric (λ (row : Token). row.id) is_numbered rows index x own (owner_number owner))
    ∙ found_among_found nat_cmp-IsAntisymmetric nat_cmp_total (λ (row : Token). row.id) (is_over_token_of (of_owner owner) now) (is_numbered (owner_number owner))
    (λ row. both (is_token_of (of_owner owner) row) (is_over now row.expires_at) (is_numbered (owner_number owner) row) (numbered owner row)) rows own
    ∙ ap (λ p. map (λ (row : Token). row.id) (filter p (values rows))) (λ i row. owner_test owner row.owner i && is_over now row.expires_at)

pub share_keys : (rows : FinMap share_cmp Share) (index : _) → IsIndex party_cmp share_cmp is_share_of rows index → OwnKeys (λ (row : Share). row.key) rows → (to : Recipient)
    → keys_under party_cmp (of_recipient to) (keys index) ≡ map (λ (row : Share). row.key) (filter (is_share_with to) (values rows))
share_keys rows index x own to =
    tells party_cmp share_cmp party.total-law party_exact share_key.total-law share_exact (λ (row : Share). row.key) is_share_of rows index x own (of_recipient to)
    ∙ ap (λ p. map (λ (row : Share). row.key) (filter p (values rows))) (λ i row. share_test to row i)

pub server_keys : (rows : FinMap key_cmp ServerRow) → OwnKeys (λ (row : ServerRow). row.key) rows → (user : List ℕ)
    → filter (λ key. eq_by_cmp name_cmp key.user user) (keys rows) ≡ map (λ (row : ServerRow). row.key) (filter (λ (row : ServerRow). same row.key.user user) (values rows))
server_keys rows own user =
    own_keys server_key.total-law key_exact (λ (row : ServerRow). row.key) (λ key. eq_by_cmp name_cmp key.user user) rows own
    ∙ ap (λ p. map (λ (row : ServerRow). row.key) (filter p (values rows))) (λ i row. sym (texts_ties row.key.user user) i)

-- ---- the indexes stay in step

pub when_ok : {A E : Type 0} (r : Result A E) {P : Type 0} → is_ok r ≡ true → OnOk r P → P
when_ok (Ok v) e h = h
when_ok (Err v) e h = cc

pub when_err : {A E : Type 0} (r : Result A E) {P : Type 0} → is_ok r ≡ false → OnErr r P → P
when_err (Ok v) e h = cc
when_err (Err v) e h = h

none_kept : {X : Type 0} (x : Option X) → is_some x ≡ false → x ≡ None
none_kept None h = refl
none_kept (Some v) h = cc

one_value : {X : Type 0} {x : Option X} {v w : X} → x ≡ Some v → x ≡ Some w → v ≡ w
one_value h k = cc

-- a put at a new key that was undone
pub put_undone : {K X : Type 0} {R : K → K → Ordering} (total : IsTotalOrder R) (exact : IsAntisymmetric R) (rows put after : _) (k : K) (v : X)
    → put ≡ insert {R = R} rows k v → after ≡ remove put k → contains_key rows k ≡ false → after ≡ rows
put_undone total exact rows put after k v p a new = a ∙ ap (λ m. remove m k) p ∙ put_and_removed total exact rows k v new

-- where there is no memory for a row at a new key, whether it has room decides
pub no_memory : {K X : Type 0} {R : K → K → Ordering} (rows : FinMap R X) (key : K) → contains_key rows key ≡ false → (room : Option Room) → IsAnswerIn room rows key (Err (for_memory (room_left (len rows) room)))
no_memory rows key new room = elim (room_left (len rows) room) as (λ r. room_left (len rows) room ≡ r → IsAnswerIn room rows key (Err (for_memory r))) [
  | Ok u ↦ λ e. (new_answer rows key new room e).1
  | Err full ↦ λ e. full_answer rows key new room full e
] refl

module _ (rows rows' : FinMap nat_cmp Token) (index index' : FinMap (owned_cmp nat_cmp nat_cmp) (Unit {0})) (x : IsIndex nat_cmp nat_cmp is_numbered rows index) where
  pub tokens_as_before : rows' ≡ rows → index' ≡ index → IsIndex nat_cmp nat_cmp is_numbered rows' index'
  tokens_as_before e f = subst (λ m. IsIndex nat_cmp nat_cmp is_numbered m index') (sym e) (subst (IsIndex nat_cmp nat_cmp is_numbered rows) (sym f) x)

  pub token_in_place : (v : Token) → FitsToken rows v → rows' ≡ insert rows v.id v → contains_key rows v.id ≡ true → IsIndex nat_cmp nat_cmp is_numbered rows' index
  token_in_place v f e kept =
      put_in_place nat_cmp nat_cmp nat_cmp_total is_numbered rows index x v.id rows' index v (let r : Result (Unit {0}) PutError = Ok tt in r) e tt kept (λ old at o. ap (λ w. eq_by_cmp nat_cmp o (owner_number w)) (sym (f.owner old at)))

  pub token_noted : (v : Token) (n : ℕ) → n ≡ owner_number v.owner → rows' ≡ insert rows v.id v → contains_key rows v.id ≡ false → IsNoted nat_cmp nat_cmp n v.id index index'
      → IsIndex nat_cmp nat_cmp is_numbered rows' index'
  token_noted v n h e new noted =
      put_new nat_cmp nat_cmp nat_cmp_total is_numbered rows index x v.id rows' index' v e (none_kept (get rows v.id) new) (subst (λ p. IsNoted nat_cmp nat_cmp p v.id index index') h noted)

  pub token_taken : (id : ℕ) (row : Token) (n : ℕ) → get rows id ≡ Some row → n ≡ owner_number row.owner → rows' ≡ remove rows id → IsForgotten nat_cmp nat_cmp n id index index'
      → IsIndex nat_cmp nat_cmp is_numbered rows' index'
  token_taken id row n at h e forgotten =
      taken nat_cmp nat_cmp nat_cmp_total is_numbered rows index x id rows' index' (λ o. eq_by_cmp nat_cmp o n) e
      (λ old kept o. ap (λ (k : Token). eq_by_cmp nat_cmp o (owner_number k.owner)) (one_value kept at) ∙ ap (eq_by_cmp nat_cmp o) (sym h)) forgotten

  pub no_token_taken : (id : ℕ) → get rows id ≡ None → rows' ≡ remove rows id → IsIndex nat_cmp nat_cmp is_numbered rows' index
  no_token_taken id none e = none_taken nat_cmp nat_cmp nat_cmp_total is_numbered rows index x id rows' index e none

abbrev is_party : ShareKey → Party → Bool
is_party key party = eq_by_cmp party_cmp party (giver_of key) || eq_by_cmp party_cmp party (of_recipient key.to)

abbrev Index : Type 0
Index = FinMap (owned_cmp party_cmp share_cmp) (Unit {0})

module _ (key : ShareKey) (index one index' : Index) where
  pub parties_noted : (g w : Party) → g ≡ giver_of key → w ≡ of_recipient key.to → IsNoted party_cmp share_cmp g key index one → IsNoted party_cmp share_cmp w key one index'
      → (o : Party) (k : ShareKey) → contains_key index' (under o k) ≡ ((is_party key o && eq_by_cmp share_cmp k key) || contains_key index (under o k))
  parties_noted g w f h first second o k =
      subst (λ p. IsNoted party_cmp share_cmp p key one index') h second o k ∙ ap (λ b. (eq_by_cmp party_cmp o (of_recipient key.to) && eq_by_cmp share_cmp k key) || b) (subst (λ p. IsNoted party_cmp share_cmp p key index one) f first o k)
      ∙ noted_twice (eq_by_cmp party_cmp o (giver_of key)) (eq_by_cmp party_cmp o (of_recipient key.to)) (eq_by_cmp share_cmp k key) (contains_key index (under o k))

  pub parties_forgotten : (g w : Party) → g ≡ giver_of key → w ≡ of_recipient key.to → IsForgotten party_cmp share_cmp g key index one → IsForgotten party_cmp share_cmp w key one index'
      → (o : Party) (k : ShareKey) → contains_key index' (under o k) ≡ (not (is_party key o && eq_by_cmp share_cmp k key) && contains_key index (under o k))
  parties_forgotten g w f h first second o k =
      subst (λ p. IsForgotten party_cmp share_cmp p key one index') h second o k ∙ ap (λ b. not (eq_by_cmp party_cmp o (of_recipient key.to) && eq_by_cmp share_cmp k key) && b) (subst (λ p. IsForgotten party_cmp share_cmp p key index one) f first o k)
      ∙ forgotten_twice (eq_by_cmp party_cmp o (giver_of key)) (eq_by_cmp party_cmp o (of_recipient key.to)) (eq_by_cmp share_cmp k key) (contains_key index (under o k))

  -- the second failed after the first
  pub one_noted : (g : Party) → g ≡ giver_of key → IsNoted party_cmp share_cmp g key index one → index' ≡ one
      → (o : Party) (k : ShareKey) → (not (eq_by_cmp party_cmp o (giver_of key) && eq_by_cmp share_cmp k key) && contains_key index' (under o k)) ≡ (not (eq_by_cmp party_cmp o (giver_of key) && eq_by_cmp share_cmp k key) && contains_key index (under o k))
  one_noted g f first e o k =
      ap (λ b. not (eq_by_cmp party_cmp o (giver_of key) && eq_by_cmp share_cmp k key) && b) (ap (λ m. contains_key m (under o k)) e ∙ subst (λ p. IsNoted party_cmp share_cmp p key index one) f first o k)
      ∙ noted_forgotten (eq_by_cmp party_cmp o (giver_of key)) (eq_by_cmp share_cmp k key) (contains_key index (under o k))

module _ (rows rows' : FinMap share_cmp Share) (index index' : Index) (x : IsIndex party_cmp share_cmp is_share_of rows index) (own : OwnKeys (λ (row : Share). row.key) rows) where
  pub share_in_place : {E : Type 0} (v : Share) → (r : Result (Unit {0}) E) → OnOk r (rows' ≡ insert rows v.key v) → OnErr r (rows' ≡ rows) → contains_key rows v.key ≡ true
      → IsIndex party_cmp share_cmp is_share_of rows' index
  share_in_place v r ok err kept =
      put_in_place party_cmp share_cmp share_key.total-law is_share_of rows index x v.key rows' index v r ok err kept (λ old at o. ap (λ k. is_party k o) (sym (own v.key old at)))

  pub share_noted : (v : Share) → rows' ≡ insert rows v.key v → contains_key rows v.key ≡ false
      → ((o : Party) (k : ShareKey) → contains_key index' (under o k) ≡ ((is_party v.key o && eq_by_cmp share_cmp k v.key) || contains_key index (under o k)))
      → IsIndex party_cmp share_cmp is_share_of rows' index'
  share_noted v e new noted = put_new party_cmp share_cmp share_key.total-law is_share_of rows index x v.key rows' index' v e (none_kept (get rows v.key) new) noted

  pub share_undone : (key : ShareKey) (one : Index) → rows' ≡ rows → contains_key rows key ≡ false
      → ((o : Party) (k : ShareKey) → (not (eq_by_cmp party_cmp o (giver_of key) && eq_by_cmp share_cmp k key) && contains_key one (under o k)) ≡ (not (eq_by_cmp party_cmp o (giver_of key) && eq_by_cmp share_cmp k key) && contains_key index (under o k)))
      → (w : Party) → w ≡ giver_of key → IsForgotten party_cmp share_cmp w key one index' → IsIndex party_cmp share_cmp is_share_of rows' index'
  share_undone key one e new failed w h forgotten =
      forgot_none party_cmp share_cmp share_key.total-law is_share_of rows index x key rows' index' (giver_of key) e (none_kept (get rows key) new) (λ o k. subst (λ p. IsForgotten party_cmp share_cmp p key one index') h forgotten o k ∙ failed o k)

  pub share_taken : (key : ShareKey) → rows' ≡ remove rows key
      → ((o : Party) (k : ShareKey) → contains_key index' (under o k) ≡ (not (is_party key o && eq_by_cmp share_cmp k key) && contains_key index (under o k)))
      → IsIndex party_cmp share_cmp is_share_of rows' index'
  share_taken key e forgotten = taken party_cmp share_cmp share_key.total-law is_share_of rows index x key rows' index' (is_party key) e (λ old at o. ap (λ k. is_party k o) (own key old at)) forgotten
