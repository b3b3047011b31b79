-- What a new token is issued as, and which rule refuses it first.
use Rattle.std.specs.Prelude.{◌≡◌, ℕ, ◌+◌, Bool, true, false, IsTrue, List, [], ◌∷◌, Option, Some, None, Result, Ok, Err, option_map}
use Rattle.std.specs.Prelude.{is_some}
use Rattle.std.specs.Ordering.{is_le}
use Rattle.hub_kit.specs.Hashes.{hash_text}
use Rattle.hub_kit.specs.Moments.{capped}
use Rattle.scope_names.specs.declared.action.Action.{Action}
use Rattle.scope_filters.specs.declared.filter.Filter.{Filter}
use Rattle.scope_filters.specs.declared.holder.Holder.{Holder}
use Rattle.scope_filters.specs.declared.holder.Owner.{Owner}
use Rattle.scope_filters.specs.declared.holder.Owner.TheVariants as Of
use Rattle.scope_filters.specs.declared.object.Object.{Object}
use Rattle.scope_filters.specs.declared.scope.RawScope.{RawScope}
use Rattle.scope_filters.specs.declared.scope.RawScope.TheVariants.{Inherit}
use Rattle.scope_filters.specs.Grants.{Rights, grant_admits}
use Rattle.scope_filters.specs.Known.{unknown_scope}
use Rattle.scope_filters.specs.Scopes.{scope_text}
use Rattle.scope_expand.specs.Covering.{IsCovering}
use Rattle.scope_expand.specs.Meaning.{IsMeant, plain_scopes}
use Rattle.scope_expand.specs.Passes.{OneOf}
use Rattle.scope_meet.specs.Containment.{IsOutside, row_cmp, same_filter}
use Rattle.scope_meet.specs.Named.{IsObject}
use Rattle.scope_meet.specs.declared.inside.Inside.{Inside}
use Rattle.scope_meet.specs.declared.inside.Inside.TheVariants.{Yes, NotHeld}
use Rattle.hub_rows.specs.declared.records.Token.{Token}
use Rattle.hub_tables.specs.Lookups.{token_of_hash}
use Rattle.hub_tables.specs.Memberships.{members_of}
use Rattle.hub_tables.specs.State.{State}
use Rattle.token_store.specs.declared.issuing.IssueError.{IssueError}
use Rattle.token_store.specs.declared.issuing.IssueError.TheVariants as No
use Rattle.token_store.specs.declared.issuing.TokenAsk.{TokenAsk}

-- ---- the token

-- no scopes are `inherit`
abbrev pub or_inherit : List RawScope → List RawScope
or_inherit [] = Inherit ∷ []
or_inherit (scope ∷ scopes) = scope ∷ scopes

-- the end of what lasts so many seconds from now, or for ever
abbrev pub end_of : (now : ℕ) → Option ℕ → Option ℕ
end_of now None = None
end_of now (Some seconds) = Some (capped (now + seconds))

-- the token that is asked for, with the scopes as they were asked
abbrev pub issued : TokenAsk → (hash : List ℕ) → (id now : ℕ) → Token
issued ask hash id now = record {
  id = id;
  client = None;
  created = now;
  expires_at = end_of now ask.expires_in;
  hash = hash;
  issued_for = None;
  note = ask.note;
  owner = Of.User ask.owner;
  scopes = or_inherit ask.scopes;
}

-- ---- whether the rights hold what is asked for

-- the holder of scopes that an owner asks for: no server is issued to it
abbrev pub asking : Owner → Holder
asking owner = record { owner = owner; issued_for = None }

-- one of the asked scopes means this filter, under an action that it covers, and the rights don't hold that whole
abbrev pub IsMissing : State → Rights → Owner → List RawScope → Action → Filter → Type 0
IsMissing t rights owner scopes action filter =
    OneOf (IsCovering t.scopes (same_filter filter) action) (plain_scopes scopes (asking owner))
    × IsOutside (members_of t.groups) rights action filter

-- all that the asked scopes mean lies within the rights; or else this is the first row that doesn't, by the texts of the action and then of
-- the filter
abbrev pub AreWithin : State → Rights → Owner → List RawScope → Inside → Type 0
AreWithin t rights owner scopes Yes =
    (action : Action) (x : Object) → IsObject x → IsMeant t.scopes scopes (asking owner) (members_of t.groups) action x
    → IsTrue (grant_admits (members_of t.groups) rights action x)
AreWithin t rights owner scopes (NotHeld action filter) =
    IsMissing t rights owner scopes action filter
    × ((other : Action) (wider : Filter) → IsMissing t rights owner scopes other wider → IsTrue (is_le (row_cmp action filter other wider)))

-- ---- the rules in their order

-- A kept token has this hash
abbrev pub is_hash_kept : State → (hash : List ℕ) → Bool
is_hash_kept t hash = is_some (token_of_hash t hash)

-- the text of the first scope whose custom name isn't declared
abbrev pub unknown_text : State → List RawScope → Option (List ℕ)
unknown_text t scopes = option_map scope_text (unknown_scope t.scopes scopes)

-- the asked scopes are declared, and within the rights
abbrev pub Passes : State → Rights → TokenAsk → Type 0
Passes t rights ask = (unknown_text t ask.scopes ≡ None) × AreWithin t rights (Of.User ask.owner) ask.scopes Yes

-- issuing tells the token, or the first rule that refuses it; but at any time there may be no memory
abbrev pub Issues : State → Rights → TokenAsk → (text : List ℕ) → (id now : ℕ) → Result Token IssueError → Type 0
Issues t rights ask text id now (Ok token) = Passes t rights ask × (is_hash_kept t (hash_text text) ≡ false)
    × (token ≡ issued ask (hash_text text) id now)
Issues t rights ask text id now (Err (No.UnknownScope scope)) = unknown_text t ask.scopes ≡ Some scope
Issues t rights ask text id now (Err (No.NotHeld action filter)) =
    (unknown_text t ask.scopes ≡ None) × AreWithin t rights (Of.User ask.owner) ask.scopes (NotHeld action filter)
Issues t rights ask text id now (Err No.HashKept) = Passes t rights ask × (is_hash_kept t (hash_text text) ≡ true)
Issues t rights ask text id now (Err No.Memory) = Unit {0}

-- the first rules, which ask nothing of the token's text
abbrev pub Checks : State → Rights → TokenAsk → Result (Unit {0}) IssueError → Type 0
Checks t rights ask (Ok _) = Passes t rights ask
Checks t rights ask (Err (No.UnknownScope scope)) = unknown_text t ask.scopes ≡ Some scope
Checks t rights ask (Err (No.NotHeld action filter)) =
    (unknown_text t ask.scopes ≡ None) × AreWithin t rights (Of.User ask.owner) ask.scopes (NotHeld action filter)
Checks t rights ask (Err No.HashKept) = ⊥
Checks t rights ask (Err No.Memory) = Unit {0}
