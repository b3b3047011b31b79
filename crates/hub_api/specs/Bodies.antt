-- The bodies of the calls.
use Rattle.std.specs.Prelude.{ℕ, Bool, true, false, not, ◌&&◌, nat_le, List, [], ◌∷◌, length, codes, bytes_eq, Option, Some, None, Result}
use Rattle.std.specs.Prelude.{Ok, Err, ok_or}
use Rattle.std.specs.List.{list_any}
use Rattle.serde_json.specs.Data.{Data}
use Rattle.http_wire.specs.declared.request.Request.{Request}
use Rattle.scope_filters.specs.declared.scope.RawScope.{RawScope}
use Rattle.hub_rows.specs.declared.keys.Recipient.{Recipient}
use Rattle.hub_rows.specs.declared.keys.Recipient.TheVariants as To
use Rattle.request_parts.specs.Steps.{◌>>=◌}
use Rattle.request_parts.specs.Names.{name_of, moment_of}
use Rattle.request_parts.specs.Activity.{activity_at}
use Rattle.request_parts.specs.Bodies.{body_object, number_at, number_or, truth_at, truth_or, list_at, optional_at}
use Rattle.request_parts.specs.Scopes.{scopes_read}
use Rattle.request_parts.specs.declared.scopes.ScopeFault.{ScopeFault}
use Rattle.hub_api.specs.declared.refusal.ApiRefusal.{ApiRefusal}
use Rattle.hub_api.specs.declared.refusal.ApiRefusal.TheVariants.{BadBody, BadScope}

-- the value, if it passes the test
abbrev pub if_of_form : {T : Type 0} → Bool → T → Result T ApiRefusal
if_of_form true value = Ok value
if_of_form false value = Err BadBody

-- the one JSON object that the body is
unfoldable pub body_of : Request → Result Data ApiRefusal
body_of q = ok_or (body_object q.body) BadBody

-- a truth value whose key has to stand there
unfoldable pub needed_truth : List ℕ → Data → Result Bool ApiRefusal
needed_truth key body = ok_or (truth_at key body) BadBody

-- a truth value that is false where its key is absent
unfoldable pub truth : List ℕ → Data → Result Bool ApiRefusal
truth key body = ok_or (truth_or false key body) BadBody

-- a list of texts of a form, which is empty where its key is absent
unfoldable pub list : {N : Type 0} → (List ℕ → Option N) → List ℕ → Data → Result (List N) ApiRefusal
list reads key body = ok_or (list_at reads key body) BadBody

-- a list of names
abbrev pub names : List ℕ → Data → Result (List (List ℕ)) ApiRefusal
names key body = list name_of key body

-- a list of 1 to 1,000 names
abbrev pub are_some : List (List ℕ) → Bool
are_some names = nat_le 1 (length names) && nat_le (length names) 1000

unfoldable pub some_names : List ℕ → Data → Result (List (List ℕ)) ApiRefusal
some_names key body = do
  read ← names key body
  if_of_form (are_some read) read

abbrev pub are_distinct : List (List ℕ) → Bool
are_distinct [] = true
are_distinct (name ∷ rest) = not (list_any (λ other. bytes_eq other name) rest) && are_distinct rest

-- a list of 1 to 1,000 distinct names
unfoldable pub distinct_names : List ℕ → Data → Result (List (List ℕ)) ApiRefusal
distinct_names key body = do
  read ← some_names key body
  if_of_form (are_distinct read) read

-- a moment, which may be absent
unfoldable pub moment : List ℕ → Data → Result (Option ℕ) ApiRefusal
moment key body = ok_or (optional_at moment_of key body) BadBody

-- a text of at most 256 bytes, or the empty one
abbrev pub note_of : Option (List ℕ) → Result (List ℕ) ApiRefusal
note_of None = Ok []
note_of (Some text) = if_of_form (nat_le (length text) 256) text

unfoldable pub note : List ℕ → Data → Result (List ℕ) ApiRefusal
note key body = do
  text ← ok_or (optional_at Some key body) BadBody
  note_of text

-- 1 to 4,294,967,295 seconds, or no end
abbrev pub seconds_of : Option ℕ → Result (Option ℕ) ApiRefusal
seconds_of None = Ok None
seconds_of (Some n) = if_of_form (nat_le 1 n && nat_le n 4294967295) (Some n)

unfoldable pub seconds : List ℕ → Data → Result (Option ℕ) ApiRefusal
seconds key body = do
  number ← ok_or (number_at key body) BadBody
  seconds_of number

-- at most 4,294,967,295 seconds, which are a day where their key is absent
unfoldable pub life : List ℕ → Data → Result ℕ ApiRefusal
life key body = do
  number ← ok_or (number_or 86400 key body) BadBody
  if_of_form (nat_le number 4294967295) number

-- a text whose key has to stand there
unfoldable pub needed_text : List ℕ → Data → Result (List ℕ) ApiRefusal
needed_text key body = do
  text ← ok_or (optional_at Some key body) BadBody
  ok_or text BadBody

-- the one who is named: nobody, where neither a user nor a group is, or both are
abbrev pub one_of : (user group : Option (List ℕ)) → Option Recipient
one_of (Some user) None = Some (To.User user)
one_of None (Some group) = Some (To.Group group)
one_of _ _ = None

unfoldable pub recipient : Data → Result (Option Recipient) ApiRefusal
recipient body = do
  user ← ok_or (optional_at name_of (codes "user") body) BadBody
  group ← ok_or (optional_at name_of (codes "group") body) BadBody
  Ok (one_of user group)

-- of each of some servers its name, and when it was last active, if that is told
unfoldable pub activity : List ℕ → Data → Result (List (List ℕ × Option ℕ)) ApiRefusal
activity key body = ok_or (activity_at key body) BadBody

-- at most 64 texts that are to be scopes
unfoldable pub scope_texts : Data → Result (List (List ℕ)) ApiRefusal
scope_texts body = do
  texts ← list Some (codes "scopes") body
  if_of_form (nat_le (length texts) 64) texts

abbrev pub scopes_or : Result (List RawScope) ScopeFault → Result (List RawScope) ApiRefusal
scopes_or (Ok scopes) = Ok scopes
scopes_or (Err fault) = Err (BadScope fault.index fault.error)

-- the scopes that the texts are
unfoldable pub scopes : List (List ℕ) → Result (List RawScope) ApiRefusal
scopes texts = scopes_or (scopes_read texts)
