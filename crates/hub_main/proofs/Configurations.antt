-- What is true of each configuration of a session: it has no more bytes for its trail than the greatest, and its custom scopes make a table.
use Rattle.std.proofs.Common.{◌≡◌, ◌≤◌, ◌^◌, ℕ, ℤ, pos, negsuc, Bool, true, false, nat_le, List, length, Option, Some, None, Result, Ok, Err, IfErr, option_and_then, if◌then◌else◌, unwrap_or, codes, refl, sym, subst, arith, rules}
use Rattle.toml.specs.Data.{Data, Members, get, as_integer, table as table_of}
use Rattle.toml.specs.Parse.{parse_document}
use Rattle.std.specs.Str.{is_utf8}
use Rattle.scope_names.specs.declared.custom.CustomRow.{CustomRow}
use Rattle.hub_rows.specs.declared.limits.Limits.{Limits}
use Rattle.hub_rows.specs.declared.records.Group.{Group}
use Rattle.hub_rows.specs.declared.records.Role.{Role}
use Rattle.hub_opening.specs.Kept.{MakeTable}
use Rattle.hub_opening.specs.Opening.{greatest_limits}
use Rattle.hub_opening.proofs.Scopes.{none_make_table}
use Rattle.hub_opening.specs.declared.config.ConfigUser.{ConfigUser}
use Rattle.hub_opening.specs.declared.config.ConfigService.{ConfigService}
use Rattle.hub_opening.specs.declared.config.ConfigToken.{ConfigToken}
use Rattle.hub_opening.specs.declared.config.HubConfig.{HubConfig}
use Rattle.hub_config.specs.Settings.{pair, if_there, optional, up_to, limit_of, has_only}
use Rattle.hub_config.specs.Places.{limits_of, limits_from, limits, limit_keys}
use Rattle.hub_config.specs.Config.{config_in, config_of, document_in, text_in, file_from, hub, hub_from, known_keys}
use Rattle.hub_config.specs.Faults.{Read, at_key, broken, by_rule, map_ok}
use Rattle.hub_config.specs.declared.config_key.ConfigKey.{ConfigKey}
use Rattle.hub_config.specs.declared.config_key.ConfigKey.TheVariants as its
use Rattle.hub_config.specs.declared.fault.Fault.{Fault}
use Rattle.hub_config.specs.declared.fault.Rule.{Rule}
use Rattle.hub_config.specs.declared.fault.Rule.TheVariants.{Number, Size, Utf8}
use Rattle.hub_config.specs.declared.config.ConfigManaged.{ConfigManaged}
use Rattle.hub_config.specs.declared.config.FileConfig.{FileConfig}
use Rattle.hub_words.specs.declared.session.SessionWords.{SessionWords}
use Rattle.hub_devices.specs.NamedFiles.{Reads}
use Rattle.hub_main.specs.Told.{FilesTold}
use Rattle.hub_main.specs.Configured.{AreNone, IsConfig, IsFile, IsFound, IsUnfound, SaysNothing, most}
use Rattle.hub_main.specs.declared.cause.Cause.{Cause}
use Rattle.hub_main.specs.declared.cause.Cause.TheVariants.{Words, Memory, NoFile, NoConfig, UnknownName, NoStore, NotOpened}

abbrev If : {A : Type 0} → (A → Type 0) → Read A → Type 0
If P (Err fault) = Unit {0}
If P (Ok a) = P a

abbrev IfGiven : {A : Type 0} → (A → Type 0) → Option A → Type 0
IfGiven P None = Unit {0}
IfGiven P (Some a) = P a

if_ok : {A : Type 0} (P : A → Type 0) (o : Read A) (a : A) → If P o → o ≡ Ok a → P a
if_ok {A = A} P o a all is = subst (λ (x : Read A). If P x) is all

if_map : {A B : Type 0} (Q : A → Type 0) (P : B → Type 0) (f : A → B) (o : Read A) → ((a : A) → Q a → P (f a)) → If Q o → If P (map_ok f o)
if_map Q P f (Err fault) leads all = tt
if_map Q P f (Ok a) leads all = leads a all

if_key : {A : Type 0} (P : A → Type 0) (key : ConfigKey) (o : Read A) → If P o → If P (at_key key o)
if_key P key (Ok a) all = all
if_key P key (Err fault) all = tt

if_rule : {A : Type 0} (P : A → Type 0) (rule : Rule) (o : Option A) → IfGiven P o → If P (by_rule rule o)
if_rule P rule (Some a) all = all
if_rule P rule None all = tt

given_then : {A B : Type 0} (P : B → Type 0) (f : A → Option B) (o : Option A) → ((a : A) → IfGiven P (f a)) → IfGiven P (option_and_then f o)
given_then P f None leads = tt
given_then P f (Some a) leads = leads a

given_test : {A : Type 0} (P : A → Type 0) (test : Bool) (o : Option A) → (test ≡ true → IfGiven P o) → IfGiven P (if test then o else None)
given_test P true o all = all refl
given_test P false o all = tt

if_left : {A B : Type 0} (P : A → Type 0) (a : Read A) (b : Read B) → If P a → If (λ (x : A × B). P x.0) (pair a b)
if_left P (Ok a) (Ok b) all = all
if_left P (Ok a) (Err fault) all = tt
if_left P (Err fault) b all = tt

if_right : {A B : Type 0} (P : B → Type 0) (a : Read A) (b : Read B) → If P b → If (λ (x : A × B). P x.1) (pair a b)
if_right P (Ok a) (Ok b) all = all
if_right P (Ok a) (Err fault) all = tt
if_right P (Err fault) b all = tt

if_test : {A : Type 0} (P : A → Type 0) (test : Bool) (o : Read A) (fault : Fault) → (test ≡ true → If P o) → If P (if test then o else Err fault)
if_test P true o fault all = all refl
if_test P false o fault all = tt

abbrev Few : ℕ → Type 0
Few n = n ≤ 1073741824

abbrev FewOf : Limits → Type 0
FewOf l = Few l.trail_bytes

-- ---- one number

within : (n : ℕ) → nat_le n 1073741824 ≡ true → Few n
within n h = search (rules, h)

up_to_few : (n : ℤ) → IfGiven Few (up_to 1073741824 n)
up_to_few (pos n) = given_test Few (nat_le n 1073741824) (Some n) (within n)
up_to_few (negsuc n) = tt

limit_few : (key : ConfigKey) (value : Option Data) → If Few (limit_of 1073741824 key value)
limit_few key None = omega arith
limit_few key (Some value) =
    if_key Few key _ (if_rule Few (Number 1073741824) _ (given_then Few (up_to 1073741824) (as_integer value) up_to_few))

-- ---- the limits

limits_from_few : (parts : (ℕ × (ℕ × ℕ)) × ((ℕ × (ℕ × ℕ)) × (ℕ × (ℕ × ℕ)))) → Few parts.1.1.1.1 → FewOf (limits_from parts)
limits_from_few ((users, (groups, services)), ((roles, (servers, tokens)), (shares, (share_codes, trail_bytes)))) few = few

limits_of_few : (value : Data) → If FewOf (limits_of value)
limits_of_few value = if_test FewOf (has_only limit_keys value) _ _ (λ known.
    if_map (λ parts. Few parts.1.1.1.1) FewOf limits_from _ limits_from_few
    (if_right (λ rights. Few rights.1.1.1) _ _ (if_right (λ rest. Few rest.1.1) _ _ (if_right (λ last. Few last.1) _ _ (if_right Few _ _ (limit_few its.TrailBytes (get (codes "trail_bytes") value)))))))

given_few : (given : Option Limits) → IfGiven FewOf given → FewOf (unwrap_or given greatest_limits)
given_few None few = omega arith
given_few (Some l) few = few

there_few : (value : Option Data) → If (IfGiven FewOf) (if_there limits_of its.Limits value)
there_few None = tt
there_few (Some value) =
    if_map FewOf (IfGiven FewOf) Some (at_key its.Limits (limits_of value)) (λ l few. few) (if_key FewOf its.Limits (limits_of value) (limits_of_few value))

limits_few : (value : Data) → If FewOf (limits value)
limits_few value = if_map (IfGiven FewOf) FewOf (λ given. unwrap_or given greatest_limits) (optional limits_of its.Limits value) given_few (there_few (get (codes "limits") value))

-- ---- the file

abbrev FewOfHub : HubConfig → Type 0
FewOfHub c = FewOf c.limits

hub_from_few : (parts : (List (List ℕ) × (Option (List ℕ) × Limits)) × ((List ConfigUser × (List Group × List ConfigService)) × (List Role × (List ConfigToken × List CustomRow))))
    → FewOf parts.0.1.1 → FewOfHub (hub_from parts)
hub_from_few ((targets, (hub_url, limits)), ((users, (groups, services)), (roles, (tokens, custom_scopes)))) few = few

hub_few : (value : Data) → If FewOfHub (hub value)
hub_few value = if_map (λ parts. FewOf parts.0.1.1) FewOfHub hub_from _ hub_from_few
    (if_left (λ places. FewOf places.1.1) _ _ (if_right (λ rest. FewOf rest.1) _ _ (if_right FewOf _ _ (limits_few value))))

abbrev FewOfFile : FileConfig → Type 0
FewOfFile c = FewOfHub c.hub

file_from_few : (parts : ((Option (List ℕ) × (List (List ℕ) × Option (List ℕ × List ℕ))) × List ConfigManaged) × HubConfig)
    → FewOfHub parts.1 → FewOfFile (file_from parts)
file_from_few (((listen, (command, proxy)), managed), hub) few = few

file_few : (value : Data) → If FewOfFile (config_of value)
file_few value = if_test FewOfFile (has_only known_keys value) _ _ (λ known.
    if_map (λ parts. FewOfHub parts.1) FewOfFile file_from _ file_from_few (if_right FewOfHub _ _ (hub_few value)))

document_few : (members : Option Members) → If FewOfFile (document_in members)
document_few None = tt
document_few (Some members) = file_few (table_of members)

text_few : (bytes : List ℕ) → If FewOfFile (text_in bytes)
text_few bytes = if_test FewOfFile (is_utf8 bytes) (document_in (parse_document bytes)) (broken Utf8) (λ text. document_few (parse_document bytes))

bytes_few : (bytes : List ℕ) → If FewOfFile (config_in bytes)
bytes_few bytes = if_test FewOfFile (nat_le (length bytes) 1048576) (text_in bytes) (broken Size) (λ fits. text_few bytes)

pub trail_bytes_few : (bytes : List ℕ) (file : FileConfig) → config_in bytes ≡ Ok file → file.hub.limits.trail_bytes ≤ 2 ^ 62
trail_bytes_few bytes file says =
    let few : file.hub.limits.trail_bytes ≤ 1073741824 = if_ok FewOfFile (config_in bytes) file (bytes_few bytes) says in
    omega (arith, few)

-- ---- a file that was read

pub file_fits : (files : FilesTold) (name : List ℕ) (file : FileConfig) → IsFile files name file → file.hub.limits.trail_bytes ≤ 2 ^ 62
file_fits files name file found = trail_bytes_few found.bytes file found.said.says

pub file_scopes : (files : FilesTold) (name : List ℕ) (file : FileConfig) → IsFile files name file → MakeTable file.hub.custom_scopes
file_scopes files name file found = found.said.sound.table

-- ---- a session's configuration

found_few : (files : FilesTold) (name : Option (List ℕ)) (hub : HubConfig) → IsFound files name hub → hub.limits.trail_bytes ≤ 2 ^ 62
found_few files None hub is = subst (λ (h : HubConfig). h.limits.trail_bytes ≤ 2 ^ 62) (sym is) (omega arith)
found_few files (Some name) hub (file, found, is) =
    subst (λ (h : HubConfig). h.limits.trail_bytes ≤ 2 ^ 62) (sym is) (file_fits files name file found)

pub config_few : (files : FilesTold) (words : SessionWords) (config : HubConfig) → IsConfig files words config → config.limits.trail_bytes ≤ 2 ^ 62
config_few files words config is =
    subst (λ (h : HubConfig). h.limits.trail_bytes ≤ 2 ^ 62) (sym is.is) (found_few files words.config is.hub is.found)

-- ---- its custom scopes

found_scopes : (files : FilesTold) (name : Option (List ℕ)) (hub : HubConfig) → IsFound files name hub → MakeTable hub.custom_scopes
found_scopes files None hub is = subst (λ (h : HubConfig). MakeTable h.custom_scopes) (sym is) none_make_table
found_scopes files (Some name) hub (file, found, is) =
    subst (λ (h : HubConfig). MakeTable h.custom_scopes) (sym is) (file_scopes files name file found)

pub config_scopes : (files : FilesTold) (words : SessionWords) (config : HubConfig) → IsConfig files words config → MakeTable config.custom_scopes
config_scopes files words config is =
    subst (λ (h : HubConfig). MakeTable h.custom_scopes) (sym is.is) (found_scopes files words.config is.hub is.found)

-- ---- bytes that say nothing

pub unfound : {A : Type 0} (files files' : FilesTold) (name bytes : List ℕ) (r : Result A Cause)
    → Reads files.files name most bytes → IfErr r (SaysNothing bytes) → IfErr r (IsUnfound files files' (Some name))
unfound files files' name bytes (Ok found) reads unsaid = tt
unfound files files' name bytes (Err (NoConfig read)) reads unsaid = (
  subst (λ (b : List ℕ). Reads files.files name most b) (sym unsaid.0) reads,
  subst AreNone (sym unsaid.0) unsaid.1,
)
unfound files files' name bytes (Err Memory) reads unsaid = tt
unfound files files' name bytes (Err Words) reads unsaid = absurd unsaid
unfound files files' name bytes (Err NoFile) reads unsaid = absurd unsaid
unfound files files' name bytes (Err (UnknownName unknown)) reads unsaid = absurd unsaid
unfound files files' name bytes (Err NoStore) reads unsaid = absurd unsaid
unfound files files' name bytes (Err (NotOpened e)) reads unsaid = absurd unsaid

-- what was found, or why nothing was, in the file that a name names
pub named_found : (files : FilesTold) (name : Option (List ℕ)) (found : List ℕ) (file : FileConfig) (hub : HubConfig)
    → name ≡ Some found → IsFile files found file → hub ≡ file.hub → IsFound files name hub
named_found files name found file hub named is of = subst (λ (n : Option (List ℕ)). IsFound files n hub) (sym named) (file, is, of)

pub named_unfound : (files files' : FilesTold) (name : Option (List ℕ)) (found : List ℕ) (cause : Cause)
    → name ≡ Some found → IsUnfound files files' (Some found) cause → IsUnfound files files' name cause
named_unfound files files' name found cause named unfound = subst (λ (n : Option (List ℕ)). IsUnfound files files' n cause) (sym named) unfound
