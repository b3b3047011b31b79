-- The texts of scopes: NAME, NAME!KIND and NAME!KIND=VALUE. Places are counted in the whole text.
use Rattle.std.specs.Prelude.{ℕ, ◌+◌, ◌==◌, nat_lt, List, [], ◌++◌, length, codes, Option, Some, None, Result, Ok, Err, if◌then◌else◌}
use Rattle.std.specs.List.{position_or_len, before_first, after_first}
use Rattle.hub_kit.specs.Names.{name_read}
use Rattle.hub_kit.specs.ServerKeys.{key_read}
use Rattle.hub_kit.specs.declared.names.NameError.{NameError}
use Rattle.hub_kit.specs.declared.names.NameError.TheVariants as Name
use Rattle.scope_names.specs.declared.action.Action.{Action}
use Rattle.scope_names.specs.Actions.{text_of, action_read}
use Rattle.scope_filters.specs.Contexts.{same}
use Rattle.scope_filters.specs.declared.scope.Kind.{Kind}
use Rattle.scope_filters.specs.declared.scope.Kind.TheVariants as Ki
use Rattle.scope_filters.specs.declared.scope.RawFilter.{RawFilter}
use Rattle.scope_filters.specs.declared.scope.RawFilter.TheVariants as Raw
use Rattle.scope_filters.specs.declared.scope.RawScope.{RawScope}
use Rattle.scope_filters.specs.declared.scope.RawScope.TheVariants.{Plain, SelfScope, Inherit}
use Rattle.scope_filters.specs.declared.scope.ScopeError.{ScopeError}
use Rattle.scope_filters.specs.declared.scope.ScopeError.TheVariants as No

-- ---- reading

-- What stands before the first such byte of a text, or the whole text where it has none
abbrev pub before : ℕ → List ℕ → List ℕ
before byte text = before_first (λ b. b == byte) text

-- What stands after the first such byte of a text, where it has one
abbrev pub after : ℕ → List ℕ → Option (List ℕ)
after byte text = if nat_lt (position_or_len (λ b. b == byte) text) (length text) then Some (after_first (λ b. b == byte) text) else None

-- The kind that a text names, if it names one
abbrev pub kind_read : List ℕ → Option Kind
kind_read text =
    if same text (codes "user") then Some Ki.User
    else (if same text (codes "group") then Some Ki.Group
    else (if same text (codes "server") then Some Ki.Server
    else (if same text (codes "service") then Some Ki.Service else None)))

-- a kind alone, which ends at a place, is the holder's own. A holder is no group: the value is missed where it should begin
abbrev pub holder_read : ℕ → Kind → Result RawFilter ScopeError
holder_read end Ki.User = Ok Raw.HolderUser
holder_read end Ki.Group = Err (No.BadValue end)
holder_read end Ki.Server = Ok Raw.HolderServer
holder_read end Ki.Service = Ok Raw.HolderService

-- where a value that begins at a place is wrong: at its first bad byte, or at its first byte if it is empty or too long
abbrev pub value_error : ℕ → NameError → ScopeError
value_error at (Name.BadByte place) = No.BadValue (at + place)
value_error at Name.Empty = No.BadValue at
value_error at Name.TooLong = No.BadValue at
value_error at Name.Memory = No.Memory

-- The filter of a value that was read, which begins at a place, or where the value is wrong
abbrev pub filter_of : {X : Type 0} → (X → RawFilter) → ℕ → Result X NameError → Result RawFilter ScopeError
filter_of filter at (Ok name) = Ok (filter name)
filter_of filter at (Err e) = Err (value_error at e)

-- a kind with a value, which begins at a place
abbrev pub value_read : ℕ → Kind → List ℕ → Result RawFilter ScopeError
value_read at Ki.User value = filter_of Raw.User at (name_read value)
value_read at Ki.Group value = filter_of Raw.Group at (name_read value)
value_read at Ki.Server value = filter_of Raw.Server at (key_read value)
value_read at Ki.Service value = filter_of Raw.Service at (name_read value)

-- A filter whose kind, if it is one, ends at a place, and whose value, if it has one, stands behind the '=' there
abbrev pub kinded_read : ℕ → Option Kind → Option (List ℕ) → Result RawFilter ScopeError
kinded_read end None value = Err No.UnknownKind
kinded_read end (Some kind) None = holder_read end kind
kinded_read end (Some kind) (Some value) = value_read (end + 1) kind value

-- a filter, which begins at a place: KIND or KIND=VALUE, cut at the first '='
abbrev pub filter_read : ℕ → List ℕ → Result RawFilter ScopeError
filter_read at text = kinded_read (at + length (before 61 text)) (kind_read (before 61 text)) (after 61 text)

-- `self` and `inherit` take no filter
abbrev pub meta_read : RawScope → Option (List ℕ) → Result RawScope ScopeError
meta_read scope None = Ok scope
meta_read scope (Some filter) = Err No.FilterOnMeta

-- An action with the filter that was read
abbrev pub filtered : Action → Result RawFilter ScopeError → Result RawScope ScopeError
filtered a (Ok filter) = Ok (Plain a filter)
filtered a (Err e) = Err e

-- an action, whose text ends at a place
abbrev pub plain_read : ℕ → Option Action → Option (List ℕ) → Result RawScope ScopeError
plain_read end None filter = Err No.UnknownName
plain_read end (Some a) None = Ok (Plain a Raw.Unfiltered)
plain_read end (Some a) (Some filter) = filtered a (filter_read (end + 1) filter)

-- What a scope means whose text is this name, with this filter, if it has one
abbrev pub named_read : List ℕ → Option (List ℕ) → Result RawScope ScopeError
named_read name filter =
    if same name (codes "self") then meta_read SelfScope filter
    else (if same name (codes "inherit") then meta_read Inherit filter else plain_read (length name) (action_read name) filter)

-- what reading a scope gives. The text is cut at the first '!'
abbrev pub scope_read : List ℕ → Result RawScope ScopeError
scope_read text = named_read (before 33 text) (after 33 text)

-- ---- writing

-- The text of a filter behind its action
abbrev pub filter_text : RawFilter → List ℕ
filter_text Raw.Unfiltered = []
filter_text (Raw.User user) = codes "!user=" ++ user
filter_text (Raw.Group group) = codes "!group=" ++ group
filter_text (Raw.Server key) = codes "!server=" ++ (key.user ++ codes "/" ++ key.server)
filter_text (Raw.Service service) = codes "!service=" ++ service
filter_text Raw.HolderUser = codes "!user"
filter_text Raw.HolderServer = codes "!server"
filter_text Raw.HolderService = codes "!service"

-- The text of a scope
abbrev pub scope_text : RawScope → List ℕ
scope_text (Plain action filter) = text_of action ++ filter_text filter
scope_text SelfScope = codes "self"
scope_text Inherit = codes "inherit"
