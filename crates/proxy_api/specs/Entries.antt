-- What the body of an addition says: a JSON object with a target, perhaps a serial, and any other members, which are kept.
use Rattle.std.specs.Prelude.{ℕ, Bool, ◌||◌, nat_lt, List, length, bytes_eq, codes, Option, Some, None, Result, Ok, Err, option_and_then}
use Rattle.std.specs.Prelude.{option_map, if◌then◌else◌}
use Rattle.hub_kit.specs.Targets.{target_of}
use Rattle.serde_json.specs.Data.{Data, object, Members, no_members, member}
use Rattle.serde_json.specs.Find.{get, as_str, as_number, as_object, as_u64}
use Rattle.serde_json.specs.Written.{members_have_float, compact_text}
use Rattle.request_parts.specs.Bodies.{body_object}
use Rattle.route_table.specs.declared.route.RouteEntry.{RouteEntry}
use Rattle.proxy_api.specs.declared.calls.ApiRefusal.{ApiRefusal}
use Rattle.proxy_api.specs.declared.calls.ApiRefusal.TheVariants.{TooLarge, BadBody, BadTarget}

-- the keys that the proxy writes itself
abbrev pub is_own : List ℕ → Bool
is_own key = bytes_eq key (codes "last_activity") || (bytes_eq key (codes "serial") || bytes_eq key (codes "target"))

-- the members under other keys
abbrev pub others : Members → Members
others no_members = no_members
others (member key value ms) = if is_own key then others ms else member key value (others ms)

-- their compact text, where no number in them is read as a float
abbrev pub text_of : Members → Option (List ℕ)
text_of ms = if members_have_float ms then None else Some (compact_text (object ms))

abbrev pub extra_text : Members → Option (List ℕ)
extra_text ms = text_of (others ms)

abbrev pub extra_at : Data → Option (List ℕ)
extra_at body = option_and_then extra_text (as_object body)

-- the text at `target`
abbrev pub target_at : Data → Option (List ℕ)
target_at body = option_and_then as_str (get (codes "target") body)

-- the number of a `u64` at `serial`, or none where the key is absent
abbrev pub serial_or : Option Data → Option (Option ℕ)
serial_or None = Some None
serial_or (Some value) = option_map Some (option_and_then as_u64 (as_number value))

abbrev pub serial_at : Data → Option (Option ℕ)
serial_at body = serial_or (get (codes "serial") body)

-- the entry to a target, which is told by its text
abbrev pub entry_at : Option (List ℕ) → Option ℕ → List ℕ → Result RouteEntry ApiRefusal
entry_at None serial extra = Err BadTarget
entry_at (Some target) serial extra = Ok (record { target = target; serial = serial; extra = extra })

abbrev pub entry_to : List ℕ → Option ℕ → List ℕ → Result RouteEntry ApiRefusal
entry_to target serial extra = entry_at (target_of target) serial extra

-- the entry of its three parts
abbrev pub entry_of : Option (List ℕ) → Option (Option ℕ) → Option (List ℕ) → Result RouteEntry ApiRefusal
entry_of (Some target) (Some serial) (Some extra) = entry_to target serial extra
entry_of (Some target) (Some serial) None = Err BadBody
entry_of (Some target) None extra = Err BadBody
entry_of None serial extra = Err BadBody

abbrev pub entry_in : Data → Result RouteEntry ApiRefusal
entry_in body = entry_of (target_at body) (serial_at body) (extra_at body)

abbrev pub entry_read : Option Data → Result RouteEntry ApiRefusal
entry_read None = Err BadBody
entry_read (Some body) = entry_in body

-- the entry that a body says, or why it is refused
abbrev pub entry_said : List ℕ → Result RouteEntry ApiRefusal
entry_said body = if nat_lt 4096 (length body) then Err TooLarge else entry_read (body_object body)
