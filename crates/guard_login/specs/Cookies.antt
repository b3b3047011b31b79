-- The cookies of a request (RFC 6265, section 4.2).
use Rattle.std.specs.Prelude.{ℕ, Bool, ◌&&◌, ◌||◌, ◌==◌, not, nat_le, nat_lt, List, [], ◌∷◌, length, take, drop, Option, Some, None}
use Rattle.std.specs.Prelude.{bytes_eq, codes, if◌then◌else◌}
use Rattle.std.specs.List.{list_all, slice_split}
use Rattle.http_wire.specs.declared.head.Header.{Header}
use Rattle.http_wire.specs.Fields.{is_named}
use Rattle.http_wire.specs.Words.{is_blank}
use Rattle.guard_login.specs.declared.cookies.Cookie.{Cookie}
use Rattle.guard_login.specs.declared.cookies.Cookie.TheVariants.{Token, State}

-- visible ASCII but `;` and `,`
abbrev pub is_token_byte : ℕ → Bool
is_token_byte b = nat_le 33 b && nat_le b 126 && not (b == 59) && not (b == 44)

-- the form of a token
abbrev pub is_token : List ℕ → Bool
is_token value = nat_le 8 (length value) && nat_le (length value) 255 && list_all is_token_byte value

-- a digit of lower-case hex
abbrev pub is_low_hex : ℕ → Bool
is_low_hex b = (nat_le 48 b && nat_le b 57) || (nat_le 97 b && nat_le b 102)

-- STATE.NEXT, where STATE is 32 digits of lower-case hex
abbrev pub is_state : List ℕ → Bool
is_state value = nat_lt 32 (length value) && (list_all is_low_hex (take 32 value) && bytes_eq (take 1 (drop 32 value)) (46 ∷ []))

-- the name and the equals sign
abbrev pub prefix_of : Cookie → List ℕ
prefix_of Token = codes "hub-guard="
prefix_of State = codes "hub-guard-state="

-- The value has the form of this cookie's values
abbrev pub is_form : Cookie → List ℕ → Bool
is_form Token value = is_token value
is_form State value = is_state value

-- without the blanks in front
abbrev pub unblank : List ℕ → List ℕ
unblank [] = []
unblank (b ∷ bytes) = if is_blank b then unblank bytes else b ∷ bytes

-- what stands behind a prefix
abbrev pub value_after : List ℕ → List ℕ → Option (List ℕ)
value_after prefix bytes = if bytes_eq (take (length prefix) bytes) prefix then Some (drop (length prefix) bytes) else None

-- a value that has the form
abbrev pub in_form : Cookie → Option (List ℕ) → Option (List ℕ)
in_form kind None = None
in_form kind (Some value) = if is_form kind value then Some value else None

-- the value of one cookie, where it has the name and the form
abbrev pub value_in : Cookie → List ℕ → Option (List ℕ)
value_in kind piece = in_form kind (value_after (prefix_of kind) (unblank piece))

-- The first of two values that may lack, or else the second
abbrev pub first_some : {A : Type 0} → Option A → Option A → Option A
first_some None other = other
first_some (Some a) other = Some a

-- the first such value of a header's pieces
abbrev pub cookie_in : Cookie → List (List ℕ) → Option (List ℕ)
cookie_in kind [] = None
cookie_in kind (piece ∷ pieces) = first_some (value_in kind piece) (cookie_in kind pieces)

-- what stands between semicolons
abbrev pub pieces : List ℕ → List (List ℕ)
pieces value = slice_split (λ b. b == 59) value

-- the first such value of a header, where it is named `Cookie`
abbrev pub header_cookie : Cookie → Header → Option (List ℕ)
header_cookie kind header = if is_named (codes "cookie") header then cookie_in kind (pieces header.value) else None

-- the value of the first cookie of a kind that has its form
abbrev pub cookie_of : Cookie → List Header → Option (List ℕ)
cookie_of kind [] = None
cookie_of kind (header ∷ headers) = first_some (header_cookie kind header) (cookie_of kind headers)
