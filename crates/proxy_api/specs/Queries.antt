-- What the query of a listing and of a deletion says.
use Rattle.std.specs.Prelude.{ℕ, List, codes, Option, Some, None, Result, Ok, Err}
use Rattle.jiff.specs.Words.{parse_timestamp}
use Rattle.http_wire.specs.Decimal.{number_in}
use Rattle.http_wire.specs.declared.decimal.Decimal.{Decimal}
use Rattle.http_wire.specs.declared.decimal.Decimal.TheVariants.{Number, Past, Other}
use Rattle.hub_kit.specs.MomentReads.{moment_read}
use Rattle.hub_kit.specs.declared.moments.MomentError.{MomentError}
use Rattle.request_parts.specs.Queries.{query_value}
use Rattle.proxy_api.specs.declared.calls.ApiRefusal.{ApiRefusal}
use Rattle.proxy_api.specs.declared.calls.ApiRefusal.TheVariants.{BadQuery}

-- a text that reads as a moment
abbrev pub since_read : Result ℕ MomentError → Result (Option ℕ) ApiRefusal
since_read (Ok moment) = Ok (Some moment)
since_read (Err e) = Err BadQuery

abbrev pub since_of : List ℕ → Result (Option ℕ) ApiRefusal
since_of text = since_read (moment_read (parse_timestamp text))

abbrev pub since_in : Option (List ℕ) → Result (Option ℕ) ApiRefusal
since_in None = Ok None
since_in (Some text) = since_of text

-- before which moment the listed routes were last used
abbrev pub since_asked : List ℕ → Result (Option ℕ) ApiRefusal
since_asked query = since_in (query_value (codes "inactiveSince") query)

-- a decimal number of a `u64`
abbrev pub serial_read : Decimal → Result (Option ℕ) ApiRefusal
serial_read (Number n) = Ok (Some n)
serial_read Past = Err BadQuery
serial_read Other = Err BadQuery

abbrev pub serial_of : List ℕ → Result (Option ℕ) ApiRefusal
serial_of text = serial_read (number_in text)

abbrev pub serial_in : Option (List ℕ) → Result (Option ℕ) ApiRefusal
serial_in None = Ok None
serial_in (Some text) = serial_of text

-- the serial of a deletion
abbrev pub serial_given : List ℕ → Result (Option ℕ) ApiRefusal
serial_given query = serial_in (query_value (codes "serial") query)
