-- The text of a moment in jiff's calendar, which has no fraction, and 20 bytes.
use Rattle.std.proofs.Common.{◌≡◌, ℕ, ℤ, pos, negsuc, ◌*◌, ◌≤ℤ◌, ◌<ℤ◌, List, ◌++◌, length, length-append, codes, Some, ap, inl, refl, ◌∙◌, arith, rules}
use Rattle.jiff.specs.Words.{date_text, epoch_day, civil_nanos, civil_seconds, iso_datetime_text, time_text}
use Rattle.jiff.specs.Types.{Date, DateTime}
use Rattle.jiff_core.specs.Calendar.{days_from_civil}
use Rattle.jiff_core.proofs.DateLemmas.{epoch_day-lt}
use Rattle.jiff_fmt.specs.Text.{year_text}
use Rattle.jiff.proofs.SpanFacts.{signed_arith}

-- a date and a time of whole seconds, as 2023-11-14T22:13:20Z
abbrev pub utc_text : DateTime → List ℕ
utc_text at = date_text at.date ++ (codes "T" ++ time_text (Some 0) at.time) ++ codes "Z"

-- the text of the date and time that is so many seconds after 1970-01-01T00:00:00
abbrev pub IsMomentText : ℕ → List ℕ → Type 0
IsMomentText seconds text = (at : DateTime) × (civil_seconds at ≡ pos seconds) × (text ≡ utc_text at)

seconds_of : (at : DateTime) (n : ℕ) → civil_nanos at ≡ pos (n * 1000000000) → (civil_seconds at ≡ pos n) × (at.time.subsec_nanosecond ≡ 0)
unfolding civil_nanos civil_seconds
seconds_of at n h = (omega (arith, signed_arith), omega (arith, signed_arith))

shown : (at : DateTime) → at.time.subsec_nanosecond ≡ 0 → iso_datetime_text at ++ codes "Z" ≡ utc_text at
shown at none = rw none

pub is_moment_text : (at : DateTime) (n : ℕ) (text : List ℕ) → civil_nanos at ≡ pos (n * 1000000000) → text ≡ iso_datetime_text at ++ codes "Z" → IsMomentText n text
is_moment_text at n text whole spelled =
    let parts = seconds_of at n whole in
    (at, parts.0, spelled ∙ shown at parts.1)

-- ---- its length

new_year : Date
new_year = record { year = pos 1970; month = 1; day = 1; year_in = search rules; month_in = search rules; day_in = search rules }

-- no day of an earlier year comes on or after 1970-01-01
not_before : (day : Date) → pos 0 ≤ℤ epoch_day day → day.year <ℤ pos 1970 → ⊥
unfolding new_year days_from_civil
not_before day h early = let earlier = epoch_day-lt day new_year (inl early) in omega (arith, signed_arith)

year_length : (year : ℤ) → (year <ℤ pos 1970 → ⊥) → length (year_text year) ≡ 4
year_length (pos n) h = refl
year_length (negsuc n) h = absurd (h (omega (arith, signed_arith)))

length_utc : (at : DateTime) (n : ℕ) → civil_seconds at ≡ pos n → length (utc_text at) ≡ 20
unfolding civil_seconds
length_utc at n h =
    let day : pos 0 ≤ℤ epoch_day at.date = omega (arith, signed_arith) in
    let year = year_length at.date.year (not_before at.date day) in
    simp length-append (omega (arith, year))

pub length_of_text : (n : ℕ) (text : List ℕ) → IsMomentText n text → length text ≡ 20
length_of_text n text h = ap length h.2 ∙ length_utc h.0 n h.1
