-- The defined text of a moment is that of the date and time in jiff's calendar.
use Rattle.std.proofs.Common.{◌≡◌, ℕ, suc, ◌+◌, ◌-◌, ◌/◌, ◌%◌, ◌<◌, ◌≤◌, Bool, true, false, cond, nat_lt, List, refl, ◌∙◌, arith, pos, ◌+ℤ◌}
use Rattle.std.proofs.lemmas.Bool.Decides.{nat_tests}
use Rattle.jiff_core.specs.DateTime.{civil_seconds}
use Rattle.jiff.specs.Types.{DateTime, Date, Time}
use Rattle.jiff_core.specs.Calendar.{day_count, days_in_month as month_length}
use Rattle.jiff_core.specs.March.{march_days}
use Rattle.jiff_core.specs.Date.{epoch_day}
use Rattle.jiff_core.specs.Time.{time_seconds}
use Rattle.jiff_core.proofs.SignedLemmas.{signed_arith}
use Rattle.jiff_core.proofs.MarchLemmas.{leap_day, march_days-suc, day_count-late, day_count-early, month_and_day, day_in_month as day_fits, day_in_early_month as early_day_fits}
use Rattle.jiff_core.proofs.CalendarLemmas.{days_from_civil-day_count}
use Rattle.jiff_core.proofs.DateLemmas.{epoch_day_injective}
use Rattle.hub_kit.specs.MomentTexts.{day_of, march_year, day_in_year, march_month, day_in_month, year, month, moment_text}
use Rattle.hub_kit.proofs.MomentLemmas.{IsMomentText}

year_and_day : (day : ℕ) → march_days (march_year day) + day_in_year day ≡ day
year_and_day day = omega arith

day_below : (day : ℕ) → day < march_days (suc (march_year day))
day_below day = omega arith

day_bound : (day : ℕ) → day_in_year day < 366
day_bound day = omega arith

march_days-shift : (n : ℕ) → march_days (n + 10000) ≡ march_days n + 3652425
march_days-shift n = omega arith

above : (n : ℕ) → nat_lt 12 n ≡ true → 12 < n
above n e = grind (arith, nat_tests)

not_above : (n : ℕ) → nat_lt 12 n ≡ false → n ≤ 12
not_above n e = grind (arith, nat_tests)

-- the day's number among all days of the calendar
count_by : (day : ℕ) (early : Bool) → nat_lt 12 (march_month day) ≡ early
    → day_count (pos (cond early (march_year day + 1) (march_year day))) (cond early (march_month day - 12) (march_month day)) (day_in_month day) ≡ day + 3652485
count_by day true e =
    let n = day_in_year day in
    let big : 12 < march_month day = above _ e in
    let m : march_month day - 12 + 12 ≡ march_month day = omega arith in
    let count = day_count-early (pos (march_year day + 1)) (march_year day + 10000) (march_month day - 12) (day_in_month day) (omega (arith, signed_arith)) (omega arith) (omega (arith, day_bound day)) (omega arith) in
    omega (arith, rw m at count, march_days-shift (march_year day), month_and_day n (day_bound day), year_and_day day)
count_by day false e =
    let n = day_in_year day in
    let small : march_month day ≤ 12 = not_above _ e in
    let count = day_count-late (pos (march_year day)) (march_year day + 10000) (march_month day) (day_in_month day) (omega (arith, signed_arith)) (omega arith) small (omega arith) in
    omega (arith, count, march_days-shift (march_year day), month_and_day n (day_bound day), year_and_day day)

count : (day : ℕ) → day_count (pos (year day)) (month day) (day_in_month day) ≡ day + 3652485
count day = count_by day _ refl

fits_by : (day : ℕ) (early : Bool) → nat_lt 12 (march_month day) ≡ early
    → (1 ≤ cond early (march_month day - 12) (march_month day)) × (cond early (march_month day - 12) (march_month day) ≤ 12)
    × (day_in_month day ≤ month_length (pos (cond early (march_year day + 1) (march_year day))) (cond early (march_month day - 12) (march_month day)))
fits_by day true e =
    let big : 12 < march_month day = above _ e in
    let next : suc (march_year day) ≡ march_year day + 1 = omega arith in
    let short : day_in_year day < 365 + leap_day (pos (suc (march_year day))) = omega (arith, year_and_day day, day_below day, march_days-suc (march_year day)) in
    (omega arith, omega (arith, day_bound day), early_day_fits (pos (march_year day + 1)) (day_in_year day) big (rw next at short))
fits_by day false e =
    let small : march_month day ≤ 12 = not_above _ e in
    (omega arith, small, day_fits (pos (march_year day)) (day_in_year day) small)

fits : (day : ℕ) → (1 ≤ month day) × (month day ≤ 12) × (day_in_month day ≤ month_length (pos (year day)) (month day))
fits day = fits_by day _ refl

year_bound : (day : ℕ) → day ≤ 3612986 → year day ≤ 9999
year_bound day h = grind (arith, nat_tests)

-- the date of a day in jiff's calendar
date_of : (day : ℕ) → day ≤ 3612986 → Date
date_of day h = record {
  year = pos (year day);
  month = month day;
  day = day_in_month day;
  year_in = (omega (arith, signed_arith), omega (arith, signed_arith, year_bound day h));
  month_in = ((fits day).0, (fits day).1);
  day_in = (omega arith, (fits day).2);
}

epoch_day_of : (day : ℕ) (h : day ≤ 3612986) → epoch_day (date_of day h) +ℤ pos 719468 ≡ pos day
unfolding date_of
epoch_day_of day h = omega (arith, signed_arith, days_from_civil-day_count (pos (year day)) (month day) (day_in_month day), count day)

seconds_bound : (t : Time) → time_seconds t < 86400
seconds_bound t = omega arith

-- a date and time of these seconds
parts : (dt : DateTime) (s : ℕ) → civil_seconds dt ≡ pos s
    → (epoch_day dt.date +ℤ pos 719468 ≡ pos (day_of s)) × (dt.time.hour ≡ s / 3600 % 24) × (dt.time.minute ≡ s / 60 % 60) × (dt.time.second ≡ s % 60)
unfolding civil_seconds
parts dt s e = omega (arith, signed_arith, seconds_bound dt.time, e)

same_day : (dt : DateTime) (s : ℕ) (h : day_of s ≤ 3612986) → civil_seconds dt ≡ pos s → epoch_day dt.date ≡ epoch_day (date_of (day_of s) h)
same_day dt s h e = omega (arith, signed_arith, (parts dt s e).0, epoch_day_of (day_of s) h)

same_date : (dt : DateTime) (s : ℕ) → day_of s ≤ 3612986 → civil_seconds dt ≡ pos s
    → (dt.date.year ≡ pos (year (day_of s))) × (dt.date.month ≡ month (day_of s)) × (dt.date.day ≡ day_in_month (day_of s))
unfolding date_of
same_date dt s h e = epoch_day_injective dt.date (date_of (day_of s) h) (same_day dt s h e)

pub defined_text : (s : ℕ) (text : List ℕ) → s ≤ 250000000000 → IsMomentText s text → text ≡ moment_text s
unfolding moment_text
defined_text s text h (dt, at, shown) =
    let d = same_date dt s (omega arith) at in
    let t = parts dt s at in
    shown ∙ rw (d.0, d.1, d.2, t.1, t.2, t.3) refl
