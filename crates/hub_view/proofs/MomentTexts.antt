-- The text of a moment is ASCII.
use Rattle.std.proofs.Common.{◌≡◌, ℕ, ◌+◌, ◌/◌, ◌%◌, ◌<◌, ◌≤◌, ◌++◌, codes, IsUtf8, arith}
use Rattle.std.proofs.lemmas.Bool.Decides.{nat_tests}
use Rattle.std.proofs.lemmas.Str.{IsUtf8-from_ascii}
use Rattle.std.proofs.ByRecursion.{IsAscii-from_all}
use Rattle.hub_kit.specs.Moments.{greatest}
use Rattle.hub_kit.specs.MomentTexts.{day_of, year, month, day_in_month, two, four, time_text, moment_text}

year_bound : (day : ℕ) → day ≤ 3612986 → year day < 10000
year_bound day h = grind (arith, nat_tests)

month_bound : (day : ℕ) → month day < 100
month_bound day = grind (arith, nat_tests)

tens_low : (n : ℕ) → n < 100 → 48 + n / 10 < 128
tens_low n h = omega arith

ones_low : (n : ℕ) → 48 + n % 10 < 128
ones_low n = omega arith

-- the text of a year, a month and a day of the month, with the time of day
pub spelled : (s y m d : ℕ) → y ≡ year (day_of s) → m ≡ month (day_of s) → d ≡ day_in_month (day_of s)
    → (four y ++ codes "-" ++ two m ++ codes "-" ++ two d) ++ codes "T" ++ time_text s ++ codes "Z" ≡ moment_text s
unfolding moment_text
spelled s y m d ey em ed = λ i. (four (ey i) ++ codes "-" ++ two (em i) ++ codes "-" ++ two (ed i)) ++ codes "T" ++ time_text s ++ codes "Z"

pub moment_is_text : (s : ℕ) → s ≤ greatest → IsUtf8 (moment_text s)
unfolding moment_text
moment_is_text s h =
    let day = day_of s in
    let years : year day < 10000 = year_bound day (omega arith) in
    let century : year day / 100 < 100 = omega (arith, years) in
    let hyphen : 45 < 128 = omega arith in
    let colon : 58 < 128 = omega arith in
    IsUtf8-from_ascii (moment_text s) (IsAscii-from_all (moment_text s)
    (tens_low (year day / 100) century, (ones_low (year day / 100), (tens_low (year day % 100) (omega arith), (ones_low (year day % 100), (hyphen, (tens_low (month day) (month_bound day), (ones_low (month day), (hyphen, (tens_low (day_in_month day) (omega arith), (ones_low (day_in_month day), (omega arith, (tens_low (s / 3600 % 24) (omega arith), (ones_low (s / 3600 % 24), (colon, (tens_low (s / 60 % 60) (omega arith), (ones_low (s / 60 % 60), (colon, (tens_low (s % 60) (omega arith), (ones_low (s % 60), (omega arith, tt)))))))))))))))))))))
