-- The text of a moment: its date and time of day in UTC, as `YYYY-MM-DDTHH:MM:SSZ`.
use Rattle.std.specs.Prelude.{ℕ, ◌+◌, ◌-◌, ◌*◌, ◌/◌, ◌%◌, nat_lt, if◌then◌else◌, List, [], ◌∷◌, ◌++◌, codes}

-- ---- the date, by years that begin on 1 March: a leap day comes last in them

-- the days since 1 March of the year 0
abbrev pub day_of : ℕ → ℕ
day_of seconds = seconds / 86400 + 719468

-- four times the day's place among the 146,097 days of 400 years falls into a century, and what is left into a year of 1,461 quarter days
abbrev pub century_of : ℕ → ℕ
century_of day = (4 * day + 3) / 146097

abbrev pub quarters_in_century : ℕ → ℕ
quarters_in_century day = (4 * day + 3) % 146097 / 4 * 4 + 3

abbrev pub march_year : ℕ → ℕ
march_year day = 100 * century_of day + quarters_in_century day / 1461

-- the days since that year's 1 March
abbrev pub day_in_year : ℕ → ℕ
day_in_year day = quarters_in_century day % 1461 / 4

-- the months from March, 3, to February, 14, have 153 days in five
abbrev pub march_month : ℕ → ℕ
march_month day = (5 * day_in_year day + 461) / 153

abbrev pub day_in_month : ℕ → ℕ
day_in_month day = (5 * day_in_year day + 461) % 153 / 5 + 1

abbrev pub year : ℕ → ℕ
year day = if nat_lt 12 (march_month day) then march_year day + 1 else march_year day

abbrev pub month : ℕ → ℕ
month day = if nat_lt 12 (march_month day) then march_month day - 12 else march_month day

-- ---- the text

abbrev pub two : ℕ → List ℕ
two n = (48 + n / 10) ∷ (48 + n % 10) ∷ []

abbrev pub four : ℕ → List ℕ
four n = two (n / 100) ++ two (n % 100)

abbrev pub date_text : ℕ → List ℕ
date_text day = four (year day) ++ codes "-" ++ two (month day) ++ codes "-" ++ two (day_in_month day)

abbrev pub time_text : ℕ → List ℕ
time_text seconds = two (seconds / 3600 % 24) ++ codes ":" ++ two (seconds / 60 % 60) ++ codes ":" ++ two (seconds % 60)

unfoldable pub moment_text : ℕ → List ℕ
moment_text seconds = date_text (day_of seconds) ++ codes "T" ++ time_text seconds ++ codes "Z"
