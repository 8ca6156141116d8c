-- Document 01, "Clock registers": leap years, month lengths, the dates that exist; and the number of a day.
-- A year is one number from 0 to 399 here: 100 times the century plus the two digits.
use Rattle.std.specs.Prelude.{Bool, cond, ◌||◌, ℕ, suc, ◌+◌, ◌-◌, ◌%◌, ◌≤◌, ◌<◌, eqb}
use Rattle.calendar.specs.Sums.{sums, place}

-- a year is a leap year if its two digits divide by 4
unfoldable pub leap : ℕ → Bool
leap y = eqb (y % 100 % 4) 0

-- the days of month m, from 1: February, then the four months of 30 days, then the rest
unfoldable pub month_length : Bool → ℕ → ℕ
month_length b m = cond (eqb m 2) (cond b 29 28) (cond (eqb m 4 || eqb m 6 || eqb m 9 || eqb m 11) 30 31)

-- days before the month with i months before it
unfoldable pub months_before : Bool → ℕ → ℕ
months_before b i = sums (λ j. month_length b (suc j)) i

unfoldable pub year_length : ℕ → ℕ
year_length y = months_before (leap y) 12

-- days before the year y
unfoldable pub years_before : ℕ → ℕ
years_before y = sums year_length y

-- the days of the whole calendar, four centuries
abbrev pub calendar_days : ℕ
calendar_days = 146_100

-- days from 1 January of century 0, year 00, to the date d of month m of year y
unfoldable pub day_number : ℕ → ℕ → ℕ → ℕ
day_number y m d = years_before y + months_before (leap y) (m - 1) + (d - 1)

-- and back: the year, month and date of the day with number k
unfoldable pub year_at : ℕ → ℕ
year_at k = place year_length 399 k

unfoldable pub month_at : ℕ → ℕ
month_at k = place (λ j. month_length (leap (year_at k)) (suc j)) 11 (k - years_before (year_at k)) + 1

unfoldable pub date_at : ℕ → ℕ
date_at k = k - years_before (year_at k) - months_before (leap (year_at k)) (month_at k - 1) + 1

-- the date exists
pub record Dated (y m d : ℕ) : Type 0 where
  pub year : y < 400
  pub month_low : 1 ≤ m
  pub month_high : m ≤ 12
  pub date_low : 1 ≤ d
  pub date_high : d ≤ month_length (leap y) m
