-- Document 01, "Clock registers": the calendars that exist; "The plain clock": the count of seconds, moving on, midnights passed and the weekday.
use Rattle.std.specs.Prelude.{cond, ℕ, zero, suc, ◌+◌, ◌-◌, ◌*◌, ◌/◌, ◌%◌, ◌≤◌, eqb}
use Rattle.calendar.specs.declared.Clock.{Clock}
use Rattle.calendar.specs.Date.{Dated, day_number, year_at, month_at, date_at, calendar_days}

-- the calendar cycle without weekday, in seconds
abbrev pub cycle : ℕ
cycle = 86_400 * calendar_days

-- the longest time that is moved on at once, in seconds: 366 days ("Refusal numbers", 10)
abbrev pub limit : ℕ
limit = 31_622_400

-- century and two digits as one number
abbrev pub full_year : Clock → ℕ
full_year c = 100 * c.century + c.year

-- the second of the day
abbrev pub time_of : Clock → ℕ
time_of c = 3_600 * c.hour + 60 * c.minute + c.second

-- a calendar that exists, with a weekday from 1 to 7
pub record Valid (c : Clock) : Type 0 where
  pub century : c.century ≤ 3
  pub year : c.year ≤ 99
  pub dated : Dated (full_year c) c.month c.date
  pub weekday_low : 1 ≤ c.weekday
  pub weekday_high : c.weekday ≤ 7
  pub hour : c.hour ≤ 23
  pub minute : c.minute ≤ 59
  pub second : c.second ≤ 59

unfoldable pub days : Clock → ℕ
days c = day_number (full_year c) c.month c.date

-- a calendar's count of seconds
unfoldable pub count : Clock → ℕ
count c = 86_400 * days c + time_of c

-- the calendar at the count k, with the weekday w
unfoldable pub clock_at : ℕ → ℕ → Clock
clock_at k w =
    record {
      century = year_at (k / 86_400) / 100;
      year = year_at (k / 86_400) % 100;
      month = month_at (k / 86_400);
      date = date_at (k / 86_400);
      weekday = w;
      hour = k / 3_600 % 24;
      minute = k / 60 % 60;
      second = k % 60;
    }

-- how many of the counts k + 1 to k + n are multiples of 86,400: the midnights passed, as the paper counts them
unfoldable pub multiples : ℕ → ℕ → ℕ
multiples k zero = 0
multiples k (suc n) = multiples k n + cond (eqb ((k + suc n) % 86_400) 0) 1 0

-- the same as a difference of quotients, which computes at once; the law `midnights_counted` says that they are equal
abbrev pub midnights : ℕ → ℕ → ℕ
midnights k n = (k + n) / 86_400 - k / 86_400

-- the weekday w moved on m days, 1 to 7
abbrev pub weekday_on : ℕ → ℕ → ℕ
weekday_on w m = (w - 1 + m) % 7 + 1

-- the plain clock moved on n seconds: its count rises by n, round the cycle, and the weekday by one for each midnight passed
unfoldable pub moved : Clock → ℕ → Clock
moved c n = clock_at ((count c + n) % cycle) (weekday_on c.weekday (midnights (count c) n))
