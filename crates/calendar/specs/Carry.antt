-- Document 01, "Clock registers": a second carries through minute, hour, date, month and year.
use Rattle.std.specs.Prelude.{cond, ℕ, ◌+◌, ◌/◌, ◌%◌, ltb}
use Rattle.calendar.specs.declared.Clock.{Clock}
use Rattle.calendar.specs.Date.{leap, month_length}
use Rattle.calendar.specs.Clock.{full_year}

-- the same day, at hour h, minute m and second s
abbrev pub with_time : Clock → ℕ → ℕ → ℕ → Clock
with_time c h m s =
    record { century = c.century; year = c.year; month = c.month; date = c.date; weekday = c.weekday; hour = h; minute = m; second = s }

-- the same day, at the second t of the day
abbrev pub at_time : Clock → ℕ → Clock
at_time c t = with_time c (t / 3_600) (t / 60 % 60) (t % 60)

-- weekday goes 7 to 1
abbrev pub next_weekday : ℕ → ℕ
next_weekday w = cond (ltb w 7) (w + 1) 1

-- the date d of month m of century k, year y, at the next weekday and the same time
abbrev pub with_date : Clock → ℕ → ℕ → ℕ → ℕ → Clock
with_date c k y m d =
    record { century = k; year = y; month = m; date = d; weekday = next_weekday c.weekday; hour = c.hour; minute = c.minute; second = c.second }

-- the next day: date, month and year carry; year 99 goes to 00 with the century one up, 3 to 0
unfoldable pub next_day : Clock → Clock
next_day c =
    cond (ltb c.date (month_length (leap (full_year c)) c.month)) (with_date c c.century c.year c.month (c.date + 1))
    (cond (ltb c.month 12) (with_date c c.century c.year (c.month + 1) 1)
    (cond (ltb c.year 99) (with_date c c.century (c.year + 1) 1 1)
    (cond (ltb c.century 3) (with_date c (c.century + 1) 0 1 1) (with_date c 0 0 1 1))))

-- the next second: second, minute and hour carry, and at midnight the day
unfoldable pub next : Clock → Clock
next c =
    cond (ltb c.second 59) (with_time c c.hour c.minute (c.second + 1))
    (cond (ltb c.minute 59) (with_time c c.hour (c.minute + 1) 0)
    (cond (ltb c.hour 23) (with_time c (c.hour + 1) 0 0) (with_time (next_day c) 0 0 0)))
