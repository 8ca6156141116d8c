-- Document 01, "Clock registers", "Alarm": six fields, each compared or not.
use Rattle.std.specs.Prelude.{Bool, true, ◌&&◌, [], ◌∷◌, ℕ, ◌/◌, ◌%◌, eqb, leb, Option, None, Some}
use Rattle.common.specs.Tests.{conj}
use Rattle.calendar.specs.declared.Clock.{Clock}
use Rattle.alarm.specs.declared.Alarm.{Alarm}

-- a field that is not compared, or that is equal
unfoldable pub fits : Option ℕ → ℕ → Bool
fits None x = true
fits (Some v) x = eqb v x

-- the second matches: every field fits, in the order of RPT1 to RPT6
unfoldable pub matches : Alarm → Clock → Bool
matches a c =
    conj
    (fits a.second c.second
    ∷ fits a.minute c.minute
    ∷ fits a.hour c.hour
    ∷ fits a.date c.date
    ∷ fits a.month c.month
    ∷ fits a.weekday c.weekday
    ∷ [])

-- ---- For the search, and no rule of document 01: laws say what they have to do with a match

-- a field that is not compared, or that some time has
unfoldable pub in_range : Option ℕ → ℕ → ℕ → Bool
in_range None lo hi = true
in_range (Some v) lo hi = leb lo v && leb v hi

-- every field is not compared or is a possible time
unfoldable pub possible : Alarm → Bool
possible a =
    conj
    (in_range a.second 0 59
    ∷ in_range a.minute 0 59
    ∷ in_range a.hour 0 23
    ∷ in_range a.date 1 31
    ∷ in_range a.month 1 12
    ∷ in_range a.weekday 1 7
    ∷ [])

-- the three fields of the time, at the second t of the day
unfoldable pub time_fits : Alarm → ℕ → Bool
time_fits a t = conj (fits a.second (t % 60) ∷ fits a.minute (t / 60 % 60) ∷ fits a.hour (t / 3_600) ∷ [])

-- the three fields of the day
unfoldable pub day_fits : Alarm → Clock → Bool
day_fits a c = conj (fits a.date c.date ∷ fits a.month c.month ∷ fits a.weekday c.weekday ∷ [])
