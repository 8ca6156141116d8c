-- The calendar in the registers (document 01, "Clock registers").
use Rattle.std.specs.Prelude.{ℕ, ◌+◌, ◌*◌, ◌/◌, ◌%◌, Bool, ◌&&◌, List, [], ◌∷◌, leb}
use Rattle.common.specs.Tests.{conj}
use Rattle.common.specs.Spell.{spell}
use Rattle.calendar.specs.declared.Clock.{Clock}
use Rattle.calendar.specs.Date.{leap, month_length}
use Rattle.calendar.specs.Clock.{full_year}
use Rattle.registers.specs.Names.{at, RESERVED, SECONDS, MINUTES, HOURS, WEEKDAY, DATE, MONTH, YEAR, CALIBRATION}
use Rattle.timekeeper.specs.Bcd.{digits, bcd, decimal_tests}

-- ---- Reading

-- the bytes 01h..07h, flag and century bits apart; reserved bits count as part of the fields here: a write drops them (`kept` in `registers/Written`), and a valid image has them 0 (`reserved_tests`)
abbrev pub field_bytes : List ℕ → List ℕ
field_bytes rs = at rs SECONDS % 128 ∷ at rs MINUTES ∷ at rs HOURS % 64 ∷ at rs WEEKDAY ∷ at rs DATE ∷ at rs MONTH % 64 ∷ at rs YEAR ∷ []

-- the calendar that the registers hold
unfoldable pub clock_of : List ℕ → Clock
clock_of rs =
    record {
      century = at rs MONTH / 64;
      year = digits (at rs YEAR);
      month = digits (at rs MONTH % 64);
      date = digits (at rs DATE);
      weekday = digits (at rs WEEKDAY);
      hour = digits (at rs HOURS % 64);
      minute = digits (at rs MINUTES);
      second = digits (at rs SECONDS % 128);
    }

-- ---- Validity

-- the last date of a calendar's month
abbrev pub last_date : Clock → ℕ
last_date c = month_length (leap (full_year c)) c.month

-- each field is in range, the date up to the last of its month
abbrev pub calendar_tests : Clock → List Bool
calendar_tests c =
    leb c.second 59
    ∷ leb c.minute 59
    ∷ leb c.hour 23
    ∷ leb 1 c.weekday
    ∷ leb c.weekday 7
    ∷ leb 1 c.date
    ∷ leb c.date (last_date c)
    ∷ leb 1 c.month
    ∷ leb c.month 12
    ∷ leb c.year 99
    ∷ []

-- each nibble is at most 9, each field is in range and the date exists in its month
unfoldable pub valid_calendar : List ℕ → Bool
valid_calendar rs = conj (decimal_tests (field_bytes rs)) && conj (calendar_tests (clock_of rs))

-- ---- Writing

-- a byte below the flag in b7
abbrev pub under_b7 : ℕ → ℕ → ℕ
under_b7 flag b = flag / 128 * 128 + b % 128

-- a byte below the flags in b7 and b6
abbrev pub under_b7_b6 : ℕ → ℕ → ℕ
under_b7_b6 flags b = flags / 64 * 64 + b % 64

-- the registers with another calendar: flag bits and all registers but 01h..07h stay
unfoldable pub with_clock : List ℕ → Clock → List ℕ
with_clock rs c =
    at rs RESERVED
    ∷ under_b7 (at rs SECONDS) (bcd c.second)
    ∷ bcd c.minute
    ∷ under_b7_b6 (at rs HOURS) (bcd c.hour)
    ∷ bcd c.weekday
    ∷ bcd c.date
    ∷ (c.century % 4 * 64 + bcd c.month % 64)
    ∷ bcd c.year
    ∷ spell CALIBRATION 8 rs
