-- Document 01, "Commands": 50h, and the addresses that data touch.
use Rattle.std.specs.Prelude.{ℕ, ◌-◌, Bool, cond, not, ◌&&◌, ◌||◌, List, leb, ltb, length, Result, Ok, Err}
use Rattle.registers.specs.Names.{at, SECONDS, MINUTES, HOURS, WEEKDAY, DATE, MONTH, YEAR, WATCHDOG}
use Rattle.registers.specs.Written.{written}
use Rattle.registers.specs.Watchdog.{watchdog_load}
use Rattle.controller.specs.declared.Core.{Core}
use Rattle.common.specs.declared.refusal.Refusal.{Refusal}
use Rattle.common.specs.declared.refusal.Refusal.TheVariants.{InvalidCalendar}
use Rattle.timekeeper.specs.Clock.{valid_calendar}
use Rattle.controller.specs.State.{with_rtc, rtc, sixteenths}

-- one of n data bytes from address a on goes to address x
abbrev pub touched : ℕ → ℕ → ℕ → Bool
touched a n x = leb a x && ltb (x - a) n

-- one of them goes to a calendar register 01h..07h
abbrev pub calendar_touched : ℕ → ℕ → Bool
calendar_touched a n =
    touched a n SECONDS
    || touched a n MINUTES
    || touched a n HOURS
    || touched a n WEEKDAY
    || touched a n DATE
    || touched a n MONTH
    || touched a n YEAR

-- 50h: the registers are written; touching the calendar zeroes the sixteenths, touching 09h reloads the watchdog
abbrev pub registers_set : ℕ → ℕ → List ℕ → Core → Core
registers_set a n rs c =
    with_rtc c
    (rtc rs (cond (calendar_touched a n) (sixteenths 0) c.rtc.sixteenths) c.rtc.flags
    (cond (touched a n WATCHDOG) (watchdog_load (at rs WATCHDOG)) c.rtc.watchdog))

unfoldable pub registers_written : ℕ → List ℕ → Core → Core
registers_written a bytes c = registers_set a (length bytes) (written c.rtc.registers a bytes) c

-- ground 9: the registers would hold no valid calendar
abbrev pub calendar_lost : ℕ → List ℕ → Core → Bool
calendar_lost a bytes c = not (valid_calendar (written c.rtc.registers a bytes))

-- the state written to, or the refusal
unfoldable pub registers_answer : ℕ → List ℕ → Core → Result Core Refusal
registers_answer a bytes c = cond (calendar_lost a bytes c) (Err InvalidCalendar) (Ok (registers_written a bytes c))
