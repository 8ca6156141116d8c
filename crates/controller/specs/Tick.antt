-- Document 01, "Tick": the clock, then the watchdog, then the guard, each on what the one before left.
use Rattle.std.specs.Prelude.{◌-◌, cond, ◌&&◌, ◌||◌, eqb}
use Rattle.std.specs.Int.Bits.{bit_or}
use Rattle.calendar.specs.declared.Clock.{Clock}
use Rattle.calendar.specs.Carry.{next}
use Rattle.alarm.specs.Match.{matches}
use Rattle.registers.specs.Names.{stopped, afe, wdfen}
use Rattle.timekeeper.specs.Clock.{clock_of, with_clock}
use Rattle.timekeeper.specs.Alarm.{alarm_of}
use Rattle.units.specs.Units.{one_more, fills_second}
use Rattle.controller.specs.declared.Core.{Core}
use Rattle.controller.specs.State.{with_rtc, with_power, rtc, power, sixteenths, guard_standby, RTC, ALARM_FLAG, WATCHDOG_FLAG}
use Rattle.controller.specs.Standby.{standby_begun, raised}

-- the second passes, and the clock stands at k: with AFE set a match raises the alarm flag and an RTC event
abbrev pub passed_to : Core → Clock → Core
passed_to c k =
    cond (afe c.rtc.registers && matches (alarm_of c.rtc.registers) k)
    (raised RTC (with_rtc c (rtc (with_clock c.rtc.registers k) (sixteenths 0) (bit_or c.rtc.flags ALARM_FLAG) c.rtc.watchdog)))
    (with_rtc c (rtc (with_clock c.rtc.registers k) (sixteenths 0) c.rtc.flags c.rtc.watchdog))

unfoldable pub second_passed : Core → Core
second_passed c = passed_to c (next (clock_of c.rtc.registers))

-- the sixteenths rise, and at 16 the second passes
abbrev pub sixteenth_passed : Core → Core
sixteenth_passed c =
    cond (fills_second (one_more c.rtc.sixteenths)) (second_passed c)
    (with_rtc c (rtc c.rtc.registers (one_more c.rtc.sixteenths) c.rtc.flags c.rtc.watchdog))

-- first step: unless the oscillator is stopped
unfoldable pub clock_ticked : Core → Core
clock_ticked c = cond (stopped c.rtc.registers) c (sixteenth_passed c)

-- second step: the watchdog, if running and the oscillator runs, falls by one; at 0, with WDFEn, its flag and an RTC event
unfoldable pub watchdog_ticked : Core → Core
watchdog_ticked c =
    cond (eqb c.rtc.watchdog.0 0 || stopped c.rtc.registers) c
    (cond (eqb c.rtc.watchdog.0 1 && wdfen c.rtc.registers)
    (raised RTC (with_rtc c (rtc c.rtc.registers c.rtc.sixteenths (bit_or c.rtc.flags WATCHDOG_FLAG) (sixteenths (c.rtc.watchdog.0 - 1)))))
    (with_rtc c (rtc c.rtc.registers c.rtc.sixteenths c.rtc.flags (sixteenths (c.rtc.watchdog.0 - 1)))))

-- third step: the guard, if running, falls by one; at 0, with configuration b0, standby begins
unfoldable pub guard_ticked : Core → Core
guard_ticked c =
    cond (eqb c.power.guard.0 0) c
    (cond (eqb c.power.guard.0 1 && guard_standby c) (standby_begun c)
    (with_power c (power c.power.ready c.power.wakeup c.power.stby (sixteenths (c.power.guard.0 - 1)))))

unfoldable pub ticked : Core → Core
ticked c = guard_ticked (watchdog_ticked (clock_ticked c))
