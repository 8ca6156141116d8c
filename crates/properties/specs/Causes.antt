-- Document 01, "Tick", "Standby begins" and "It ends": what an event brings about, as tests of the state before it.
use Rattle.std.specs.Prelude.{ℕ, Bool, not, ◌&&◌, ◌||◌, eqb}
use Rattle.calendar.specs.declared.Clock.{Clock}
use Rattle.calendar.specs.Carry.{next}
use Rattle.alarm.specs.Match.{matches}
use Rattle.units.specs.Units.{one_more, fills_second}
use Rattle.registers.specs.Names.{stopped, afe, wdfen}
use Rattle.timekeeper.specs.Clock.{clock_of}
use Rattle.timekeeper.specs.Alarm.{alarm_of}
use Rattle.controller.specs.declared.Core.{Core}
use Rattle.controller.specs.State.{guard_standby, remote_wakes, wake_up_counts}
use Rattle.controller.specs.Keys.{without, hot}

-- ---- A tick

-- the second passes: the oscillator runs, and one sixteenth more fills the second
unfoldable pub second_passes : Core → Bool
second_passes c = not (stopped c.rtc.registers) && fills_second (one_more c.rtc.sixteenths)

-- the second that is reached then
abbrev pub next_second : Core → Clock
next_second c = next (clock_of c.rtc.registers)

-- with AFE set the second reached matches
unfoldable pub alarm_rises : Core → Bool
alarm_rises c = second_passes c && (afe c.rtc.registers && matches (alarm_of c.rtc.registers) (next_second c))

-- the watchdog, one sixteenth from its end, falls while the oscillator runs, with WDFEn set
unfoldable pub watchdog_ends : Core → Bool
watchdog_ends c = eqb c.rtc.watchdog.0 1 && (not (stopped c.rtc.registers) && wdfen c.rtc.registers)

unfoldable pub rtc_event : Core → Bool
rtc_event c = alarm_rises c || watchdog_ends c

-- the guard, one sixteenth from its end, falls with configuration b0 set
unfoldable pub guard_ends : Core → Bool
guard_ends c = eqb c.power.guard.0 1 && guard_standby c

-- ---- Keys, remote and pins

-- the sample repeats the last one, and of its keys not accepted before some are hot
unfoldable pub hot_press : Core → ℕ → Bool
hot_press c sample = eqb sample c.keys.sample && not (eqb (hot c (without sample c.keys.accepted)) 0)

-- a remote key with b2
unfoldable pub remote_counts : Core → Bool
remote_counts c = remote_wakes c

-- READY, high, takes the low level
unfoldable pub ready_falls : Core → Bool → Bool
ready_falls c level = c.power.ready && not level

-- WAKE_UP, low, takes the high level, with b5
unfoldable pub wake_up_rises : Core → Bool → Bool
wake_up_rises c level = not c.power.wakeup && level && wake_up_counts c
