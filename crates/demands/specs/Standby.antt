-- Document 01, "Standby begins" and "It ends": the causes, event by event.
use Rattle.std.specs.Prelude.{Bool, true, false, eqb}
use Rattle.command.specs.Codes.{STANDBY}
use Rattle.command.specs.Refusals.{byte}
use Rattle.controller.specs.declared.Core.{Core}
use Rattle.properties.specs.Causes.{guard_ends, ready_falls, rtc_event, hot_press, remote_counts, wake_up_rises}
use Rattle.stled325.specs.Calls.{high}
use Rattle.demands.specs.Event.{Event, power_up, tick, sample, frame, ready, wake_up, command, show, lines, supply_return}

-- the guard's end with b0, READY falling, the standby command
abbrev pub begins : Event → Core → Bool
begins power_up c = false
begins tick c = guard_ends c
begins (sample n) c = false
begins (frame n) c = false
begins (ready level) c = ready_falls c (high level)
begins (wake_up level) c = false
begins (command s) c = eqb (byte s 0) STANDBY
begins show c = false
begins lines c = false
begins (supply_return n) c = false

-- power-up, supply return, an RTC event, an accepted hot key, a remote key with b2, WAKE_UP rising with b5
abbrev pub ends : Event → Core → Bool
ends power_up c = true
ends tick c = rtc_event c
ends (sample n) c = hot_press c n
ends (frame n) c = remote_counts c
ends (ready level) c = false
ends (wake_up level) c = wake_up_rises c (high level)
ends (command s) c = false
ends show c = false
ends lines c = false
ends (supply_return n) c = true
