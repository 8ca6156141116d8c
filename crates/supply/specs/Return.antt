-- Document 01, "Supply return" after n seconds.
use Rattle.std.specs.Prelude.{ℕ, Bool, cond, not, ◌&&◌, List}
use Rattle.std.specs.Int.Bits.{bit_or}
use Rattle.common.specs.Bits.{bit_set}
use Rattle.calendar.specs.Clock.{moved}
use Rattle.alarm.specs.Match.{matches}
use Rattle.alarm.specs.Reached.{any_reached}
use Rattle.registers.specs.Names.{stopped, afe, abe}
use Rattle.timekeeper.specs.Clock.{clock_of, with_clock}
use Rattle.timekeeper.specs.Alarm.{alarm_of}
use Rattle.controller.specs.declared.Core.{Core}
use Rattle.controller.specs.declared.Rtc.{Rtc}
use Rattle.controller.specs.State.{with_rtc, with_interrupt, rtc, sixteenths, ALARM_FLAG}
use Rattle.controller.specs.PowerUp.{powered_up}
use Rattle.panel.specs.declared.Panel.{Panel}
use Rattle.panel.specs.State.{with_core}
use Rattle.panel.specs.PowerUp.{panel_powered_up}

-- the calendar moves on n seconds unless the oscillator is stopped
unfoldable pub registers_returned : ℕ → List ℕ → List ℕ
registers_returned n rs = cond (stopped rs) rs (with_clock rs (moved (clock_of rs) n))

-- a match of a second reached counts with the oscillator running and both alarm bits set
unfoldable pub match_counts : ℕ → List ℕ → Bool
match_counts n rs = not (stopped rs) && (afe rs && abe rs) && any_reached (matches (alarm_of rs)) (clock_of rs) n

-- and raises the alarm flag
unfoldable pub flags_returned : ℕ → List ℕ → ℕ → ℕ
flags_returned n rs flags = cond (match_counts n rs) (bit_or flags ALARM_FLAG) flags

-- the registers move on with the calendar, the alarm flag may rise, the other flag and the sixteenths are kept; the watchdog stops
abbrev pub rtc_returned : ℕ → Rtc → Rtc
rtc_returned n r = rtc (registers_returned n r.registers) r.sixteenths (flags_returned n r.registers r.flags) (sixteenths 0)

-- the interrupt byte: b4 is set exactly if the alarm flag is then up
abbrev pub interrupt_for : ℕ → ℕ
interrupt_for flags = cond (bit_set flags ALARM_FLAG) 16 0

-- all else is as at power-up
abbrev pub core_returned : Rtc → Core
core_returned r = with_interrupt (with_rtc powered_up r) (interrupt_for r.flags)

abbrev pub returned : ℕ → Core → Core
returned n c = core_returned (rtc_returned n c.rtc)

abbrev pub panel_returned : ℕ → Panel → Panel
panel_returned n p = with_core panel_powered_up (returned n p.core)
