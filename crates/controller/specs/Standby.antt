-- Document 01, "Standby begins", "It ends" and "Sources set".
use Rattle.std.specs.Prelude.{ℕ, ◌*◌, true, false, cond}
use Rattle.std.specs.Int.Bits.{bit_or}
use Rattle.units.specs.declared.Sixteenths.{Sixteenths}
use Rattle.units.specs.Units.{sixteenths_of}
use Rattle.controller.specs.declared.Core.{Core}
use Rattle.controller.specs.declared.Source.{Source}
use Rattle.controller.specs.declared.Source.TheVariants.{Rtc, WakeUp, Remote, Key}
use Rattle.controller.specs.State.{with_power, with_interrupt, power, sixteenths, RTC, WAKE_UP, REMOTE, KEY}

-- what the guard loads: 16 times its value
abbrev pub guard_load : Core → Sixteenths
guard_load c = sixteenths_of c.setup.guardvalue

-- STBY goes high and the guard stops
abbrev pub standby_begun : Core → Core
standby_begun c = with_power c (power c.power.ready c.power.wakeup true (sixteenths 0))

-- STBY goes low and the guard loads
abbrev pub standby_ended : Core → Core
standby_ended c = with_power c (power c.power.ready c.power.wakeup false (guard_load c))

-- the bit of a source, with STBY high
abbrev pub bit_of : Source → ℕ
bit_of Rtc = RTC
bit_of WakeUp = WAKE_UP
bit_of Remote = REMOTE
bit_of Key = KEY

-- an event of a source that counts: with STBY low its bit of b7..b4 is set, with STBY high its bit of b3..b0, and standby ends
unfoldable pub raised : ℕ → Core → Core
raised source c =
    cond c.power.stby (standby_ended (with_interrupt c (bit_or c.interrupt source))) (with_interrupt c (bit_or c.interrupt (16 * source)))
