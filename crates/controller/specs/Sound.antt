-- Document 01, "The image": what holds of the state in a valid image. `width` is the number of keys of the panel kind.
use Rattle.std.specs.Prelude.{◌≡◌, true, ℕ, ◌/◌, ◌%◌, ◌^◌, ◌≤◌, ◌<◌, length, get_or}
use Rattle.units.specs.Units.{sixteenths_of}
use Rattle.registers.specs.Names.{at, WATCHDOG}
use Rattle.registers.specs.Written.{reserved_clear}
use Rattle.registers.specs.Watchdog.{watchdog_load}
use Rattle.timekeeper.specs.Clock.{valid_calendar}
use Rattle.remote.specs.Frame.{is_protocol}
use Rattle.controller.specs.declared.Core.{Core}
use Rattle.controller.specs.declared.Rtc.{Rtc}
use Rattle.controller.specs.declared.Power.{Power}
use Rattle.controller.specs.declared.Setup.{Setup}
use Rattle.controller.specs.declared.Keys.{Keys}
use Rattle.controller.specs.declared.Remote.{Remote}

pub record SoundRtc (r : Rtc) : Type 0 where
  pub sized : length r.registers ≡ 16
  pub bytes : (i : ℕ) → get_or r.registers i 0 < 256
  pub calendar : valid_calendar r.registers ≡ true
  pub reserved : reserved_clear r.registers ≡ true
  pub sixteenths : r.sixteenths.0 < 16
  pub flags : r.flags < 4
  pub watchdog : r.watchdog.0 ≤ (watchdog_load (at r.registers WATCHDOG)).0

pub record SoundSetup (s : Setup) : Type 0 where
  pub configuration : s.configuration < 64
  pub unnamed : s.configuration / 16 % 2 ≡ 0
  pub protocol : is_protocol s.protocol ≡ true
  pub value : s.guardvalue.0 < 16

-- guard left is at most 16 times the guard value, and 0 while STBY is high
pub record SoundPower (s : Setup) (p : Power) : Type 0 where
  pub guard : p.guard.0 ≤ (sixteenths_of s.guardvalue).0
  pub stopped : p.stby ≡ true → p.guard.0 ≡ 0

pub record SoundKeys (width : ℕ) (k : Keys) : Type 0 where
  pub mask : k.mask < 2 ^ width
  pub sample : k.sample < 2 ^ width
  pub accepted : k.accepted < 2 ^ width
  pub store : k.store < 2 ^ width

-- the address is 0, and the command is 0 if the key is not fresh
pub record SoundRemote (r : Remote) : Type 0 where
  pub fresh : r.fresh < 2
  pub address : r.address ≡ 0
  pub command : r.command < 256
  pub stale : r.fresh ≡ 0 → r.command ≡ 0

pub record Sound (width : ℕ) (c : Core) : Type 0 where
  pub rtc : SoundRtc c.rtc
  pub setup : SoundSetup c.setup
  pub power : SoundPower c.setup c.power
  pub keys : SoundKeys width c.keys
  pub remote : SoundRemote c.remote
  pub interrupt : c.interrupt < 256
