-- The parts of the state that an event replaces, the bits of the configuration, and the sources of the interrupt byte.
use Rattle.std.specs.Prelude.{ℕ, Bool, List}
use Rattle.common.specs.Bits.{bit_set}
use Rattle.units.specs.declared.Sixteenths.{Sixteenths}
use Rattle.controller.specs.declared.Core.{Core}
use Rattle.controller.specs.declared.Rtc.{Rtc}
use Rattle.controller.specs.declared.Power.{Power}
use Rattle.controller.specs.declared.Setup.{Setup}
use Rattle.controller.specs.declared.Keys.{Keys}
use Rattle.controller.specs.declared.Remote.{Remote}

-- ---- one part replaced

abbrev pub with_rtc : Core → Rtc → Core
with_rtc c x = record { rtc = x; power = c.power; setup = c.setup; keys = c.keys; remote = c.remote; interrupt = c.interrupt }

abbrev pub with_power : Core → Power → Core
with_power c x = record { rtc = c.rtc; power = x; setup = c.setup; keys = c.keys; remote = c.remote; interrupt = c.interrupt }

abbrev pub with_setup : Core → Setup → Core
with_setup c x = record { rtc = c.rtc; power = c.power; setup = x; keys = c.keys; remote = c.remote; interrupt = c.interrupt }

abbrev pub with_keys : Core → Keys → Core
with_keys c x = record { rtc = c.rtc; power = c.power; setup = c.setup; keys = x; remote = c.remote; interrupt = c.interrupt }

abbrev pub with_remote : Core → Remote → Core
with_remote c x = record { rtc = c.rtc; power = c.power; setup = c.setup; keys = c.keys; remote = x; interrupt = c.interrupt }

abbrev pub with_interrupt : Core → ℕ → Core
with_interrupt c x = record { rtc = c.rtc; power = c.power; setup = c.setup; keys = c.keys; remote = c.remote; interrupt = x }

-- ---- the parts by their fields

abbrev pub rtc : List ℕ → Sixteenths → ℕ → Sixteenths → Rtc
rtc registers sixteenths flags watchdog = record { registers = registers; sixteenths = sixteenths; flags = flags; watchdog = watchdog }

abbrev pub power : Bool → Bool → Bool → Sixteenths → Power
power ready wakeup stby guard = record { ready = ready; wakeup = wakeup; stby = stby; guard = guard }

abbrev pub keys : ℕ → ℕ → ℕ → ℕ → Keys
keys mask sample accepted store = record { mask = mask; sample = sample; accepted = accepted; store = store }

abbrev pub remote : ℕ → ℕ → ℕ → Remote
remote fresh address command = record { fresh = fresh; address = address; command = command }

abbrev pub sixteenths : ℕ → Sixteenths
sixteenths n = record { 0 = n }

-- ---- configuration bits: b0 the guard's end begins standby, b1 every key is hot, b2 a remote key wakes, b5 WAKE_UP counts; b3 is the display's

abbrev pub guard_standby : Core → Bool
guard_standby c = bit_set c.setup.configuration 1

abbrev pub all_hot : Core → Bool
all_hot c = bit_set c.setup.configuration 2

abbrev pub remote_wakes : Core → Bool
remote_wakes c = bit_set c.setup.configuration 4

abbrev pub wake_up_counts : Core → Bool
wake_up_counts c = bit_set c.setup.configuration 32

-- ---- sources of the interrupt byte, by their bits with STBY high

abbrev pub KEY : ℕ
KEY = 8

abbrev pub REMOTE : ℕ
REMOTE = 4

abbrev pub WAKE_UP : ℕ
WAKE_UP = 2

abbrev pub RTC : ℕ
RTC = 1

-- ---- flags

abbrev pub ALARM_FLAG : ℕ
ALARM_FLAG = 1

abbrev pub WATCHDOG_FLAG : ℕ
WATCHDOG_FLAG = 2
