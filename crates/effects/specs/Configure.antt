-- Document 01, "Commands": the 00 group, A0h and C2h, as far as both panel kinds share them.
use Rattle.std.specs.Prelude.{ℕ, ◌+◌, ◌*◌, ◌/◌, ◌%◌, cond, eqb}
use Rattle.controller.specs.declared.Core.{Core}
use Rattle.controller.specs.declared.Setup.{Setup}
use Rattle.controller.specs.State.{with_setup, with_power, with_keys, power, keys}
use Rattle.controller.specs.Standby.{guard_load}

-- the guard at 16 times its value
abbrev pub guard_loaded : Core → Core
guard_loaded c = with_power c (power c.power.ready c.power.wakeup c.power.stby (guard_load c))

-- bytes 20 and 21 of the image: the configuration bits, the protocol in b6..b4 and the guard value in b3..b0 of b
abbrev pub setup_of : ℕ → ℕ → Setup
setup_of configuration b = record { configuration = configuration; protocol = b / 16; guardvalue = record { 0 = b % 16 } }

-- 00 group: the setup is set and the guard loads
unfoldable pub configured : ℕ → ℕ → Core → Core
configured configuration b c = guard_loaded (with_setup c (setup_of configuration b))

-- A0h: the hot-key mask, low byte first
abbrev pub mask_set : ℕ → ℕ → Core → Core
mask_set low high c = with_keys c (keys (low + 256 * high) c.keys.sample c.keys.accepted c.keys.store)

-- C2h: a running guard loads again
unfoldable pub guard_reloaded : Core → Core
guard_reloaded c = cond (eqb c.power.guard.0 0) c (guard_loaded c)
