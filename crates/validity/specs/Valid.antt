-- Which images are valid (document 01, "The image": "valid exactly if").
use Rattle.std.specs.Prelude.{ℕ, ◌/◌, ◌%◌, Bool, not, ◌||◌, List, [], ◌∷◌, length, eqb, ltb, leb, cond, Result, Ok, Err}
use Rattle.common.specs.Tests.{conj}
use Rattle.common.specs.declared.refusal.Refusal.{Refusal}
use Rattle.common.specs.declared.refusal.Refusal.TheVariants.{InvalidImage}
use Rattle.common.specs.Spell.{spell}
use Rattle.registers.specs.Names.{at, WATCHDOG}
use Rattle.registers.specs.Written.{reserved_clear}
use Rattle.registers.specs.Watchdog.{watchdog_load}
use Rattle.timekeeper.specs.Clock.{valid_calendar}
use Rattle.controller.specs.declared.Core.{Core}
use Rattle.controller.specs.Standby.{guard_load}
use Rattle.remote.specs.Frame.{is_protocol}
use Rattle.panel.specs.declared.Panel.{Panel}
use Rattle.image.specs.Layout.{image_len, FLAGS, PINS, CONFIGURATION, SETUP, DISPLAY_CONTROL, UNUSED, byte_at}
use Rattle.image.specs.Image.{registers_in, decoded}

-- ---- Bits and bytes without a name

-- flags b7..b2, pins b7..b3, configuration b7, b6 and b4, protocol b7, display control b7..b5
abbrev pub unnamed_tests : List ℕ → List Bool
unnamed_tests l =
    ltb (byte_at l FLAGS) 4
    ∷ ltb (byte_at l PINS) 8
    ∷ ltb (byte_at l CONFIGURATION) 64
    ∷ eqb (byte_at l CONFIGURATION / 16 % 2) 0
    ∷ ltb (byte_at l SETUP) 128
    ∷ ltb (byte_at l DISPLAY_CONTROL) 32
    ∷ []

abbrev pub zero_tests : List ℕ → List Bool
zero_tests [] = []
zero_tests (b ∷ bs) = eqb b 0 ∷ zero_tests bs

-- the bytes from 44 to 63
abbrev pub tail_tests : List ℕ → List Bool
tail_tests l = zero_tests (spell UNUSED 20 l)

-- ---- The state

-- sixteenths 0..15, fresh 0 or 1, digits 1..5
abbrev pub range_tests : Panel → List Bool
range_tests p = ltb p.core.rtc.sixteenths.0 16 ∷ ltb p.core.remote.fresh 2 ∷ leb 1 p.display.digits ∷ leb p.display.digits 5 ∷ []

-- guard left is at most 16 times the guard value
abbrev pub guard_within : Core → Bool
guard_within c = leb c.power.guard.0 (guard_load c).0

-- and 0 while STBY is high
abbrev pub guard_stopped : Core → Bool
guard_stopped c = not c.power.stby || eqb c.power.guard.0 0

-- watchdog left is at most what register 09h loads
abbrev pub watchdog_within : Core → Bool
watchdog_within c = leb c.rtc.watchdog.0 (watchdog_load (at c.rtc.registers WATCHDOG)).0

-- the remote address is 0
abbrev pub address_zero : Core → Bool
address_zero c = eqb c.remote.address 0

-- the command is 0 if not fresh
abbrev pub command_zero : Core → Bool
command_zero c = not (eqb c.remote.fresh 0) || eqb c.remote.command 0

-- ---- THE IMAGE IS VALID

abbrev pub state_tests : Panel → List Bool
state_tests p =
    reserved_clear p.core.rtc.registers
    ∷ conj (range_tests p)
    ∷ is_protocol p.core.setup.protocol
    ∷ guard_within p.core
    ∷ guard_stopped p.core
    ∷ watchdog_within p.core
    ∷ address_zero p.core
    ∷ command_zero p.core
    ∷ []

abbrev pub valid_tests : List ℕ → List Bool
valid_tests l = eqb (length l) image_len ∷ valid_calendar (registers_in l) ∷ conj (unnamed_tests l) ∷ conj (tail_tests l) ∷ conj (state_tests (decoded l)) ∷ []

unfoldable pub is_valid : List ℕ → Bool
is_valid l = conj (valid_tests l)

-- the panel in a valid image, or the refusal
abbrev pub panel_read : List ℕ → Result Panel Refusal
panel_read l = cond (is_valid l) (Ok (decoded l)) (Err InvalidImage)
