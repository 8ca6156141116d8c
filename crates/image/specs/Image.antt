-- The state that an image holds, and the image of a state (document 01, "The image": the table).
use Rattle.std.specs.Prelude.{ℕ, ◌+◌, ◌*◌, ◌/◌, ◌%◌, cond, List, [], ◌∷◌, ◌++◌, replicate}
use Rattle.common.specs.Bits.{bit_set}
use Rattle.common.specs.Spell.{spell}
use Rattle.controller.specs.declared.Core.{Core}
use Rattle.controller.specs.declared.Rtc.{Rtc}
use Rattle.controller.specs.declared.Power.{Power}
use Rattle.controller.specs.declared.Setup.{Setup}
use Rattle.controller.specs.declared.Keys.{Keys}
use Rattle.controller.specs.declared.Remote.{Remote}
use Rattle.controller.specs.State.{rtc, power, keys, remote, sixteenths}
use Rattle.display.specs.declared.Display.{Display}
use Rattle.panel.specs.declared.Panel.{Panel}
use Rattle.image.specs.Layout as at
use Rattle.image.specs.Layout.{byte_at, word_at, low_byte, word_bytes, READY, WAKE_UP, STBY}

-- ---- The state in an image

abbrev pub registers_in : List ℕ → List ℕ
registers_in l = spell at.REGISTERS 16 l

abbrev pub rtc_in : List ℕ → Rtc
rtc_in l = rtc (registers_in l) (sixteenths (byte_at l at.SIXTEENTHS)) (byte_at l at.FLAGS) (sixteenths (word_at l at.WATCHDOG_LEFT))

abbrev pub power_in : List ℕ → Power
power_in l =
    power (bit_set (byte_at l at.PINS) READY) (bit_set (byte_at l at.PINS) WAKE_UP) (bit_set (byte_at l at.PINS) STBY) (sixteenths (word_at l at.GUARD_LEFT))

-- the protocol in b6..b4, the guard value in b3..b0
abbrev pub setup_in : List ℕ → Setup
setup_in l =
    record {
      configuration = byte_at l at.CONFIGURATION;
      protocol = byte_at l at.SETUP / 16 % 8;
      guardvalue = record { 0 = byte_at l at.SETUP % 16 };
    }

abbrev pub keys_in : List ℕ → Keys
keys_in l = keys (word_at l at.HOT_KEYS) (word_at l at.LAST_SAMPLE) (word_at l at.ACCEPTED_KEYS) (word_at l at.KEY_STORE)

abbrev pub remote_in : List ℕ → Remote
remote_in l = remote (byte_at l at.REMOTE_FRESH) (byte_at l at.REMOTE_ADDRESS) (byte_at l at.REMOTE_COMMAND)

abbrev pub core_in : List ℕ → Core
core_in l =
    record {
      rtc = rtc_in l;
      power = power_in l;
      setup = setup_in l;
      keys = keys_in l;
      remote = remote_in l;
      interrupt = byte_at l at.INTERRUPT;
    }

abbrev pub display_in : List ℕ → Display
display_in l = record { digits = byte_at l at.DIGITS; control = byte_at l at.DISPLAY_CONTROL; bytes = spell at.DIGIT_BYTES 5 l }

-- THE STATE that an image holds
abbrev pub decoded : List ℕ → Panel
decoded l = record { core = core_in l; display = display_in l }

-- ---- The image of a state

-- b0 READY, b1 WAKE_UP, b2 STBY
abbrev pub pins_byte : Power → ℕ
pins_byte p = cond p.ready READY 0 + cond p.wakeup WAKE_UP 0 + cond p.stby STBY 0

-- the protocol in b6..b4, the guard value in b3..b0
abbrev pub setup_byte : Setup → ℕ
setup_byte s = 16 * (s.protocol % 8) + s.guardvalue.0 % 16

-- bytes 16 to 21, the pins' byte given
abbrev pub status_bytes : Core → ℕ → List ℕ
status_bytes c pins =
    low_byte c.rtc.sixteenths.0 ∷ c.rtc.flags ∷ c.interrupt ∷ pins ∷ c.setup.configuration ∷ setup_byte c.setup ∷ []

-- bytes 22 to 33
abbrev pub words_of : Core → List ℕ
words_of c =
    word_bytes c.power.guard.0
    ++ word_bytes c.rtc.watchdog.0
    ++ word_bytes c.keys.mask
    ++ word_bytes c.keys.sample
    ++ word_bytes c.keys.accepted
    ++ word_bytes c.keys.store

-- bytes 34 to 36
abbrev pub remote_bytes : Remote → List ℕ
remote_bytes r = r.fresh ∷ r.address ∷ r.command ∷ []

-- bytes 37 to 43
abbrev pub display_bytes : Display → List ℕ
display_bytes d = d.digits ∷ d.control ∷ spell 0 5 d.bytes

-- bytes 16 to 43, the pins' byte given
abbrev pub state_bytes : Panel → ℕ → List ℕ
state_bytes p pins = status_bytes p.core pins ++ words_of p.core ++ remote_bytes p.core.remote ++ display_bytes p.display

-- 16 registers, 28 bytes of fields, and zeros to the end
abbrev pub laid_out : List ℕ → List ℕ → List ℕ
laid_out registers fields = spell 0 16 registers ++ spell 0 28 fields ++ replicate 20 0

-- THE IMAGE of a state
abbrev pub encoded : Panel → List ℕ
encoded p = laid_out p.core.rtc.registers (state_bytes p (pins_byte p.core.power))
