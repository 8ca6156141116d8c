-- The command bytes by name (document 01, "Commands").
use Rattle.std.specs.Prelude.{ℕ, ◌/◌, Bool, ◌&&◌, ◌||◌, eqb}
use Rattle.common.specs.Bits.{bit_set}

-- ---- Single codes

abbrev pub WRITE_DIGITS : ℕ
WRITE_DIGITS = 0x40

abbrev pub WRITE_REGISTERS : ℕ
WRITE_REGISTERS = 0x50

abbrev pub READ_KEYS : ℕ
READ_KEYS = 0x61

abbrev pub READ_REMOTE : ℕ
READ_REMOTE = 0x62

abbrev pub READ_INTERRUPTS : ℕ
READ_INTERRUPTS = 0x63

abbrev pub READ_REGISTERS : ℕ
READ_REGISTERS = 0x70

abbrev pub SET_HOT_KEYS : ℕ
SET_HOT_KEYS = 0xA0

abbrev pub STANDBY : ℕ
STANDBY = 0xC1

abbrev pub RELOAD_GUARD : ℕ
RELOAD_GUARD = 0xC2

-- ---- Groups

-- 00xxxxxx: the configuration
abbrev pub configures : ℕ → Bool
configures c = eqb (c / 64) 0

-- the same with b4 set: a third byte gives the digits
abbrev pub gives_digits : ℕ → Bool
gives_digits c = configures c && bit_set c 16

-- 100xxxxx: the display
abbrev pub sets_display : ℕ → Bool
sets_display c = eqb (c / 32) 4

-- every command of the list
abbrev pub listed : ℕ → Bool
listed c =
    configures c
    || eqb c WRITE_DIGITS
    || eqb c WRITE_REGISTERS
    || eqb c READ_KEYS
    || eqb c READ_REMOTE
    || eqb c READ_INTERRUPTS
    || eqb c READ_REGISTERS
    || sets_display c
    || eqb c SET_HOT_KEYS
    || eqb c STANDBY
    || eqb c RELOAD_GUARD
