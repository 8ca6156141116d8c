-- Which command its bytes are (document 01, "Commands"), and the answer to them.
use Rattle.std.specs.Prelude.{ℕ, ◌+◌, ◌*◌, ◌/◌, ◌%◌, Bool, cond, List, eqb, Result, Ok, Err}
use Rattle.common.specs.Grounds.{first_ground}
use Rattle.common.specs.declared.refusal.Refusal.{Refusal}
use Rattle.common.specs.Refused.{refusal_numbered}
use Rattle.command.specs.Codes.{WRITE_DIGITS, WRITE_REGISTERS, READ_KEYS, READ_REMOTE, READ_INTERRUPTS, READ_REGISTERS, SET_HOT_KEYS, STANDBY, configures, gives_digits, sets_display}
use Rattle.command.specs.Refusals.{byte, grounds}
use Rattle.command.specs.declared.Command.{Command}
use Rattle.command.specs.declared.Command.TheVariants.{Configure, ConfigureDigits, WriteDigits, WriteRegisters, ReadKeys, ReadRemote, ReadInterrupts, ReadRegisters, SetDisplay, SetHotKeys, Standby, ReloadGuard}

-- b5..b0 with b4 zero, of a byte of the configuration group
abbrev pub configuration_bits : ℕ → ℕ
configuration_bits c = c / 32 * 32 + c % 16

-- the command of first byte c, second byte a and third byte b, c being a listed one: the last is C2h
unfoldable pub command_by : ℕ → ℕ → ℕ → Command
command_by c a b =
    cond (gives_digits c) (ConfigureDigits (configuration_bits c) (a % 128) b)
    (cond (configures c) (Configure c (a % 128))
    (cond (sets_display c) (SetDisplay (c % 32))
    (cond (eqb c WRITE_DIGITS) (WriteDigits a)
    (cond (eqb c WRITE_REGISTERS) (WriteRegisters a)
    (cond (eqb c READ_KEYS) ReadKeys
    (cond (eqb c READ_REMOTE) ReadRemote
    (cond (eqb c READ_INTERRUPTS) ReadInterrupts
    (cond (eqb c READ_REGISTERS) (ReadRegisters a)
    (cond (eqb c SET_HOT_KEYS) (SetHotKeys a b)
    (cond (eqb c STANDBY) Standby ReloadGuard))))))))))

abbrev pub command_of : List ℕ → Command
command_of s = command_by (byte s 0) (byte s 1) (byte s 2)

-- refused by the first ground that holds, else accepted
abbrev pub decoded_by : ℕ → Command → Result Command Refusal
decoded_by number k = cond (eqb number 0) (Ok k) (Err (refusal_numbered number))

-- the answer to the bytes s, by STBY's level and the length of the output
unfoldable pub decoded_of : List ℕ → Bool → ℕ → Result Command Refusal
decoded_of s standby room = decoded_by (first_ground (grounds s standby room)) (command_of s)
