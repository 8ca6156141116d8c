-- What an accepted command is known to have; s is its bytes, and room the length of the output.
use Rattle.std.specs.Prelude.{ℕ, ◌/◌, ◌%◌, ◌≤◌, ◌<◌, ◌≡◌, true, List, length}
use Rattle.remote.specs.Frame.{is_protocol}
use Rattle.command.specs.Refusals.{byte}
use Rattle.command.specs.declared.Command.{Command}
use Rattle.command.specs.declared.Command.TheVariants.{Configure, ConfigureDigits, WriteDigits, WriteRegisters, ReadKeys, ReadRemote, ReadInterrupts, ReadRegisters, SetDisplay, SetHotKeys, Standby, ReloadGuard}

-- configuration bits b5..b0 with b4 zero; protocol in b6..b4, guard value in b3..b0
pub record Configuration (c b : ℕ) : Type 0 where
  pub six_bits : c < 64
  pub b4_zero : c / 16 % 2 ≡ 0
  pub seven_bits : b < 128
  pub protocol : is_protocol (b / 16) ≡ true

pub record Range (lo hi x : ℕ) : Type 0 where
  pub least : lo ≤ x
  pub most : x ≤ hi

abbrev pub Holds : List ℕ → ℕ → Command → Type 0
Holds s room (Configure c b) = Configuration c b
Holds s room (ConfigureDigits c b d) = Configuration c b × Range 1 5 d
Holds s room (WriteDigits a) = Range 0x10 0x14 a × (3 ≤ length s)
Holds s room (WriteRegisters a) = Range 0x01 0x0F a × (3 ≤ length s)
Holds s room ReadKeys = 2 ≤ room
Holds s room ReadRemote = 3 ≤ room
Holds s room ReadInterrupts = 2 ≤ room
Holds s room (ReadRegisters a) = a ≤ 0x0F
Holds s room (SetDisplay x) = x < 32
Holds s room (SetHotKeys lo hi) = (lo ≡ byte s 1) × (hi ≡ byte s 2)
Holds s room Standby = Unit
Holds s room ReloadGuard = Unit
