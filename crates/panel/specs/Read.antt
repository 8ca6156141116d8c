-- Document 01, "Commands": the replies of 61h, 62h, 63h and 70h.
use Rattle.std.specs.Prelude.{ℕ, ◌/◌, ◌%◌, List, [], ◌∷◌, length, drop}
use Rattle.output.specs.Output.{answered}
use Rattle.command.specs.declared.Command.{Command}
use Rattle.command.specs.declared.Command.TheVariants.{Configure, ConfigureDigits, WriteDigits, WriteRegisters, ReadKeys, ReadRemote, ReadInterrupts, ReadRegisters, SetDisplay, SetHotKeys, Standby, ReloadGuard}
use Rattle.controller.specs.declared.Core.{Core}

-- ---- Replies

-- the key store, low byte first
abbrev pub keys_reply : Core → List ℕ
keys_reply c = c.keys.store % 256 ∷ c.keys.store / 256 % 256 ∷ []

-- bytes 34..36 of the image
abbrev pub remote_reply : Core → List ℕ
remote_reply c = c.remote.fresh ∷ c.remote.address ∷ c.remote.command ∷ []

-- the interrupt byte, then the flags
abbrev pub interrupts_reply : Core → List ℕ
interrupts_reply c = c.interrupt ∷ c.rtc.flags ∷ []

-- the registers from a to 0Fh
abbrev pub registers_reply : Core → ℕ → List ℕ
registers_reply c a = drop a c.rtc.registers

-- the output after a command: a reply and FFh beyond it; other commands leave it as it was
abbrev pub output_after : Core → Command → List ℕ → List ℕ
output_after c (Configure configuration b) out = out
output_after c (ConfigureDigits configuration b digits) out = out
output_after c (WriteDigits a) out = out
output_after c (WriteRegisters a) out = out
output_after c ReadKeys out = answered (keys_reply c) (length out)
output_after c ReadRemote out = answered (remote_reply c) (length out)
output_after c ReadInterrupts out = answered (interrupts_reply c) (length out)
output_after c (ReadRegisters a) out = answered (registers_reply c a) (length out)
output_after c (SetDisplay x) out = out
output_after c (SetHotKeys low high) out = out
output_after c Standby out = out
output_after c ReloadGuard out = out
