-- The output after a command, by its cases. Assumes nothing.
use mathlib.Core.Path.{◌≡◌, refl, sym, ap, ◌∙◌}
use mathlib.Core.List.{List, [], ◌∷◌}
use Prim.Native.Nat.{ℕ}
use lib.ListN.{length}
use types.Run.{OneOf, miss}
use denote.Enum.Declared.{tag_of}
use Rattle.command.specs.contracts.Command.{the_type}
use Rattle.command.specs.declared.Command.{Command}
use Rattle.command.specs.declared.Command.TheVariants.{Configure, ConfigureDigits, WriteDigits, WriteRegisters, ReadKeys, ReadRemote, ReadInterrupts, ReadRegisters, SetDisplay, SetHotKeys, Standby, ReloadGuard}
use Rattle.controller.specs.declared.Core.{Core}
use Rattle.output.specs.Output.{answered}
use Rattle.panel.specs.Read.{keys_reply, remote_reply, interrupts_reply, registers_reply, output_after}

module _ (c : Core) (k : Command) (out l : List ℕ) where
  by_command : (v : Command) → k ≡ v → l ≡ output_after c v out → l ≡ output_after c k out
  by_command v e f = f ∙ ap (λ (x : Command). output_after c x out) (sym e)

  pub replies_keys : k ≡ ReadKeys → l ≡ answered (keys_reply c) (length out) → l ≡ output_after c k out
  replies_keys e f = by_command ReadKeys e f

  pub replies_remote : k ≡ ReadRemote → l ≡ answered (remote_reply c) (length out) → l ≡ output_after c k out
  replies_remote e f = by_command ReadRemote e f

  pub replies_interrupts : k ≡ ReadInterrupts → l ≡ answered (interrupts_reply c) (length out) → l ≡ output_after c k out
  replies_interrupts e f = by_command ReadInterrupts e f

  pub replies_registers : (a : ℕ) → k ≡ ReadRegisters a → l ≡ answered (registers_reply c a) (length out) → l ≡ output_after c k out
  replies_registers a e f = by_command (ReadRegisters a) e f

-- the places of the commands with no reply
abbrev others : List ℕ
others = 0 ∷ 1 ∷ 2 ∷ 3 ∷ 8 ∷ 9 ∷ 10 ∷ 11 ∷ []

-- a command with no reply leaves the output as it was
pub silent : (c : Core) (out : List ℕ) (k : Command) → OneOf others (tag_of the_type k) → out ≡ output_after c k out
silent c out (Configure f b) h = refl
silent c out (ConfigureDigits f b n) h = refl
silent c out (WriteDigits a) h = refl
silent c out (WriteRegisters a) h = refl
silent c out ReadKeys h = absurd (miss others 4 tt h)
silent c out ReadRemote h = absurd (miss others 5 tt h)
silent c out ReadInterrupts h = absurd (miss others 6 tt h)
silent c out (ReadRegisters a) h = absurd (miss others 7 tt h)
silent c out (SetDisplay x) h = refl
silent c out (SetHotKeys l m) h = refl
silent c out Standby h = refl
silent c out ReloadGuard h = refl
