-- Document 01, "Commands": what an accepted command makes of the panel, whose bytes are s.
use Rattle.std.specs.Prelude.{ℕ, cond, List, Result, Ok, Err}
use Rattle.command.specs.declared.Command.{Command}
use Rattle.command.specs.declared.Command.TheVariants.{Configure, ConfigureDigits, WriteDigits, WriteRegisters, ReadKeys, ReadRemote, ReadInterrupts, ReadRegisters, SetDisplay, SetHotKeys, Standby, ReloadGuard}
use Rattle.display.specs.declared.Display.{Display}
use Rattle.effects.specs.Execute.{data_of, core_executed, writes_no_calendar}
use Rattle.panel.specs.declared.Panel.{Panel}
use Rattle.common.specs.declared.refusal.Refusal.{Refusal}
use Rattle.common.specs.declared.refusal.Refusal.TheVariants.{InvalidCalendar}
use Rattle.panel.specs.Display.{digits_set, display_set, digits_written}

-- the display after the command k
abbrev pub display_executed : Display → Command → List ℕ → Display
display_executed d (Configure configuration b) s = d
display_executed d (ConfigureDigits configuration b n) s = digits_set n d
display_executed d (WriteDigits a) s = digits_written a (data_of s) d
display_executed d (WriteRegisters a) s = d
display_executed d ReadKeys s = d
display_executed d ReadRemote s = d
display_executed d ReadInterrupts s = d
display_executed d (ReadRegisters a) s = d
display_executed d (SetDisplay x) s = display_set x d
display_executed d (SetHotKeys low high) s = d
display_executed d Standby s = d
display_executed d ReloadGuard s = d

-- the panel after it
abbrev pub executed : Panel → Command → List ℕ → Panel
executed p k s = record { core = core_executed p.core k s; display = display_executed p.display k s }

-- the panel after the command, or the refusal
abbrev pub served : Panel → Command → List ℕ → Result Panel Refusal
served p k s = cond (writes_no_calendar p.core k s) (Err InvalidCalendar) (Ok (executed p k s))
