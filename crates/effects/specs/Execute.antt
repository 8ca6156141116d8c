-- Document 01, "Commands": what an accepted command makes of the state that both panel kinds share, and ground 9 of the refusal table.
use Rattle.std.specs.Prelude.{ℕ, Bool, false, cond, List, drop, Result, Ok, Err}
use Rattle.command.specs.declared.Command.{Command}
use Rattle.command.specs.declared.Command.TheVariants.{Configure, ConfigureDigits, WriteDigits, WriteRegisters, ReadKeys, ReadRemote, ReadInterrupts, ReadRegisters, SetDisplay, SetHotKeys, Standby, ReloadGuard}
use Rattle.controller.specs.declared.Core.{Core}
use Rattle.controller.specs.Standby.{standby_begun}
use Rattle.common.specs.declared.refusal.Refusal.{Refusal}
use Rattle.common.specs.declared.refusal.Refusal.TheVariants.{InvalidCalendar}
use Rattle.effects.specs.Configure.{configured, mask_set, guard_reloaded}
use Rattle.effects.specs.Write.{registers_written, calendar_lost}
use Rattle.effects.specs.Clear.{store_cleared, remote_cleared, interrupts_cleared}

-- the data of 40h and 50h: the bytes behind the command byte and the address
abbrev pub data_of : List ℕ → List ℕ
data_of s = drop 2 s

-- the shared state after the command k, whose bytes are s
abbrev pub core_executed : Core → Command → List ℕ → Core
core_executed c (Configure configuration b) s = configured configuration b c
core_executed c (ConfigureDigits configuration b n) s = configured configuration b c
core_executed c (WriteDigits a) s = c
core_executed c (WriteRegisters a) s = registers_written a (data_of s) c
core_executed c ReadKeys s = store_cleared c
core_executed c ReadRemote s = remote_cleared c
core_executed c ReadInterrupts s = interrupts_cleared c
core_executed c (ReadRegisters a) s = c
core_executed c (SetDisplay x) s = c
core_executed c (SetHotKeys low high) s = mask_set low high c
core_executed c Standby s = standby_begun c
core_executed c ReloadGuard s = guard_reloaded c

-- ground 9: the registers would hold no valid calendar
abbrev pub writes_no_calendar : Core → Command → List ℕ → Bool
writes_no_calendar c (Configure configuration b) s = false
writes_no_calendar c (ConfigureDigits configuration b n) s = false
writes_no_calendar c (WriteDigits a) s = false
writes_no_calendar c (WriteRegisters a) s = calendar_lost a (data_of s) c
writes_no_calendar c ReadKeys s = false
writes_no_calendar c ReadRemote s = false
writes_no_calendar c ReadInterrupts s = false
writes_no_calendar c (ReadRegisters a) s = false
writes_no_calendar c (SetDisplay x) s = false
writes_no_calendar c (SetHotKeys low high) s = false
writes_no_calendar c Standby s = false
writes_no_calendar c ReloadGuard s = false

-- the state after the command, or the refusal
abbrev pub command_answer : Core → Command → List ℕ → Result Core Refusal
command_answer c k s = cond (writes_no_calendar c k s) (Err InvalidCalendar) (Ok (core_executed c k s))
