-- The parts of the panel's state that an event or a command replaces.
use Rattle.std.specs.Prelude.{ℕ, List}
use Rattle.controller.specs.declared.Core.{Core}
use Rattle.display.specs.declared.Display.{Display}
use Rattle.panel.specs.declared.Panel.{Panel}

abbrev pub with_core : Panel → Core → Panel
with_core p c = record { core = c; display = p.display }

abbrev pub display : ℕ → ℕ → List ℕ → Display
display digits control bytes = record { digits = digits; control = control; bytes = bytes }

-- an event that both panel kinds share
abbrev pub on_core : (Core → Core) → Panel → Panel
on_core event p = with_core p (event p.core)
