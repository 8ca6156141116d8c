-- The five bytes of show for a panel (document 01, "Show").
use Rattle.std.specs.Prelude.{ℕ, List}
use Rattle.display.specs.Shown.{shown}
use Rattle.panel.specs.declared.Panel.{Panel}

abbrev pub shown_in : Panel → List ℕ
shown_in p = shown p.core.rtc.registers p.core.setup.configuration p.core.power.stby p.display
