-- Document 01, "Power-up": digits 5, the display off and blank.
use Rattle.std.specs.Prelude.{[], ◌∷◌}
use Rattle.controller.specs.PowerUp.{powered_up}
use Rattle.panel.specs.declared.Panel.{Panel}
use Rattle.panel.specs.State.{display}

abbrev pub panel_powered_up : Panel
panel_powered_up = record { core = powered_up; display = display 5 0 (0 ∷ 0 ∷ 0 ∷ 0 ∷ 0 ∷ []) }
