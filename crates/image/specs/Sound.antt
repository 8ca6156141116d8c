-- What holds of the state in a valid image (document 01, "The image").
use Rattle.std.specs.Prelude.{ℕ, ◌≤◌, ◌<◌, ◌≡◌, length, get_or}
use Rattle.controller.specs.Sound.{Sound}
use Rattle.display.specs.declared.Display.{Display}
use Rattle.panel.specs.declared.Panel.{Panel}

-- digits 1..5, no bit of the control byte above b4
pub record SoundDisplay (d : Display) : Type 0 where
  pub some : 1 ≤ d.digits
  pub most : d.digits ≤ 5
  pub control : d.control < 32
  pub sized : length d.bytes ≡ 5
  pub bytes : (i : ℕ) → get_or d.bytes i 0 < 256

-- the shared state with 16 keys, and the display
pub record SoundPanel (p : Panel) : Type 0 where
  pub core : Sound 16 p.core
  pub display : SoundDisplay p.display
