-- The clock face on digits 1 to 4 (document 01, "Show": MD_H and M_MS).
use Rattle.std.specs.Prelude.{ℕ, ◌%◌, cond, List, [], ◌∷◌}
use Rattle.registers.specs.Names.{at, SECONDS, MINUTES, DATE, MONTH, md_h, m_ms}
use Rattle.display.specs.declared.Pair.{Pair}
use Rattle.display.specs.Font.{nibbles, pointed}
use Rattle.display.specs.Hours.{hours_shown}

-- the fields, other bits of their registers cut off
abbrev pub seconds : List ℕ → ℕ
seconds rs = at rs SECONDS % 128

abbrev pub minutes : List ℕ → ℕ
minutes rs = at rs MINUTES % 128

abbrev pub date : List ℕ → ℕ
date rs = at rs DATE % 64

abbrev pub month : List ℕ → ℕ
month rs = at rs MONTH % 32

-- two pairs on digits 1 to 4, the point on digit 2
abbrev pub placed : Pair → Pair → List ℕ
placed l r = l.tens ∷ pointed l.ones ∷ r.tens ∷ r.ones ∷ []

-- MD_H gives month and date, else M_MS minutes and seconds, else hours and minutes
unfoldable pub face_of : List ℕ → List ℕ
face_of rs =
    cond (md_h rs) (placed (nibbles (month rs)) (nibbles (date rs)))
    (cond (m_ms rs) (placed (nibbles (minutes rs)) (nibbles (seconds rs)))
    (placed (hours_shown rs) (nibbles (minutes rs))))
