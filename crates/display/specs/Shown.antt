-- The five bytes of show (document 01, "Show").
use Rattle.std.specs.Prelude.{ℕ, Bool, cond, not, ◌&&◌, ◌||◌, List, [], take, leb}
use Rattle.common.specs.Bits.{bit_set}
use Rattle.common.specs.Spell.{spell}
use Rattle.display.specs.declared.Display.{Display}
use Rattle.display.specs.Face.{face_of}

-- b4 of the control byte: the display is on
abbrev pub switched_on : ℕ → Bool
switched_on control = bit_set control 16

-- configuration b3: the clock face is wanted
abbrev pub clock_face : ℕ → Bool
clock_face configuration = bit_set configuration 8

-- nothing is shown: the display is off, or in standby without b3
abbrev pub dark : ℕ → Bool → ℕ → Bool
dark configuration stby control = not (switched_on control) || (stby && not (clock_face configuration))

-- the face is shown: with b3 and 4 digits or more
abbrev pub clock_shown : ℕ → ℕ → Bool
clock_shown configuration digits = clock_face configuration && leb 4 digits

-- what is shown from digit 1 on: nothing, the face, or the bytes of the digits in use
unfoldable pub content : List ℕ → ℕ → Bool → Display → List ℕ
content rs configuration stby d =
    cond (dark configuration stby d.control) []
    (cond (clock_shown configuration d.digits) (face_of rs)
    (take d.digits d.bytes))

-- five bytes; past the content they are 0
abbrev pub five_digits : List ℕ → List ℕ
five_digits l = spell 0 5 l

abbrev pub shown : List ℕ → ℕ → Bool → Display → List ℕ
shown rs configuration stby d = five_digits (content rs configuration stby d)
