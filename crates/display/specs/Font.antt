-- The segments that write a digit (document 01, "Show": font and point).
use Rattle.std.specs.Prelude.{ℕ, ◌/◌, ◌%◌, List, [], ◌∷◌, get_or}
use Rattle.std.specs.Int.Bits.{bit_or}
use Rattle.display.specs.declared.Pair.{Pair}

-- the digits 0 to 9
abbrev pub font : List ℕ
font = 0x3F ∷ 0x06 ∷ 0x5B ∷ 0x4F ∷ 0x66 ∷ 0x6D ∷ 0x7D ∷ 0x07 ∷ 0x7F ∷ 0x6F ∷ []

abbrev pub DASH : ℕ
DASH = 0x40

-- THE FONT: a nibble is its digit, above 9 a dash
unfoldable pub segments : ℕ → ℕ
segments n = get_or font n DASH

-- a BCD byte, nibble by nibble
abbrev pub nibbles : ℕ → Pair
nibbles b = record { tens = segments (b / 16); ones = segments (b % 16) }

abbrev pub POINT : ℕ
POINT = 0x80

-- segments with the point
abbrev pub pointed : ℕ → ℕ
pointed s = bit_or s POINT
