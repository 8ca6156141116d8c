-- Two decimal digits in a byte, a nibble each (document 01, "Clock registers": BCD).
use Rattle.std.specs.Prelude.{ℕ, ◌+◌, ◌*◌, ◌/◌, ◌%◌, Bool, List, [], ◌∷◌, leb}
use Rattle.common.specs.Tests.{conj}

-- the number that the two digits write
abbrev pub digits : ℕ → ℕ
digits b = b / 16 * 10 + b % 16

-- the byte of a number's last two digits
abbrev pub bcd : ℕ → ℕ
bcd x = x / 10 % 10 * 16 + x % 10

-- each nibble of each byte is at most 9
abbrev pub decimal_tests : List ℕ → List Bool
decimal_tests [] = []
decimal_tests (b ∷ bs) = leb (b / 16) 9 ∷ leb (b % 16) 9 ∷ decimal_tests bs

-- of one byte
abbrev pub decimal : ℕ → Bool
decimal b = conj (decimal_tests (b ∷ []))
