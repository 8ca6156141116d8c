-- How the worked examples write bytes, read one character after the other. No rule of document 01 is here.
use Rattle.std.specs.Prelude.{ℕ, ◌+◌, ◌-◌, ◌*◌, ◌/◌, ◌%◌, Bool, true, false, cond, not, ◌&&◌, ◌||◌, List, [], ◌∷◌, eqb, ltb, leb, length, set, Option, Some, None, is_none}
use Rattle.notation.specs.declared.Reading.{Reading}

-- the value of a digit, 0 to 9 and A to F
unfoldable pub digit_of : ℕ → Option ℕ
digit_of c =
    cond (ltb c 48) None (cond (leb c 57) (Some (c - 48)) (cond (ltb c 65) None (cond (leb c 70) (Some (c - 65 + 10)) None)))

abbrev pub reading : ℕ → ℕ → ℕ → Option ℕ → Bool → Bool → Reading
reading at number decimal high place readable =
    record { at = at; number = number; decimal = decimal; high = high; place = place; readable = readable }

-- two digits read in decimal
abbrev pub two_digits : ℕ → ℕ
two_digits value = value / 16 * 10 + value % 16

-- nothing is read yet
abbrev pub start : Reading
start = reading 0 0 0 None false true

-- a whole pair of digits is a place, if it stands behind @, counted in decimal; else it is the next byte
abbrev pub pair_read : Reading → ℕ → Reading
pair_read s value =
    cond s.place (reading (two_digits value) s.number s.decimal None false s.readable)
    (reading (s.at % 256 + 1) (s.number % 4_294_967_296 * 256 + value) (s.decimal % 4_294_967_296 * 100 + two_digits value) None s.place
    s.readable)

-- two digits, of which each is below 16
abbrev pub byte_of : ℕ → ℕ → ℕ
byte_of high d = high % 16 * 16 + d % 16

-- a digit makes a pair whole, or is its first
abbrev pub digit_after : Reading → ℕ → Option ℕ → Reading
digit_after s d (Some high) = pair_read s (byte_of high d)
digit_after s d None = reading s.at s.number s.decimal (Some d) s.place s.readable

abbrev pub digit_read : Reading → ℕ → Reading
digit_read s d = digit_after s d s.high

-- space, dash, > and | stand between bytes; a pair has to be whole there
abbrev pub gap_read : Reading → ℕ → Reading
gap_read s c =
    reading s.at s.number s.decimal None false
    (s.readable && (eqb c 32 || eqb c 45 || eqb c 62 || eqb c 124) && is_none s.high && not s.place)

-- the character c, as the digit that it may be
abbrev pub read_as : Reading → ℕ → Option ℕ → Reading
read_as s c (Some d) = digit_read s d
read_as s c None = cond (eqb c 64) (reading s.at s.number s.decimal s.high true s.readable) (gap_read s c)

unfoldable pub read : Reading → ℕ → Reading
read s c = read_as s c (digit_of c)

abbrev pub put : ℕ → ℕ → List ℕ → List ℕ
put at byte bytes = cond (ltb at (length bytes)) (set bytes at byte) bytes

-- the bytes, with the one that a second digit makes whole
abbrev pub stored_as : Reading → Option ℕ → Option ℕ → List ℕ → List ℕ
stored_as s None d bytes = bytes
stored_as s (Some high) None bytes = bytes
stored_as s (Some high) (Some d) bytes = cond s.place bytes (put s.at (byte_of high d) bytes)

-- the bytes, with the one that the character c makes whole
unfoldable pub stored : Reading → ℕ → List ℕ → List ℕ
stored s c bytes = stored_as s s.high (digit_of c) bytes

-- the whole text, which ends like a gap
unfoldable pub read_all : Reading → List ℕ → Reading
read_all s [] = read s 32
read_all s (c ∷ text) = read_all (read s c) text

-- and the bytes that it leaves
unfoldable pub filled : Reading → List ℕ → List ℕ → List ℕ
filled s [] bytes = bytes
filled s (c ∷ text) bytes = filled (read s c) text (stored s c bytes)
