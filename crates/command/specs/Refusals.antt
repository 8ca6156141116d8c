-- Why a command is refused: grounds 2 to 8 of the refusal table (document 01, "Refusal numbers").
-- A command has first byte c, second byte a, third byte b and n bytes in all; room is the length of the output.
use Rattle.std.specs.Prelude.{ℕ, ◌/◌, ◌%◌, Bool, cond, not, ◌&&◌, ◌||◌, List, [], ◌∷◌, eqb, ltb, length, get_or}
use Rattle.common.specs.Grounds.{Ground, ground}
use Rattle.remote.specs.Frame.{is_protocol}
use Rattle.command.specs.Codes.{WRITE_DIGITS, WRITE_REGISTERS, READ_KEYS, READ_REMOTE, READ_INTERRUPTS, READ_REGISTERS, SET_HOT_KEYS, configures, gives_digits, listed}

-- the byte of a command at a place
abbrev pub byte : List ℕ → ℕ → ℕ
byte s i = get_or s i 0

-- ---- 5: command or output too short

-- how many bytes a command has at least
unfoldable pub bytes_needed : ℕ → ℕ
bytes_needed c =
    cond (gives_digits c || eqb c WRITE_DIGITS || eqb c WRITE_REGISTERS || eqb c SET_HOT_KEYS) 3
    (cond (configures c || eqb c READ_REGISTERS) 2 1)

-- how long an output its reply needs
unfoldable pub room_needed : ℕ → ℕ
room_needed c = cond (eqb c READ_REMOTE) 3 (cond (eqb c READ_KEYS || eqb c READ_INTERRUPTS) 2 0)

abbrev pub too_short : ℕ → ℕ → ℕ → Bool
too_short c n room = ltb n (bytes_needed c) || ltb room (room_needed c)

-- ---- 6: address out of range

-- not from lo to hi
abbrev pub outside : ℕ → ℕ → ℕ → Bool
outside lo hi x = ltb x lo || ltb hi x

abbrev pub address_out : ℕ → ℕ → Bool
address_out c a =
    eqb c WRITE_DIGITS && outside 0x10 0x14 a
    || eqb c WRITE_REGISTERS && outside 0x01 0x0F a
    || eqb c READ_REGISTERS && outside 0x00 0x0F a

-- ---- 7: protocol not 0, 2, 4

-- the protocol is in b6..b4 of the second byte
abbrev pub protocol_out : ℕ → ℕ → Bool
protocol_out c a = configures c && not (is_protocol (a / 16 % 8))

-- ---- 8: digits not 1..5

abbrev pub digits_out : ℕ → ℕ → Bool
digits_out c b = gives_digits c && outside 1 5 b

-- ---- The table

unfoldable pub grounds_by : ℕ → ℕ → ℕ → ℕ → Bool → ℕ → List Ground
grounds_by c a b n standby room =
    ground 2 (eqb n 0)
    ∷ ground 3 standby
    ∷ ground 4 (not (listed c))
    ∷ ground 5 (too_short c n room)
    ∷ ground 6 (address_out c a)
    ∷ ground 7 (protocol_out c a)
    ∷ ground 8 (digits_out c b)
    ∷ []

-- the same of the command's bytes s
abbrev pub grounds : List ℕ → Bool → ℕ → List Ground
grounds s standby room = grounds_by (byte s 0) (byte s 1) (byte s 2) (length s) standby room
