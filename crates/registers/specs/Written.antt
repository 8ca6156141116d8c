-- What the registers keep of bytes written to them (document 01, "Clock registers": reserved bits; "Commands": 50h).
use Rattle.std.specs.Prelude.{ℕ, suc, ◌+◌, ◌*◌, ◌/◌, ◌%◌, Bool, List, [], ◌∷◌, ◌++◌, take, drop, get_or, eqb, ltb}
use Rattle.common.specs.Tests.{conj}
use Rattle.registers.specs.Names.{at, RESERVED, MINUTES, WEEKDAY, DATE, MONTH, CALIBRATION, ALARM_MONTH, ALARM_WEEKDAY}

-- ---- Reserved bits

-- what a register keeps of a byte: nothing, the whole byte, its low or high bits, all but one bit
abbrev pub nothing : ℕ → ℕ
nothing b = 0

abbrev pub whole : ℕ → ℕ
whole b = b

abbrev pub low3 : ℕ → ℕ
low3 b = b % 8

abbrev pub low6 : ℕ → ℕ
low6 b = b % 64

abbrev pub low7 : ℕ → ℕ
low7 b = b % 128

abbrev pub high4 : ℕ → ℕ
high4 b = b / 16 * 16

abbrev pub without_b5 : ℕ → ℕ
without_b5 b = b / 64 * 64 + b % 32

abbrev pub without_b6 : ℕ → ℕ
without_b6 b = b / 128 * 128 + b % 64

-- the byte b as register a keeps it, the registers from 00h on
abbrev pub kept : ℕ → ℕ → ℕ
kept a b =
    get_or
    (nothing b  -- 00h
    ∷ whole b  -- 01h
    ∷ low7 b  -- 02h
    ∷ whole b  -- 03h
    ∷ low3 b  -- 04h
    ∷ low6 b  -- 05h
    ∷ without_b5 b  -- 06h
    ∷ whole b  -- 07h
    ∷ without_b6 b  -- 08h
    ∷ whole b  -- 09h
    ∷ without_b6 b  -- 0Ah
    ∷ whole b  -- 0Bh
    ∷ whole b  -- 0Ch
    ∷ whole b  -- 0Dh
    ∷ whole b  -- 0Eh
    ∷ high4 b  -- 0Fh
    ∷ [])
    a 0

-- the reserved bits of all registers are 0
abbrev pub reserved_tests : List ℕ → List Bool
reserved_tests rs =
    eqb (at rs RESERVED) 0
    ∷ ltb (at rs MINUTES) 128
    ∷ ltb (at rs WEEKDAY) 8
    ∷ ltb (at rs DATE) 64
    ∷ eqb (at rs MONTH / 32 % 2) 0
    ∷ eqb (at rs CALIBRATION / 64 % 2) 0
    ∷ eqb (at rs ALARM_MONTH / 64 % 2) 0
    ∷ eqb (at rs ALARM_WEEKDAY % 16) 0
    ∷ []

abbrev pub reserved_clear : List ℕ → Bool
reserved_clear rs = conj (reserved_tests rs)

-- ---- Writing

-- the bytes over registers of which the first is register a; what either list has more than the other changes nothing
unfoldable pub stored : ℕ → List ℕ → List ℕ → List ℕ
stored a [] bytes = []
stored a (r ∷ rs) [] = r ∷ rs
stored a (r ∷ rs) (b ∷ bytes) = kept a b ∷ stored (suc a) rs bytes

-- the registers after bytes are written from address a on, past 0Fh ignored
unfoldable pub written : List ℕ → ℕ → List ℕ → List ℕ
written rs a bytes = take a rs ++ stored a (drop a rs) bytes
