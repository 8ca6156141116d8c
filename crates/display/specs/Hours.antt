-- The hours of the clock face (document 01, "Show": 12/24).
use Rattle.std.specs.Prelude.{ℕ, ◌+◌, ◌/◌, ◌%◌, cond, List, eqb}
use Rattle.registers.specs.Names.{at, HOURS, twelve_hours}
use Rattle.timekeeper.specs.Bcd.{digits}
use Rattle.display.specs.declared.Pair.{Pair}
use Rattle.display.specs.Font.{segments, nibbles}

-- the hours in 03h, MD_H and M_MS cut off
abbrev pub hours : List ℕ → ℕ
hours rs = at rs HOURS % 64

-- an hour from 1 to 12: 0 as 12, 13 as 1
abbrev pub twelve : ℕ → ℕ
twelve h = (h + 11) % 12 + 1

-- a leading digit, blank where it is zero
unfoldable pub leading : ℕ → ℕ
leading n = cond (eqb n 0) 0 (segments n)

-- a number by its two decimal digits, the leading zero blank
abbrev pub unpadded : ℕ → Pair
unpadded x = record { tens = leading (x / 10); ones = segments (x % 10) }

-- THE HOURS: with 12/24 set from 1 to 12 with the leading zero blank, else as the register has them
unfoldable pub hours_shown : List ℕ → Pair
hours_shown rs = cond (twelve_hours rs) (unpadded (twelve (digits (hours rs)))) (nibbles (hours rs))
