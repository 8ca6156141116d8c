-- What register 09h loads (document 01, "Watchdog").
use Rattle.std.specs.Prelude.{ℕ, ◌+◌, ◌*◌, ◌/◌, ◌%◌, [], ◌∷◌, get_or}
use Rattle.units.specs.declared.Sixteenths.{Sixteenths}

-- RB2 is b7, RB1 and RB0 are b1 and b0
abbrev pub rb : ℕ → ℕ
rb b = b / 128 * 4 + b % 4

-- BMB4..BMB0 are b6..b2
abbrev pub bmb : ℕ → ℕ
bmb b = b / 4 % 32

-- the count that a write of the byte b starts, by RB: BMB times 1, 4, 16, 64 or 960 sixteenths; else the watchdog is off
abbrev pub watchdog_load : ℕ → Sixteenths
watchdog_load b = record { 0 = get_or (bmb b ∷ bmb b * 4 ∷ bmb b * 16 ∷ bmb b * 64 ∷ bmb b * 960 ∷ 0 ∷ 0 ∷ 0 ∷ []) (rb b) 0 }
