-- The byte of lines (document 01, "Lines", and "The image" on MUTE and IRQ).
use Rattle.std.specs.Prelude.{ℕ, ◌+◌, Bool, cond, not, ◌&&◌, eqb}

-- MUTE is the inverse of READY
abbrev pub mute : Bool → Bool
mute ready = not ready

-- IRQ is asserted: STBY low, READY high and the interrupt byte not 0
abbrev pub irq : Bool → Bool → ℕ → Bool
irq ready stby interrupt = not stby && ready && not (eqb interrupt 0)

-- the bits of the byte, by their weights
abbrev pub STBY : ℕ
STBY = 1

abbrev pub MUTE : ℕ
MUTE = 2

abbrev pub IRQ : ℕ
IRQ = 4

-- b0 STBY high, b1 MUTE high, b2 IRQ asserted, the rest 0
unfoldable pub lines_of : Bool → Bool → ℕ → ℕ
lines_of ready stby interrupt = cond stby STBY 0 + cond (mute ready) MUTE 0 + cond (irq ready stby interrupt) IRQ 0
