-- Each line is its bit of the byte. Assumes nothing.
use Prim.Native.Nat.{ℕ, ◌+◌, ◌/◌}
use mathlib.Core.Path.{◌≡◌, refl}
use mathlib.Core.Bool.{Bool, true, false, cond}
use Rattle.common.specs.Bits.{bit_set}
use Rattle.display.specs.Lines.{mute, irq, lines_of}

-- b0, b1 and b2 of the byte b, the rest 0
abbrev pub Carries : ℕ → Bool → Bool → Bool → Type 0
Carries b s m q = (bit_set b 1 ≡ s) × (bit_set b 2 ≡ m) × (bit_set b 4 ≡ q) × (b / 8 ≡ 0)

sum_carries : (s m q : Bool) → Carries (cond s 1 0 + cond m 2 0 + cond q 4 0) s m q
sum_carries true true true = (refl, refl, refl, refl)
sum_carries true true false = (refl, refl, refl, refl)
sum_carries true false true = (refl, refl, refl, refl)
sum_carries true false false = (refl, refl, refl, refl)
sum_carries false true true = (refl, refl, refl, refl)
sum_carries false true false = (refl, refl, refl, refl)
sum_carries false false true = (refl, refl, refl, refl)
sum_carries false false false = (refl, refl, refl, refl)

-- b0 is STBY, b1 MUTE, b2 IRQ, the rest 0
pub lines_carry : (ready stby : Bool) (interrupt : ℕ) → Carries (lines_of ready stby interrupt) stby (mute ready) (irq ready stby interrupt)
unfolding lines_of
lines_carry ready stby interrupt = sum_carries stby (mute ready) (irq ready stby interrupt)
