-- How much register 09h loads at most. Assumes nothing.
use Prim.Native.Nat.{ℕ, ◌*◌, ◌≤◌}
use mathlib.Core.List.{[], ◌∷◌}
use native.Mathlib.Omega.{arith}
use Rattle.common.proofs.Each.{each_at, done, ◌also◌}
use Rattle.registers.specs.Watchdog.{rb, bmb, watchdog_load}

-- at most 31 minutes
pub load_most : (b : ℕ) → (watchdog_load b).0 ≤ 29_760
load_most b =
    each_at (λ (n : ℕ). n ≤ 29_760) (bmb b ∷ bmb b * 4 ∷ bmb b * 16 ∷ bmb b * 64 ∷ bmb b * 960 ∷ 0 ∷ 0 ∷ 0 ∷ []) 0
    (omega arith also omega arith also omega arith also omega arith also omega arith also omega arith also omega arith also omega arith also done)
    (omega arith) (rb b)
