-- Sums of lengths, and the place in which a count falls. Nothing of a calendar is known here.
use Rattle.std.specs.Prelude.{cond, ℕ, zero, suc, ◌+◌, leb}

-- f 0 + .. + f (k - 1)
unfoldable pub sums : (ℕ → ℕ) → ℕ → ℕ
sums f zero = 0
sums f (suc k) = sums f k + f k

-- the greatest i up to k with sums f i ≤ d: the place in which the count d falls
unfoldable pub place : (ℕ → ℕ) → ℕ → ℕ → ℕ
place f zero d = 0
place f (suc k) d = cond (leb (sums f (suc k)) d) (suc k) (place f k d)
