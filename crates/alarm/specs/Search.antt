-- The first number of a range that passes a test.
use Rattle.std.specs.Prelude.{◌≡◌, Bool, true, false, cond, ℕ, zero, suc, ◌+◌, ◌≤◌, ◌<◌}

-- the first of the n numbers from t on that passes the test q, or t + n where none does
unfoldable pub first_from : (ℕ → Bool) → ℕ → ℕ → ℕ
first_from q t zero = t
first_from q t (suc n) = cond (q t) t (first_from q (suc t) n)

-- the same as a proposition: r is that number
pub record IsFirst (q : ℕ → Bool) (t n r : ℕ) : Type 0 where
  pub low : t ≤ r
  pub high : r ≤ t + n
  pub none : (u : ℕ) → t ≤ u → u < r → q u ≡ false
  pub found : r < t + n → q r ≡ true
