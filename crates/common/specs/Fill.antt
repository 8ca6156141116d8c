-- A buffer filled from its start.
use Rattle.std.specs.Prelude.{ℕ, zero, suc, List, [], ◌∷◌, ◌++◌, drop}

-- the n bytes f 0, f 1, .. f (n - 1)
unfoldable pub up_to : (ℕ → ℕ) → ℕ → List ℕ
up_to f zero = []
up_to f (suc n) = up_to f n ++ (f n ∷ [])

-- the buffer d with its first n bytes filled
unfoldable pub front : (ℕ → ℕ) → ℕ → List ℕ → List ℕ
front f n d = up_to f n ++ drop n d
