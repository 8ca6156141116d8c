-- Bytes that are all 0, by their tests. Assumes nothing.
use Prim.Native.Nat.{ℕ, suc}
use mathlib.Core.Path.{◌≡◌, refl}
use mathlib.Core.Bool.{true}
use mathlib.Core.List.{List, [], ◌∷◌}
use lib.ListN.{length, get_or, replicate}
use borrow.Author.Tests.{eqb-true}
use Rattle.common.specs.Tests.{conj}
use Rattle.common.proofs.Tests.{each}
use Rattle.validity.specs.Valid.{zero_tests}

pub zeros : (l : List ℕ) → conj (zero_tests l) ≡ true → l ≡ replicate (length l) 0
zeros l h = by l (each (zero_tests l) h)
  where
    by : (l : List ℕ) → ((i : ℕ) → get_or (zero_tests l) i true ≡ true) → l ≡ replicate (length l) 0
    by [] t = refl
    by (b ∷ bs) t = λ i. eqb-true b 0 (t 0) i ∷ by bs (λ (k : ℕ). t (suc k)) i
