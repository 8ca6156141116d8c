-- When a number is given on exactly its stated grounds.
use Rattle.std.specs.Prelude.{ℕ, ◌<◌, ◌≡◌, Bool, true, false, ◌&&◌, ◌||◌, List, [], ◌∷◌, eqb, ltb}
use Rattle.common.specs.Grounds.{Ground, first_ground, NoneHolds}

-- the ground numbered k holds
abbrev pub holds_at : ℕ → List Ground → Bool
holds_at k [] = false
holds_at k (g ∷ gs) = (g.holds && eqb g.number k) || holds_at k gs

-- GROUND k HOLDS AND NO EARLIER ONE
pub record First (k : ℕ) (gs : List Ground) : Type 0 where
  pub holds : holds_at k gs ≡ true
  pub none_earlier : (j : ℕ) → j < k → holds_at j gs ≡ false

-- the numbers of the list rise from above n
abbrev pub rising : ℕ → List Ground → Bool
rising n [] = true
rising n (g ∷ gs) = ltb n g.number && rising g.number gs

-- a number is k exactly if ground k holds and no earlier one, and 0 exactly if none holds
pub record Exact (number : ℕ) (gs : List Ground) : Type 0 where
  pub is_first : number ≡ first_ground gs
  pub grounded : (k : ℕ) → (k ≡ 0 → ⊥) → number ≡ k → First k gs
  pub refused : (k : ℕ) → First k gs → number ≡ k
  pub groundless : number ≡ 0 → NoneHolds gs
  pub accepted : NoneHolds gs → number ≡ 0

-- one thing holds exactly if the other does
pub record Exactly (A B : Type 0) : Type 0 where
  pub only : A → B
  pub always : B → A
