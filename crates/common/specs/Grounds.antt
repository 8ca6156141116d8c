-- Document 01, "Refusal numbers, in order of checking": a list of grounds with their numbers, of which the first true one gives the answer.
use Rattle.std.specs.Prelude.{ℕ, ◌≡◌, Bool, false, cond, List, [], ◌∷◌}

-- a ground for refusal and its number
pub record Ground : Type 0 where
  pub holds : Bool
  pub number : ℕ

abbrev pub ground : ℕ → Bool → Ground
ground n b = record { holds = b; number = n }

-- the number of the first ground that holds, 0 where none does
abbrev pub first_ground : List Ground → ℕ
first_ground [] = 0
first_ground (g ∷ gs) = cond g.holds g.number (first_ground gs)

-- no ground of the list holds
abbrev pub NoneHolds : List Ground → Type 0
NoneHolds [] = Unit
NoneHolds (g ∷ gs) = (g.holds ≡ false) × NoneHolds gs
