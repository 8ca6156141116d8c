-- What a call leaves (document 01, "Refusal numbers"): its number, the whole image and the whole output.
use Rattle.std.specs.Prelude.{ℕ, cond, not, List, eqb}
use Rattle.common.specs.Grounds.{Ground, ground, first_ground}
use Rattle.validity.specs.Valid.{is_valid}

pub record Outcome : Type 0 where
  pub number : ℕ
  pub image : List ℕ
  pub output : List ℕ

abbrev pub outcome : ℕ → List ℕ → List ℕ → Outcome
outcome n l o = record { number = n; image = l; output = o }

-- the first true ground refuses the call, and image and output stay; where none is true the call is accepted with the number 0
unfoldable pub decided : List Ground → List ℕ → List ℕ → List ℕ → List ℕ → Outcome
decided grounds image output next_image next_output =
    cond (eqb (first_ground grounds) 0) (outcome 0 next_image next_output) (outcome (first_ground grounds) image output)

-- ground 1: the image is not 64 bytes, or not valid
abbrev pub invalid : List ℕ → Ground
invalid l = ground 1 (not (is_valid l))
