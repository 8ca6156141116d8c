-- Laws of the first true ground. Assumes nothing.
use mathlib.Core.Path.{◌≡◌, refl, ◌∙◌}
use mathlib.Core.Bool.{Bool, true, ◌&&◌}
use mathlib.Core.List.{List, [], ◌∷◌, ◌++◌}
use native.Mathlib.Omega.{arith}
use lib.Dec.{ltb}
use borrow.Author.Tests.{ltb-true}
use Rattle.common.specs.Grounds.{Ground, first_ground, NoneHolds}
use Rattle.common.proofs.Choice.{on_true, on_false, by_cases, and_left, and_right}

-- behind grounds that do not hold, the rest of the list decides
pub ground_passed : (gs hs : List Ground) → NoneHolds gs → first_ground (gs ++ hs) ≡ first_ground hs
ground_passed [] hs n = refl
ground_passed (g ∷ gs) hs n = rw n.0 (ground_passed gs hs n.1)

-- a ground that holds, behind grounds that do not, gives its number
pub ground_found : (gs : List Ground) (g : Ground) (hs : List Ground) → NoneHolds gs → g.holds ≡ true → g.number ≡ first_ground (gs ++ (g ∷ hs))
ground_found [] g hs n h = rw h refl
ground_found (f ∷ gs) g hs n h = rw n.0 (ground_found gs g hs n.1 h)

-- no ground: the call is accepted
pub ground_none : (gs : List Ground) → NoneHolds gs → 0 ≡ first_ground gs
ground_none [] n = refl
ground_none (g ∷ gs) n = rw n.0 (ground_none gs n.1)

-- every ground of the list has a number other than 0
abbrev pub numbered : List Ground → Bool
numbered [] = true
numbered (g ∷ gs) = ltb 0 g.number && numbered gs

-- the number 0 says that no ground holds
pub zero_none : (gs : List Ground) → numbered gs ≡ true → first_ground gs ≡ 0 → NoneHolds gs
zero_none [] h e = tt
zero_none (g ∷ gs) h e =
    by_cases (NoneHolds (g ∷ gs)) g.holds (λ t. absurd (positive g gs h (on_true _ _ t ∙ e)))
    (λ f. (f, zero_none gs (and_right (ltb 0 g.number) (numbered gs) h) (on_false _ _ f ∙ e)))
  where
    positive : (g : Ground) (gs : List Ground) → numbered (g ∷ gs) ≡ true → g.number ≡ 0 → ⊥
    positive g gs h z = omega (arith, ltb-true 0 g.number (and_left (ltb 0 g.number) (numbered gs) h))

-- a ground that holds hides the rest of the list
pub ground_before : (gs hs : List Ground) → (first_ground gs ≡ 0 → ⊥) → first_ground (gs ++ hs) ≡ first_ground gs
ground_before [] hs n = absurd (n refl)
ground_before (g ∷ gs) hs n =
    by_cases (first_ground (g ∷ (gs ++ hs)) ≡ first_ground (g ∷ gs)) g.holds (λ t. rw t refl)
    (λ f. rw f (ground_before gs hs (λ z. n (rw f z))))
