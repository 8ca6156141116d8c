-- A call's outcome by its grounds: accepted where none holds, else refused by the first. Assumes nothing.
use Prim.Native.Nat.{ℕ}
use mathlib.Core.Path.{◌≡◌, refl, sym, ap, ◌∙◌}
use mathlib.Core.Bool.{Bool, true, false, not}
use mathlib.Core.List.{List, ◌∷◌}
use native.Mathlib.Omega.{arith}
use lib.Dec.{eqb}
use borrow.Author.Tests.{eq-eqb, ne_eqb, eqb-true}
use Rattle.common.specs.Grounds.{Ground, ground, first_ground, NoneHolds}
use Rattle.common.proofs.Choice.{on_true, on_false, of_cond}
use Rattle.common.proofs.Grounds.{ground_none}
use Rattle.validity.specs.Valid.{is_valid}
use Rattle.stled325.specs.Outcome.{Outcome, outcome, decided, invalid}

module _ (gs : List Ground) (l o m q : List ℕ) where
  pub accepted_zero : first_ground gs ≡ 0 → outcome 0 m q ≡ decided gs l o m q
  unfolding decided
  accepted_zero z = on_true _ _ (eq-eqb (first_ground gs) 0 z)

  pub accepted : NoneHolds gs → outcome 0 m q ≡ decided gs l o m q
  accepted n = accepted_zero (sym (ground_none gs n))

  pub refused : (n : ℕ) → (n ≡ 0 → ⊥) → n ≡ first_ground gs → outcome n l o ≡ decided gs l o m q
  unfolding decided
  refused n z e = ap (λ (k : ℕ). outcome k l o) e ∙ on_false _ _ (ne_eqb (first_ground gs) 0 (λ (x : first_ground gs ≡ 0). z (e ∙ x)))

  -- the number is that of the first true ground
  pub decided_number : (decided gs l o m q).number ≡ first_ground gs
  unfolding decided
  decided_number =
      of_cond (λ (x : Outcome). x.number ≡ first_ground gs) (eqb (first_ground gs) 0) (outcome 0 m q) (outcome (first_ground gs) l o)
      (λ e. sym (eqb-true (first_ground gs) 0 e)) (λ e. refl)

-- the first ground of a list holds
pub first_holds : (b : Bool) (n : ℕ) (gs : List Ground) → b ≡ true → n ≡ first_ground (ground n b ∷ gs)
first_holds b n gs e = on_true n (first_ground gs) e

-- it does not
pub first_passed : (b : Bool) (n : ℕ) (gs : List Ground) → b ≡ false → first_ground gs ≡ first_ground (ground n b ∷ gs)
first_passed b n gs e = on_false n (first_ground gs) e

-- ground 1
pub not_valid : (gs : List Ground) (l o m q : List ℕ) → not (is_valid l) ≡ true → outcome 1 l o ≡ decided (invalid l ∷ gs) l o m q
not_valid gs l o m q h = refused (invalid l ∷ gs) l o m q 1 (λ (z : ◌≡◌ {A = ℕ} 1 0). omega arith) (first_holds (not (is_valid l)) 1 gs h)
