-- Laws of what is shown. Assumes nothing.
use Prim.Native.Nat.{ℕ, zero, suc, ◌≤◌}
use native.Mathlib.Omega.{arith}
use mathlib.Core.Path.{◌≡◌, refl}
use mathlib.Core.Bool.{Bool}
use mathlib.Core.List.{List}
use lib.ListN.{length, get_or, length-take, get_or-eq_default}
use lib.Dec.{leb}
use borrow.Author.Tests.{leb-true}
use Rattle.common.proofs.Choice.{of_cond, and_right}
use Rattle.display.specs.declared.Display.{Display}
use Rattle.display.specs.Shown.{clock_face, dark, clock_shown, content, five_digits, shown}
use Rattle.display.proofs.Faces.{face_length}

-- past the content a digit is 0
past : (l : List ℕ) (i : ℕ) → length l ≤ i → get_or (five_digits l) i 0 ≡ 0
past l zero h = get_or-eq_default l 0 h
past l (suc zero) h = get_or-eq_default l 0 h
past l (suc (suc zero)) h = get_or-eq_default l 0 h
past l (suc (suc (suc zero))) h = get_or-eq_default l 0 h
past l (suc (suc (suc (suc zero)))) h = get_or-eq_default l 0 h
past l (suc (suc (suc (suc (suc i))))) h = refl

module _ (rs : List ℕ) (configuration : ℕ) (stby : Bool) (d : Display) where
  pub shown_length : length (shown rs configuration stby d) ≡ 5
  shown_length = refl

  -- the content stays within the digits in use
  content_fits : length (content rs configuration stby d) ≤ d.digits
  unfolding content
  content_fits =
      of_cond Fits (dark configuration stby d.control) _ _ (λ e. omega arith)
      (λ e.
      of_cond Fits (clock_shown configuration d.digits) _ _
      (λ t. omega (arith, face_length rs, leb-true 4 d.digits (and_right (clock_face configuration) (leb 4 d.digits) t)))
      (λ t. omega (arith, length-take d.digits d.bytes)))
    where
      Fits : List ℕ → Type 0
      Fits l = length l ≤ d.digits

  -- unused digits are 0
  pub unused_blank : (i : ℕ) → d.digits ≤ i → get_or (shown rs configuration stby d) i 0 ≡ 0
  unused_blank i h = past (content rs configuration stby d) i (omega (arith, content_fits))
