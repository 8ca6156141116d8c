-- Laws of `sums` and `place`, for every function of lengths. Assumes nothing.
use mathlib.Core.Path.{◌≡◌, refl, sym, subst}
use mathlib.Core.Logic.{⊎_elim}
use Prim.Native.Nat.{ℕ, zero, suc, ◌+◌, ◌≤◌, ◌<◌}
use native.Mathlib.Nat.{eq-or-lt_of_le, le_of_suc-le-suc}
use native.Mathlib.Omega.{arith}
use borrow.Author.Tests.{leb-true, leb-false}
use lib.Dec.{leb}
use Rattle.common.proofs.Choice.{of_cond}
use Rattle.calendar.specs.Sums.{sums, place}

pub sums_none : (f : ℕ → ℕ) → sums f 0 ≡ 0
unfolding sums
sums_none f = refl

pub sums_suc : (f : ℕ → ℕ) (k : ℕ) → sums f (suc k) ≡ sums f k + f k
unfolding sums
sums_suc f k = refl

pub sums_mono : (f : ℕ → ℕ) (i k : ℕ) → i ≤ k → sums f i ≤ sums f k
unfolding sums
sums_mono f zero zero h = omega arith
sums_mono f (suc i) zero h = omega arith
sums_mono f i (suc k) h =
    ⊎_elim (λ (e : i ≡ suc k). subst (λ (j : ℕ). sums f i ≤ sums f j) e (omega arith))
    (λ (l : i < suc k). omega (arith, sums_mono f i k (le_of_suc-le-suc l))) (eq-or-lt_of_le h)

module _ (f : ℕ → ℕ) where
  pub place_most : (k d : ℕ) → place f k d ≤ k
  unfolding place
  place_most zero d = omega arith
  place_most (suc k) d =
      of_cond (λ (i : ℕ). i ≤ suc k) (leb (sums f (suc k)) d) (suc k) (place f k d) (λ e. omega arith)
      (λ e. omega (arith, place_most k d))

  pub place_low : (k d : ℕ) → sums f (place f k d) ≤ d
  unfolding place sums
  place_low zero d = omega arith
  place_low (suc k) d =
      of_cond (λ (i : ℕ). sums f i ≤ d) (leb (sums f (suc k)) d) (suc k) (place f k d) (λ e. leb-true (sums f (suc k)) d e)
      (λ e. place_low k d)

  pub place_high : (k d : ℕ) → d < sums f (suc k) → d < sums f (suc (place f k d))
  unfolding place
  place_high zero d h = h
  place_high (suc k) d h =
      of_cond (λ (i : ℕ). d < sums f (suc i)) (leb (sums f (suc k)) d) (suc k) (place f k d) (λ e. h)
      (λ e. place_high k d (leb-false (sums f (suc k)) d e))

  pub place_is : (k d i : ℕ) → i ≤ k → sums f i ≤ d → d < sums f (suc i) → place f k d ≡ i
  unfolding place
  place_is zero d i m l h = omega arith
  place_is (suc k) d i m l h =
      of_cond (λ (j : ℕ). j ≡ i) (leb (sums f (suc k)) d) (suc k) (place f k d)
      (λ e. ⊎_elim (λ (q : i ≡ suc k). sym q)
      (λ (q : i < suc k). omega (arith, sums_mono f (suc i) (suc k) q, leb-true (sums f (suc k)) d e)) (eq-or-lt_of_le m))
      (λ e. ⊎_elim
      (λ (q : i ≡ suc k). omega (arith, leb-false (sums f (suc k)) d e, subst (λ (j : ℕ). sums f j ≤ d) q l))
      (λ (q : i < suc k). place_is k d i (le_of_suc-le-suc q) l h) (eq-or-lt_of_le m))
