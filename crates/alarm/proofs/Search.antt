-- The first number that passes a test, as a function and as a proposition. Assumes nothing.
use mathlib.Core.Path.{◌≡◌, sym, ap, subst, ◌∙◌}
use mathlib.Core.Bool.{Bool, false, cond, true≢false}
use mathlib.Core.Logic.{⊎_elim}
use Prim.Native.Nat.{ℕ, zero, suc, ◌+◌, ◌≤◌, ◌<◌}
use native.Mathlib.Omega.{arith}
use Rattle.common.proofs.Choice.{of_cond, by_cases, on_true, on_false}
use Rattle.common.proofs.Order.{lt_or_le}
use Rattle.alarm.specs.Search.{first_from, IsFirst}

-- a range without a match, and one behind it
pub longer : (q : ℕ → Bool) (t u v : ℕ) → ((w : ℕ) → t ≤ w → w < u → q w ≡ false) → ((w : ℕ) → u ≤ w → w < v → q w ≡ false) → (w : ℕ) → t ≤ w → w < v → q w ≡ false
longer q t u v f g w l h = ⊎_elim (λ (p : w < u). f w l p) (λ (p : u ≤ w). g w p h) (lt_or_le w u)

-- what is the first number is the one that the function gives
pub first_is : (q : ℕ → Bool) (t n r : ℕ) → IsFirst q t n r → r ≡ first_from q t n
unfolding first_from
first_is q t zero r f = omega (arith, f.low, f.high)
first_is q t (suc n) r f =
    by_cases (r ≡ cond (q t) t (first_from q (suc t) n)) (q t)
    (λ e. ⊎_elim (λ (h : t < r). absurd (true≢false (sym e ∙ f.none t (omega arith) h)))
    (λ (h : r ≤ t). let k : r ≡ t = omega (arith, f.low) in k ∙ on_true t (first_from q (suc t) n) e) (lt_or_le t r))
    (λ e. first_is q (suc t) n r (later e) ∙ on_false t (first_from q (suc t) n) e)
  where
    passed : q t ≡ false → t < r
    passed e = ⊎_elim (λ (h : t < r). h) (λ (h : r ≤ t). let k : r ≡ t = omega (arith, f.low) in absurd (true≢false (sym (f.found (omega arith)) ∙ ap q k ∙ e))) (lt_or_le t r)

    later : q t ≡ false → IsFirst q (suc t) n r
    later e =
        record {
          low = passed e;
          high = omega (arith, f.high);
          none = λ u l h. f.none u (omega arith) h;
          found = λ h. f.found (omega arith);
        }

-- and the number that the function gives is the first
pub is_first : (q : ℕ → Bool) (t n : ℕ) → IsFirst q t n (first_from q t n)
unfolding first_from
is_first q t zero = record { low = omega arith; high = omega arith; none = λ u l h. absurd (omega arith); found = λ h. absurd (omega arith) }
is_first q t (suc n) =
    of_cond (IsFirst q t (suc n)) (q t) t (first_from q (suc t) n)
    (λ e. record { low = omega arith; high = omega arith; none = λ u l h. absurd (omega arith); found = λ h. e })
    (λ e. let f = is_first q (suc t) n in
    record {
      low = omega (arith, f.low);
      high = omega (arith, f.high);
      none = λ u l h. ⊎_elim (λ (k : t < u). f.none u k h) (λ (k : u ≤ t). let j : u ≡ t = omega arith in ap q j ∙ e) (lt_or_le t u);
      found = λ h. f.found (omega arith);
    })

pub as_first : (q : ℕ → Bool) (t n r : ℕ) → r ≡ first_from q t n → IsFirst q t n r
as_first q t n r e = subst (IsFirst q t n) (sym e) (is_first q t n)

-- none found: the number behind the range
pub first_none : (q : ℕ → Bool) (t n : ℕ) → ((u : ℕ) → t ≤ u → u < t + n → q u ≡ false) → t + n ≡ first_from q t n
first_none q t n f = first_is q t n (t + n) (record { low = omega arith; high = omega arith; none = f; found = λ h. absurd (omega arith) })
