-- The seconds reached, over any test of a clock: any of them, and the first. Assumes nothing.
use mathlib.Core.Path.{◌≡◌, refl, sym, ap, ap₂, subst, ◌∙◌}
use mathlib.Core.Bool.{Bool, true, false, ◌||◌, or_assoc, or-false, or-true, false≢true}
use mathlib.Core.Logic.{⊎_elim}
use Prim.Native.Nat.{ℕ, zero, suc, ◌+◌, ◌-◌, ◌≤◌, ◌<◌}
use native.Mathlib.Nat.{eq-or-lt_of_le, le_of_suc-le-suc, add-zero, add-suc}
use native.Mathlib.Omega.{arith}
use borrow.Author.Tests.{le-leb, lt-leb}
use lib.Dec.{leb}
use Rattle.common.proofs.Choice.{or_cases}
use Rattle.common.proofs.Order.{lt_or_le}
use Rattle.calendar.specs.declared.Clock.{Clock}
use Rattle.calendar.specs.Clock.{Valid, time_of, moved}
use Rattle.calendar.specs.Carry.{at_time, next_day}
use Rattle.calendar.proofs.Moved.{within, moved_valid, moved_moved, time_moved, from_midnight}
use Rattle.calendar.proofs.Carry.{next_day_moved}
use Rattle.alarm.specs.Reached.{any_reached, first_reached}
use Rattle.alarm.proofs.Search.{longer, first_is, as_first}

-- ---- any of the seconds reached
module _ (p : Clock → Bool) (c : Clock) where
  pub any_none : (n : ℕ) → ((k : ℕ) → 1 ≤ k → k ≤ n → p (moved c k) ≡ false) → any_reached p c n ≡ false
  unfolding any_reached
  any_none zero f = refl
  any_none (suc n) f = ap₂ ◌||◌ (any_none n (λ k l h. f k l (omega arith))) (f (suc n) (omega arith) (omega arith))

  pub any_some : (n k : ℕ) → 1 ≤ k → k ≤ n → p (moved c k) ≡ true → any_reached p c n ≡ true
  unfolding any_reached
  any_some zero k l h e = absurd (omega arith)
  any_some (suc n) k l h e =
      ⊎_elim (λ (q : k ≡ suc n). ap (λ (b : Bool). any_reached p c n || b) (ap (λ (j : ℕ). p (moved c j)) (sym q) ∙ e) ∙ or-true (any_reached p c n))
      (λ (q : k < suc n). ap (λ (b : Bool). b || p (moved c (suc n))) (any_some n k l (le_of_suc-le-suc q) e)) (eq-or-lt_of_le h)

  -- where one is said to match, one does
  pub any_found : (n : ℕ) → any_reached p c n ≡ true → (k : ℕ) × (1 ≤ k) × (k ≤ n) × (p (moved c k) ≡ true)
  unfolding any_reached
  any_found zero e = absurd (false≢true e)
  any_found (suc n) e =
      ⊎_elim (λ q. let f = any_found n q in (f.0, f.1, omega (arith, f.2), f.3)) (λ q. (suc n, omega arith, omega arith, q))
      (or_cases (any_reached p c n) (p (moved c (suc n))) e)

  -- over m + n: over m, or over the n after
  pub any_add : (m n : ℕ) → any_reached p c (m + n) ≡ (any_reached p c m || any_reached p (moved c m) n)
  unfolding any_reached
  any_add m zero = ap (any_reached p c) (add-zero m) ∙ sym (or-false (any_reached p c m))
  any_add m (suc n) =
      ap (any_reached p c) (add-suc m n)
      ∙ ap₂ ◌||◌ (any_add m n) (ap p (ap (moved c) (sym (add-suc m n)) ∙ sym (moved_moved c m (suc n))))
      ∙ or_assoc (any_reached p c m) (any_reached p (moved c m) n) (p (moved (moved c m) (suc n)))

  -- the first is among them exactly if any is
  pub any_first : (n r : ℕ) → r ≡ first_reached p c n → leb r n ≡ any_reached p c n
  any_first n r e =
      let f = as_first (λ k. p (moved c k)) 1 n r e in
      ⊎_elim (λ (q : n < r). lt-leb r n q ∙ sym (any_none n (λ k l h. f.none k l (omega arith))))
      (λ (q : r ≤ n). le-leb r n q ∙ sym (any_some n r f.low q (f.found (omega arith)))) (lt_or_le n r)

-- ---- a walk over the days, from the midnight m before the start
module _ (p : Clock → Bool) where
  -- a second of the day d that stands base seconds behind the midnight m
  pub on_day : (m d : Clock) (base u : ℕ) → d ≡ moved m base → time_of d ≡ 0 → u < 86_400 → p (moved m (base + u)) ≡ p (at_time d u)
  on_day m d base u e z h =
      let v : Valid d = subst Valid (sym e) (moved_valid m base) in
      let t : time_of d + u ≡ u = omega arith in
      ap p (sym (moved_moved m base u) ∙ ap (λ (x : Clock). moved x u) (sym e) ∙ within d u v (omega arith) ∙ ap (at_time d) t)

  -- no match before the second t of the day, and none from t up to u on it
  pub further : (m d : Clock) (start base t u : ℕ) → d ≡ moved m base → time_of d ≡ 0 → u ≤ 86_400
      → ((x : ℕ) → start < x → x < base + t → p (moved m x) ≡ false)
      → ((w : ℕ) → t ≤ w → w < u → p (at_time d w) ≡ false)
      → (x : ℕ) → start < x → x < base + u → p (moved m x) ≡ false
  further m d start base t u e z h f g =
      longer (λ (x : ℕ). p (moved m x)) (suc start) (base + t) (base + u) f
      (λ x l q.
      let k : base + (x - base) ≡ x = omega arith in
      ap (λ (y : ℕ). p (moved m y)) (sym k) ∙ on_day m d base (x - base) e z (omega arith) ∙ g (x - base) (omega arith) (omega arith))

  -- counted from the clock c instead of its midnight m, which is start seconds before
  pub reached_is : (c m : Clock) (start n r : ℕ) → Valid c → m ≡ at_time c 0 → start ≡ time_of c → 1 ≤ r → r ≤ n + 1
      → ((x : ℕ) → start < x → x < start + r → p (moved m x) ≡ false)
      → (r ≤ n → p (moved m (start + r)) ≡ true)
      → r ≡ first_reached p c n
  reached_is c m start n r v em es l h f g =
      first_is (λ k. p (moved c k)) 1 n r
      (record {
        low = l;
        high = omega arith;
        none = λ k i j. shift k ∙ f (start + k) (omega arith) (omega arith);
        found = λ j. shift r ∙ g (omega arith);
      })
    where
      shift : (k : ℕ) → p (moved c k) ≡ p (moved m (start + k))
      shift k = ap p (from_midnight c k v ∙ (λ i. moved (sym em i) (sym es i + k)))

-- the next day of the walk
pub next_on : (m d r : Clock) (base : ℕ) → d ≡ moved m base → time_of d ≡ 0 → r ≡ next_day d → (r ≡ moved m (base + 86_400)) × (time_of r ≡ 0)
next_on m d r base e z f =
    let q : r ≡ moved d 86_400 = f ∙ next_day_moved d (subst Valid (sym e) (moved_valid m base)) in
    (q ∙ ap (λ (x : Clock). moved x 86_400) e ∙ moved_moved m base 86_400, omega (arith, ap time_of q, time_moved d 86_400))
