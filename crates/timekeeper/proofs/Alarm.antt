-- What an alarm field fits: every clock where it is not compared, else exactly the number whose byte it is. Assumes nothing.
use Prim.Native.Nat.{ℕ, ◌/◌, ◌%◌, ◌≤◌}
use mathlib.Core.Path.{◌≡◌, refl, sym, ap, ◌∙◌}
use mathlib.Core.Bool.{Bool, true, false, cond, ◌||◌, false≢true}
use mathlib.Core.List.{List}
use native.Mathlib.Omega.{arith}
use lib.Dec.{eqb, leb}
use borrow.Author.Tests.{eqb-true, eqb-false, eq-eqb, ne_eqb, leb-true, le-leb}
use Rattle.common.proofs.Choice.{by_cases, and_left, and_right, and_both}
use Rattle.calendar.specs.declared.Clock.{Clock}
use Rattle.alarm.specs.Match.{fits}
use Rattle.timekeeper.specs.Bcd.{digits, bcd, decimal}
use Rattle.timekeeper.specs.Clock.{with_clock}
use Rattle.timekeeper.specs.Alarm.{field_of, alarm_of}
use Rattle.timekeeper.proofs.Bcd.{digits_bcd, bcd_digits, bcd_high, bcd_low}

-- two tests that hold together are equal
same_test : (a b c d : ℕ) → (a ≡ b → c ≡ d) → (c ≡ d → a ≡ b) → eqb a b ≡ eqb c d
same_test a b c d f g =
    by_cases (eqb a b ≡ eqb c d) (eqb a b) (λ e. e ∙ sym (eq-eqb c d (f (eqb-true a b e))))
    (λ e. e ∙ sym (ne_eqb c d (λ (p : c ≡ d). eqb-false a b e (g p))))

decimal_bcd : (x : ℕ) → decimal (bcd x) ≡ true
decimal_bcd x = and_both (leb (bcd x / 16) 9) (leb (bcd x % 16) 9) (le-leb (bcd x / 16) 9 (bcd_high x)) (le-leb (bcd x % 16) 9 (bcd_low x))

module _ (b x : ℕ) (h : x ≤ 99) where
  by_digits : decimal b ≡ true → eqb (digits b) x ≡ eqb b (bcd x)
  by_digits e =
      let high = leb-true (b / 16) 9 (and_left (leb (b / 16) 9) (leb (b % 16) 9) e) in
      let low = leb-true (b % 16) 9 (and_right (leb (b / 16) 9) (leb (b % 16) 9) e) in
      same_test (digits b) x b (bcd x) (λ (p : digits b ≡ x). sym (bcd_digits b high low) ∙ ap bcd p) (λ (p : b ≡ bcd x). ap digits p ∙ digits_bcd x (omega arith))

  by_255 : decimal b ≡ false → eqb 255 x ≡ eqb b (bcd x)
  by_255 e =
      same_test 255 x b (bcd x) (λ (p : 255 ≡ x). absurd (omega arith)) (λ (p : b ≡ bcd x). absurd (false≢true (sym e ∙ ap decimal p ∙ decimal_bcd x)))

  value_fits : (t : Bool) → decimal b ≡ t → eqb (cond t (digits b) 255) x ≡ eqb b (bcd x)
  value_fits true e = by_digits e
  value_fits false e = by_255 e

  pub field_fits : (rpt : Bool) → fits (field_of rpt b) x ≡ (rpt || eqb b (bcd x))
  unfolding fits
  field_fits true = refl
  field_fits false = value_fits (decimal b) refl

-- a calendar that is written does not change the alarm
pub with_alarm : (rs : List ℕ) (c : Clock) → alarm_of (with_clock rs c) ≡ alarm_of rs
unfolding alarm_of with_clock
with_alarm rs c = refl
