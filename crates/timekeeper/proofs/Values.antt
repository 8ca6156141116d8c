-- The test of a calendar as the code computes it. Assumes nothing.
use Prim.Native.Nat.{ℕ, ◌+◌, ◌*◌, ◌/◌, ◌%◌, ◌≤◌}
use mathlib.Core.Path.{◌≡◌, sym, ap, ◌∙◌}
use mathlib.Core.Bool.{Bool, true, false, not, ◌&&◌}
use mathlib.Core.List.{List, [], ◌∷◌}
use native.Mathlib.Omega.{arith}
use lib.Dec.{leb}
use borrow.Author.Tests.{le-leb, lt-leb, leb-true, leb-false, not-true, not-false}
use Rattle.common.specs.Tests.{conj}
use Rattle.common.proofs.Choice.{by_cases}
use Rattle.common.proofs.Tests.{each}
use Rattle.calendar.specs.Date.{leap, month_length}
use Rattle.registers.specs.Names.{at, SECONDS, MINUTES, HOURS, WEEKDAY, DATE, MONTH, YEAR}
use Rattle.timekeeper.specs.Bcd.{digits, decimal_tests}
use Rattle.timekeeper.specs.Clock.{field_bytes, clock_of, calendar_tests, last_date, valid_calendar}

-- ---- Validity

module _ (b hi lo : ℕ) (low : b % 16 ≤ 9) (h : lo ≤ 9) where
  -- bytes of two decimal digits are in the order of their numbers
  digits_le : leb b (hi * 16 + lo) ≡ leb (digits b) (hi * 10 + lo)
  digits_le =
      by_cases (leb b (hi * 16 + lo) ≡ leb (digits b) (hi * 10 + lo)) (leb b (hi * 16 + lo))
      (λ t. t ∙ sym (le-leb (digits b) (hi * 10 + lo) (omega (arith, leb-true b (hi * 16 + lo) t))))
      (λ f. f ∙ sym (lt-leb (digits b) (hi * 10 + lo) (omega (arith, leb-false b (hi * 16 + lo) f))))

digits_some : (b : ℕ) → leb 1 b ≡ leb 1 (digits b)
digits_some b =
    by_cases (leb 1 b ≡ leb 1 (digits b)) (leb 1 b)
    (λ t. t ∙ sym (le-leb 1 (digits b) (omega (arith, leb-true 1 b t))))
    (λ f. f ∙ sym (lt-leb 1 (digits b) (omega (arith, leb-false 1 b f))))

module _ (rs : List ℕ) (decimal : Bool) (ed : decimal ≡ conj (decimal_tests (field_bytes rs))) where
  pub no_digits : not decimal ≡ true → false ≡ valid_calendar rs
  unfolding valid_calendar
  no_digits h = ap (λ (b : Bool). b && conj (calendar_tests (clock_of rs))) (sym (not-true decimal h) ∙ ed)

  pub in_digits : not decimal ≡ false → (date month year century last : ℕ) (leapyear : Bool) → date ≡ digits (at rs DATE) → month ≡ digits (at rs MONTH % 64) → year ≡ digits (at rs YEAR)
      → century ≡ at rs MONTH / 64 → leapyear ≡ leap (100 * century + year) → last ≡ month_length leapyear month
      → conj (leb (at rs SECONDS % 128) 0x59 ∷ leb (at rs MINUTES) 0x59 ∷ leb (at rs HOURS % 64) 0x23 ∷ leb 1 (at rs WEEKDAY) ∷ leb (at rs WEEKDAY) 7 ∷ leb 1 date ∷ leb date last ∷ leb 1 month ∷ leb month 12 ∷ leb year 99 ∷ [])
      ≡ valid_calendar rs
  unfolding valid_calendar clock_of
  in_digits h d m y k n l edate em ey ek el en =
      (λ i. conj (
      digits_le (at rs SECONDS % 128) 5 9 (leb-true _ _ (each (decimal_tests (field_bytes rs)) all 1)) (omega arith) i
      ∷ digits_le (at rs MINUTES) 5 9 (leb-true _ _ (each (decimal_tests (field_bytes rs)) all 3)) (omega arith) i
      ∷ digits_le (at rs HOURS % 64) 2 3 (leb-true _ _ (each (decimal_tests (field_bytes rs)) all 5)) (omega arith) i
      ∷ digits_some (at rs WEEKDAY) i
      ∷ digits_le (at rs WEEKDAY) 0 7 (leb-true _ _ (each (decimal_tests (field_bytes rs)) all 7)) (omega arith) i
      ∷ leb 1 (edate i)
      ∷ leb (edate i) (last i)
      ∷ leb 1 (em i)
      ∷ leb (em i) 12
      ∷ leb (ey i) 99
      ∷ []
      ))
      ∙ ap (λ (b : Bool). b && conj (calendar_tests (clock_of rs))) (sym all)
    where
      all : conj (decimal_tests (field_bytes rs)) ≡ true
      all = sym ed ∙ not-false decimal h

      last : n ≡ last_date (clock_of rs)
      last = en ∙ (λ i. month_length ((el ∙ (λ j. leap (100 * ek j + ey j))) i) (em i))
