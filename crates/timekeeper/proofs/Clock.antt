-- The calendar in the registers: read, written, and read again. Assumes nothing.
use Prim.Native.Nat.{ℕ, ◌+◌, ◌*◌, ◌/◌, ◌%◌, ◌≤◌, ◌<◌}
use mathlib.Core.Path.{◌≡◌, refl, ap, ◌∙◌}
use mathlib.Core.Bool.{true}
use mathlib.Core.List.{List, ◌∷◌}
use native.Mathlib.Omega.{arith}
use lib.ListN.{length, get_or}
use borrow.Author.Tests.{leb-true, le-leb}
use Rattle.common.specs.Tests.{conj}
use Rattle.common.specs.Spell.{spell}
use Rattle.common.proofs.Choice.{and_left, and_right, and_both}
use Rattle.common.proofs.Tests.{each, all_hold}
use Rattle.common.proofs.Each.{done, ◌also◌}
use Rattle.common.proofs.Spell.{spell_all}
use Rattle.calendar.specs.declared.Clock.{Clock}
use Rattle.calendar.specs.Clock.{full_year, Valid}
use Rattle.calendar.proofs.Date.{date_31}
use Rattle.calendar.proofs.Moved.{same}
use Rattle.registers.specs.Names.{at, SECONDS, HOURS, MONTH}
use Rattle.timekeeper.specs.Bcd.{digits, bcd, decimal_tests}
use Rattle.timekeeper.specs.Clock.{field_bytes, clock_of, calendar_tests, valid_calendar, under_b7, under_b7_b6, with_clock}
use Rattle.timekeeper.proofs.Bcd.{digits_bcd, bcd_below, decimal_back, decimal_bytes}

-- ---- Bytes below flags

same_b7 : (r x : ℕ) → x ≡ r % 128 → under_b7 r x ≡ r
same_b7 r x e = omega arith

same_b7_b6 : (r x : ℕ) → x ≡ r % 64 → under_b7_b6 r x ≡ r
same_b7_b6 r x e = omega arith

same_month : (r x : ℕ) → r < 256 → x ≡ r % 64 → r / 64 % 4 * 64 + x % 64 ≡ r
same_month r x h e = omega arith

under_second : (r x : ℕ) → x ≤ 59 → under_b7 r (bcd x) % 128 ≡ bcd x
under_second r x h = omega (arith, bcd_below x 6 (omega arith))

under_hour : (r x : ℕ) → x ≤ 23 → under_b7_b6 r (bcd x) % 64 ≡ bcd x
under_hour r x h = omega (arith, bcd_below x 3 (omega arith))

under_month : (k x : ℕ) → x ≤ 12 → (k % 4 * 64 + bcd x % 64) % 64 ≡ bcd x
under_month k x h = omega (arith, bcd_below x 2 (omega arith))

-- ---- What a valid calendar says

module _ (rs : List ℕ) (h : valid_calendar rs ≡ true) where
  decimals : conj (decimal_tests (field_bytes rs)) ≡ true
  unfolding valid_calendar
  decimals = and_left (conj (decimal_tests (field_bytes rs))) (conj (calendar_tests (clock_of rs))) h

  ranges : conj (calendar_tests (clock_of rs)) ≡ true
  unfolding valid_calendar
  ranges = and_right (conj (decimal_tests (field_bytes rs))) (conj (calendar_tests (clock_of rs))) h

  range : (i : ℕ) → get_or (calendar_tests (clock_of rs)) i true ≡ true
  range = each (calendar_tests (clock_of rs)) ranges

  century : at rs MONTH < 256 → (clock_of rs).century ≤ 3
  unfolding clock_of
  century b = omega arith

  year : (clock_of rs).year ≤ 99
  year = leb-true _ _ (range 9)

  -- its calendar exists
  pub valid_clock : at rs MONTH < 256 → Valid (clock_of rs)
  valid_clock b =
      record {
        century = century b;
        year = year;
        dated = record {
          year = omega (arith, century b, year);
          month_low = leb-true _ _ (range 7);
          month_high = leb-true _ _ (range 8);
          date_low = leb-true _ _ (range 5);
          date_high = leb-true _ _ (range 6);
        };
        weekday_low = leb-true _ _ (range 3);
        weekday_high = leb-true _ _ (range 4);
        hour = leb-true _ _ (range 2);
        minute = leb-true _ _ (range 1);
        second = leb-true _ _ (range 0);
      }

  back : (k : ℕ) → bcd (digits (get_or (field_bytes rs) k 0)) ≡ get_or (field_bytes rs) k 0
  back = decimal_back (field_bytes rs) decimals

  -- written as it was read, it changes nothing
  pub with_clock_lem : length rs ≡ 16 → at rs MONTH < 256 → with_clock rs (clock_of rs) ≡ rs
  unfolding with_clock clock_of
  with_clock_lem n b =
      let second = same_b7 (at rs SECONDS) _ (back 0) in
      let hour = same_b7_b6 (at rs HOURS) _ (back 2) in
      let month = same_month (at rs MONTH) _ b (back 5) in
      (λ i. at rs 0x00 ∷ second i ∷ back 1 i ∷ hour i ∷ back 3 i ∷ back 4 i ∷ month i ∷ back 6 i ∷ spell 0x08 8 rs) ∙ spell_all 16 rs n

-- ---- What is read after a write

module _ (rs : List ℕ) (c : Clock) (v : Valid c) where
  date : c.date ≤ 31
  date = date_31 (full_year c) c.month c.date v.dated

  -- the calendar that was written
  pub clock_with : clock_of (with_clock rs c) ≡ c
  unfolding clock_of with_clock
  clock_with =
      same (clock_of (with_clock rs c)) c
      (omega (arith, v.century))
      (digits_bcd c.year (omega (arith, v.year)))
      (ap digits (under_month c.century c.month v.dated.month_high) ∙ digits_bcd c.month (omega (arith, v.dated.month_high)))
      (digits_bcd c.date (omega (arith, date)))
      (digits_bcd c.weekday (omega (arith, v.weekday_high)))
      (ap digits (under_hour (at rs HOURS) c.hour v.hour) ∙ digits_bcd c.hour (omega (arith, v.hour)))
      (digits_bcd c.minute (omega (arith, v.minute)))
      (ap digits (under_second (at rs SECONDS) c.second v.second) ∙ digits_bcd c.second (omega (arith, v.second)))

  ranges_hold : conj (calendar_tests c) ≡ true
  ranges_hold =
      all_hold (calendar_tests c)
      (le-leb _ _ v.second
      also le-leb _ _ v.minute
      also le-leb _ _ v.hour
      also le-leb _ _ v.weekday_low
      also le-leb _ _ v.weekday_high
      also le-leb _ _ v.dated.date_low
      also le-leb _ _ v.dated.date_high
      also le-leb _ _ v.dated.month_low
      also le-leb _ _ v.dated.month_high
      also le-leb _ _ v.year
      also done)

  decimals_hold : conj (decimal_tests (field_bytes (with_clock rs c))) ≡ true
  unfolding with_clock
  decimals_hold =
      decimal_bytes (field_bytes (with_clock rs c))
      ((c.second, under_second (at rs SECONDS) c.second v.second)
      also (c.minute, refl)
      also (c.hour, under_hour (at rs HOURS) c.hour v.hour)
      also (c.weekday, refl)
      also (c.date, refl)
      also (c.month, under_month c.century c.month v.dated.month_high)
      also (c.year, refl)
      also done)

  -- is valid
  pub valid_with : valid_calendar (with_clock rs c) ≡ true
  unfolding valid_calendar
  valid_with =
      and_both (conj (decimal_tests (field_bytes (with_clock rs c)))) (conj (calendar_tests (clock_of (with_clock rs c)))) decimals_hold
      (ap (λ (x : Clock). conj (calendar_tests x)) clock_with ∙ ranges_hold)
