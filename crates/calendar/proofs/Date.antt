-- Laws of the date and the day's number, both round trips. Of the leap rule only the days before a year are used, of the months that
-- none is empty, none longer than 31 days, and all twelve together 366 or 365. Assumes nothing.
use mathlib.Core.Path.{◌≡◌, refl, sym, ap, subst, ◌∙◌}
use mathlib.Core.Bool.{Bool, true, false, cond, ◌||◌}
use Prim.Native.Nat.{ℕ, zero, suc, ◌+◌, ◌-◌, ◌*◌, ◌/◌, ◌%◌, ◌≤◌, ◌<◌}
use native.Mathlib.Nat.{add-sub_cancel}
use native.Mathlib.Numerals.{add-one}
use native.Mathlib.Omega.{arith}
use borrow.Author.Tests.{eqb-true, eqb-false}
use lib.Dec.{eqb}
use Rattle.common.proofs.Choice.{of_cond}
use Rattle.calendar.specs.Sums.{sums, place}
use Rattle.calendar.specs.Date.{leap, month_length, months_before, year_length, years_before, calendar_days, day_number, year_at, month_at, date_at, Dated}
use Rattle.calendar.proofs.Sums.{sums_none, sums_suc, sums_mono, place_most, place_low, place_high, place_is}

-- months have from 28 to 31 days
pub month_range : (b : Bool) (m : ℕ) → (28 ≤ month_length b m) × (month_length b m ≤ 31)
unfolding month_length
month_range b m =
    of_cond P (eqb m 2) _ _ (λ e. of_cond P b 29 28 (λ e. omega arith) (λ e. omega arith))
    (λ e. of_cond P (eqb m 4 || eqb m 6 || eqb m 9 || eqb m 11) 30 31 (λ e. omega arith) (λ e. omega arith))
  where
    P : ℕ → Type 0
    P n = (28 ≤ n) × (n ≤ 31)

pub date_31 : (y m d : ℕ) → Dated y m d → d ≤ 31
date_31 y m d v = omega (arith, v.date_high, (month_range (leap y) m).1)

pub first_of : (y m : ℕ) → y < 400 → 1 ≤ m → m ≤ 12 → Dated y m 1
first_of y m a b c =
    record { year = a; month_low = b; month_high = c; date_low = omega arith; date_high = omega (arith, (month_range (leap y) m).0) }

-- ---- days before months and years

months_next : (b : Bool) (i : ℕ) → months_before b (suc i) ≡ months_before b i + month_length b (suc i)
unfolding months_before
months_next b i = sums_suc (λ j. month_length b (suc j)) i

months_mono : (b : Bool) (i k : ℕ) → i ≤ k → months_before b i ≤ months_before b k
unfolding months_before
months_mono b i k h = sums_mono (λ j. month_length b (suc j)) i k h

months_none : (b : Bool) → months_before b 0 ≡ 0
unfolding months_before
months_none b = sums_none (λ j. month_length b (suc j))

years_next : (y : ℕ) → years_before (suc y) ≡ years_before y + months_before (leap y) 12
unfolding years_before year_length
years_next y = sums_suc year_length y

years_mono : (i k : ℕ) → i ≤ k → years_before i ≤ years_before k
unfolding years_before
years_mono i k h = sums_mono year_length i k h

years_none : years_before 0 ≡ 0
unfolding years_before
years_none = sums_none year_length

-- ---- the leap rule, counted

-- the days before the year y: 365 for each year and one for each leap year, which are the multiples of 4 from 0 on, since 100 divides by 4
abbrev pub days_before : ℕ → ℕ
days_before y = 365 * y + (y + 3) / 4

year_days : (b : Bool) → months_before b 12 ≡ cond b 366 365
unfolding months_before sums month_length
year_days true = refl
year_days false = refl

-- THE TOTAL of the leap rule: beside it only the proof of `is_leap` looks into the rule
pub days_before_lem : (y : ℕ) → years_before y ≡ days_before y
unfolding leap
days_before_lem zero = years_none
days_before_lem (suc y) =
    of_cond (λ (n : ℕ). months_before (leap y) 12 ≡ n → years_before (suc y) ≡ days_before (suc y)) (leap y) 366 365
    (λ e l. omega (arith, years_next y, days_before_lem y, l, eqb-true (y % 100 % 4) 0 e))
    (λ e l. let ne : y % 100 % 4 ≡ 0 → ⊥ = eqb-false (y % 100 % 4) 0 e in omega (arith, years_next y, days_before_lem y, l))
    (year_days (leap y))

-- the days of the whole calendar
pub total : years_before 400 ≡ calendar_days
total = days_before_lem 400

-- each century has 36,525 days
pub century : (k : ℕ) → years_before (100 * k + 100) ≡ years_before (100 * k) + 36_525
century k = omega (arith, days_before_lem (100 * k + 100), days_before_lem (100 * k))

-- the days before a date in January
pub january : (y d : ℕ) → day_number y 1 d ≡ days_before y + (d - 1)
unfolding day_number
january y d = omega (arith, days_before_lem y, months_none (leap y))

-- a leap year is one of 366 days
pub leap_counted : (y : ℕ) → leap y ≡ eqb (days_before (suc y) - days_before y) 366
leap_counted y = sym (of_366 (leap y)) ∙ ap (λ (n : ℕ). eqb n 366) days
  where
    of_366 : (b : Bool) → eqb (cond b 366 365) 366 ≡ b
    of_366 true = refl
    of_366 false = refl

    days : cond (leap y) 366 365 ≡ days_before (suc y) - days_before y
    days = omega (arith, years_next y, days_before_lem y, days_before_lem (suc y), year_days (leap y))

-- ---- from a day's number to the date
module _ (k : ℕ) (h : k < calendar_days) where
  pub year_most : year_at k ≤ 399
  unfolding year_at
  year_most = place_most year_length 399 k

  year_low : years_before (year_at k) ≤ k
  unfolding year_at years_before
  year_low = place_low year_length 399 k

  year_high : k < years_before (year_at k) + months_before (leap (year_at k)) 12
  unfolding year_at years_before
  year_high =
      subst (λ (n : ℕ). k < n) (years_next (year_at k))
      (place_high year_length 399 k (subst (λ (n : ℕ). k < n) (sym total) h))

  lengths : ℕ → ℕ
  lengths j = month_length (leap (year_at k)) (suc j)

  rest : ℕ
  rest = k - years_before (year_at k)

  month_is : month_at k ≡ suc (place lengths 11 rest)
  unfolding month_at lengths rest
  month_is = omega arith

  before_is : month_at k - 1 ≡ place lengths 11 rest
  unfolding month_at lengths rest
  before_is = omega arith

  month_low : months_before (leap (year_at k)) (month_at k - 1) ≤ rest
  unfolding months_before lengths
  month_low = rw before_is (place_low lengths 11 rest)

  month_high : rest < months_before (leap (year_at k)) (month_at k - 1) + month_length (leap (year_at k)) (month_at k)
  unfolding months_before lengths rest
  month_high =
      let q : rest < sums lengths (suc (place lengths 11 rest)) = place_high lengths 11 rest (omega (arith, year_high, year_low)) in
      rw (before_is, month_is) (rw (sums_suc lengths (place lengths 11 rest)) at q)

  pub date_at_lem : Dated (year_at k) (month_at k) (date_at k)
  unfolding date_at rest
  date_at_lem =
      record {
        year = omega (arith, year_most);
        month_low = omega (arith, month_is);
        month_high = omega (arith, month_is, place_most lengths 11 rest);
        date_low = omega arith;
        date_high = omega (arith, month_high, month_low);
      }

  pub number_at : day_number (year_at k) (month_at k) (date_at k) ≡ k
  unfolding day_number date_at rest
  number_at = omega (arith, month_low, year_low)

-- ---- from a date to the day's number and back
module _ (y m d : ℕ) (v : Dated y m d) where
  month_suc : suc (m - 1) ≡ m
  month_suc = omega (arith, v.month_low)

  next_sum : months_before (leap y) m ≡ months_before (leap y) (m - 1) + month_length (leap y) m
  next_sum = rw month_suc at (months_next (leap y) (m - 1))

  in_year : months_before (leap y) (m - 1) + (d - 1) < months_before (leap y) 12
  in_year = omega (arith, next_sum, v.date_low, v.date_high, months_mono (leap y) m 12 v.month_high)

  pub below : day_number y m d < calendar_days
  unfolding day_number
  below = omega (arith, in_year, years_next y, years_mono (suc y) 400 v.year, total)

  pub year_of : year_at (day_number y m d) ≡ y
  unfolding year_at day_number years_before
  year_of = place_is year_length 399 (day_number y m d) y (omega (arith, v.year)) (omega arith) (omega (arith, in_year, years_next y))

  month_place : place (λ j. month_length (leap y) (suc j)) 11 (day_number y m d - years_before y) ≡ m - 1
  unfolding day_number months_before
  month_place =
      place_is (λ j. month_length (leap y) (suc j)) 11 (day_number y m d - years_before y) (m - 1) (omega (arith, v.month_high)) (omega arith)
      (omega (arith, months_next (leap y) (m - 1), ap (month_length (leap y)) month_suc, v.date_low, v.date_high))

  pub month_of : month_at (day_number y m d) ≡ m
  unfolding month_at
  month_of = rw year_of (omega (arith, month_place, v.month_low))

  date_rest : day_number y m d - years_before y - months_before (leap y) (m - 1) + 1 ≡ d
  unfolding day_number
  date_rest = omega (arith, v.date_low)

  pub date_of : date_at (day_number y m d) ≡ d
  unfolding date_at
  date_of = rw (month_of, year_of) date_rest

  -- the day after: in the month, the next month, the next year, and round
  pub day_next : day_number y m (d + 1) ≡ day_number y m d + 1
  unfolding day_number
  day_next = omega (arith, v.date_low)

  pub month_next : d ≡ month_length (leap y) m → day_number y (m + 1) 1 ≡ day_number y m d + 1
  unfolding day_number
  month_next e = rw add-sub_cancel (omega (arith, next_sum, v.date_low))

  pub year_next : d ≡ month_length (leap y) m → m ≡ 12 → day_number (y + 1) 1 1 ≡ day_number y m d + 1
  unfolding day_number
  year_next e f =
      rw (add-one y)
      (omega (arith, years_next y, months_none (leap (suc y)), next_sum, ap (months_before (leap y)) f, v.date_low))

  pub round : d ≡ month_length (leap y) m → m ≡ 12 → y ≡ 399 → day_number y m d + 1 ≡ calendar_days
  unfolding day_number
  round e f g =
      omega (arith, years_next y, ap years_before (ap suc g), total, next_sum, ap (months_before (leap y)) f, v.date_low)

pub first_day : day_number 0 1 1 ≡ 0
unfolding day_number
first_day = omega (arith, years_none, months_none (leap 0))
