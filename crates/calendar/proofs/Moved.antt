-- Laws of the plain clock: from count to calendar and back, moving on, and the days of a walk. Assumes nothing.
use mathlib.Core.Path.{◌≡◌, refl, sym, ap, ap₂, ◌∙◌}
use Prim.Native.Nat.{ℕ, zero, suc, ◌+◌, ◌*◌, ◌/◌, ◌%◌, ◌≤◌, ◌<◌}
use native.Mathlib.Nat.{mod-add-mod, add_assoc}
use native.Mathlib.Omega.{arith}
use borrow.Author.Tests.{eqb-true, eqb-false}
use lib.Dec.{eqb}
use Rattle.common.proofs.Choice.{of_cond}
use Rattle.calendar.specs.declared.Clock.{Clock}
use Rattle.calendar.specs.Date.{calendar_days, day_number, year_at, month_at, date_at, Dated}
use Rattle.calendar.specs.Clock.{cycle, full_year, time_of, Valid, days, count, multiples, midnights, weekday_on, clock_at, moved}
use Rattle.calendar.specs.Carry.{at_time}
use Rattle.calendar.proofs.Date.{date_at_lem, number_at, year_most, below, year_of, month_of, date_of}

-- ---- the constants of document 01
pub cycle_is : cycle ≡ 12_623_040_000
cycle_is = refl

-- ---- a clock by its fields
pub same : (a b : Clock) → a.century ≡ b.century → a.year ≡ b.year → a.month ≡ b.month → a.date ≡ b.date → a.weekday ≡ b.weekday
    → a.hour ≡ b.hour → a.minute ≡ b.minute → a.second ≡ b.second → a ≡ b
same a b p q r s t u v w =
    λ i. record { century = p i; year = q i; month = r i; date = s i; weekday = t i; hour = u i; minute = v i; second = w i }

pub time_below : (c : Clock) → Valid c → time_of c < 86_400
time_below c v = omega (arith, v.hour, v.minute, v.second)

days_below : (c : Clock) → Valid c → days c < calendar_days
unfolding days
days_below c v = below (full_year c) c.month c.date v.dated

count_below : (c : Clock) → Valid c → count c < cycle
unfolding count
count_below c v = omega (arith, days_below c v, time_below c v)

-- ---- from a count to a clock and back
module _ (k w : ℕ) (h : k < cycle) where
  year_is : full_year (clock_at k w) ≡ year_at (k / 86_400)
  unfolding clock_at
  year_is = omega arith

  time_is : time_of (clock_at k w) ≡ k % 86_400
  unfolding clock_at
  time_is = omega arith

  days_is : days (clock_at k w) ≡ k / 86_400
  unfolding days clock_at
  days_is =
      ap (λ (y : ℕ). day_number y (month_at (k / 86_400)) (date_at (k / 86_400))) year_is ∙ number_at (k / 86_400) (omega arith)

  pub count_at : count (clock_at k w) ≡ k
  unfolding count
  count_at = omega (arith, time_is, days_is)

  dated_at : Dated (full_year (clock_at k w)) (month_at (k / 86_400)) (date_at (k / 86_400))
  dated_at = rw year_is (date_at_lem (k / 86_400) (omega arith))

  valid_at : 1 ≤ w → w ≤ 7 → Valid (clock_at k w)
  unfolding clock_at
  valid_at l m =
      record {
        century = omega (arith, year_most (k / 86_400) (omega arith));
        year = omega arith;
        dated = dated_at;
        weekday_low = l;
        weekday_high = m;
        hour = omega arith;
        minute = omega arith;
        second = omega arith;
      }

pub at_count : (c : Clock) → Valid c → clock_at (count c) c.weekday ≡ c
unfolding clock_at count days
at_count c v =
    same (clock_at (count c) c.weekday) c
    (omega (arith, y, v.year))
    (omega (arith, y, v.year))
    (ap month_at q ∙ month_of (full_year c) c.month c.date v.dated)
    (ap date_at q ∙ date_of (full_year c) c.month c.date v.dated)
    refl
    (omega (arith, v.hour, v.minute, v.second))
    (omega (arith, v.hour, v.minute, v.second))
    (omega (arith, v.hour, v.minute, v.second))
  where
    q : count c / 86_400 ≡ day_number (full_year c) c.month c.date
    q = omega (arith, time_below c v)

    y : year_at (count c / 86_400) ≡ full_year c
    y = ap year_at q ∙ year_of (full_year c) c.month c.date v.dated

-- ---- midnights and the weekday

weekday_on_lem : (w m : ℕ) → (1 ≤ weekday_on w m) × (weekday_on w m ≤ 7)
weekday_on_lem w m = omega arith

-- the difference of quotients counts the multiples of 86,400 from k + 1 to k + n
pub midnights_counted : (k n : ℕ) → midnights k n ≡ multiples k n
unfolding multiples
midnights_counted k zero = omega arith
midnights_counted k (suc n) =
    of_cond (λ (x : ℕ). midnights k (suc n) ≡ multiples k n + x) (eqb ((k + suc n) % 86_400) 0) 1 0
    (λ e. omega (arith, midnights_counted k n, eqb-true ((k + suc n) % 86_400) 0 e))
    (λ e. let ne : (k + suc n) % 86_400 ≡ 0 → ⊥ = eqb-false ((k + suc n) % 86_400) 0 e in omega (arith, midnights_counted k n))

midnights_add : (k m n : ℕ) → midnights k m + midnights ((k + m) % cycle) n ≡ midnights k (m + n)
midnights_add k m n = omega arith

weekday_add : (w a b : ℕ) → weekday_on (weekday_on w a) b ≡ weekday_on w (a + b)
weekday_add w a b = omega arith

-- ---- moving on

-- what is valid and stands at the right count with the right weekday is the clock moved on
pub is_moved : (c r : Clock) (n : ℕ) → Valid r → count r ≡ (count c + n) % cycle → r.weekday ≡ weekday_on c.weekday (midnights (count c) n) → r ≡ moved c n
unfolding moved
is_moved c r n v e f = sym (at_count r v) ∙ ap₂ clock_at e f

pub moved_valid : (c : Clock) (n : ℕ) → Valid (moved c n)
unfolding moved
moved_valid c n =
    valid_at ((count c + n) % cycle) (weekday_on c.weekday (midnights (count c) n)) (omega arith)
    (weekday_on_lem c.weekday (midnights (count c) n)).0 (weekday_on_lem c.weekday (midnights (count c) n)).1

pub count_moved : (c : Clock) (n : ℕ) → count (moved c n) ≡ (count c + n) % cycle
unfolding moved
count_moved c n = count_at ((count c + n) % cycle) (weekday_on c.weekday (midnights (count c) n)) (omega arith)

-- the weekday law: one further for each midnight passed
pub weekday_moved : (c : Clock) (n : ℕ) → (moved c n).weekday ≡ weekday_on c.weekday (multiples (count c) n)
unfolding moved clock_at
weekday_moved c n = ap (weekday_on c.weekday) (midnights_counted (count c) n)

weekday_quotient : (c : Clock) (n : ℕ) → (moved c n).weekday ≡ weekday_on c.weekday (midnights (count c) n)
unfolding moved clock_at
weekday_quotient c n = refl

pub moved_none : (c : Clock) → Valid c → moved c 0 ≡ c
moved_none c v = sym (is_moved c c 0 v (omega (arith, count_below c v)) (omega (arith, v.weekday_low, v.weekday_high)))

pub moved_moved : (c : Clock) (m n : ℕ) → moved (moved c m) n ≡ moved c (m + n)
moved_moved c m n =
    is_moved c (moved (moved c m) n) (m + n) (moved_valid (moved c m) n)
    (count_moved (moved c m) n ∙ ap (λ (k : ℕ). (k + n) % cycle) (count_moved c m) ∙ mod-add-mod (count c + m) cycle n ∙ ap (λ (k : ℕ). k % cycle) (add_assoc (count c) m n))
    (weekday_quotient (moved c m) n
    ∙ ap₂ (λ (w k : ℕ). weekday_on w (midnights k n)) (weekday_quotient c m) (count_moved c m)
    ∙ weekday_add c.weekday (midnights (count c) m) (midnights ((count c + m) % cycle) n)
    ∙ ap (weekday_on c.weekday) (midnights_add (count c) m n))

-- ---- within a day

time_at : (c : Clock) (t : ℕ) → time_of (at_time c t) ≡ t
time_at c t = omega arith

pub time_valid : (c : Clock) (t : ℕ) → Valid c → t < 86_400 → Valid (at_time c t)
time_valid c t v h =
    record {
      century = v.century;
      year = v.year;
      dated = v.dated;
      weekday_low = v.weekday_low;
      weekday_high = v.weekday_high;
      hour = omega arith;
      minute = omega arith;
      second = omega arith;
    }

pub within : (c : Clock) (n : ℕ) → Valid c → time_of c + n < 86_400 → moved c n ≡ at_time c (time_of c + n)
unfolding count days
within c n v h =
    sym (is_moved c (at_time c (time_of c + n)) n (time_valid c (time_of c + n) v h)
    (omega (arith, days_below c v, time_at c (time_of c + n))) (omega (arith, v.weekday_low, v.weekday_high)))

pub time_moved : (c : Clock) (n : ℕ) → time_of (moved c n) ≡ (time_of c + n) % 86_400
unfolding moved clock_at count
time_moved c n = omega arith

-- to count from the day's midnight
pub from_midnight : (c : Clock) (n : ℕ) → Valid c → moved c n ≡ moved (at_time c 0) (time_of c + n)
from_midnight c n v =
    ap (λ (d : Clock). moved d n) (sym (within (at_time c 0) (time_of c) (time_valid c 0 v (omega arith)) (omega (arith, time_below c v)) ∙ back))
    ∙ moved_moved (at_time c 0) (time_of c) n
  where
    back : at_time c (0 + time_of c) ≡ c
    back = same (at_time c (0 + time_of c)) c refl refl refl refl refl (omega (arith, v.minute, v.second)) (omega (arith, v.minute, v.second)) (omega (arith, v.second))

-- whole days from a midnight, and then a time of the day
pub whole_days : (c : Clock) (q r : ℕ) → time_of c ≡ 0 → r < 86_400 → at_time (moved c (86_400 * q)) r ≡ moved c (86_400 * q + r)
whole_days c q r e h =
    let z : time_of (moved c (86_400 * q)) ≡ 0 = omega (arith, time_moved c (86_400 * q), e) in
    let y : r ≡ time_of (moved c (86_400 * q)) + r = omega arith in
    ap (at_time (moved c (86_400 * q))) y ∙ sym (within (moved c (86_400 * q)) r (moved_valid c (86_400 * q)) (omega arith)) ∙ moved_moved c (86_400 * q) r
