-- The carry agrees with the plain clock: a day's carry moves the clock on by 86,400 seconds, a second's by one. Assumes nothing.
use mathlib.Core.Path.{◌≡◌, refl, sym, ap, ◌∙◌}
use mathlib.Core.Bool.{Bool, true, false, cond}
use Prim.Native.Nat.{ℕ, ◌+◌, ◌*◌, ◌%◌, ◌≤◌, ◌<◌}
use native.Mathlib.Omega.{arith}
use borrow.Author.Tests.{ltb-true, ltb-false}
use lib.Dec.{ltb}
use Rattle.common.proofs.Choice.{of_cond}
use Rattle.calendar.specs.declared.Clock.{Clock}
use Rattle.calendar.specs.Date.{leap, month_length, calendar_days, day_number, Dated}
use Rattle.calendar.specs.Clock.{full_year, time_of, Valid, days, count, weekday_on, moved}
use Rattle.calendar.specs.Carry.{with_time, at_time, next_weekday, with_date, next_day, next}
use Rattle.calendar.proofs.Date.{below, day_next, month_next, year_next, round, first_day, first_of}
use Rattle.calendar.proofs.Moved.{same, time_below, is_moved, time_valid, within, from_midnight}

next_weekday_lem : (w : ℕ) → 1 ≤ w → w ≤ 7 → next_weekday w ≡ weekday_on w 1
next_weekday_lem w l h =
    of_cond (λ (x : ℕ). x ≡ weekday_on w 1) (ltb w 7) (w + 1) 1 (λ e. omega (arith, ltb-true w 7 e)) (λ e. omega (arith, ltb-false w 7 e))

-- ---- the next day
module _ (c : Clock) (v : Valid c) where
  weekday : next_weekday c.weekday ≡ weekday_on c.weekday 1
  weekday = next_weekday_lem c.weekday v.weekday_low v.weekday_high

  -- a date with the next number, round the calendar, is the clock a day later
  is_day : (k y m d : ℕ) → k ≤ 3 → y ≤ 99 → Dated (100 * k + y) m d → day_number (100 * k + y) m d ≡ (days c + 1) % calendar_days → with_date c k y m d ≡ moved c 86_400
  unfolding count days
  is_day k y m d lk ly w e =
      is_moved c (with_date c k y m d) 86_400
      (record {
        century = lk;
        year = ly;
        dated = w;
        weekday_low = omega (arith, weekday);
        weekday_high = omega (arith, weekday);
        hour = v.hour;
        minute = v.minute;
        second = v.second;
      })
      (omega (arith, time_below c v))
      (weekday ∙ ap (weekday_on c.weekday) (omega (arith, time_below c v)))

  -- within the month, at its end, at the year's end, at the century's end, and round
  step_date : c.date < month_length (leap (full_year c)) c.month → with_date c c.century c.year c.month (c.date + 1) ≡ moved c 86_400
  unfolding days
  step_date h =
      is_day c.century c.year c.month (c.date + 1) v.century v.year w
      (omega (arith, below (full_year c) c.month (c.date + 1) w, day_next (full_year c) c.month c.date v.dated))
    where
      w : Dated (full_year c) c.month (c.date + 1)
      w = record { year = v.dated.year; month_low = v.dated.month_low; month_high = v.dated.month_high; date_low = omega arith; date_high = omega arith }

  module _ (h : month_length (leap (full_year c)) c.month ≤ c.date) where
    last : c.date ≡ month_length (leap (full_year c)) c.month
    last = omega (arith, v.dated.date_high)

    step_month : c.month < 12 → with_date c c.century c.year (c.month + 1) 1 ≡ moved c 86_400
    unfolding days
    step_month l =
        is_day c.century c.year (c.month + 1) 1 v.century v.year w
        (omega (arith, below (full_year c) (c.month + 1) 1 w, month_next (full_year c) c.month c.date v.dated last))
      where
        w : Dated (full_year c) (c.month + 1) 1
        w = first_of (full_year c) (c.month + 1) v.dated.year (omega arith) (omega arith)

    module _ (l : 12 ≤ c.month) where
      -- the first day of the following year, as the century k and the two digits y
      new_year : (k y : ℕ) → k ≤ 3 → y ≤ 99 → 100 * k + y ≡ full_year c + 1 → with_date c k y 1 1 ≡ moved c 86_400
      unfolding days
      new_year k y lk ly e =
          is_day k y 1 1 lk ly w
          (omega (
            arith,
            below (100 * k + y) 1 1 w,
            ap (λ (x : ℕ). day_number x 1 1) e,
            year_next (full_year c) c.month c.date v.dated last (omega (arith, v.dated.month_high)),
          ))
        where
          w : Dated (100 * k + y) 1 1
          w = first_of (100 * k + y) 1 (omega arith) (omega arith) (omega arith)

      step_round : 99 ≤ c.year → 3 ≤ c.century → with_date c 0 0 1 1 ≡ moved c 86_400
      unfolding days
      step_round m n =
          is_day 0 0 1 1 (omega arith) (omega arith) (first_of 0 1 (omega arith) (omega arith) (omega arith))
          (omega (
            arith,
            first_day,
            round (full_year c) c.month c.date v.dated last (omega (arith, v.dated.month_high)) (omega (arith, v.dated.year)),
          ))

  pub next_day_moved : next_day c ≡ moved c 86_400
  unfolding next_day
  next_day_moved =
      of_cond P (ltb c.date (month_length (leap (full_year c)) c.month)) _ _ (λ e. step_date (ltb-true _ _ e))
      (λ e. of_cond P (ltb c.month 12) _ _ (λ f. step_month (ltb-false _ _ e) (ltb-true _ _ f))
      (λ f. of_cond P (ltb c.year 99) _ _
      (λ g. new_year (ltb-false _ _ e) (ltb-false _ _ f) c.century (c.year + 1) v.century (omega (arith, ltb-true c.year 99 g)) (omega arith))
      (λ g. of_cond P (ltb c.century 3) _ _
      (λ h. new_year (ltb-false _ _ e) (ltb-false _ _ f) (c.century + 1) 0 (omega (arith, ltb-true c.century 3 h)) (omega arith)
      (omega (arith, ltb-false c.year 99 g, v.year)))
      (λ h. step_round (ltb-false _ _ e) (ltb-false _ _ f) (ltb-false _ _ g) (ltb-false _ _ h)))))
    where
      P : Clock → Type 0
      P r = r ≡ moved c 86_400

-- ---- the next second

time_in : (h m s : ℕ) (a b d e : Bool) (p q r t u : Clock)
    → cond a (with_time p h m s) (cond b (with_time q h m s) (cond d (with_time r h m s) (cond e (with_time t h m s) (with_time u h m s))))
    ≡ with_time (cond a p (cond b q (cond d r (cond e t u)))) h m s
time_in h m s true b d e p q r t u = refl
time_in h m s false true d e p q r t u = refl
time_in h m s false false true e p q r t u = refl
time_in h m s false false false true p q r t u = refl
time_in h m s false false false false p q r t u = refl

-- the carry of a day does not look at the time
next_day_time : (c : Clock) (h m s : ℕ) → next_day (with_time c h m s) ≡ with_time (next_day c) h m s
unfolding next_day
next_day_time c h m s =
    time_in h m s (ltb c.date (month_length (leap (full_year c)) c.month)) (ltb c.month 12) (ltb c.year 99) (ltb c.century 3)
    (with_date c c.century c.year c.month (c.date + 1)) (with_date c c.century c.year (c.month + 1) 1)
    (with_date c c.century (c.year + 1) 1 1) (with_date c (c.century + 1) 0 1 1) (with_date c 0 0 1 1)

module _ (c : Clock) (v : Valid c) where
  in_day : (h m s : ℕ) → h ≤ 23 → m ≤ 59 → s ≤ 59 → 3_600 * h + 60 * m + s ≡ time_of c + 1 → with_time c h m s ≡ moved c 1
  in_day h m s x y z e =
      same (with_time c h m s) (at_time c (time_of c + 1)) refl refl refl refl refl (omega arith) (omega arith) (omega arith)
      ∙ sym (within c 1 v (omega arith))

  at_midnight : 59 ≤ c.second → 59 ≤ c.minute → 23 ≤ c.hour → with_time (next_day c) 0 0 0 ≡ moved c 1
  at_midnight x y z =
      sym (next_day_time c 0 0 0) ∙ next_day_moved (at_time c 0) (time_valid c 0 v (omega arith))
      ∙ ap (moved (at_time c 0)) (omega (arith, v.hour, v.minute, v.second)) ∙ sym (from_midnight c 1 v)

  pub next_moved : next c ≡ moved c 1
  unfolding next
  next_moved =
      of_cond P (ltb c.second 59) _ _
      (λ e. in_day c.hour c.minute (c.second + 1) v.hour v.minute (omega (arith, ltb-true c.second 59 e)) (omega arith))
      (λ e. of_cond P (ltb c.minute 59) _ _
      (λ f. in_day c.hour (c.minute + 1) 0 v.hour (omega (arith, ltb-true c.minute 59 f)) (omega arith) (omega (arith, v.second, ltb-false c.second 59 e)))
      (λ f. of_cond P (ltb c.hour 23) _ _
      (λ g. in_day (c.hour + 1) 0 0 (omega (arith, ltb-true c.hour 23 g)) (omega arith) (omega arith)
      (omega (arith, v.second, v.minute, ltb-false c.second 59 e, ltb-false c.minute 59 f)))
      (λ g. at_midnight (ltb-false _ _ e) (ltb-false _ _ f) (ltb-false _ _ g))))
    where
      P : Clock → Type 0
      P r = r ≡ moved c 1
