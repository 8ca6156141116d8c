-- What the readings need of the calendar, by its laws: the leap rule is not looked into. Assumes nothing.
use Prim.Native.Nat.{ℕ, ◌+◌, ◌-◌, ◌*◌, ◌%◌, ◌<◌}
use mathlib.Core.Path.{◌≡◌, refl, sym, ap, ◌∙◌}
use mathlib.Core.Bool.{true, false}
use mathlib.Core.List.{List, [], ◌∷◌}
use native.Mathlib.Omega.{arith}
use Rattle.calendar.specs.declared.Clock.{Clock}
use Rattle.calendar.specs.Date.{leap, month_length, day_number}
use Rattle.calendar.specs.Clock.{cycle, full_year, time_of, days, count, midnights, weekday_on, moved}
use Rattle.calendar.proofs.Date.{days_before, leap_counted, january}
use Rattle.calendar.proofs.Moved.{is_moved}
use Rattle.registers.specs.Names.{at, MONTH}
use Rattle.timekeeper.specs.Clock.{clock_of, valid_calendar}
use Rattle.timekeeper.proofs.Clock.{valid_clock}

-- ---- February of readings 1 and 2

pub leap_24 : leap 24 ≡ true
leap_24 = leap_counted 24

pub leap_23 : leap 23 ≡ false
leap_23 = leap_counted 23

-- ---- January of readings 11 and 13

-- the count of seconds of a calendar in January
abbrev pub january_count : Clock → ℕ
january_count c = 86_400 * (days_before (full_year c) + (c.date - 1)) + time_of c

count_is : (c : Clock) → c.month ≡ 1 → count c ≡ january_count c
unfolding count days
count_is c e = omega (arith, january (full_year c) c.date, ap (λ (m : ℕ). day_number (full_year c) m c.date) e)

-- from a calendar in January to one that registers hold
moved_to : (c : Clock) (rs : List ℕ) (n : ℕ) → c.month ≡ 1 → (clock_of rs).month ≡ 1 → valid_calendar rs ≡ true → at rs MONTH < 256
    → january_count (clock_of rs) ≡ (january_count c + n) % cycle → (clock_of rs).weekday ≡ weekday_on c.weekday (midnights (january_count c) n) → moved c n ≡ clock_of rs
moved_to c rs n e f v b k w =
    sym (is_moved c (clock_of rs) n (valid_clock rs v b)
    (count_is (clock_of rs) f ∙ k ∙ ap (λ (x : ℕ). (x + n) % cycle) (sym (count_is c e)))
    (w ∙ ap (λ (x : ℕ). weekday_on c.weekday (midnights x n)) (sym (count_is c e))))

-- the date d of year y with the weekday w, at h:m:s, as a calendar and as registers
abbrev pub in_january : ℕ → ℕ → ℕ → ℕ → ℕ → ℕ → Clock
in_january y d w h m s = record { century = 0; year = y; month = 1; date = d; weekday = w; hour = h; minute = m; second = s }

abbrev registers_of : ℕ → ℕ → ℕ → ℕ → ℕ → ℕ → List ℕ
registers_of y d w h m s = 0x00 ∷ s ∷ m ∷ h ∷ w ∷ d ∷ 0x01 ∷ y ∷ []

pub year_on : moved (in_january 24 1 2 0 0 0) 31_622_400 ≡ in_january 25 1 4 0 0 0
unfolding valid_calendar clock_of month_length
year_on = moved_to (in_january 24 1 2 0 0 0) (registers_of 0x25 0x01 4 0x00 0x00 0x00) 31_622_400 refl refl refl (omega arith) refl refl

pub day_less : moved (in_january 0 1 7 7 30 0) 86_399 ≡ in_january 0 2 1 7 29 59
unfolding valid_calendar clock_of month_length
day_less = moved_to (in_january 0 1 7 7 30 0) (registers_of 0x00 0x02 1 0x07 0x29 0x59) 86_399 refl refl refl (omega arith) refl refl

pub day_on : moved (in_january 0 1 7 7 30 0) 86_400 ≡ in_january 0 2 1 7 30 0
unfolding valid_calendar clock_of month_length
day_on = moved_to (in_january 0 1 7 7 30 0) (registers_of 0x00 0x02 1 0x07 0x30 0x00) 86_400 refl refl refl (omega arith) refl refl
