-- An alarm at one second of each day: whether one of n seconds reached matches, by one comparison. Assumes nothing.
use Prim.Native.Nat.{ℕ, ◌+◌, ◌-◌, ◌*◌, ◌%◌, ◌≤◌, ◌<◌}
use mathlib.Core.Path.{◌≡◌, refl, sym, ◌∙◌}
use mathlib.Core.Bool.{Bool, true, false, false≢true}
use mathlib.Core.Logic.{⊎_elim}
use mathlib.Core.List.{List, [], ◌∷◌}
use native.Mathlib.Omega.{arith}
use borrow.Author.Tests.{eqb-true, eq-eqb, le-leb, lt-leb, leb-true}
use lib.Dec.{eqb, leb}
use lib.ListN.{get_or}
use Rattle.std.specs.Prelude.{Option, None, Some, is_none, is_some, unwrap_or}
use Rattle.common.specs.Tests.{conj}
use Rattle.common.proofs.Order.{lt_or_le}
use Rattle.common.proofs.Choice.{by_cases}
use Rattle.common.proofs.Each.{done, ◌also◌}
use Rattle.common.proofs.Tests.{each, all_hold}
use Rattle.calendar.specs.declared.Clock.{Clock}
use Rattle.calendar.specs.Clock.{Valid, time_of, moved}
use Rattle.calendar.proofs.Moved.{moved_valid, time_moved}
use Rattle.alarm.specs.declared.Alarm.{Alarm}
use Rattle.alarm.specs.Match.{fits, matches}
use Rattle.alarm.specs.Reached.{any_reached}
use Rattle.alarm.proofs.Reached.{any_none, any_some}

-- the value of a field that is compared
abbrev pub value : Option ℕ → ℕ
value f = unwrap_or f 0

-- the fields of the day are not compared, those of the time are, and are a time
abbrev pub daily_tests : Alarm → List Bool
daily_tests a =
    is_none a.date
    ∷ is_none a.month
    ∷ is_none a.weekday
    ∷ is_some a.second
    ∷ is_some a.minute
    ∷ is_some a.hour
    ∷ leb (value a.second) 59
    ∷ leb (value a.minute) 59
    ∷ leb (value a.hour) 23
    ∷ []

abbrev pub daily : Alarm → Bool
daily a = conj (daily_tests a)

-- its second of the day
abbrev pub daily_second : Alarm → ℕ
daily_second a = 3_600 * value a.hour + 60 * value a.minute + value a.second

-- the seconds from a clock to its next match
abbrev pub seconds_to : Alarm → Clock → ℕ
seconds_to a c = (86_399 + daily_second a - time_of c % 86_400) % 86_400 + 1

-- ---- fields
any_fits : (f : Option ℕ) (x : ℕ) → is_none f ≡ true → fits f x ≡ true
unfolding fits
any_fits None x e = refl
any_fits (Some v) x e = absurd (false≢true e)

compared : (f : Option ℕ) (x : ℕ) → is_some f ≡ true → fits f x ≡ eqb (value f) x
unfolding fits
compared None x e = absurd (false≢true e)
compared (Some v) x e = refl

module _ (a : Alarm) (h : daily a ≡ true) where
  test : (i : ℕ) → get_or (daily_tests a) i true ≡ true
  test i = each (daily_tests a) h i

  second_most : value a.second ≤ 59
  second_most = leb-true _ _ (test 6)

  minute_most : value a.minute ≤ 59
  minute_most = leb-true _ _ (test 7)

  hour_most : value a.hour ≤ 23
  hour_most = leb-true _ _ (test 8)

  time_tests : Clock → List Bool
  time_tests c = eqb (value a.second) c.second ∷ eqb (value a.minute) c.minute ∷ eqb (value a.hour) c.hour ∷ true ∷ true ∷ true ∷ []

  -- a match is one of the time alone
  by_time : (c : Clock) → matches a c ≡ conj (time_tests c)
  unfolding matches time_tests
  by_time c =
      λ i. conj
      (compared a.second c.second (test 3) i
      ∷ compared a.minute c.minute (test 4) i
      ∷ compared a.hour c.hour (test 5) i
      ∷ any_fits a.date c.date (test 0) i
      ∷ any_fits a.month c.month (test 1) i
      ∷ any_fits a.weekday c.weekday (test 2) i
      ∷ [])

  at_time_lem : (c : Clock) → Valid c → time_of c ≡ daily_second a → matches a c ≡ true
  unfolding time_tests
  at_time_lem c v e =
      let o : value a.hour ≡ c.hour = omega (arith, v.minute, v.second, second_most, minute_most) in
      let m : value a.minute ≡ c.minute = omega (arith, v.second, second_most) in
      let s : value a.second ≡ c.second = omega arith in
      by_time c ∙ all_hold (time_tests c) (eq-eqb _ _ s also eq-eqb _ _ m also eq-eqb _ _ o also refl also refl also refl also done)

  off_time : (c : Clock) → (time_of c ≡ daily_second a → ⊥) → matches a c ≡ false
  unfolding time_tests
  off_time c n =
      by_cases (matches a c ≡ false) (matches a c)
      (λ e.
      let held = each (time_tests c) (sym (by_time c) ∙ e) in
      absurd (n (omega (arith, eqb-true (value a.second) c.second (held 0), eqb-true (value a.minute) c.minute (held 1), eqb-true (value a.hour) c.hour (held 2)))))
      (λ e. e)

  -- one of the n seconds reached matches exactly if the next match is at most n away
  pub daily_reached : (c : Clock) (n : ℕ) → leb (seconds_to a c) n ≡ any_reached (matches a) c n
  daily_reached c n =
      ⊎_elim
      (λ (q : n < seconds_to a c).
      lt-leb (seconds_to a c) n q
      ∙ sym (any_none (matches a) c n (λ k l m. off_time (moved c k) (λ e. omega (arith, time_moved c k, second_most, minute_most, hour_most)))))
      (λ (q : seconds_to a c ≤ n).
      le-leb (seconds_to a c) n q
      ∙ sym
      (any_some (matches a) c n (seconds_to a c) (omega arith) q
      (at_time_lem (moved c (seconds_to a c)) (moved_valid c (seconds_to a c)) (time_moved c (seconds_to a c) ∙ omega (arith, second_most, minute_most, hour_most)))))
      (lt_or_le n (seconds_to a c))
