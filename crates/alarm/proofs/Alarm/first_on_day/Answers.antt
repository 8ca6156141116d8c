-- `alarm::Alarm::first_on_day` meets its contract. Assumes nothing.
use mathlib.Core.Path.{◌≡◌, sym, ◌∙◌}
use mathlib.Core.Bool.{Bool, true, false}
use Prim.Native.Nat.{ℕ, ◌-◌, ◌≤◌}
use native.Mathlib.Omega.{arith}
use Rattle.calendar.specs.declared.Clock.{Clock}
use Rattle.calendar.specs.Carry.{at_time}
use Rattle.alarm.specs.declared.Alarm.{Alarm}
use Rattle.alarm.specs.Search.{first_from}
use Rattle.alarm.specs.Match.{matches, time_fits, day_fits}
use Rattle.alarm.proofs.Search.{first_is, as_first}
use Rattle.alarm.proofs.Match.{day_not, day_fit}
use Rattle.alarm.proofs.Alarm.first_on_day.Goals as goal

module _ (a : Alarm) (c : Clock) (t : ℕ) (l : t ≤ 86_400) (b : Bool) (e : b ≡ day_fits a c) where
  no_day : b ≡ false → 86_400 ≡ first_from (λ u. matches a (at_time c u)) t (86_400 - t)
  no_day x =
      first_is (λ u. matches a (at_time c u)) t (86_400 - t) 86_400
      (record { low = l; high = omega arith; none = λ u i j. day_not a c u (sym e ∙ x); found = λ h. absurd (omega arith) })

  the_day : (r : ℕ) → b ≡ true → r ≡ first_from (time_fits a) t (86_400 - t) → r ≡ first_from (λ u. matches a (at_time c u)) t (86_400 - t)
  the_day r x f =
      let g = as_first (time_fits a) t (86_400 - t) r f in
      let y = sym e ∙ x in
      first_is (λ u. matches a (at_time c u)) t (86_400 - t) r
      (record { low = g.low; high = g.high; none = λ u i j. day_fit a c u y ∙ g.none u i j; found = λ h. day_fit a c r y ∙ g.found h })

pub returns-then-not-day_fits : goal.returns-then-not-day_fits
returns-then-not-day_fits c = no_day c.args.self c.args.c c.args.t c.requires _ c.day_fits.ensures c.if-not-day_fits.true

pub returns : goal.returns
returns c = the_day c.args.self c.args.c c.args.t c.requires _ c.day_fits.ensures _ c.if-not-day_fits.false c.first_time.ensures
