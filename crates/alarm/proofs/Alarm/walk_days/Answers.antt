-- `alarm::Alarm::walk_days` meets its contract. Assumes nothing.
use mathlib.Core.Path.{◌≡◌, sym, ap, subst, ◌∙◌}
use mathlib.Core.Bool.{false}
use Prim.Native.Nat.{ℕ, ◌+◌, ◌-◌, ◌*◌, ◌/◌, ◌≤◌, ◌<◌, min}
use native.Mathlib.Omega.{arith}
use Rattle.calendar.specs.declared.Clock.{Clock}
use Rattle.calendar.specs.Clock.{Valid, time_of, moved}
use Rattle.calendar.specs.Carry.{at_time, next_day}
use Rattle.calendar.proofs.Moved.{time_below, moved_none, time_valid}
use Rattle.alarm.specs.declared.Alarm.{Alarm}
use Rattle.alarm.specs.Search.{first_from, IsFirst}
use Rattle.alarm.specs.Match.{matches}
use Rattle.alarm.specs.Reached.{first_reached}
use Rattle.alarm.proofs.Search.{as_first}
use Rattle.alarm.proofs.Reached.{on_day, further, reached_is, next_on}
use Rattle.alarm.proofs.Alarm.walk_days.Invariants.{Walked}
use Rattle.alarm.proofs.Alarm.walk_days.Goals as goal

module _ (a : Alarm) (c m : Clock) (start n : ℕ) (v : Valid c) (em : m ≡ at_time c 0) (es : start ≡ time_of c) where
  begin : Walked a start m m (86_400 * 0) (start + 1)
  begin =
      record {
        day_is = sym (moved_none m (subst Valid (sym em) (time_valid c 0 v (omega arith))));
        midnight = ap time_of em;
        t_high = omega (arith, time_below c v);
        t_low = omega arith;
        none = λ x p q. absurd (omega arith);
      }

  module _ (d : Clock) (k t : ℕ) (w : Walked a start m d (86_400 * k) t) where
    -- all days are walked without a match
    over : k ≡ (start + n) / 86_400 + 1 → n + 1 ≡ first_reached (matches a) c n
    over h = reached_is (matches a) c m start n (n + 1) v em es (omega arith) (omega arith) (λ x p q. w.none x p (omega arith)) (λ p. absurd (omega arith))

    module _ (u : ℕ) (e : u ≡ first_from (λ x. matches a (at_time d x)) t (86_400 - t)) where
      f : IsFirst (λ x. matches a (at_time d x)) t (86_400 - t) u
      f = as_first (λ x. matches a (at_time d x)) t (86_400 - t) u e

      later : start < 86_400 * k + u
      later = omega (arith, w.t_low, f.low)

      none_to : (x : ℕ) → start < x → x < 86_400 * k + u → matches a (moved m x) ≡ false
      none_to = further (matches a) m d start (86_400 * k) t u w.day_is w.midnight (omega (arith, f.high, w.t_high)) w.none f.none

      -- a match on the day, which may lie past the end
      found : u < 86_400 → (r : ℕ) → r ≡ min (86_400 * k + u - start) (n + 1) → r ≡ first_reached (matches a) c n
      found h r j =
          reached_is (matches a) c m start n r v em es (omega (arith, later)) (omega arith)
          (λ x p q. none_to x p (omega (arith, later)))
          (λ p.
          let i : start + r ≡ 86_400 * k + u = omega (arith, later) in
          ap (λ (y : ℕ). matches a (moved m y)) i ∙ on_day (matches a) m d (86_400 * k) u w.day_is w.midnight h ∙ f.found (omega (arith, w.t_high)))

      -- none on the day
      on : (r : Clock) → 86_400 ≤ u → r ≡ next_day d → Walked a start m r (86_400 * (k + 1)) 0
      on r h j =
          let i : 86_400 * k + 86_400 ≡ 86_400 * (k + 1) = omega arith in
          let next = next_on m d r (86_400 * k) w.day_is w.midnight j in
          record {
            day_is = next.0 ∙ ap (moved m) i;
            midnight = next.1;
            t_high = omega arith;
            t_low = omega (arith, w.t_low, w.t_high);
            none = λ x p q. none_to x p (omega arith);
          }

pub loop-k-init : goal.loop-k-init
loop-k-init c = let s = c.args.span in begin c.args.self s.start _ _ s.seconds.0 s.valid c.at_time-day.ensures c.second_of_day-start.ensures

pub overflow_sub-k : goal.overflow_sub-k
overflow_sub-k c = omega (arith, c.loop-k.invariant.t_low, (as_first _ _ _ _ c.first_on_day-u.ensures).low)

pub returns-then-u-lt86400 : goal.returns-then-u-lt86400
returns-then-u-lt86400 c =
    let s = c.args.span in
    found c.args.self s.start _ _ s.seconds.0 s.valid c.at_time-day.ensures c.second_of_day-start.ensures c.loop-k.day c.loop-k.k c.loop-k.from c.loop-k.invariant
    _ c.first_on_day-u.ensures c.if-u-lt86400.true _ c.min.ensures

pub loop-k-preserved : goal.loop-k-preserved
loop-k-preserved c =
    let s = c.args.span in
    on c.args.self s.start _ _ s.seconds.0 s.valid c.at_time-day.ensures c.second_of_day-start.ensures c.loop-k.day c.loop-k.k c.loop-k.from c.loop-k.invariant
    _ c.first_on_day-u.ensures _ c.if-u-lt86400.false c.next_day-day.ensures

pub returns : goal.returns
returns c =
    let s = c.args.span in
    over c.args.self s.start _ _ s.seconds.0 s.valid c.at_time-day.ensures c.second_of_day-start.ensures c.loop-k.day c.loop-k.k c.loop-k.from c.loop-k.invariant
    (omega arith)
