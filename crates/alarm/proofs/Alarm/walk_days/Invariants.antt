use mathlib.Core.Path.{◌≡◌}
use mathlib.Core.Bool.{false}
use Prim.Native.Nat.{ℕ, ◌+◌, ◌*◌, ◌≤◌, ◌<◌}
use Rattle.calendar.specs.declared.Clock.{Clock}
use Rattle.calendar.specs.Clock.{time_of, moved}
use Rattle.alarm.specs.declared.Alarm.{Alarm}
use Rattle.alarm.specs.Match.{matches}
use Rattle.alarm.proofs.Alarm.walk_days.Given as goal

-- the day d stands base seconds behind the first midnight m, and nothing matches from the start up to its second t
pub record Walked (a : Alarm) (start : ℕ) (m d : Clock) (base t : ℕ) : Type 0 where
  pub day_is : d ≡ moved m base
  pub midnight : time_of d ≡ 0
  pub t_high : t ≤ 86_400
  pub t_low : start < base + t
  pub none : (x : ℕ) → start < x → x < base + t → matches a (moved m x) ≡ false

abbrev pub invariant-loop-k : goal.invariant-loop-k
invariant-loop-k l = Walked l.self l.start l.initial.day l.day (86_400 * l.k) l.from
