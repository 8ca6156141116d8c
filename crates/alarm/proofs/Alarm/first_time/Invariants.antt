use mathlib.Core.Path.{◌≡◌}
use mathlib.Core.Bool.{false}
use Prim.Native.Nat.{ℕ, ◌+◌, ◌-◌, ◌≤◌, ◌<◌}
use Rattle.alarm.specs.declared.Alarm.{Alarm}
use Rattle.alarm.specs.Match.{time_fits}
use Rattle.alarm.proofs.Alarm.first_time.Given as goal

-- the seconds from t up to u do not fit
pub record Searched (a : Alarm) (t u : ℕ) : Type 0 where
  pub low : t ≤ u
  pub high : u ≤ t + (86_400 - t)
  pub none : (w : ℕ) → t ≤ w → w < u → time_fits a w ≡ false

abbrev pub invariant-loop-u : goal.invariant-loop-u
invariant-loop-u l = Searched l.self l.t l.u

abbrev pub decreases-loop-u : goal.decreases-loop-u
decreases-loop-u l = 86_400 - l.u
