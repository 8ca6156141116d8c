-- `alarm::Alarm::first_time` meets its contract. The invariant: nothing fits from t up to u. Assumes nothing.
use mathlib.Core.Path.{◌≡◌, sym, subst, ◌∙◌}
use mathlib.Core.Bool.{true, false}
use Prim.Native.Nat.{ℕ, ◌-◌, ◌<◌}
use native.Mathlib.Omega.{arith}
use Rattle.alarm.specs.declared.Alarm.{Alarm}
use Rattle.alarm.specs.Search.{first_from}
use Rattle.alarm.specs.Match.{time_fits}
use Rattle.alarm.specs.Skip.{candidate_after}
use Rattle.alarm.proofs.Search.{longer, first_is}
use Rattle.alarm.proofs.Match.{candidate_none, candidate_range}
use Rattle.alarm.proofs.Alarm.first_time.Invariants.{Searched}
use Rattle.alarm.proofs.Alarm.first_time.Goals as goal

module _ (a : Alarm) (t u : ℕ) (s : Searched a t u) where
  found : (u < 86_400 → time_fits a u ≡ true) → u ≡ first_from (time_fits a) t (86_400 - t)
  found f =
      first_is (time_fits a) t (86_400 - t) u
      (record { low = s.low; high = s.high; none = s.none; found = λ h. f (omega (arith, s.low, s.high)) })

  module _ (r : ℕ) (e : r ≡ candidate_after a u) (l : u < 86_400) where
    later : u < r
    later = omega (arith, (candidate_range a u l).0)

    on : time_fits a u ≡ false → Searched a t r
    on f =
        record {
          low = omega (arith, s.low, later);
          high = omega (arith, (candidate_range a u l).1);
          none = longer (time_fits a) t u r s.none (λ w i j. candidate_none a u f w i (subst (λ (x : ℕ). w < x) e j));
        }

pub returns-then-time_fits : goal.returns-then-time_fits
returns-then-time_fits c = found _ _ _ c.loop-u.invariant (λ h. sym c.time_fits.ensures ∙ c.if-time_fits.true)

pub loop-u-smaller : goal.loop-u-smaller
loop-u-smaller c =
    omega (arith, later _ _ _ c.loop-u.invariant _ c.candidate_after-u.ensures c.loop-u-test.true)

pub loop-u-preserved : goal.loop-u-preserved
loop-u-preserved c =
    on _ _ _ c.loop-u.invariant _ c.candidate_after-u.ensures c.loop-u-test.true (sym c.time_fits.ensures ∙ c.if-time_fits.false)

pub returns : goal.returns
returns c = found _ _ _ c.loop-u.invariant (λ h. absurd (omega (arith, c.loop-u-test.false)))
