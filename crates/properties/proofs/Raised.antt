-- Document 01, "It ends": what an event of a source that counts leaves of each part. Assumes nothing.
use Prim.Native.Nat.{ℕ}
use mathlib.Core.Path.{◌≡◌, refl}
use mathlib.Core.Bool.{false, cond}
use Rattle.common.proofs.Choice.{of_cond, ap_cond}
use Rattle.units.specs.Units.{sixteenths_of}
use Rattle.controller.specs.declared.Core.{Core}
use Rattle.controller.specs.declared.Power.{Power}
use Rattle.controller.specs.declared.Setup.{Setup}
use Rattle.controller.specs.State.{power}
use Rattle.controller.specs.Standby.{raised}

-- STBY low and the guard loaded
abbrev pub woken : Setup → Power → Power
woken s p = power p.ready p.wakeup false (sixteenths_of s.guardvalue)

module _ (source : ℕ) (c : Core) where
  pub power_raised : (raised source c).power ≡ cond c.power.stby (woken c.setup c.power) c.power
  unfolding raised
  power_raised = ap_cond (λ (x : Core). x.power) c.power.stby _ _

  pub stby_raised : (raised source c).power.stby ≡ false
  unfolding raised
  stby_raised = of_cond (λ (x : Core). x.power.stby ≡ false) c.power.stby _ _ (λ e. refl) (λ e. e)

  pub setup_raised : (raised source c).setup ≡ c.setup
  unfolding raised
  setup_raised = of_cond (λ (x : Core). x.setup ≡ c.setup) c.power.stby _ _ (λ e. refl) (λ e. refl)

  pub rtc_raised : (raised source c).rtc ≡ c.rtc
  unfolding raised
  rtc_raised = of_cond (λ (x : Core). x.rtc ≡ c.rtc) c.power.stby _ _ (λ e. refl) (λ e. refl)
