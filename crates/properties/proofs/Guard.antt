-- The guard over many ticks: STBY stays low until the guard has run out, and is then high exactly with configuration b0. Assumes nothing.
use Prim.Native.Nat.{ℕ, zero, suc, ◌-◌, ◌<◌}
use mathlib.Core.Path.{◌≡◌, refl, ap, ◌∙◌}
use mathlib.Core.Bool.{Bool, false, cond, not, ◌&&◌}
use native.Mathlib.Omega.{arith}
use borrow.Author.Tests.{eq-eqb, ne_eqb}
use Rattle.controller.specs.declared.Core.{Core}
use Rattle.controller.specs.declared.Setup.{Setup}
use Rattle.controller.specs.State.{guard_standby}
use Rattle.controller.specs.Standby.{guard_load}
use Rattle.controller.specs.Sound.{Sound}
use Rattle.controller.specs.Tick.{ticked}
use Rattle.common.specs.Bits.{bit_set}
use Rattle.properties.specs.Causes.{rtc_event, guard_ends}
use Rattle.properties.specs.Ticks.{ticks}
use Rattle.properties.proofs.Sound.{sound_ticked}
use Rattle.properties.proofs.Steps.{setup_ticked}
use Rattle.properties.proofs.Standby.{stby_ticked, guard_ticked_lem}

-- ---- One tick with STBY low

module _ (c : Core) (low : c.power.stby ≡ false) where
  stby_low_ticked : (ticked c).power.stby ≡ guard_ends c
  stby_low_ticked = stby_ticked c ∙ ap (λ (b : Bool). cond b (not (rtc_event c)) (guard_ends c)) low

  guard_low_ticked : {w : ℕ} → Sound w c → (ticked c).power.guard.0 ≡ c.power.guard.0 - 1
  guard_low_ticked h = guard_ticked_lem h ∙ ap (λ (b : Bool). cond b (cond (rtc_event c) (guard_load c).0 0) c.power.guard.0 - 1) low

  -- a guard that is stopped stays so, and STBY low
  pub stopped_ticked : {w : ℕ} → Sound w c → c.power.guard.0 ≡ 0 → ((ticked c).power.stby ≡ false) × ((ticked c).power.guard.0 ≡ 0)
  unfolding guard_ends
  stopped_ticked h z = (
    stby_low_ticked ∙ ap (λ (b : Bool). b && guard_standby c) (ne_eqb c.power.guard.0 1 (λ e. omega arith)),
    guard_low_ticked h ∙ omega arith,
  )

-- ---- Many ticks

setup_ticks : (c : Core) (n : ℕ) → (ticks n c).setup ≡ c.setup
unfolding ticks
setup_ticks c zero = refl
setup_ticks c (suc n) = setup_ticked (ticks n c) ∙ setup_ticks c n

module _ {w : ℕ} {c : Core} (h : Sound w c) where
  sound_ticks : (n : ℕ) → Sound w (ticks n c)
  unfolding ticks
  sound_ticks zero = h
  sound_ticks (suc n) = sound_ticked (sound_ticks n)

  module _ (low : c.power.stby ≡ false) where
    -- while the guard runs
    pub guard_runs : (n : ℕ) → n < c.power.guard.0 → ((ticks n c).power.stby ≡ false) × ((ticks n c).power.guard.0 ≡ c.power.guard.0 - n)
    unfolding ticks guard_ends
    guard_runs zero l = (low, omega arith)
    guard_runs (suc n) l =
        let before = guard_runs n (omega arith) in (
          stby_low_ticked (ticks n c) before.0 ∙ ap (λ (b : Bool). b && guard_standby (ticks n c)) (ne_eqb (ticks n c).power.guard.0 1 (λ e. omega (arith, before.1))),
          omega (arith, guard_low_ticked (ticks n c) before.0 (sound_ticks n), before.1),
        )

    -- the tick in which it runs out
    pub guard_out : (n : ℕ) → c.power.guard.0 ≡ suc n → (ticks (suc n) c).power.stby ≡ guard_standby c
    unfolding ticks guard_ends
    guard_out n e =
        let before = guard_runs n (omega arith) in
        stby_low_ticked (ticks n c) before.0
        ∙ ap (λ (b : Bool). b && guard_standby (ticks n c)) (eq-eqb (ticks n c).power.guard.0 1 (omega (arith, before.1)))
        ∙ ap (λ (s : Setup). bit_set s.configuration 1) (setup_ticks c n)
