-- The clock registers kept: of the events here only a tick that passes a second changes one. Assumes nothing.
use Prim.Native.Nat.{ℕ}
use mathlib.Core.Path.{◌≡◌, refl, ◌∙◌}
use mathlib.Core.Bool.{Bool, cond, not, ◌&&◌, beq}
use lib.Dec.{eqb}
use Rattle.common.proofs.Choice.{of_cond}
use Rattle.timekeeper.specs.Clock.{with_clock}
use Rattle.controller.specs.declared.Core.{Core}
use Rattle.controller.specs.State.{remote_wakes, wake_up_counts, KEY, REMOTE, WAKE_UP}
use Rattle.controller.specs.Standby.{standby_begun, standby_ended}
use Rattle.controller.specs.Tick.{clock_ticked, watchdog_ticked, ticked}
use Rattle.controller.specs.Keys.{without, counted, pressed, sampled}
use Rattle.controller.specs.Remote.{keyed}
use Rattle.controller.specs.Pins.{ready_set, wake_up_set}
use Rattle.properties.specs.Causes.{second_passes, next_second}
use Rattle.properties.proofs.Raised.{rtc_raised}
use Rattle.properties.proofs.Steps.{registers_clock_ticked, registers_watchdog_ticked, registers_guard_ticked}

-- ---- A tick

pub registers_ticked : (c : Core) → (ticked c).rtc.registers ≡ cond (second_passes c) (with_clock c.rtc.registers (next_second c)) c.rtc.registers
unfolding ticked
registers_ticked c = registers_guard_ticked (watchdog_ticked (clock_ticked c)) ∙ registers_watchdog_ticked (clock_ticked c) ∙ registers_clock_ticked c

-- ---- The other events leave the whole clock as it is, as an event of any source does (`rtc_raised`)

pub rtc_standby_begun : (c : Core) → (standby_begun c).rtc ≡ c.rtc
rtc_standby_begun c = refl

pub rtc_standby_ended : (c : Core) → (standby_ended c).rtc ≡ c.rtc
rtc_standby_ended c = refl

rtc_pressed : (c : Core) (new : ℕ) → (pressed c new).rtc ≡ c.rtc
unfolding pressed
rtc_pressed c new = of_cond (λ (x : Core). x.rtc ≡ c.rtc) (eqb (counted c new) 0) _ _ (λ e. refl) (λ e. rtc_raised KEY _)

pub rtc_sampled : (c : Core) (sample : ℕ) → (sampled c sample).rtc ≡ c.rtc
unfolding sampled
rtc_sampled c sample = of_cond (λ (x : Core). x.rtc ≡ c.rtc) (eqb sample c.keys.sample) _ _ (λ e. rtc_pressed _ (without sample c.keys.accepted)) (λ e. refl)

pub rtc_keyed : (c : Core) (address command : ℕ) → (keyed c address command).rtc ≡ c.rtc
unfolding keyed
rtc_keyed c address command = of_cond (λ (x : Core). x.rtc ≡ c.rtc) (c.power.stby && not (remote_wakes c)) _ _ (λ e. refl) (λ e. rtc_raised REMOTE _)

pub rtc_ready_set : (c : Core) (level : Bool) → (ready_set c level).rtc ≡ c.rtc
unfolding ready_set
rtc_ready_set c level =
    of_cond (λ (x : Core). x.rtc ≡ c.rtc) (beq level c.power.ready) _ _ (λ e. refl)
    (λ e. of_cond (λ (x : Core). x.rtc ≡ c.rtc) level _ _ (λ l. refl) (λ l. of_cond (λ (x : Core). x.rtc ≡ c.rtc) c.power.stby _ _ (λ s. refl) (λ s. refl)))

pub rtc_wake_up_set : (c : Core) (level : Bool) → (wake_up_set c level).rtc ≡ c.rtc
unfolding wake_up_set
rtc_wake_up_set c level =
    of_cond (λ (x : Core). x.rtc ≡ c.rtc) (beq level c.power.wakeup) _ _ (λ e. refl)
    (λ e. of_cond (λ (x : Core). x.rtc ≡ c.rtc) (level && wake_up_counts c) _ _ (λ l. rtc_raised WAKE_UP _) (λ l. refl))
