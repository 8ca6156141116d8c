-- Document 01, "Standby begins" and "It ends": STBY after each event, by the event's exact causes. Assumes nothing.
use Prim.Native.Nat.{ℕ, ◌-◌}
use mathlib.Core.Path.{◌≡◌, refl, ap, ◌∙◌}
use mathlib.Core.Bool.{Bool, true, false, cond, not, ◌&&◌, ◌||◌, true≢false, beq}
use native.Mathlib.Omega.{arith}
use lib.Dec.{eqb}
use borrow.Author.Tests.{eqb-true, ne_eqb}
use Rattle.common.specs.Bits.{bit_set}
use Rattle.common.proofs.Choice.{of_cond, ap_cond, and_left}
use Rattle.units.specs.declared.Sixteenths.{Sixteenths}
use Rattle.units.specs.Units.{sixteenths_of}
use Rattle.controller.specs.declared.Core.{Core}
use Rattle.controller.specs.declared.Power.{Power}
use Rattle.controller.specs.declared.Setup.{Setup}
use Rattle.controller.specs.State.{power, remote_wakes, wake_up_counts, KEY, REMOTE, WAKE_UP}
use Rattle.controller.specs.Standby.{guard_load}
use Rattle.controller.specs.Tick.{ticked}
use Rattle.controller.specs.Keys.{without, counted, pressed, sampled, hot}
use Rattle.controller.specs.Remote.{keyed}
use Rattle.controller.specs.Pins.{ready_set, wake_up_set}
use Rattle.controller.specs.Sound.{Sound}
use Rattle.properties.specs.Causes.{rtc_event, guard_ends, hot_press, remote_counts, ready_falls, wake_up_rises}
use Rattle.properties.proofs.Raised.{stby_raised}
use Rattle.properties.proofs.Steps.{woken_by, guarded, one_not_none, power_ticked}

abbrev stby : Core → Bool
stby c = c.power.stby

-- ---- A tick

-- the guard's end raises STBY, and nothing in the guard's step lowers it
falling : (none one b stby : Bool) → (none && one) ≡ false → cond none stby (cond (one && b) true stby) ≡ (stby || (one && b))
falling true true b stby h = absurd (true≢false h)
falling true false b true h = refl
falling true false b false h = refl
falling false true true true h = refl
falling false true true false h = refl
falling false true false true h = refl
falling false true false false h = refl
falling false false b true h = refl
falling false false b false h = refl

-- whether STBY is high after the guard's step from the power part p
at_end : Setup → Power → Bool
at_end s p = p.stby || (eqb p.guard.0 1 && bit_set s.configuration 1)

module _ (s : Setup) (p : Power) where
  stby_guarded : (guarded s p).stby ≡ at_end s p
  unfolding at_end
  stby_guarded =
      ap_cond (λ (x : Power). x.stby) (eqb p.guard.0 0) _ _
      ∙ ap (cond (eqb p.guard.0 0) p.stby) (ap_cond (λ (x : Power). x.stby) (eqb p.guard.0 1 && bit_set s.configuration 1) _ _)
      ∙ falling (eqb p.guard.0 0) (eqb p.guard.0 1) (bit_set s.configuration 1) p.stby (one_not_none p.guard.0)

  guard_guarded : (guarded s p).guard.0 ≡ p.guard.0 - 1
  guard_guarded =
      of_cond (λ (x : Power). x.guard.0 ≡ p.guard.0 - 1) (eqb p.guard.0 0) _ _ (λ e. omega (arith, eqb-true p.guard.0 0 e))
      (λ e. of_cond (λ (x : Power). x.guard.0 ≡ p.guard.0 - 1) (eqb p.guard.0 1 && bit_set s.configuration 1) _ _
      (λ l. omega (arith, eqb-true p.guard.0 1 (and_left (eqb p.guard.0 1) (bit_set s.configuration 1) l))) (λ l. refl))

module _ (s : Setup) (ready wakeup : Bool) (g : Sixteenths) where
  -- a guard just loaded is not at its end: 16 times a value is not 1
  stby_woken_by : (event stby : Bool) → at_end s (woken_by s event (power ready wakeup stby g)) ≡ cond stby (not event) (eqb g.0 1 && bit_set s.configuration 1)
  unfolding at_end
  stby_woken_by true true = ap (λ (b : Bool). b && bit_set s.configuration 1) (ne_eqb (sixteenths_of s.guardvalue).0 1 (λ e. omega arith))
  stby_woken_by true false = refl
  stby_woken_by false true = refl
  stby_woken_by false false = refl

  guard_woken_by : (event stby : Bool) → (stby ≡ true → g.0 ≡ 0) → (woken_by s event (power ready wakeup stby g)).guard.0 ≡ cond stby (cond event (sixteenths_of s.guardvalue).0 0) g.0
  guard_woken_by true true h = refl
  guard_woken_by true false h = refl
  guard_woken_by false true h = h refl
  guard_woken_by false false h = refl

pub stby_ticked : (c : Core) → (ticked c).power.stby ≡ cond c.power.stby (not (rtc_event c)) (guard_ends c)
unfolding guard_ends
stby_ticked c =
    ap (λ (p : Power). p.stby) (power_ticked c) ∙ stby_guarded c.setup (woken_by c.setup (rtc_event c) c.power)
    ∙ stby_woken_by c.setup c.power.ready c.power.wakeup c.power.guard (rtc_event c) c.power.stby

-- the guard falls by one, from its load in a tick that wakes, and else stays stopped with STBY high
pub guard_ticked_lem : {w : ℕ} {c : Core} → Sound w c → (ticked c).power.guard.0 ≡ cond c.power.stby (cond (rtc_event c) (guard_load c).0 0) c.power.guard.0 - 1
guard_ticked_lem {c = c} h =
    ap (λ (p : Power). p.guard.0) (power_ticked c) ∙ guard_guarded c.setup (woken_by c.setup (rtc_event c) c.power)
    ∙ ap (λ (n : ℕ). n - 1) (guard_woken_by c.setup c.power.ready c.power.wakeup c.power.guard (rtc_event c) c.power.stby h.power.stopped)

-- ---- Keys

-- with STBY low nothing ends; with STBY high the hot ones count
pressing : (stby repeats : Bool) (hots new : ℕ) → cond repeats (cond (eqb (cond stby hots new) 0) stby false) stby ≡ (stby && not (repeats && not (eqb hots 0)))
pressing true true hots new = of_not (eqb hots 0)
  where
    of_not : (b : Bool) → cond b true false ≡ not (not b)
    of_not true = refl
    of_not false = refl
pressing true false hots new = refl
pressing false true hots new = of_cond (λ (b : Bool). b ≡ false) (eqb new 0) _ _ (λ e. refl) (λ e. refl)
pressing false false hots new = refl

stby_pressed : (c : Core) (new : ℕ) → stby (pressed c new) ≡ cond (eqb (counted c new) 0) (stby c) false
unfolding pressed
stby_pressed c new = ap_cond stby (eqb (counted c new) 0) _ _ ∙ ap (cond (eqb (counted c new) 0) (stby c)) (stby_raised KEY _)

pub stby_sampled : (c : Core) (sample : ℕ) → (sampled c sample).power.stby ≡ (c.power.stby && not (hot_press c sample))
unfolding sampled hot_press
stby_sampled c sample =
    ap_cond stby (eqb sample c.keys.sample) _ _
    ∙ ap (λ (b : Bool). cond (eqb sample c.keys.sample) b (stby c)) (stby_pressed _ (without sample c.keys.accepted))
    ∙ pressing (stby c) (eqb sample c.keys.sample) (hot c (without sample c.keys.accepted)) (without sample c.keys.accepted)

-- ---- Remote

receiving : (stby b : Bool) → cond (stby && not b) stby false ≡ (stby && not b)
receiving true true = refl
receiving true false = refl
receiving false b = refl

pub stby_keyed : (c : Core) (address command : ℕ) → (keyed c address command).power.stby ≡ (c.power.stby && not (remote_counts c))
unfolding keyed remote_counts
stby_keyed c address command =
    ap_cond stby (stby c && not (remote_wakes c)) _ _ ∙ ap (cond (stby c && not (remote_wakes c)) (stby c)) (stby_raised REMOTE _) ∙ receiving (stby c) (remote_wakes c)

-- ---- Pins

turning : (level ready stby : Bool) → cond (beq level ready) stby (cond level stby (cond stby stby true)) ≡ (stby || (ready && not level))
turning true true true = refl
turning true true false = refl
turning true false true = refl
turning true false false = refl
turning false true true = refl
turning false true false = refl
turning false false true = refl
turning false false false = refl

pub stby_ready_set : (c : Core) (level : Bool) → (ready_set c level).power.stby ≡ (c.power.stby || ready_falls c level)
unfolding ready_set ready_falls
stby_ready_set c level =
    ap_cond stby (beq level c.power.ready) _ _
    ∙ ap (cond (beq level c.power.ready) (stby c)) (ap_cond stby level _ _ ∙ ap (cond level (stby c)) (ap_cond stby (stby c) _ _))
    ∙ turning level c.power.ready (stby c)

rising : (level wakeup b stby : Bool) → cond (beq level wakeup) stby (cond (level && b) false stby) ≡ (stby && not (not wakeup && level && b))
rising true true b true = refl
rising true true b false = refl
rising true false true true = refl
rising true false true false = refl
rising true false false true = refl
rising true false false false = refl
rising false true b true = refl
rising false true b false = refl
rising false false b true = refl
rising false false b false = refl

pub stby_wake_up_set : (c : Core) (level : Bool) → (wake_up_set c level).power.stby ≡ (c.power.stby && not (wake_up_rises c level))
unfolding wake_up_set wake_up_rises
stby_wake_up_set c level =
    ap_cond stby (beq level c.power.wakeup) _ _
    ∙ ap (cond (beq level c.power.wakeup) (stby c))
    (ap_cond stby (level && wake_up_counts c) _ _ ∙ ap (λ (b : Bool). cond (level && wake_up_counts c) b (stby c)) (stby_raised WAKE_UP _))
    ∙ rising level c.power.wakeup (wake_up_counts c) (stby c)
