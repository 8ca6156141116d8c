-- A tick step by step: what each step leaves of the power part, the setup and the clock registers. Assumes nothing.
use Prim.Native.Nat.{ℕ, zero, suc, ◌-◌}
use mathlib.Core.Path.{◌≡◌, refl, ap, ◌∙◌}
use mathlib.Core.Bool.{Bool, true, false, cond, not, ◌&&◌, ◌||◌, true≢false}
use lib.Dec.{eqb, eqb-suc-zero}
use Rattle.common.specs.Bits.{bit_set}
use Rattle.common.proofs.Choice.{of_cond, ap_cond}
use Rattle.alarm.specs.Match.{matches}
use Rattle.units.specs.declared.Sixteenths.{Sixteenths}
use Rattle.units.specs.Units.{one_more, fills_second}
use Rattle.registers.specs.Names.{stopped, afe, wdfen}
use Rattle.timekeeper.specs.Clock.{with_clock}
use Rattle.timekeeper.specs.Alarm.{alarm_of}
use Rattle.timekeeper.proofs.Apart.{with_stopped, with_wdfen}
use Rattle.controller.specs.declared.Core.{Core}
use Rattle.controller.specs.declared.Rtc.{Rtc}
use Rattle.controller.specs.declared.Power.{Power}
use Rattle.controller.specs.declared.Setup.{Setup}
use Rattle.controller.specs.State.{with_rtc, with_power, rtc, power, sixteenths, guard_standby, RTC}
use Rattle.controller.specs.Standby.{raised}
use Rattle.controller.specs.Tick.{second_passed, clock_ticked, watchdog_ticked, guard_ticked, ticked}
use Rattle.properties.specs.Causes.{second_passes, next_second, alarm_rises, watchdog_ends, rtc_event}
use Rattle.properties.proofs.Raised.{woken, power_raised, setup_raised, rtc_raised}

-- ---- Choices

-- a choice within a choice of the same other side
both : {A : Type 0} (a b : Bool) (x y : A) → cond a (cond b x y) y ≡ cond (a && b) x y
both true b x y = refl
both false b x y = refl

either : {A : Type 0} (b : Bool) (x : A) → cond b x x ≡ x
either true x = refl
either false x = refl

-- the clock's choices as one: the oscillator runs, and the second is full
passing : {A : Type 0} (halted full : Bool) (x y : A) → cond halted y (cond full x y) ≡ cond (not halted && full) x y
passing true full x y = refl
passing false full x y = refl

-- the watchdog's choices as one: a watchdog with one sixteenth left is running
ending : {A : Type 0} (none halted one enabled : Bool) (x y : A) → (none && one) ≡ false
    → cond (none || halted) y (cond (one && enabled) x y) ≡ cond (one && (not halted && enabled)) x y
ending true halted true enabled x y h = absurd (true≢false h)
ending true halted false enabled x y h = refl
ending false true true enabled x y h = refl
ending false true false enabled x y h = refl
ending false false true enabled x y h = refl
ending false false false enabled x y h = refl

pub one_not_none : (n : ℕ) → (eqb n 0 && eqb n 1) ≡ false
one_not_none zero = refl
one_not_none (suc n) = ap (λ (b : Bool). b && eqb (suc n) 1) (eqb-suc-zero n)

-- ---- The power part

-- after an event that ends standby, where it happens
abbrev pub woken_by : Setup → Bool → Power → Power
woken_by s event p = cond (event && p.stby) (woken s p) p

-- after the guard's step
abbrev pub guarded : Setup → Power → Power
guarded s p =
    cond (eqb p.guard.0 0) p
    (cond (eqb p.guard.0 1 && bit_set s.configuration 1) (power p.ready p.wakeup true (sixteenths 0))
    (power p.ready p.wakeup p.stby (sixteenths (p.guard.0 - 1))))

-- two events one after the other end standby as either does
woken_by_woken_by : (s : Setup) (a b ready wakeup stby : Bool) (g : Sixteenths)
    → woken_by s b (woken_by s a (power ready wakeup stby g)) ≡ woken_by s (a || b) (power ready wakeup stby g)
woken_by_woken_by s true true ready wakeup true g = refl
woken_by_woken_by s true true ready wakeup false g = refl
woken_by_woken_by s true false ready wakeup true g = refl
woken_by_woken_by s true false ready wakeup false g = refl
woken_by_woken_by s false b ready wakeup stby g = refl

-- ---- First step: the clock

-- with AFE set the second reached matches
abbrev matched : Core → Bool
matched c = afe c.rtc.registers && matches (alarm_of c.rtc.registers) (next_second c)

module _ (c : Core) {A : Type 0} (f : Core → A)
    (within : (s : Sixteenths) → f (with_rtc c (rtc c.rtc.registers s c.rtc.flags c.rtc.watchdog)) ≡ f c) where
  -- a view that does not show the sixteenths is as it was, or as the second leaves it
  clock_view : f (clock_ticked c) ≡ cond (second_passes c) (f (second_passed c)) (f c)
  unfolding clock_ticked second_passes
  clock_view =
      ap_cond f (stopped c.rtc.registers) _ _
      ∙ ap (cond (stopped c.rtc.registers) (f c))
      (ap_cond f (fills_second (one_more c.rtc.sixteenths)) _ _
      ∙ ap (cond (fills_second (one_more c.rtc.sixteenths)) (f (second_passed c))) (within (one_more c.rtc.sixteenths)))
      ∙ passing (stopped c.rtc.registers) (fills_second (one_more c.rtc.sixteenths)) (f (second_passed c)) (f c)

  -- one that shows neither the flags nor an event has a single value after the second
  module _ (x : A) (beyond : (flags : ℕ) → f (with_rtc c (rtc (with_clock c.rtc.registers (next_second c)) (sixteenths 0) flags c.rtc.watchdog)) ≡ x)
      (after : (d : Core) → f (raised RTC d) ≡ f d) where
    after_second : f (second_passed c) ≡ x
    unfolding second_passed
    after_second = of_cond (λ (d : Core). f d ≡ x) (matched c) _ _ (λ m. after _ ∙ beyond _) (λ m. beyond c.rtc.flags)

    after_clock : f (clock_ticked c) ≡ cond (second_passes c) x (f c)
    after_clock = clock_view ∙ ap (λ (y : A). cond (second_passes c) y (f c)) after_second

module _ (c : Core) where
  power_clock_ticked : (clock_ticked c).power ≡ woken_by c.setup (alarm_rises c) c.power
  unfolding alarm_rises second_passed
  power_clock_ticked =
      clock_view c (λ (x : Core). x.power) (λ s. refl)
      ∙ ap (λ (p : Power). cond (second_passes c) p c.power)
      (ap_cond (λ (x : Core). x.power) (matched c) _ _ ∙ ap (λ (p : Power). cond (matched c) p c.power) (power_raised RTC _))
      ∙ both (second_passes c) (matched c) _ c.power
      ∙ both (second_passes c && matched c) c.power.stby (woken c.setup c.power) c.power

  pub registers_clock_ticked : (clock_ticked c).rtc.registers ≡ cond (second_passes c) (with_clock c.rtc.registers (next_second c)) c.rtc.registers
  registers_clock_ticked =
      after_clock c (λ (x : Core). x.rtc.registers) (λ s. refl) _ (λ flags. refl) (λ d. ap (λ (r : Rtc). r.registers) (rtc_raised RTC d))

  setup_clock_ticked : (clock_ticked c).setup ≡ c.setup
  setup_clock_ticked = after_clock c (λ (x : Core). x.setup) (λ s. refl) c.setup (λ flags. refl) (setup_raised RTC) ∙ either (second_passes c) c.setup

  -- the watchdog's end does not depend on the second
  ends_clock_ticked : watchdog_ends (clock_ticked c) ≡ watchdog_ends c
  unfolding watchdog_ends
  ends_clock_ticked =
      after_clock c watchdog_ends (λ s. refl) (watchdog_ends c) (λ flags. simp (with_stopped, with_wdfen)) (λ d. rw (rtc_raised RTC d)) ∙ either (second_passes c) (watchdog_ends c)

-- ---- Second step: the watchdog

module _ (c : Core) where
  power_watchdog_ticked : (watchdog_ticked c).power ≡ woken_by c.setup (watchdog_ends c) c.power
  unfolding watchdog_ticked watchdog_ends
  power_watchdog_ticked =
      ap_cond (λ (x : Core). x.power) (eqb c.rtc.watchdog.0 0 || stopped c.rtc.registers) _ _
      ∙ ap (cond (eqb c.rtc.watchdog.0 0 || stopped c.rtc.registers) c.power)
      (ap_cond (λ (x : Core). x.power) ends _ _ ∙ ap (λ (p : Power). cond ends p c.power) (power_raised RTC _))
      ∙ ending (eqb c.rtc.watchdog.0 0) (stopped c.rtc.registers) (eqb c.rtc.watchdog.0 1) (wdfen c.rtc.registers) _ c.power
      (one_not_none c.rtc.watchdog.0)
      ∙ both (watchdog_ends c) c.power.stby (woken c.setup c.power) c.power
    where
      ends : Bool
      ends = eqb c.rtc.watchdog.0 1 && wdfen c.rtc.registers

  -- a view that shows neither the flags, nor the watchdog, nor an event, stays as it was
  watchdog_view : {A : Type 0} (f : Core → A) → ((flags : ℕ) (left : Sixteenths) → f (with_rtc c (rtc c.rtc.registers c.rtc.sixteenths flags left)) ≡ f c)
      → ((d : Core) → f (raised RTC d) ≡ f d) → f (watchdog_ticked c) ≡ f c
  unfolding watchdog_ticked
  watchdog_view f fewer after =
      of_cond (λ (x : Core). f x ≡ f c) (eqb c.rtc.watchdog.0 0 || stopped c.rtc.registers) _ _ (λ e. refl)
      (λ e. of_cond (λ (x : Core). f x ≡ f c) (eqb c.rtc.watchdog.0 1 && wdfen c.rtc.registers) _ _ (λ l. after _ ∙ fewer _ _) (λ l. fewer _ _))

  setup_watchdog_ticked : (watchdog_ticked c).setup ≡ c.setup
  setup_watchdog_ticked = watchdog_view (λ (x : Core). x.setup) (λ flags left. refl) (setup_raised RTC)

  pub registers_watchdog_ticked : (watchdog_ticked c).rtc.registers ≡ c.rtc.registers
  registers_watchdog_ticked = watchdog_view (λ (x : Core). x.rtc.registers) (λ flags left. refl) (λ d. ap (λ (r : Rtc). r.registers) (rtc_raised RTC d))

-- ---- Third step: the guard

module _ (c : Core) where
  power_guard_ticked : (guard_ticked c).power ≡ guarded c.setup c.power
  unfolding guard_ticked
  power_guard_ticked =
      ap_cond (λ (x : Core). x.power) (eqb c.power.guard.0 0) _ _
      ∙ ap (cond (eqb c.power.guard.0 0) c.power) (ap_cond (λ (x : Core). x.power) (eqb c.power.guard.0 1 && guard_standby c) _ _)

  -- a view that does not show the power part stays as it was
  guard_view : {A : Type 0} (f : Core → A) → ((p : Power) → f (with_power c p) ≡ f c) → f (guard_ticked c) ≡ f c
  unfolding guard_ticked
  guard_view f other =
      of_cond (λ (x : Core). f x ≡ f c) (eqb c.power.guard.0 0) _ _ (λ e. refl)
      (λ e. of_cond (λ (x : Core). f x ≡ f c) (eqb c.power.guard.0 1 && guard_standby c) _ _ (λ l. other _) (λ l. other _))

  setup_guard_ticked : (guard_ticked c).setup ≡ c.setup
  setup_guard_ticked = guard_view (λ (x : Core). x.setup) (λ p. refl)

  pub registers_guard_ticked : (guard_ticked c).rtc.registers ≡ c.rtc.registers
  registers_guard_ticked = guard_view (λ (x : Core). x.rtc.registers) (λ p. refl)

-- ---- The three steps in order

module _ (c : Core) where
  setup_before : (watchdog_ticked (clock_ticked c)).setup ≡ c.setup
  setup_before = setup_watchdog_ticked (clock_ticked c) ∙ setup_clock_ticked c

  power_before : (watchdog_ticked (clock_ticked c)).power ≡ woken_by c.setup (rtc_event c) c.power
  unfolding rtc_event
  power_before =
      power_watchdog_ticked (clock_ticked c) ∙ (λ i. woken_by (setup_clock_ticked c i) (ends_clock_ticked c i) (power_clock_ticked c i))
      ∙ woken_by_woken_by c.setup (alarm_rises c) (watchdog_ends c) c.power.ready c.power.wakeup c.power.stby c.power.guard

  pub power_ticked : (ticked c).power ≡ guarded c.setup (woken_by c.setup (rtc_event c) c.power)
  unfolding ticked
  power_ticked = power_guard_ticked (watchdog_ticked (clock_ticked c)) ∙ (λ i. guarded (setup_before i) (power_before i))

  pub setup_ticked : (ticked c).setup ≡ c.setup
  unfolding ticked
  setup_ticked = setup_guard_ticked (watchdog_ticked (clock_ticked c)) ∙ setup_before
