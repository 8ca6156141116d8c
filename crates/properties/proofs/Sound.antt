-- Document 01, "The image": every event leaves a sound state sound, for any number of keys. Assumes nothing.
use Prim.Native.Nat.{ℕ, ◌-◌, ◌*◌, ◌^◌, ◌≤◌, ◌<◌}
use mathlib.Core.Path.{refl}
use mathlib.Core.Bool.{Bool, true, false, false≢true, ◌&&◌, ◌||◌, not, beq}
use mathlib.Core.List.{[], ◌∷◌}
use native.Mathlib.Omega.{arith}
use native.Mathlib.Nat.{lt_of_le_of_lt}
use lib.Bits.{bit_or, or_lt, and_le_l}
use lib.Dec.{eqb}
use lib.Pow.{pow_pos}
use Rattle.common.proofs.Choice.{of_cond}
use Rattle.common.proofs.Each.{each_at, done, ◌also◌}
use Rattle.calendar.specs.Date.{month_length}
use Rattle.calendar.specs.Carry.{next}
use Rattle.alarm.specs.Match.{matches}
use Rattle.units.specs.declared.Sixteenths.{Sixteenths}
use Rattle.units.specs.Units.{one_more, fills_second}
use Rattle.units.proofs.Laws.{unfilled}
use Rattle.registers.specs.Names.{stopped, afe, wdfen}
use Rattle.timekeeper.specs.Clock.{clock_of, with_clock, valid_calendar}
use Rattle.timekeeper.specs.Alarm.{alarm_of}
use Rattle.controller.specs.declared.Core.{Core}
use Rattle.controller.specs.State.{with_power, with_remote, rtc, power, remote, sixteenths, guard_standby, all_hot, remote_wakes, wake_up_counts, KEY, REMOTE, WAKE_UP, RTC, ALARM_FLAG, WATCHDOG_FLAG}
use Rattle.controller.specs.Standby.{guard_load, standby_begun, standby_ended, raised}
use Rattle.controller.specs.Tick.{second_passed, clock_ticked, watchdog_ticked, guard_ticked, ticked}
use Rattle.controller.specs.Keys.{without, counted, pressed, sampled}
use Rattle.controller.specs.Remote.{keyed}
use Rattle.controller.specs.Pins.{ready_set, with_wake_up, wake_up_set}
use Rattle.controller.specs.PowerUp.{powered_up}
use Rattle.controller.specs.Sound.{Sound, SoundRtc, SoundPower}
use Rattle.properties.proofs.SoundParts.{sound_rtc, sound_power, sound_keys, sound_remote, sound_interrupt, valid_next, sound_clock, sound_timers}

-- ---- Standby and the sources

module _ {w : ℕ} {c : Core} (h : Sound w c) where
  -- STBY low, or a guard that has stopped
  power_low : (a b : Bool) (g : Sixteenths) → g.0 ≤ (guard_load c).0 → SoundPower c.setup (power a b false g)
  power_low a b g hg = record { guard = hg; stopped = λ e. absurd (false≢true e) }

  power_stopped : (a b s : Bool) → SoundPower c.setup (power a b s (sixteenths 0))
  power_stopped a b s = record { guard = omega arith; stopped = λ e. refl }

  pub sound_standby_begun : Sound w (standby_begun c)
  sound_standby_begun = sound_power h _ (power_stopped c.power.ready c.power.wakeup true)

  pub sound_standby_ended : Sound w (standby_ended c)
  sound_standby_ended = sound_power h _ (power_low c.power.ready c.power.wakeup _ (omega arith))

module _ {w : ℕ} {c : Core} (source : ℕ) (small : source ≤ 15) (h : Sound w c) where
  pub sound_raised : Sound w (raised source c)
  unfolding raised
  sound_raised =
      of_cond (Sound w) c.power.stby _ _ (λ e. sound_standby_ended (sound_interrupt h _ (or_lt 8 c.interrupt source h.interrupt (omega arith))))
      (λ e. sound_interrupt h _ (or_lt 8 c.interrupt (16 * source) h.interrupt (omega arith)))

-- ---- A tick, step by step

module _ {w : ℕ} {c : Core} (h : Sound w c) where
  sound_second_passed : Sound w (second_passed c)
  unfolding second_passed
  sound_second_passed =
      of_cond (Sound w) (afe c.rtc.registers && matches (alarm_of c.rtc.registers) (next (clock_of c.rtc.registers))) _ _
      (λ e. sound_raised RTC (omega arith) (sound_rtc h _ (second (bit_or c.rtc.flags ALARM_FLAG) (or_lt 2 c.rtc.flags ALARM_FLAG h.rtc.flags (omega arith)))))
      (λ e. sound_rtc h _ (second c.rtc.flags h.rtc.flags))
    where
      second : (f : ℕ) → f < 4 → SoundRtc (rtc (with_clock c.rtc.registers (next (clock_of c.rtc.registers))) (sixteenths 0) f c.rtc.watchdog)
      second f hf = sound_clock h.rtc _ (valid_next h.rtc) (sixteenths 0) (omega arith) f hf c.rtc.watchdog h.rtc.watchdog

  sound_clock_ticked : Sound w (clock_ticked c)
  unfolding clock_ticked
  sound_clock_ticked =
      of_cond (Sound w) (stopped c.rtc.registers) _ _ (λ e. h)
      (λ e. of_cond (Sound w) (fills_second (one_more c.rtc.sixteenths)) _ _ (λ l. sound_second_passed)
      (λ l. sound_rtc h _ (sound_timers h.rtc _ (unfilled (one_more c.rtc.sixteenths) l) _ h.rtc.flags _ h.rtc.watchdog)))

  sound_watchdog_ticked : Sound w (watchdog_ticked c)
  unfolding watchdog_ticked
  sound_watchdog_ticked =
      of_cond (Sound w) (eqb c.rtc.watchdog.0 0 || stopped c.rtc.registers) _ _ (λ e. h)
      (λ e. of_cond (Sound w) (eqb c.rtc.watchdog.0 1 && wdfen c.rtc.registers) _ _
      (λ l. sound_raised RTC (omega arith) (sound_rtc h _ (fewer (bit_or c.rtc.flags WATCHDOG_FLAG) (or_lt 2 c.rtc.flags WATCHDOG_FLAG h.rtc.flags (omega arith)))))
      (λ l. sound_rtc h _ (fewer c.rtc.flags h.rtc.flags)))
    where
      fewer : (f : ℕ) → f < 4 → SoundRtc (rtc c.rtc.registers c.rtc.sixteenths f (sixteenths (c.rtc.watchdog.0 - 1)))
      fewer f hf = sound_timers h.rtc _ h.rtc.sixteenths f hf _ (omega (arith, h.rtc.watchdog))

  sound_guard_ticked : Sound w (guard_ticked c)
  unfolding guard_ticked
  sound_guard_ticked =
      of_cond (Sound w) (eqb c.power.guard.0 0) _ _ (λ e. h)
      (λ e. of_cond (Sound w) (eqb c.power.guard.0 1 && guard_standby c) _ _ (λ l. sound_standby_begun h)
      (λ l. sound_power h _ (record { guard = omega (arith, h.power.guard); stopped = λ s. omega (arith, h.power.stopped s) })))

pub sound_ticked : {w : ℕ} {c : Core} → Sound w c → Sound w (ticked c)
unfolding ticked
sound_ticked h = sound_guard_ticked (sound_watchdog_ticked (sound_clock_ticked h))

-- ---- Keys

module _ {w : ℕ} {c : Core} (h : Sound w c) where
  counted_below : (new : ℕ) → new < 2 ^ w → counted c new < 2 ^ w
  counted_below new hn =
      of_cond (λ (n : ℕ). n < 2 ^ w) c.power.stby _ _
      (λ e. of_cond (λ (n : ℕ). n < 2 ^ w) (all_hot c) _ _ (λ a. hn) (λ a. lt_of_le_of_lt (and_le_l new c.keys.mask) hn)) (λ e. hn)

  sound_pressed : (new : ℕ) → new < 2 ^ w → Sound w (pressed c new)
  unfolding pressed
  sound_pressed new hn =
      of_cond (Sound w) (eqb (counted c new) 0) _ _ (λ e. h)
      (λ e. sound_raised KEY (omega arith) (sound_keys h _
      (record { mask = h.keys.mask; sample = h.keys.sample; accepted = h.keys.accepted; store = or_lt w c.keys.store (counted c new) h.keys.store (counted_below new hn) })))

pub sound_sampled : {w : ℕ} {c : Core} → Sound w c → (sample : ℕ) → sample < 2 ^ w → Sound w (sampled c sample)
unfolding sampled
sound_sampled {w} {c} h sample hs =
    of_cond (Sound w) (eqb sample c.keys.sample) _ _
    (λ e. sound_pressed (sound_keys h _ (record { mask = h.keys.mask; sample = hs; accepted = hs; store = h.keys.store })) (without sample c.keys.accepted)
    (lt_of_le_of_lt (and_le_l sample (4_294_967_295 - c.keys.accepted)) hs))
    (λ e. sound_keys h _ (record { mask = h.keys.mask; sample = hs; accepted = h.keys.accepted; store = h.keys.store }))

-- ---- Remote and pins

module _ {w : ℕ} {c : Core} (h : Sound w c) where
  pub sound_keyed : (command : ℕ) → command < 256 → Sound w (keyed c 0 command)
  unfolding keyed
  sound_keyed command hc = of_cond (Sound w) (c.power.stby && not (remote_wakes c)) _ _ (λ e. stored) (λ e. sound_raised REMOTE (omega arith) stored)
    where
      stored : Sound w (with_remote c (remote 1 0 command))
      stored = sound_remote h _ (record { fresh = omega arith; address = refl; command = hc; stale = λ e. absurd (omega arith) })

  pub sound_ready_set : (level : Bool) → Sound w (ready_set c level)
  unfolding ready_set
  sound_ready_set level =
      of_cond (Sound w) (beq level c.power.ready) _ _ (λ e. h)
      (λ e. of_cond (Sound w) level _ _ (λ l. sound_power h _ (power_stopped h true c.power.wakeup c.power.stby))
      (λ l. of_cond (Sound w) c.power.stby _ _ (λ s. fallen) (λ s. sound_standby_begun fallen)))
    where
      fallen : Sound w (with_power c (power false c.power.wakeup c.power.stby c.power.guard))
      fallen = sound_power h _ (record { guard = h.power.guard; stopped = h.power.stopped })

  pub sound_wake_up_set : (level : Bool) → Sound w (wake_up_set c level)
  unfolding wake_up_set
  sound_wake_up_set level =
      of_cond (Sound w) (beq level c.power.wakeup) _ _ (λ e. h)
      (λ e. of_cond (Sound w) (level && wake_up_counts c) _ _ (λ l. sound_raised WAKE_UP (omega arith) taken) (λ l. taken))
    where
      taken : Sound w (with_wake_up c level)
      taken = sound_power h _ (record { guard = h.power.guard; stopped = h.power.stopped })

-- ---- Power-up

pub sound_powered_up : (w : ℕ) → Sound w powered_up
unfolding valid_calendar clock_of month_length
sound_powered_up w =
    record {
      rtc = record {
        sized = refl;
        bytes = each_at (λ (x : ℕ). x < 256) (0 ∷ 0 ∷ 0 ∷ 0 ∷ 7 ∷ 1 ∷ 1 ∷ 0 ∷ 0 ∷ 0 ∷ 0 ∷ 0 ∷ 0 ∷ 0 ∷ 0 ∷ 0 ∷ []) 0
            (omega arith also omega arith also omega arith also omega arith also omega arith also omega arith also omega arith also omega arith
            also omega arith also omega arith also omega arith also omega arith also omega arith also omega arith also omega arith also omega arith also done)
            (omega arith);
        calendar = refl;
        reserved = refl;
        sixteenths = omega arith;
        flags = omega arith;
        watchdog = omega arith;
      };
      setup = record { configuration = omega arith; unnamed = refl; protocol = refl; value = omega arith };
      power = record { guard = omega arith; stopped = λ e. absurd (false≢true e) };
      keys = record { mask = pow_pos w; sample = pow_pos w; accepted = pow_pos w; store = pow_pos w };
      remote = record { fresh = omega arith; address = refl; command = omega arith; stale = λ e. refl };
      interrupt = omega arith;
    }
