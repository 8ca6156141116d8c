-- A sound state stays sound where one part is replaced by a sound one. Assumes nothing.
use Prim.Native.Nat.{ℕ, ◌≤◌, ◌<◌}
use mathlib.Core.Path.{sym, subst}
use Rattle.calendar.specs.declared.Clock.{Clock}
use Rattle.calendar.specs.Clock.{Valid}
use Rattle.calendar.specs.Carry.{next}
use Rattle.calendar.proofs.Moved.{moved_valid}
use Rattle.calendar.proofs.Carry.{next_moved}
use Rattle.units.specs.declared.Sixteenths.{Sixteenths}
use Rattle.registers.specs.Names.{at, MONTH, WATCHDOG}
use Rattle.registers.specs.Watchdog.{watchdog_load}
use Rattle.timekeeper.specs.Clock.{clock_of, with_clock}
use Rattle.timekeeper.proofs.Clock.{valid_clock, valid_with}
use Rattle.timekeeper.proofs.Apart.{with_length, with_bytes, with_clear, with_watchdog}
use Rattle.controller.specs.declared.Core.{Core}
use Rattle.controller.specs.declared.Rtc.{Rtc}
use Rattle.controller.specs.declared.Power.{Power}
use Rattle.controller.specs.declared.Setup.{Setup}
use Rattle.controller.specs.declared.Keys.{Keys}
use Rattle.controller.specs.declared.Remote.{Remote}
use Rattle.controller.specs.State.{with_rtc, with_power, with_setup, with_keys, with_remote, with_interrupt, rtc}
use Rattle.controller.specs.Sound.{Sound, SoundRtc, SoundPower, SoundSetup, SoundKeys, SoundRemote}

-- ---- One part replaced

module _ {w : ℕ} {c : Core} (h : Sound w c) where
  pub sound_rtc : (x : Rtc) → SoundRtc x → Sound w (with_rtc c x)
  sound_rtc x s = record { rtc = s; setup = h.setup; power = h.power; keys = h.keys; remote = h.remote; interrupt = h.interrupt }

  pub sound_power : (x : Power) → SoundPower c.setup x → Sound w (with_power c x)
  sound_power x s = record { rtc = h.rtc; setup = h.setup; power = s; keys = h.keys; remote = h.remote; interrupt = h.interrupt }

  -- the guard value bounds the guard, so the setup goes with the power part
  pub sound_setup : (s : Setup) (x : Power) → SoundSetup s → SoundPower s x → Sound w (with_power (with_setup c s) x)
  sound_setup s x hs hx = record { rtc = h.rtc; setup = hs; power = hx; keys = h.keys; remote = h.remote; interrupt = h.interrupt }

  pub sound_keys : (x : Keys) → SoundKeys w x → Sound w (with_keys c x)
  sound_keys x s = record { rtc = h.rtc; setup = h.setup; power = h.power; keys = s; remote = h.remote; interrupt = h.interrupt }

  pub sound_remote : (x : Remote) → SoundRemote x → Sound w (with_remote c x)
  sound_remote x s = record { rtc = h.rtc; setup = h.setup; power = h.power; keys = h.keys; remote = s; interrupt = h.interrupt }

  pub sound_interrupt : (x : ℕ) → x < 256 → Sound w (with_interrupt c x)
  sound_interrupt x s = record { rtc = h.rtc; setup = h.setup; power = h.power; keys = h.keys; remote = h.remote; interrupt = s }

-- ---- The clock registers

module _ {r : Rtc} (h : SoundRtc r) where
  -- the calendar of a sound state exists, and so does the next second
  pub valid_clock_of : Valid (clock_of r.registers)
  valid_clock_of = valid_clock r.registers h.calendar (h.bytes MONTH)

  pub valid_next : Valid (next (clock_of r.registers))
  valid_next = subst Valid (sym (next_moved (clock_of r.registers) valid_clock_of)) (moved_valid (clock_of r.registers) 1)

  -- another calendar that exists, with sixteenths, flags and a watchdog in their ranges
  pub sound_clock : (k : Clock) → Valid k → (s : Sixteenths) → s.0 < 16 → (f : ℕ) → f < 4 → (left : Sixteenths) → left.0 ≤ (watchdog_load (at r.registers WATCHDOG)).0
      → SoundRtc (rtc (with_clock r.registers k) s f left)
  sound_clock k v s hs f hf left hl =
      record {
        sized = with_length r.registers k;
        bytes = with_bytes r.registers k h.bytes;
        calendar = valid_with r.registers k v;
        reserved = with_clear r.registers k v h.reserved;
        sixteenths = hs;
        flags = hf;
        watchdog = subst (λ (b : ℕ). left.0 ≤ (watchdog_load b).0) (sym (with_watchdog r.registers k)) hl;
      }

  -- the same registers
  pub sound_timers : (s : Sixteenths) → s.0 < 16 → (f : ℕ) → f < 4 → (left : Sixteenths) → left.0 ≤ (watchdog_load (at r.registers WATCHDOG)).0 → SoundRtc (rtc r.registers s f left)
  sound_timers s hs f hf left hl =
      record { sized = h.sized; bytes = h.bytes; calendar = h.calendar; reserved = h.reserved; sixteenths = hs; flags = hf; watchdog = hl }
