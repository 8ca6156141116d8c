-- Document 01, "The image": every accepted command leaves a sound panel sound. Assumes nothing.
use Prim.Native.Nat.{ℕ, ◌+◌, ◌-◌, ◌≤◌, ◌<◌}
use mathlib.Core.Path.{◌≡◌, refl, sym, subst, ◌∙◌}
use mathlib.Core.Bool.{true, false, true≢false}
use mathlib.Core.List.{List}
use native.Mathlib.Omega.{arith}
use lib.Dec.{eqb}
use lib.ListN.{length, get_or}
use lib.Seq.{get_or-drop}
use borrow.Author.Tests.{not-false}
use Rattle.common.proofs.Choice.{of_cond}
use Rattle.common.proofs.Each.{each_at, done, ◌also◌}
use Rattle.command.specs.declared.Command.{Command}
use Rattle.command.specs.declared.Command.TheVariants.{Configure, ConfigureDigits, WriteDigits, WriteRegisters, ReadKeys, ReadRemote, ReadInterrupts, ReadRegisters, SetDisplay, SetHotKeys, Standby, ReloadGuard}
use Rattle.command.specs.Holds.{Configuration, Range, Holds}
use Rattle.registers.specs.Names.{at, WATCHDOG}
use Rattle.registers.specs.Written.{written}
use Rattle.registers.specs.Watchdog.{watchdog_load}
use Rattle.registers.proofs.Written.{written_length}
use Rattle.registers.proofs.Reserved.{written_clear, written_bytes}
use Rattle.timekeeper.specs.Clock.{valid_calendar}
use Rattle.units.specs.declared.Sixteenths.{Sixteenths}
use Rattle.controller.specs.declared.Core.{Core}
use Rattle.controller.specs.Sound.{Sound}
use Rattle.properties.proofs.SoundParts.{sound_rtc, sound_power, sound_setup, sound_keys, sound_remote, sound_interrupt, sound_timers}
use Rattle.properties.proofs.Sound.{sound_standby_begun}
use Rattle.effects.specs.Configure.{setup_of, configured, mask_set, guard_reloaded}
use Rattle.effects.specs.Write.{touched, calendar_touched, registers_written, calendar_lost}
use Rattle.effects.specs.Clear.{store_cleared, remote_cleared, interrupts_cleared}
use Rattle.display.specs.declared.Display.{Display}
use Rattle.panel.specs.declared.Panel.{Panel}
use Rattle.panel.specs.Display.{digits_set, display_set, digit_byte, digits_written}
use Rattle.effects.specs.Execute.{data_of, writes_no_calendar}
use Rattle.panel.specs.Execute.{executed}
use Rattle.image.specs.Sound.{SoundDisplay, SoundPanel}
use Rattle.demands.proofs.Commands.{untouched}

-- ---- The shared state

module _ {c : Core} (h : Sound 16 c) where
  module _ (low : c.power.stby ≡ false) where
    high_lost : {A : Type 0} → c.power.stby ≡ true → A
    high_lost e = absurd (true≢false (sym e ∙ low))

    sound_configured : (x b : ℕ) → Configuration x b → Sound 16 (configured x b c)
    unfolding configured
    sound_configured x b k =
        sound_setup h (setup_of x b) _ (record { configuration = k.six_bits; unnamed = k.b4_zero; protocol = k.protocol; value = omega arith })
        (record { guard = omega arith; stopped = λ e. high_lost e })

    sound_guard_reloaded : Sound 16 (guard_reloaded c)
    unfolding guard_reloaded
    sound_guard_reloaded =
        of_cond (Sound 16) (eqb c.power.guard.0 0) _ _ (λ e. h) (λ e. sound_power h _ (record { guard = omega arith; stopped = λ s. high_lost s }))

  sound_mask_set : (lo hi : ℕ) → lo < 256 → hi < 256 → Sound 16 (mask_set lo hi c)
  sound_mask_set lo hi a b = sound_keys h _ (record { mask = omega arith; sample = h.keys.sample; accepted = h.keys.accepted; store = h.keys.store })

  sound_store_cleared : Sound 16 (store_cleared c)
  sound_store_cleared = sound_keys h _ (record { mask = h.keys.mask; sample = h.keys.sample; accepted = h.keys.accepted; store = omega arith })

  sound_remote_cleared : Sound 16 (remote_cleared c)
  sound_remote_cleared = sound_remote h _ (record { fresh = omega arith; address = refl; command = omega arith; stale = λ e. refl })

  sound_interrupts_cleared : Sound 16 (interrupts_cleared c)
  sound_interrupts_cleared =
      sound_interrupt (sound_rtc h _ (sound_timers h.rtc _ h.rtc.sixteenths 0 (omega arith) _ h.rtc.watchdog)) 0 (omega arith)

-- ---- 50h

module _ {c : Core} (h : Sound 16 c) (a : ℕ) (bytes : List ℕ) (most : a ≤ 15) (small : (i : ℕ) → get_or bytes i 0 < 256) where
  abbrev new : List ℕ
  new = written c.rtc.registers a bytes

  within : a ≤ length c.rtc.registers
  within = omega (arith, h.rtc.sized)

  -- a watchdog that is not reloaded stays within what its register loads
  left_kept : touched a (length bytes) WATCHDOG ≡ false → c.rtc.watchdog.0 ≤ (watchdog_load (at new WATCHDOG)).0
  left_kept t =
      subst (λ (x : ℕ). c.rtc.watchdog.0 ≤ (watchdog_load x).0) (sym (untouched c.rtc.registers a bytes within WATCHDOG t)) h.rtc.watchdog

  sound_registers_written : calendar_lost a bytes c ≡ false → Sound 16 (registers_written a bytes c)
  unfolding registers_written
  sound_registers_written kept =
      sound_rtc h _
      (record {
        sized = written_length c.rtc.registers a bytes ∙ h.rtc.sized;
        bytes = written_bytes c.rtc.registers a bytes within h.rtc.bytes small;
        calendar = not-false (valid_calendar new) kept;
        reserved = written_clear c.rtc.registers a bytes within h.rtc.sized h.rtc.reserved;
        sixteenths = of_cond (λ (x : Sixteenths). x.0 < 16) (calendar_touched a (length bytes)) _ _ (λ t. omega arith) (λ t. h.rtc.sixteenths);
        flags = h.rtc.flags;
        watchdog = of_cond (λ (x : Sixteenths). x.0 ≤ (watchdog_load (at new WATCHDOG)).0) (touched a (length bytes) WATCHDOG) _ _ (λ t. omega arith) left_kept;
      })

-- ---- The display

module _ {d : Display} (h : SoundDisplay d) where
  sound_digits_set : (n : ℕ) → Range 1 5 n → SoundDisplay (digits_set n d)
  unfolding digits_set
  sound_digits_set n r =
      of_cond SoundDisplay (eqb n d.digits) _ _ (λ e. h)
      (λ e. record { some = r.least; most = r.most; control = omega arith; sized = h.sized; bytes = h.bytes })

  sound_display_set : (x : ℕ) → x < 32 → SoundDisplay (display_set x d)
  sound_display_set x l = record { some = h.some; most = h.most; control = l; sized = h.sized; bytes = h.bytes }

  module _ (a : ℕ) (bytes : List ℕ) (small : (i : ℕ) → get_or bytes i 0 < 256) where
    digit_small : (x i : ℕ) → digit_byte a bytes x (get_or d.bytes i 0) < 256
    digit_small x i = of_cond (λ (b : ℕ). b < 256) (touched a (length bytes) x) _ _ (λ t. small (x - a)) (λ t. h.bytes i)

    sound_digits_written : SoundDisplay (digits_written a bytes d)
    unfolding digits_written
    sound_digits_written =
        record {
          some = h.some;
          most = h.most;
          control = h.control;
          sized = refl;
          bytes = each_at (λ (b : ℕ). b < 256) _ 0
              (digit_small 0x10 0 also digit_small 0x11 1 also digit_small 0x12 2 also digit_small 0x13 3 also digit_small 0x14 4 also done) (omega arith);
        }

-- ---- EVERY COMMAND

module _ {p : Panel} (h : SoundPanel p) (s : List ℕ) (small : (i : ℕ) → get_or s i 0 < 256) (room : ℕ) where
  data_small : (i : ℕ) → get_or (data_of s) i 0 < 256
  data_small i = subst (λ (b : ℕ). b < 256) (sym (get_or-drop 2 s i 0)) (small (2 + i))

  on_core_lem : (c : Core) → Sound 16 c → SoundPanel (record { core = c; display = p.display })
  on_core_lem c k = record { core = k; display = h.display }

  on_display : (d : Display) → SoundDisplay d → SoundPanel (record { core = p.core; display = d })
  on_display d k = record { core = h.core; display = k }

  pub sound_executed : p.core.power.stby ≡ false → (k : Command) → Holds s room k → writes_no_calendar p.core k s ≡ false → SoundPanel (executed p k s)
  sound_executed low (Configure x b) k n = on_core_lem _ (sound_configured h.core low x b k)
  sound_executed low (ConfigureDigits x b d) k n = record { core = sound_configured h.core low x b k.0; display = sound_digits_set h.display d k.1 }
  sound_executed low (WriteDigits a) k n = on_display _ (sound_digits_written h.display a (data_of s) data_small)
  sound_executed low (WriteRegisters a) k n = on_core_lem _ (sound_registers_written h.core a (data_of s) k.0.most data_small n)
  sound_executed low ReadKeys k n = on_core_lem _ (sound_store_cleared h.core)
  sound_executed low ReadRemote k n = on_core_lem _ (sound_remote_cleared h.core)
  sound_executed low ReadInterrupts k n = on_core_lem _ (sound_interrupts_cleared h.core)
  sound_executed low (ReadRegisters a) k n = h
  sound_executed low (SetDisplay x) k n = on_display _ (sound_display_set h.display x k)
  sound_executed low (SetHotKeys lo hi) k n = on_core_lem _ (sound_mask_set h.core lo hi (omega (arith, k.0, small 1)) (omega (arith, k.1, small 2)))
  sound_executed low Standby k n = on_core_lem _ (sound_standby_begun h.core)
  sound_executed low ReloadGuard k n = on_core_lem _ (sound_guard_reloaded h.core low)
