-- A supply return from a sound state leaves a sound state. Assumes nothing.
use Prim.Native.Nat.{ℕ, zero, suc, ◌<◌}
use mathlib.Core.Path.{refl}
use mathlib.Core.List.{List, [], ◌∷◌}
use native.Mathlib.Omega.{arith}
use lib.Bits.{bit_or, or_lt}
use lib.Dec.{lit<}
use lib.ListN.{get_or}
use Rattle.common.specs.Bits.{bit_set}
use Rattle.common.proofs.Choice.{of_cond}
use Rattle.calendar.specs.Clock.{moved}
use Rattle.calendar.proofs.Moved.{moved_valid}
use Rattle.registers.specs.Names.{stopped}
use Rattle.timekeeper.specs.Clock.{clock_of}
use Rattle.controller.specs.declared.Core.{Core}
use Rattle.controller.specs.declared.Rtc.{Rtc}
use Rattle.controller.specs.State.{rtc, sixteenths, ALARM_FLAG}
use Rattle.controller.specs.Sound.{SoundRtc, Sound}
use Rattle.properties.proofs.SoundParts.{sound_rtc, sound_interrupt, sound_clock, sound_timers}
use Rattle.properties.proofs.Sound.{sound_powered_up}
use Rattle.panel.specs.declared.Panel.{Panel}
use Rattle.panel.specs.PowerUp.{panel_powered_up}
use Rattle.image.specs.Sound.{SoundDisplay, SoundPanel}
use Rattle.supply.specs.Return.{registers_returned, match_counts, flags_returned, rtc_returned, interrupt_for, returned, panel_returned}

flags_small : (n : ℕ) (rs : List ℕ) (f : ℕ) → f < 4 → flags_returned n rs f < 4
unfolding flags_returned
flags_small n rs f h = of_cond (λ (x : ℕ). x < 4) (match_counts n rs) (bit_or f ALARM_FLAG) f (λ e. or_lt 2 f ALARM_FLAG h (lit< tt)) (λ e. h)

sound_rtc_returned : (n : ℕ) (r : Rtc) → SoundRtc r → SoundRtc (rtc_returned n r)
unfolding registers_returned
sound_rtc_returned n r h =
    of_cond (λ (rs : List ℕ). SoundRtc (rtc rs r.sixteenths (flags_returned n r.registers r.flags) (sixteenths 0))) (stopped r.registers) _ _
    (λ e. sound_timers h r.sixteenths h.sixteenths _ small (sixteenths 0) (omega arith))
    (λ e. sound_clock h (moved (clock_of r.registers) n) (moved_valid (clock_of r.registers) n) r.sixteenths h.sixteenths _ small (sixteenths 0) (omega arith))
  where
    small : flags_returned n r.registers r.flags < 4
    small = flags_small n r.registers r.flags h.flags

interrupt_small : (f : ℕ) → interrupt_for f < 256
interrupt_small f = of_cond (λ (x : ℕ). x < 256) (bit_set f ALARM_FLAG) 16 0 (λ e. lit< tt) (λ e. lit< tt)

-- of a panel kind with any number of keys
pub sound_core_returned : {w : ℕ} {c : Core} (n : ℕ) → Sound w c → Sound w (returned n c)
sound_core_returned {w} {c} n h =
    sound_interrupt (sound_rtc (sound_powered_up w) (rtc_returned n c.rtc) (sound_rtc_returned n c.rtc h.rtc)) _ (interrupt_small (flags_returned n c.rtc.registers c.rtc.flags))

blank : (i : ℕ) → get_or (0 ∷ 0 ∷ 0 ∷ 0 ∷ 0 ∷ []) i 0 < 256
blank zero = lit< tt
blank (suc zero) = lit< tt
blank (suc (suc zero)) = lit< tt
blank (suc (suc (suc zero))) = lit< tt
blank (suc (suc (suc (suc zero)))) = lit< tt
blank (suc (suc (suc (suc (suc i))))) = lit< tt

sound_blank : SoundDisplay panel_powered_up.display
sound_blank = record { some = omega arith; most = omega arith; control = omega arith; sized = refl; bytes = blank }

pub sound_powered : SoundPanel panel_powered_up
sound_powered = record { core = sound_powered_up 16; display = sound_blank }

pub sound_returned : (n : ℕ) (p : Panel) → SoundPanel p → SoundPanel (panel_returned n p)
sound_returned n p h = record { core = sound_core_returned n h.core; display = sound_blank }
