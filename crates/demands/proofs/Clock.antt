-- Demand 2: a clock register changes by time, a 50h with a byte for it and power-up alone, whatever bytes the image held. Assumes
-- nothing.
use Prim.Native.Nat.{ℕ, ◌≤◌, ◌<◌}
use mathlib.Core.Path.{◌≡◌, refl, sym, ap, ◌∙◌}
use mathlib.Core.Bool.{true, false, not, true≢false}
use mathlib.Core.Logic.{⊎_elim}
use mathlib.Core.List.{List, [], ◌∷◌}
use lib.Dec.{eqb}
use lib.ListN.{length}
use borrow.Author.Tests.{eqb-true, eqb-false, eq-eqb, not-false}
use Rattle.common.proofs.Choice.{of_cond, by_cases, not_other}
use Rattle.std.specs.Prelude.{Option, Some, None}
use Rattle.remote.specs.declared.RemoteKey.{RemoteKey}
use Rattle.remote.specs.Frame.{key_of}
use Rattle.command.specs.Codes.{WRITE_REGISTERS}
use Rattle.command.specs.Decode.{command_of}
use Rattle.command.specs.Refusals.{byte}
use Rattle.calendar.specs.declared.Clock.{Clock}
use Rattle.calendar.specs.Clock.{moved}
use Rattle.calendar.proofs.Moved.{moved_none}
use Rattle.calendar.proofs.Carry.{next_moved}
use Rattle.registers.specs.Names.{at, SECONDS, MONTH, YEAR, stopped}
use Rattle.timekeeper.specs.Clock.{clock_of, valid_calendar, with_clock}
use Rattle.timekeeper.proofs.Clock.{valid_clock, with_clock_lem}
use Rattle.timekeeper.proofs.Apart.{with_at}
use Rattle.controller.specs.declared.Core.{Core}
use Rattle.controller.specs.declared.Rtc.{Rtc}
use Rattle.controller.specs.Sound.{SoundRtc}
use Rattle.properties.specs.Causes.{second_passes}
use Rattle.properties.proofs.SoundParts.{valid_clock_of}
use Rattle.properties.proofs.Kept.{registers_ticked, rtc_sampled, rtc_keyed, rtc_ready_set, rtc_wake_up_set}
use Rattle.effects.specs.Write.{touched}
use Rattle.effects.specs.Execute.{data_of}
use Rattle.panel.specs.declared.Panel.{Panel}
use Rattle.image.specs.Layout.{Bytes}
use Rattle.image.specs.Image.{registers_in, decoded}
use Rattle.supply.specs.Return.{registers_returned}
use Rattle.supply.proofs.Returns.{registers_stopped, registers_running}
use Rattle.stled325.specs.Calls.{high, keyed_by}
use Rattle.demands.specs.Event.{Event, power_up, tick, sample, frame, ready, wake_up, command, show, lines, supply_return, Given, panel_after, after, ValidImage}
use Rattle.demands.specs.Clock.{time_changes, writes_register, changes_register, Step, after_all, AllGiven, Quiet}
use Rattle.demands.proofs.Refusals.{refused_untouched}
use Rattle.demands.proofs.Commands.{write_byte, registers_executed, written_apart}
use Rattle.demands.proofs.Valid.{valid_sound, command_holds, power_up_or_valid, accepted_panel, stays_valid}

-- ---- Time

module _ (rs : List ℕ) (k : ℕ) where
  unchanged : (n : ℕ) → time_changes k rs n ≡ false → at (with_clock rs (moved (clock_of rs) n)) k ≡ at rs k
  unfolding time_changes
  unchanged n e = eqb-true _ _ (not-false (eqb (at (with_clock rs (moved (clock_of rs) n)) k) (at rs k)) e)

  module _ (sized : length rs ≡ 16) where
    -- it changes none but 01h to 07h
    pub time_apart : (SECONDS ≤ k → k ≤ YEAR → ⊥) → (n : ℕ) → time_changes k rs n ≡ false
    unfolding time_changes
    time_apart h n = ap not (eq-eqb _ _ (with_at rs (moved (clock_of rs) n) sized k h))

    -- and of a valid calendar none in no seconds
    pub time_none : valid_calendar rs ≡ true → at rs MONTH < 256 → time_changes k rs 0 ≡ false
    unfolding time_changes
    time_none v b = ap not (eq-eqb _ _ (ap (λ (x : List ℕ). at x k) (ap (with_clock rs) (moved_none (clock_of rs) (valid_clock rs v b)) ∙ with_clock_lem rs v sized b)))

-- ---- One event

rtc_keyed_by : (c : Core) (r : Option RemoteKey) → (keyed_by r c).rtc ≡ c.rtc
rtc_keyed_by c (Some k) = rtc_keyed c k.address k.command
rtc_keyed_by c None = refl

module _ {l : List ℕ} (v : ValidImage l) (k : ℕ) where
  abbrev c : Core
  c = (decoded l).core

  abbrev rs : List ℕ
  rs = registers_in l

  abbrev same : List ℕ → Type 0
  same x = at x k ≡ at rs k

  sound : SoundRtc c.rtc
  sound = (valid_sound v).core.rtc

  abbrev at_k : Rtc → ℕ
  at_k r = at r.registers k

  kept_tick : writes_register k tick c ≡ false → same (panel_after tick (decoded l)).core.rtc.registers
  kept_tick n =
      ap (λ (x : List ℕ). at x k) (registers_ticked c)
      ∙ of_cond same (second_passes c) _ _
      (λ p. ap (λ (x : Clock). at (with_clock rs x) k) (next_moved (clock_of rs) (valid_clock_of sound))
      ∙ unchanged rs k 1 (not_other (second_passes c) (time_changes k rs 1) p n))
      (λ p. refl)

  kept_return : (n : ℕ) → writes_register k (supply_return n) c ≡ false → same (registers_returned n rs)
  kept_return n w =
      by_cases (same (registers_returned n rs)) (stopped rs) (λ s. ap (λ (x : List ℕ). at x k) (registers_stopped rs n s))
      (λ s. ap (λ (x : List ℕ). at x k) (registers_running rs n s) ∙ unchanged rs k n (not_other (not (stopped rs)) (time_changes k rs n) (ap not s) w))

  -- a command: 50h leaves what no data byte goes to, all others everything
  kept_command : (s o : List ℕ) → (after (command s) l o).number ≡ 0 → writes_register k (command s) c ≡ false → same (panel_after (command s) (decoded l)).core.rtc.registers
  kept_command s o a w =
      by_cases (same (panel_after (command s) (decoded l)).core.rtc.registers) (eqb (byte s 0) WRITE_REGISTERS)
      (λ t. written_apart (decoded l) s refl (eqb-true _ _ t) (length o) (command_holds s l o a) k (not_other (eqb (byte s 0) WRITE_REGISTERS) (touched (byte s 1) (length (data_of s)) k) t w))
      (λ f. ap (λ (x : List ℕ). at x k) (registers_executed (decoded l) s (command_of s) (write_byte (byte s 0) (byte s 1) (byte s 2) ∙ f)))

  kept_each : (e : Event) (o : List ℕ) → (after e l o).number ≡ 0 → writes_register k e c ≡ false → same (panel_after e (decoded l)).core.rtc.registers
  kept_each power_up o a n = absurd (true≢false n)
  kept_each tick o a n = kept_tick n
  kept_each (sample x) o a n = ap at_k (rtc_sampled c x)
  kept_each (frame x) o a n = ap at_k (rtc_keyed_by c (key_of c.setup.protocol x))
  kept_each (ready level) o a n = ap at_k (rtc_ready_set c (high level))
  kept_each (wake_up level) o a n = ap at_k (rtc_wake_up_set c (high level))
  kept_each (command s) o a n = kept_command s o a n
  kept_each show o a n = refl
  kept_each lines o a n = refl
  kept_each (supply_return x) o a n = kept_return x n

  kept_of_valid : (e : Event) → Given e → (o : List ℕ) → (after e l o).number ≡ 0 → writes_register k e c ≡ false → same (registers_in (after e l o).image)
  kept_of_valid e g o a n = ap (λ (p : Panel). at p.core.rtc.registers k) (accepted_panel v e g o a) ∙ kept_each e o a n

-- ---- EVERY OTHER EVENT, refused ones among them, leaves register k as it was

pub clock_kept : (l : List ℕ) → Bytes l → (e : Event) → Given e → (o : List ℕ) (k : ℕ) → changes_register k e l o ≡ false → at (registers_in (after e l o).image) k ≡ at (registers_in l) k
clock_kept l small e g o k n =
    by_cases (at (registers_in (after e l o).image) k ≡ at (registers_in l) k) (eqb (after e l o).number 0)
    (λ z. kept (eqb-true _ 0 z) (not_other (eqb (after e l o).number 0) (writes_register k e (decoded l).core) z n))
    (λ z. ap (λ (x : List ℕ). at (registers_in x) k) (refused_untouched e l o (eqb-false _ 0 z)).0)
  where
    kept : (after e l o).number ≡ 0 → writes_register k e (decoded l).core ≡ false → at (registers_in (after e l o).image) k ≡ at (registers_in l) k
    kept a w =
        ⊎_elim (λ (p : e ≡ power_up). absurd (true≢false (sym (ap (λ (x : Event). writes_register k x (decoded l).core) p) ∙ w)))
        (λ (v : ValidImage l). kept_of_valid v k e g o a w) (power_up_or_valid l small e o a)

-- ---- Events one after the other

pub all_valid : (xs : List Step) {l : List ℕ} → ValidImage l → AllGiven xs → ValidImage (after_all xs l)
all_valid [] v g = v
all_valid (x ∷ xs) v g = all_valid xs (stays_valid v x.event g.0 x.output) g.1

pub all_kept : (k : ℕ) (xs : List Step) {l : List ℕ} → ValidImage l → AllGiven xs → Quiet k xs l → at (registers_in (after_all xs l)) k ≡ at (registers_in l) k
all_kept k [] v g q = refl
all_kept k (x ∷ xs) {l} v g q =
    all_kept k xs (stays_valid v x.event g.0 x.output) g.1 q.1 ∙ clock_kept l v.bytes x.event g.0 x.output k q.0
