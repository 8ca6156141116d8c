-- A clock set after power-up, then a tick, a sample and READY; an alarm set, then READY and any number of ticks: what read-back asks can
-- be had. Assumes nothing.
use Prim.Native.Nat.{ℕ, zero, suc, ◌≤◌, ◌<◌}
use mathlib.Core.Path.{◌≡◌, refl, ap, ◌∙◌}
use mathlib.Core.Bool.{Bool, false, not, ◌&&◌, and-false}
use mathlib.Core.List.{List, [], ◌∷◌}
use native.Mathlib.Omega.{arith}
use lib.Dec.{eqb, lit<}
use lib.ListN.{get_or}
use Rattle.common.specs.Fill.{up_to}
use Rattle.common.proofs.Each.{each_at, done, ◌also◌}
use Rattle.calendar.specs.Date.{month_length}
use Rattle.command.specs.Refusals.{bytes_needed, room_needed, grounds_by}
use Rattle.command.specs.Decode.{command_by}
use Rattle.registers.specs.Names.{SECONDS, YEAR, ALARM_MONTH, ALARM_HOUR}
use Rattle.registers.specs.Written.{stored, written}
use Rattle.timekeeper.specs.Clock.{clock_of, valid_calendar}
use Rattle.controller.specs.Keys.{sampled, pressed}
use Rattle.controller.specs.Pins.{ready_set}
use Rattle.controller.specs.Standby.{raised}
use Rattle.controller.specs.Tick.{second_passed, clock_ticked, watchdog_ticked, guard_ticked, ticked}
use Rattle.effects.specs.Write.{registers_written}
use Rattle.output.specs.Output.{answered}
use Rattle.properties.specs.Causes.{second_passes}
use Rattle.properties.proofs.Guard.{stopped_ticked}
use Rattle.panel.specs.declared.Panel.{Panel}
use Rattle.panel.specs.PowerUp.{panel_powered_up}
use Rattle.image.specs.Image.{registers_in, decoded, encoded}
use Rattle.validity.specs.Valid.{is_valid}
use Rattle.supply.proofs.Sound.{sound_powered}
use Rattle.stled325.specs.Outcome.{decided}
use Rattle.demands.specs.Event.{tick, sample, ready, Given, after, ValidImage, stby}
use Rattle.demands.specs.Clock.{changes_register, Step, after_all, AllGiven, Quiet}
use Rattle.demands.proofs.Refusals.{grounds_exact}
use Rattle.demands.proofs.Valid.{valid_sound, sound_valid, accepted_panel, stays_valid}
use Rattle.demands.proofs.Clock.{time_apart}
use Rattle.demands.proofs.ReadBack.{write, read, read_back_byte, read_back_all}

abbrev fresh : List ℕ
fresh = encoded panel_powered_up

pub fresh_valid : ValidImage fresh
fresh_valid = sound_valid sound_powered

-- ---- The time 12.34:56, from 01h on

abbrev time : List ℕ
time = 0x56 ∷ 0x34 ∷ 0x12 ∷ []

abbrev set : List ℕ
set = (after (write 1 time) fresh []).image

abbrev steps : List Step
steps = record { event = tick; output = [] } ∷ record { event = sample 1; output = [] } ∷ record { event = ready 1; output = [] } ∷ []

pub time_given : Given (write 1 time)
time_given = each_at (λ (b : ℕ). b < 256) (0x50 ∷ 1 ∷ time) 0 (lit< tt also lit< tt also lit< tt also lit< tt also lit< tt also done) (lit< tt)

pub time_accepted : (after (write 1 time) fresh []).number ≡ 0
unfolding decided is_valid grounds_by bytes_needed room_needed command_by written stored valid_calendar clock_of month_length
time_accepted = refl

pub steps_given : AllGiven steps
steps_given = (tt, (lit< tt, (tt, tt)))

pub steps_quiet : (k : ℕ) → Quiet k steps set
unfolding decided is_valid grounds_by bytes_needed room_needed command_by written stored valid_calendar clock_of month_length registers_written
    second_passes ticked guard_ticked watchdog_ticked clock_ticked second_passed raised sampled pressed
steps_quiet k = (refl, (refl, (refl, tt)))

pub steps_awake : stby (after_all steps set) ≡ false
unfolding decided is_valid grounds_by bytes_needed room_needed command_by written stored valid_calendar clock_of month_length registers_written
    ticked guard_ticked watchdog_ticked clock_ticked second_passed raised sampled pressed ready_set
steps_awake = refl

-- 70h replies the time that was set
pub time_read_back : (after (read 1 []) (after_all steps set) (0 ∷ 0 ∷ 0 ∷ [])).output ≡ time
unfolding answered up_to written stored
time_read_back =
    (read_back_all fresh_valid 1 time time_given [] time_accepted steps steps_given (λ k m. steps_quiet k) steps_awake 1 (omega arith) [] (0 ∷ 0 ∷ 0 ∷ [])).1

-- ---- An alarm every day at 07:30:00, from 0Ah on, then READY, which stops the guard: no number of ticks changes it

abbrev alarm : List ℕ
alarm = 0xA0 ∷ 0xC0 ∷ 0x47 ∷ 0x30 ∷ 0x00 ∷ []

abbrev armed : List ℕ
armed = (after (write ALARM_MONTH alarm) fresh []).image

abbrev running : List ℕ
running = (after (ready 1) armed []).image

unfoldable pub ticks : ℕ → List Step
ticks zero = []
ticks (suc n) = record { event = tick; output = [] } ∷ ticks n

ticks_given : (n : ℕ) → AllGiven (ticks n)
unfolding ticks
ticks_given zero = tt
ticks_given (suc n) = (tt, ticks_given n)

ticks_quiet : (k : ℕ) → (SECONDS ≤ k → k ≤ YEAR → ⊥) → (n : ℕ) (l : List ℕ) → Quiet k (ticks n) l
unfolding ticks
ticks_quiet k h zero l = tt
ticks_quiet k h (suc n) l =
    let a = eqb (after tick l []).number 0 in
    let b = second_passes (decoded l).core in
    (ap (λ (x : Bool). a && (b && x)) (time_apart (registers_in l) k refl h 1) ∙ ap (λ (x : Bool). a && x) (and-false b) ∙ and-false a, ticks_quiet k h n (after tick l []).image)

-- with the guard stopped STBY stays low
ticks_awake : (n : ℕ) {l : List ℕ} → ValidImage l → stby l ≡ false → (decoded l).core.power.guard.0 ≡ 0 → stby (after_all (ticks n) l) ≡ false
unfolding ticks
ticks_awake zero v low z = low
ticks_awake (suc n) {l} v low z =
    let p = accepted_panel v tick tt [] ((grounds_exact tick l []).accepted (ap not v.valid, tt)) in
    let rests = stopped_ticked (decoded l).core low (valid_sound v).core z in
    ticks_awake n (stays_valid v tick tt []) (ap (λ (x : Panel). x.core.power.stby) p ∙ rests.0) (ap (λ (x : Panel). x.core.power.guard.0) p ∙ rests.1)

alarm_given : Given (write ALARM_MONTH alarm)
alarm_given =
    each_at (λ (b : ℕ). b < 256) (0x50 ∷ ALARM_MONTH ∷ alarm) 0
    (lit< tt also lit< tt also lit< tt also lit< tt also lit< tt also lit< tt also lit< tt also done) (lit< tt)

alarm_accepted : (after (write ALARM_MONTH alarm) fresh []).number ≡ 0
unfolding decided is_valid grounds_by bytes_needed room_needed command_by written stored valid_calendar clock_of month_length
alarm_accepted = refl

running_valid : ValidImage running
running_valid = stays_valid (stays_valid fresh_valid (write ALARM_MONTH alarm) alarm_given []) (ready 1) tt []

running_awake : stby running ≡ false
unfolding decided is_valid grounds_by bytes_needed room_needed command_by written stored valid_calendar clock_of month_length registers_written ready_set
running_awake = refl

guard_stopped_lem : (decoded running).core.power.guard.0 ≡ 0
unfolding decided is_valid grounds_by bytes_needed room_needed command_by written stored valid_calendar clock_of month_length registers_written ready_set
guard_stopped_lem = refl

ready_quiet : changes_register ALARM_HOUR (ready 1) armed [] ≡ false
ready_quiet = and-false (eqb (after (ready 1) armed []).number 0)

-- after any number of ticks 70h replies the hour of the alarm
pub alarm_hour_read_back : (n : ℕ) → get_or (after (read ALARM_HOUR []) (after_all (ticks n) running) (0 ∷ [])).output 0 0 ≡ 0x47
alarm_hour_read_back n =
    read_back_byte fresh_valid ALARM_MONTH alarm alarm_given [] alarm_accepted ALARM_HOUR (omega arith) (record { event = ready 1; output = [] } ∷ ticks n)
    (tt, ticks_given n) (ready_quiet, ticks_quiet ALARM_HOUR (λ l m. omega arith) n running) (ticks_awake n running_valid running_awake guard_stopped_lem)
    ALARM_HOUR (omega arith) [] (0 ∷ []) (omega arith) 2 (omega arith) refl
