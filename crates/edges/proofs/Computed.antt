-- The outcome of an event in a form that computes at once, and the law that it is the outcome. Assumes nothing.
use Prim.Native.Nat.{ℕ}
use mathlib.Core.Path.{◌≡◌, refl, ap, ◌∙◌}
use mathlib.Core.Bool.{Bool, cond, not, ◌&&◌}
use mathlib.Core.List.{List, []}
use lib.Bits.{bit_or}
use lib.Dec.{leb}
use Rattle.common.proofs.Choice.{of_cond}
use Rattle.alarm.specs.declared.Alarm.{Alarm}
use Rattle.calendar.specs.declared.Clock.{Clock}
use Rattle.alarm.specs.Match.{matches}
use Rattle.alarm.specs.Reached.{any_reached}
use Rattle.registers.specs.Names.{stopped, afe, abe}
use Rattle.timekeeper.specs.Clock.{clock_of}
use Rattle.timekeeper.specs.Alarm.{alarm_of}
use Rattle.controller.specs.declared.Rtc.{Rtc}
use Rattle.controller.specs.State.{rtc, sixteenths, ALARM_FLAG}
use Rattle.panel.specs.State.{with_core}
use Rattle.panel.specs.PowerUp.{panel_powered_up}
use Rattle.image.specs.Image.{rtc_in, registers_in, encoded}
use Rattle.supply.specs.Return.{registers_returned, match_counts, flags_returned, core_returned}
use Rattle.stled325.specs.Outcome.{Outcome, decided}
use Rattle.stled325.specs.Calls.{supply_grounds, supply_return_call}
use Rattle.edges.specs.Entry.{Event, ticks, command, frame, supply_return, outcome_of}
use Rattle.edges.proofs.Daily.{daily, seconds_to, daily_reached}

-- whether one of n seconds reached matches: of a daily alarm by one comparison, of any other by all the seconds
abbrev pub any_by : Alarm → Clock → ℕ → Bool
any_by a c n = cond (daily a) (leb (seconds_to a c) n) (any_reached (matches a) c n)

any_by_lem : (a : Alarm) (c : Clock) (n : ℕ) → any_by a c n ≡ any_reached (matches a) c n
any_by_lem a c n = of_cond (λ (b : Bool). b ≡ any_reached (matches a) c n) (daily a) _ _ (λ h. daily_reached a h c n) (λ e. refl)

abbrev pub counts_by : ℕ → List ℕ → Bool
counts_by n rs = not (stopped rs) && (afe rs && abe rs) && any_by (alarm_of rs) (clock_of rs) n

counts_by_lem : (n : ℕ) (rs : List ℕ) → counts_by n rs ≡ match_counts n rs
unfolding match_counts
counts_by_lem n rs = ap (λ (b : Bool). not (stopped rs) && (afe rs && abe rs) && b) (any_by_lem (alarm_of rs) (clock_of rs) n)

-- the supply return's outcome, whether a match counts given
abbrev pub rtc_by : Bool → ℕ → Rtc → Rtc
rtc_by counts n r = rtc (registers_returned n r.registers) r.sixteenths (cond counts (bit_or r.flags ALARM_FLAG) r.flags) (sixteenths 0)

abbrev pub returned_by : Bool → List ℕ → ℕ → Outcome
returned_by counts l n = decided (supply_grounds l n) l [] (encoded (with_core panel_powered_up (core_returned (rtc_by counts n (rtc_in l))))) []

returned_by_lem : (l : List ℕ) (n : ℕ) → returned_by (match_counts n (registers_in l)) l n ≡ supply_return_call l n
unfolding flags_returned
returned_by_lem l n = refl

-- THE OUTCOME, computed
abbrev pub computed : List ℕ → Event → Outcome
computed l (ticks n) = outcome_of l (ticks n)
computed l (command s) = outcome_of l (command s)
computed l (frame f) = outcome_of l (frame f)
computed l (supply_return n) = returned_by (counts_by n (registers_in l)) l n

pub computed_is : (l : List ℕ) (e : Event) → computed l e ≡ outcome_of l e
computed_is l (ticks n) = refl
computed_is l (command s) = refl
computed_is l (frame f) = refl
computed_is l (supply_return n) = ap (λ (b : Bool). returned_by b l n) (counts_by_lem n (registers_in l)) ∙ returned_by_lem l n
