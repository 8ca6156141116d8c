-- DOCUMENT 01'S FOURTEEN EDGE READINGS: one test computed over the whole table, and one law that turns it into each reading. Assumes nothing.
use Prim.Native.Nat.{ℕ, zero, suc, ◌<◌}
use native.Mathlib.Nat.{le_of_suc-le-suc, not-suc-le-zero}
use mathlib.Core.Path.{◌≡◌, refl, sym, ap₂, ◌∙◌}
use mathlib.Core.Bool.{Bool, true, false, cond, ◌&&◌}
use mathlib.Core.List.{List, [], ◌∷◌}
use lib.Dec.{eqb, ltb}
use lib.ListN.{length, get_or}
use borrow.Author.Tests.{eqb-true, ltb-true}
use Rattle.common.proofs.Order.{all, all_at}
use Rattle.common.proofs.Choice.{and_left, and_right}
use Rattle.calendar.specs.Date.{month_length}
use Rattle.calendar.specs.Carry.{next_day, next}
use Rattle.alarm.specs.Match.{fits, matches}
use Rattle.remote.specs.Frame.{nec_key, rc5_key, sent_by, key_of}
use Rattle.registers.specs.Written.{stored, written}
use Rattle.timekeeper.specs.Clock.{clock_of, valid_calendar, with_clock}
use Rattle.timekeeper.specs.Alarm.{alarm_of}
use Rattle.controller.specs.Standby.{raised}
use Rattle.controller.specs.Tick.{second_passed, clock_ticked, watchdog_ticked, guard_ticked, ticked}
use Rattle.controller.specs.Remote.{keyed}
use Rattle.effects.specs.Write.{registers_written}
use Rattle.command.specs.Refusals.{bytes_needed, room_needed, grounds_by}
use Rattle.command.specs.Decode.{command_by}
use Rattle.validity.specs.Valid.{is_valid}
use Rattle.supply.specs.Return.{registers_returned}
use Rattle.stled325.specs.Outcome.{Outcome, outcome, decided}
use Rattle.edges.specs.Entry.{Entry, Reads}
use Rattle.edges.specs.Table.{table, beyond, entry_at}
use Rattle.edges.proofs.Calendar.{leap_24, leap_23, day_less, day_on, year_on}
use Rattle.edges.proofs.Computed.{computed, computed_is}

-- ---- The test of an entry

abbrev pub same_bytes : List ℕ → List ℕ → Bool
same_bytes [] [] = true
same_bytes [] (y ∷ ys) = false
same_bytes (x ∷ xs) [] = false
same_bytes (x ∷ xs) (y ∷ ys) = eqb x y && same_bytes xs ys

abbrev pub same_outcome : Outcome → Outcome → Bool
same_outcome p q = eqb p.number q.number && (same_bytes p.image q.image && same_bytes p.output q.output)

abbrev pub holds : Entry → Bool
holds e = same_outcome (computed e.before e.event) (outcome e.number e.after [])

abbrev pub all_hold : List Entry → Bool
all_hold [] = true
all_hold (e ∷ es) = holds e && all_hold es

-- ---- From the test to the reading

same_bytes_lem : (xs ys : List ℕ) → same_bytes xs ys ≡ true → xs ≡ ys
same_bytes_lem [] [] h = refl
same_bytes_lem [] (y ∷ ys) h = cc
same_bytes_lem (x ∷ xs) [] h = cc
same_bytes_lem (x ∷ xs) (y ∷ ys) h =
    ap₂ ◌∷◌ (eqb-true x y (and_left (eqb x y) (same_bytes xs ys) h)) (same_bytes_lem xs ys (and_right (eqb x y) (same_bytes xs ys) h))

same_outcome_lem : (p q : Outcome) → same_outcome p q ≡ true → p ≡ q
same_outcome_lem p q h =
    let rest = and_right (eqb p.number q.number) (same_bytes p.image q.image && same_bytes p.output q.output) h in
    let n = eqb-true p.number q.number (and_left (eqb p.number q.number) (same_bytes p.image q.image && same_bytes p.output q.output) h) in
    let l = same_bytes_lem p.image q.image (and_left (same_bytes p.image q.image) (same_bytes p.output q.output) rest) in
    let o = same_bytes_lem p.output q.output (and_right (same_bytes p.image q.image) (same_bytes p.output q.output) rest) in
    λ i. record { number = n i; image = l i; output = o i }

pub reads : (e : Entry) → holds e ≡ true → Reads e
reads e h = sym (computed_is e.before e.event) ∙ same_outcome_lem (computed e.before e.event) (outcome e.number e.after []) h

-- THE LAW: where the whole table passes the test, each entry reads as it says
pub reads_at : (es : List Entry) (d : Entry) → all_hold es ≡ true → (k : ℕ) → k < length es → Reads (get_or es k d)
reads_at [] d h k l = absurd (not-suc-le-zero l)
reads_at (e ∷ es) d h zero l = reads e (and_left (holds e) (all_hold es) h)
reads_at (e ∷ es) d h (suc k) l = reads_at es d (and_right (holds e) (all_hold es) h) k (le_of_suc-le-suc l)

-- ---- THE TEST, computed

all_hold_lem : all_hold table ≡ true
unfolding is_valid decided valid_calendar clock_of with_clock alarm_of month_length next_day next fits matches nec_key rc5_key sent_by key_of stored written raised second_passed clock_ticked watchdog_ticked guard_ticked ticked keyed registers_written bytes_needed room_needed grounds_by command_by registers_returned
all_hold_lem = rw (leap_24, leap_23, day_less, day_on, year_on) refl

-- THE READINGS
pub edge_readings : (k : ℕ) → k < length table → Reads (entry_at k)
edge_readings k l = reads_at table beyond all_hold_lem k l

-- ---- None of the fourteen is missing

-- the first place of a reading's number
abbrev pub place_of : ℕ → List Entry → ℕ
place_of n [] = 0
place_of n (e ∷ es) = cond (eqb e.reading n) 0 (suc (place_of n es))

-- an entry with the number stands there
abbrev pub present : List Entry → Entry → ℕ → Bool
present es d n = ltb (place_of n es) (length es) && eqb (get_or es (place_of n es) d).reading n

found : (es : List Entry) (d : Entry) (n : ℕ) → present es d n ≡ true → (k : ℕ) × (k < length es) × ((get_or es k d).reading ≡ n)
found es d n h =
    let inside = ltb (place_of n es) (length es) in
    let named = eqb (get_or es (place_of n es) d).reading n in
    (place_of n es, ltb-true _ _ (and_left inside named h), eqb-true _ _ (and_right inside named h))

all_present : all (λ j. present table beyond (suc j)) 14 ≡ true
all_present = refl

-- each of the readings 1 to 14 has its place in the table, and reads as it says
pub each_reading : (j : ℕ) → j < 14 → (k : ℕ) × (k < length table) × ((entry_at k).reading ≡ suc j) × Reads (entry_at k)
each_reading j l =
    let f = found table beyond (suc j) (all_at (λ i. present table beyond (suc i)) 14 all_present j l) in
    (f.0, f.1, f.2, edge_readings f.0 f.1)
