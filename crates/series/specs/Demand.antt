-- Demand 3: what a series of supply returns does, one return for each count of seconds in ns, from the image l to the image after.
-- Each return writes its number to its place in a list, which holds before at the start and answers at the end.
use Rattle.std.specs.Prelude.{ℕ, ◌+◌, ◌%◌, ◌≤◌, ◌≡◌, Bool, true, false, not, ◌&&◌, ◌||◌, List, [], map, eqb}
use Rattle.common.specs.Bits.{bit_set}
use Rattle.common.specs.Grounds.{first_ground}
use Rattle.calendar.specs.declared.Clock.{Clock}
use Rattle.calendar.specs.Clock.{limit, count, cycle, multiples, weekday_on}
use Rattle.alarm.specs.Match.{matches}
use Rattle.alarm.specs.Reached.{any_reached}
use Rattle.registers.specs.Names.{stopped, afe, abe}
use Rattle.timekeeper.specs.Clock.{clock_of}
use Rattle.timekeeper.specs.Alarm.{alarm_of}
use Rattle.controller.specs.State.{ALARM_FLAG}
use Rattle.image.specs.Image.{registers_in}
use Rattle.image.specs.Layout.{FLAGS, byte_at}
use Rattle.validity.specs.Valid.{is_valid}
use Rattle.stled325.specs.Outcome.{outcome}
use Rattle.stled325.specs.Calls.{supply_grounds, image_returned, supply_return_call}
use Rattle.series.specs.Series.{image_after_series, numbers, noted, within, total, sum_accepted, some_accepted, some_zero, plain_clock}

-- the calendar with its weekday, the oscillator stop, and the alarm flag of an image
abbrev pub clock_in : List ℕ → Clock
clock_in l = clock_of (registers_in l)

abbrev pub stopped_in : List ℕ → Bool
stopped_in l = stopped (registers_in l)

abbrev pub flag_in : List ℕ → Bool
flag_in l = bit_set (byte_at l FLAGS) ALARM_FLAG

-- the oscillator runs, both alarm bits are set, and one of the n seconds reached matches, each with its weekday then
abbrev pub alarm_reached : List ℕ → ℕ → Bool
alarm_reached l n =
    not (stopped_in l) && (afe (registers_in l) && abe (registers_in l)) && any_reached (matches (alarm_of (registers_in l))) (clock_in l) n

pub record Demand3 (l ns before after answers : List ℕ) : Type 0 where
  -- each return is made on the image that the one before it left, and its number is answered
  pub steps : after ≡ image_after_series l ns
  pub answered : answers ≡ noted before (numbers l ns)
  -- each is refused exactly on the refusal table's grounds, the first true one giving its number
  pub refusals : numbers l ns ≡ map (λ n. first_ground (supply_grounds l n)) ns
  -- so from a valid image those within the limit are the accepted ones
  pub accepted : is_valid l ≡ true → (n : ℕ) → within n ≡ eqb (first_ground (supply_grounds l n)) 0
  -- and the sum, below, is that of the n whose number is 0
  pub sum : is_valid l ≡ true → total ns ≡ sum_accepted (numbers l ns) ns
  -- and at least one is accepted, below, exactly if one number is 0
  pub some : is_valid l ≡ true → some_accepted ns ≡ some_zero (numbers l ns)
  -- from an image that is not valid nothing is accepted and nothing changes
  pub invalid_start : is_valid l ≡ false → after ≡ l
  -- no return accepted: the image is as it was
  pub none_accepted : some_accepted ns ≡ false → after ≡ l
  -- from a valid image the image stays valid
  pub valid_end : is_valid l ≡ true → is_valid after ≡ true
  -- the clock stands where the plain clock run beside the image stands
  pub clock : is_valid l ≡ true → clock_in after ≡ plain_clock (stopped_in l) (clock_in l) ns
  -- oscillator running: the sum of places further round the count of seconds
  pub running : is_valid l ≡ true → stopped_in l ≡ false → count (clock_in after) ≡ (count (clock_in l) + total ns) % cycle
  -- the weekday one further for each midnight passed
  pub weekday : is_valid l ≡ true → stopped_in l ≡ false → (clock_in after).weekday ≡ weekday_on (clock_in l).weekday (multiples (count (clock_in l)) (total ns))
  -- oscillator stopped: where it was
  pub standing : is_valid l ≡ true → stopped_in l ≡ true → clock_in after ≡ clock_in l
  -- the alarm flag is up exactly if it was up before or a second reached matches and counts
  pub flag : is_valid l ≡ true → flag_in after ≡ (flag_in l || alarm_reached l (total ns))
  -- at least one accepted: the whole image is that of the state moved on by the sum, also above the limit
  pub whole : is_valid l ≡ true → some_accepted ns ≡ true → after ≡ image_returned l (total ns)
  -- at least one accepted and the sum within the limit: byte for byte the image of a single return after the sum
  pub single : is_valid l ≡ true → some_accepted ns ≡ true → total ns ≤ limit → outcome 0 after [] ≡ supply_return_call l (total ns)
