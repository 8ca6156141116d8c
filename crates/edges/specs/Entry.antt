-- What an edge reading says: the outcome of a call, or of ticks one after the other, by the definitions that the calls promise.
use Rattle.std.specs.Prelude.{ℕ, zero, suc, ◌+◌, ◌≡◌, List, [], ◌++◌, length, take, drop}
use Rattle.stled325.specs.Outcome.{Outcome, outcome}
use Rattle.stled325.specs.Calls.{tick_call, frame_call, supply_return_call}
use Rattle.stled325.specs.Command.{command_call}

-- ticks one after the other, a command with no output, a remote frame, a supply return after seconds
pub data Event : Type 0 where
  ticks : ℕ → Event
  command : List ℕ → Event
  frame : ℕ → Event
  supply_return : ℕ → Event

-- the outcome of the last of n ticks, each on the image that the one before it left
abbrev pub last_tick : ℕ → List ℕ → Outcome
last_tick zero l = outcome 0 l []
last_tick (suc n) l = tick_call (last_tick n l).image

abbrev pub outcome_of : List ℕ → Event → Outcome
outcome_of l (ticks n) = last_tick n l
outcome_of l (command s) = command_call l s []
outcome_of l (frame f) = frame_call l f
outcome_of l (supply_return n) = supply_return_call l n

-- an entry of the table: the reading's number, the image before, the event, the call's number and the image after
pub record Entry : Type 0 where
  pub reading : ℕ
  pub before : List ℕ
  pub event : Event
  pub number : ℕ
  pub after : List ℕ

abbrev pub entry : ℕ → List ℕ → Event → ℕ → List ℕ → Entry
entry reading before event number after = record { reading = reading; before = before; event = event; number = number; after = after }

-- WHAT AN ENTRY SAYS
abbrev pub Reads : Entry → Type 0
Reads e = outcome_of e.before e.event ≡ outcome e.number e.after []

-- ---- Images

-- other bytes in an image, from a place on
abbrev pub replaced : ℕ → List ℕ → List ℕ → List ℕ
replaced at bytes l = take at l ++ bytes ++ drop (at + length bytes) l
