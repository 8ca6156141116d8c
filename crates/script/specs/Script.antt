-- The calls of the worked examples, by the definitions that the exported calls promise. No rule of document 01 is here.
use Rattle.std.specs.Prelude.{ℕ, zero, suc, ◌%◌, cond, ◌||◌, List, [], eqb, ltb, take, replicate, Option, Some, None}
use Rattle.notation.specs.Reading.{start, filled}
use Rattle.notation.specs.Line.{part, end_of, number_of}
use Rattle.stled325.specs.Outcome.{Outcome, outcome}
use Rattle.stled325.specs.Calls.{power_up_call, tick_call, sample_call, ready_call, wake_up_call, frame_call, supply_return_call, show_call, lines_call}
use Rattle.stled325.specs.Command.{command_call}

-- no call: its number is 99, and nothing is written
abbrev pub no_call : List ℕ → List ℕ → Outcome
no_call l o = outcome 99 l o

-- n ticks one after the other, up to the first refusal
unfoldable pub ticks_made : ℕ → List ℕ → Outcome
ticks_made zero l = outcome 0 l []
ticks_made (suc n) l = cond (eqb (tick_call l).number 0) (ticks_made n (tick_call l).image) (tick_call l)

-- the arguments of a command, as bytes
abbrev pub arguments_in : List ℕ → List ℕ
arguments_in line = filled start (part 32 62 line) (replicate 24 0)

-- a command of at most 24 bytes
abbrev pub command_from : Option ℕ → List ℕ → List ℕ → List ℕ → Outcome
command_from None bytes l o = no_call l o
command_from (Some n) bytes l o = cond (ltb 24 n) (no_call l o) (command_call l (take n bytes) o)

unfoldable pub command_made : List ℕ → List ℕ → List ℕ → Outcome
command_made line l o = command_from (end_of 32 62 line) (arguments_in line) l o

-- the event of a word: frame, key, outage, power-up, ready, tick, wake-up
unfoldable pub event_made : ℕ → ℕ → List ℕ → Outcome
event_made word n l =
    cond (eqb word 102) (frame_call l n)
    (cond (eqb word 107) (sample_call l (n % 65_536))
    (cond (eqb word 111) (supply_return_call l n)
    (cond (eqb word 112) (power_up_call l)
    (cond (eqb word 114) (ready_call l n) (cond (eqb word 116) (ticks_made n l) (cond (eqb word 119) (wake_up_call l n) (no_call l [])))))))

-- an event with a number of 32 bits
abbrev pub event_by : ℕ → List ℕ → Option ℕ → Outcome
event_by word l None = no_call l []
event_by word l (Some n) = cond (ltb 4_294_967_295 n) (no_call l []) (event_made word n l)

-- an event with the number that its arguments write, of ticks (t) and of an outage (o) in decimal
unfoldable pub event_read : ℕ → List ℕ → List ℕ → Outcome
event_read word line l = event_by word l (number_of 32 62 (eqb word 116 || eqb word 111) line)

-- an outcome that leaves the output as it was
abbrev pub with_output : List ℕ → Outcome → Outcome
with_output o x = outcome x.number x.image o

-- the call of a word: command, lines, show, or an event
unfoldable pub made : ℕ → List ℕ → List ℕ → List ℕ → Outcome
made word line l o =
    cond (eqb word 99) (command_made line l o)
    (cond (eqb word 108) (lines_call l o) (cond (eqb word 115) (show_call l o) (with_output o (event_read word line l))))
