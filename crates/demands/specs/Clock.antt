-- Demand 2: which events may change a clock register, register by register, and events one after the other.
use Rattle.std.specs.Prelude.{ℕ, ◌≡◌, Bool, true, false, not, ◌&&◌, List, [], ◌∷◌, eqb, length}
use Rattle.command.specs.Codes.{WRITE_REGISTERS}
use Rattle.command.specs.Refusals.{byte}
use Rattle.calendar.specs.Clock.{moved}
use Rattle.registers.specs.Names.{at, stopped}
use Rattle.timekeeper.specs.Clock.{clock_of, with_clock}
use Rattle.controller.specs.declared.Core.{Core}
use Rattle.properties.specs.Causes.{second_passes}
use Rattle.effects.specs.Write.{touched}
use Rattle.effects.specs.Execute.{data_of}
use Rattle.image.specs.Image.{decoded}
use Rattle.demands.specs.Event.{Event, power_up, tick, sample, frame, ready, wake_up, command, show, lines, supply_return, Given, after}

-- time changes register k: with the plain clock n seconds further on it holds another byte
unfoldable pub time_changes : ℕ → List ℕ → ℕ → Bool
time_changes k rs n = not (eqb (at (with_clock rs (moved (clock_of rs) n)) k) (at rs k))

-- register k may change: by time, in a tick that passes a second or in a supply return with the oscillator running; by a write, which
-- is a 50h with a data byte for it; by power-up
abbrev pub writes_register : ℕ → Event → Core → Bool
writes_register k power_up c = true
writes_register k tick c = second_passes c && time_changes k c.rtc.registers 1
writes_register k (sample n) c = false
writes_register k (frame n) c = false
writes_register k (ready level) c = false
writes_register k (wake_up level) c = false
writes_register k (command s) c = eqb (byte s 0) WRITE_REGISTERS && touched (byte s 1) (length (data_of s)) k
writes_register k show c = false
writes_register k lines c = false
writes_register k (supply_return n) c = not (stopped c.rtc.registers) && time_changes k c.rtc.registers n

-- one of them that is accepted; power-up and 50h also where they leave the register the same
abbrev pub changes_register : ℕ → Event → List ℕ → List ℕ → Bool
changes_register k e l o = eqb (after e l o).number 0 && writes_register k e (decoded l).core

-- an event with the output that its call is given
pub record Step : Type 0 where
  pub event : Event
  pub output : List ℕ

-- the image that a step leaves
abbrev pub after_step : Step → List ℕ → List ℕ
after_step x l = (after x.event l x.output).image

-- the image after steps one after the other
abbrev pub after_all : List Step → List ℕ → List ℕ
after_all [] l = l
after_all (x ∷ xs) l = after_all xs (after_step x l)

-- the inputs of every step are such as a call can be given
abbrev pub AllGiven : List Step → Type 0
AllGiven [] = Unit
AllGiven (x ∷ xs) = Given x.event × AllGiven xs

-- none of the steps is one that may change register k, each from the image that the one before left
abbrev pub Quiet : ℕ → List Step → List ℕ → Type 0
Quiet k [] l = Unit
Quiet k (x ∷ xs) l = (changes_register k x.event l x.output ≡ false) × Quiet k xs (after_step x l)
