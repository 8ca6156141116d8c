-- What happens to a panel, as data: the exported calls with their inputs, and the outcome of each.
use Rattle.std.specs.Prelude.{ℕ, ◌<◌, ◌≡◌, Bool, true, List, get_or}
use Rattle.common.specs.Grounds.{Ground}
use Rattle.command.specs.Decode.{command_of}
use Rattle.controller.specs.Tick.{ticked}
use Rattle.controller.specs.Keys.{sampled}
use Rattle.controller.specs.Pins.{ready_set, wake_up_set}
use Rattle.remote.specs.Frame.{key_of}
use Rattle.panel.specs.declared.Panel.{Panel}
use Rattle.panel.specs.State.{on_core}
use Rattle.panel.specs.PowerUp.{panel_powered_up}
use Rattle.panel.specs.Read.{output_after}
use Rattle.panel.specs.Execute.{executed}
use Rattle.supply.specs.Return.{panel_returned}
use Rattle.image.specs.Layout.{Bytes}
use Rattle.image.specs.Image.{decoded, encoded}
use Rattle.validity.specs.Valid.{is_valid}
use Rattle.events.specs.Show.{shown_in}
use Rattle.stled325.specs.Outcome.{Outcome, decided}
use Rattle.stled325.specs.Calls.{power_up_grounds, event_grounds, high, keyed_by, frame_grounds, supply_grounds, DIGITS_LEN, LINES_LEN, view_grounds, lines_in}
use Rattle.stled325.specs.Command.{command_grounds}

-- ---- Events

pub data Event : Type 0 where
  power_up : Event
  tick : Event
  sample : ℕ → Event
  frame : ℕ → Event
  ready : ℕ → Event
  wake_up : ℕ → Event
  command : List ℕ → Event
  show : Event
  lines : Event
  supply_return : ℕ → Event

-- the numbers that a call can be given: samples of 16 bits, commands of bytes
abbrev pub Given : Event → Type 0
Given power_up = Unit
Given tick = Unit
Given (sample n) = n < 65_536
Given (frame n) = Unit
Given (ready level) = Unit
Given (wake_up level) = Unit
Given (command s) = (i : ℕ) → get_or s i 0 < 256
Given show = Unit
Given lines = Unit
Given (supply_return n) = Unit

-- ---- What an event does

-- the grounds on which it is refused, in the order of checking
abbrev pub grounds_of : Event → List ℕ → List ℕ → List Ground
grounds_of power_up l o = power_up_grounds l
grounds_of tick l o = event_grounds l
grounds_of (sample n) l o = event_grounds l
grounds_of (frame n) l o = frame_grounds l n
grounds_of (ready level) l o = event_grounds l
grounds_of (wake_up level) l o = event_grounds l
grounds_of (command s) l o = command_grounds l s o
grounds_of show l o = view_grounds DIGITS_LEN l o
grounds_of lines l o = view_grounds LINES_LEN l o
grounds_of (supply_return n) l o = supply_grounds l n

-- the panel after it, where it is accepted
abbrev pub panel_after : Event → Panel → Panel
panel_after power_up p = panel_powered_up
panel_after tick p = on_core ticked p
panel_after (sample n) p = on_core (λ c. sampled c n) p
panel_after (frame n) p = on_core (keyed_by (key_of p.core.setup.protocol n)) p
panel_after (ready level) p = on_core (λ c. ready_set c (high level)) p
panel_after (wake_up level) p = on_core (λ c. wake_up_set c (high level)) p
panel_after (command s) p = executed p (command_of s) s
panel_after show p = p
panel_after lines p = p
panel_after (supply_return n) p = panel_returned n p

-- the image after it, where it is accepted; show and lines leave it as it is
abbrev pub image_after : Event → List ℕ → List ℕ
image_after power_up l = encoded (panel_after power_up (decoded l))
image_after tick l = encoded (panel_after tick (decoded l))
image_after (sample n) l = encoded (panel_after (sample n) (decoded l))
image_after (frame n) l = encoded (panel_after (frame n) (decoded l))
image_after (ready level) l = encoded (panel_after (ready level) (decoded l))
image_after (wake_up level) l = encoded (panel_after (wake_up level) (decoded l))
image_after (command s) l = encoded (panel_after (command s) (decoded l))
image_after show l = l
image_after lines l = l
image_after (supply_return n) l = encoded (panel_after (supply_return n) (decoded l))

-- the output after it, where it is accepted; a call without an output leaves any as it is
abbrev pub reply_after : Event → List ℕ → List ℕ → List ℕ
reply_after power_up l o = o
reply_after tick l o = o
reply_after (sample n) l o = o
reply_after (frame n) l o = o
reply_after (ready level) l o = o
reply_after (wake_up level) l o = o
reply_after (command s) l o = output_after (decoded l).core (command_of s) o
reply_after show l o = shown_in (decoded l)
reply_after lines l o = lines_in (decoded l).core
reply_after (supply_return n) l o = o

-- THE OUTCOME of an event on an image and an output
abbrev pub after : Event → List ℕ → List ℕ → Outcome
after e l o = decided (grounds_of e l o) l o (image_after e l) (reply_after e l o)

-- ---- Images

-- an image of bytes that is valid
pub record ValidImage (l : List ℕ) : Type 0 where
  pub bytes : Bytes l
  pub valid : is_valid l ≡ true

-- STBY in an image
abbrev pub stby : List ℕ → Bool
stby l = (decoded l).core.power.stby
