-- The calls but the command (document 01, "Events", "Show", "Lines"), each from the image and the output that it is given.
use Rattle.std.specs.Prelude.{ℕ, Bool, true, false, not, List, [], ◌∷◌, eqb, ltb, length, Option, Some, None}
use Rattle.common.specs.Grounds.{Ground, ground}
use Rattle.calendar.specs.Clock.{limit}
use Rattle.remote.specs.declared.RemoteKey.{RemoteKey}
use Rattle.remote.specs.Frame.{key_of}
use Rattle.controller.specs.declared.Core.{Core}
use Rattle.controller.specs.Tick.{ticked}
use Rattle.controller.specs.Keys.{sampled}
use Rattle.controller.specs.Remote.{keyed}
use Rattle.controller.specs.Pins.{ready_set, wake_up_set}
use Rattle.display.specs.Lines.{lines_of}
use Rattle.panel.specs.State.{on_core}
use Rattle.panel.specs.PowerUp.{panel_powered_up}
use Rattle.supply.specs.Return.{panel_returned}
use Rattle.image.specs.Layout.{image_len}
use Rattle.image.specs.Image.{decoded, encoded}
use Rattle.events.specs.Show.{shown_in}
use Rattle.stled325.specs.Outcome.{Outcome, decided, invalid}

-- ---- Power-up takes any 64 bytes

abbrev pub power_up_grounds : List ℕ → List Ground
power_up_grounds l = ground 1 (not (eqb (length l) image_len)) ∷ []

abbrev pub power_up_call : List ℕ → Outcome
power_up_call l = decided (power_up_grounds l) l [] (encoded panel_powered_up) []

-- ---- Events that a valid image alone allows

abbrev pub event_grounds : List ℕ → List Ground
event_grounds l = invalid l ∷ []

-- the image after an event of the shared state
abbrev pub image_after : (Core → Core) → List ℕ → List ℕ
image_after event l = encoded (on_core event (decoded l))

abbrev pub event_call : (Core → Core) → List ℕ → Outcome
event_call event l = decided (event_grounds l) l [] (image_after event l) []

abbrev pub tick_call : List ℕ → Outcome
tick_call l = event_call ticked l

abbrev pub sample_call : List ℕ → ℕ → Outcome
sample_call l sample = event_call (λ c. sampled c sample) l

-- a pin's level: 0 low and any other number high
abbrev pub high : ℕ → Bool
high level = not (eqb level 0)

abbrev pub ready_call : List ℕ → ℕ → Outcome
ready_call l level = event_call (λ c. ready_set c (high level)) l

abbrev pub wake_up_call : List ℕ → ℕ → Outcome
wake_up_call l level = event_call (λ c. wake_up_set c (high level)) l

-- ---- Remote frames

-- the key that the frame is, in the set protocol
abbrev pub received : List ℕ → ℕ → Option RemoteKey
received l frame = key_of (decoded l).core.setup.protocol frame

abbrev pub is_no_key : Option RemoteKey → Bool
is_no_key (Some k) = false
is_no_key None = true

abbrev pub keyed_by : Option RemoteKey → Core → Core
keyed_by (Some k) c = keyed c k.address k.command
keyed_by None c = c

abbrev pub frame_grounds : List ℕ → ℕ → List Ground
frame_grounds l frame = invalid l ∷ ground 11 (is_no_key (received l frame)) ∷ []

abbrev pub frame_call : List ℕ → ℕ → Outcome
frame_call l frame = decided (frame_grounds l frame) l [] (image_after (keyed_by (received l frame)) l) []

-- ---- Supply return after n seconds

-- ground 10: n above 31,622,400
abbrev pub supply_grounds : List ℕ → ℕ → List Ground
supply_grounds l n = invalid l ∷ ground 10 (ltb limit n) ∷ []

abbrev pub image_returned : List ℕ → ℕ → List ℕ
image_returned l n = encoded (panel_returned n (decoded l))

abbrev pub supply_return_call : List ℕ → ℕ → Outcome
supply_return_call l n = decided (supply_grounds l n) l [] (image_returned l n) []

-- ---- Show and lines leave the image as it is

-- how many bytes they write
abbrev pub DIGITS_LEN : ℕ
DIGITS_LEN = 5

abbrev pub LINES_LEN : ℕ
LINES_LEN = 1

-- ground 12: the buffer has not the length asked for
abbrev pub view_grounds : ℕ → List ℕ → List ℕ → List Ground
view_grounds size l o = invalid l ∷ ground 12 (not (eqb (length o) size)) ∷ []

abbrev pub show_call : List ℕ → List ℕ → Outcome
show_call l o = decided (view_grounds DIGITS_LEN l o) l o l (shown_in (decoded l))

abbrev pub lines_in : Core → List ℕ
lines_in c = lines_of c.power.ready c.power.stby c.interrupt ∷ []

abbrev pub lines_call : List ℕ → List ℕ → Outcome
lines_call l o = decided (view_grounds LINES_LEN l o) l o l (lines_in (decoded l).core)
