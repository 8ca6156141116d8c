-- Demand 1: from a valid image every event leaves a valid image. Assumes nothing.
use Prim.Native.Nat.{ℕ}
use mathlib.Core.Path.{◌≡◌, refl, sym, ap, subst, ◌∙◌}
use mathlib.Core.Bool.{false, not}
use mathlib.Core.List.{List, [], ◌∷◌, ◌++◌}
use mathlib.Core.Logic.{◌⊎◌, inl, inr}
use lib.Dec.{eqb}
use lib.ListN.{length}
use borrow.Author.Tests.{eqb-true, eqb-false, eq-eqb, not-false}
use Rattle.common.specs.Grounds.{Ground, ground, NoneHolds}
use Rattle.common.proofs.Choice.{by_cases}
use Rattle.std.specs.Prelude.{Option, Some, None}
use Rattle.remote.specs.declared.RemoteKey.{RemoteKey}
use Rattle.remote.specs.Frame.{key_of}
use Rattle.remote.proofs.Keys.{Addressed, key_addressed}
use Rattle.command.specs.Refusals.{grounds}
use Rattle.command.specs.Decode.{command_of}
use Rattle.command.specs.Holds.{Holds}
use Rattle.command.proofs.Accepted.{none_awake, none_holds}
use Rattle.controller.specs.declared.Core.{Core}
use Rattle.controller.specs.Sound.{Sound}
use Rattle.controller.specs.Remote.{keyed}
use Rattle.properties.proofs.Sound.{sound_ticked, sound_sampled, sound_keyed, sound_ready_set, sound_wake_up_set}
use Rattle.panel.specs.declared.Panel.{Panel}
use Rattle.panel.specs.PowerUp.{panel_powered_up}
use Rattle.effects.specs.Execute.{writes_no_calendar}
use Rattle.image.specs.Layout.{Bytes}
use Rattle.image.specs.Image.{decoded, encoded}
use Rattle.image.specs.Sound.{SoundPanel}
use Rattle.image.proofs.Bytes.{encoded_bytes}
use Rattle.image.proofs.Laws.{decode_encode}
use Rattle.validity.specs.Valid.{is_valid}
use Rattle.validity.proofs.Laws.{sound, encode_decode, valid_encoded}
use Rattle.supply.proofs.Sound.{sound_powered, sound_returned}
use Rattle.stled325.specs.Calls.{high, keyed_by}
use Rattle.demands.specs.Event.{Event, power_up, tick, sample, frame, ready, wake_up, command, show, lines, supply_return, Given, panel_after, image_after, after, ValidImage}
use Rattle.demands.proofs.Refusals.{refused_untouched, accepted_leaves, grounds_exact}
use Rattle.demands.proofs.SoundCommands.{sound_executed}

-- ---- Valid images and sound panels

pub valid_sound : {l : List ℕ} → ValidImage l → SoundPanel (decoded l)
valid_sound {l} v = sound l v.valid v.bytes

pub sound_valid : {p : Panel} → SoundPanel p → ValidImage (encoded p)
sound_valid {p} s = record { bytes = encoded_bytes p s; valid = valid_encoded p s }

-- ---- An accepted event is power-up, or its image was valid

module _ (l : List ℕ) (small : Bytes l) where
  was_valid : not (is_valid l) ≡ false → ValidImage l
  was_valid n = record { bytes = small; valid = not-false (is_valid l) n }

  pub power_up_or_valid : (e : Event) (o : List ℕ) → (after e l o).number ≡ 0 → (e ≡ power_up) ⊎ ValidImage l
  power_up_or_valid power_up o a = inl refl
  power_up_or_valid tick o a = inr (was_valid ((grounds_exact tick l o).groundless a).0)
  power_up_or_valid (sample n) o a = inr (was_valid ((grounds_exact (sample n) l o).groundless a).0)
  power_up_or_valid (frame n) o a = inr (was_valid ((grounds_exact (frame n) l o).groundless a).0)
  power_up_or_valid (ready level) o a = inr (was_valid ((grounds_exact (ready level) l o).groundless a).0)
  power_up_or_valid (wake_up level) o a = inr (was_valid ((grounds_exact (wake_up level) l o).groundless a).0)
  power_up_or_valid (command s) o a = inr (was_valid ((grounds_exact (command s) l o).groundless a).0)
  power_up_or_valid show o a = inr (was_valid ((grounds_exact show l o).groundless a).0)
  power_up_or_valid lines o a = inr (was_valid ((grounds_exact lines l o).groundless a).0)
  power_up_or_valid (supply_return n) o a = inr (was_valid ((grounds_exact (supply_return n) l o).groundless a).0)

-- ---- What an accepted command has

none_left : (gs hs : List Ground) → NoneHolds (gs ++ hs) → NoneHolds gs
none_left [] hs n = tt
none_left (g ∷ gs) hs n = (n.0, none_left gs hs n.1)

none_right : (gs hs : List Ground) → NoneHolds (gs ++ hs) → NoneHolds hs
none_right [] hs n = n
none_right (g ∷ gs) hs n = none_right gs hs n.1

module _ (s l o : List ℕ) (a : (after (command s) l o).number ≡ 0) where
  abbrev table : List Ground
  table = grounds s (decoded l).core.power.stby (length o)

  abbrev last : List Ground
  last = ground 9 (writes_no_calendar (decoded l).core (command_of s) s) ∷ []

  none : NoneHolds (table ++ last)
  none = ((grounds_exact (command s) l o).groundless a).1

  pub command_awake : (decoded l).core.power.stby ≡ false
  command_awake = none_awake s (decoded l).core.power.stby (length o) (none_left table last none)

  pub command_holds : Holds s (length o) (command_of s)
  command_holds = none_holds s (decoded l).core.power.stby (length o) (none_left table last none)

  command_writes : writes_no_calendar (decoded l).core (command_of s) s ≡ false
  command_writes = (none_right table last none).0

-- ---- Sound panels

sound_keyed_by : {c : Core} → Sound 16 c → (r : Option RemoteKey) → Addressed r → Sound 16 (keyed_by r c)
sound_keyed_by {c} h (Some k) u =
    subst (λ (x : ℕ). Sound 16 (keyed c x k.command)) (sym (eqb-true k.address 0 u.is_addressed)) (sound_keyed h k.command u.command)
sound_keyed_by h None u = h

module _ {l : List ℕ} (v : ValidImage l) where
  abbrev h : SoundPanel (decoded l)
  h = valid_sound v

  on_core_lem : (c : Core) → Sound 16 c → SoundPanel (record { core = c; display = (decoded l).display })
  on_core_lem c s = record { core = s; display = h.display }

  -- the panel after an accepted event is sound
  sound_after : (e : Event) → Given e → (o : List ℕ) → (after e l o).number ≡ 0 → SoundPanel (panel_after e (decoded l))
  sound_after power_up g o a = sound_powered
  sound_after tick g o a = on_core_lem _ (sound_ticked h.core)
  sound_after (sample n) g o a = on_core_lem _ (sound_sampled h.core n g)
  sound_after (frame n) g o a = on_core_lem _ (sound_keyed_by h.core (key_of (decoded l).core.setup.protocol n) (key_addressed (decoded l).core.setup.protocol n))
  sound_after (ready level) g o a = on_core_lem _ (sound_ready_set h.core (high level))
  sound_after (wake_up level) g o a = on_core_lem _ (sound_wake_up_set h.core (high level))
  sound_after (command s) g o a = sound_executed h s g (length o) (command_awake s l o a) (command_of s) (command_holds s l o a) (command_writes s l o a)
  sound_after show g o a = h
  sound_after lines g o a = h
  sound_after (supply_return n) g o a = sound_returned n (decoded l) h

  -- ---- The image of a valid image's event is that of the panel after it

  image_after_lem : (e : Event) → image_after e l ≡ encoded (panel_after e (decoded l))
  image_after_lem power_up = refl
  image_after_lem tick = refl
  image_after_lem (sample n) = refl
  image_after_lem (frame n) = refl
  image_after_lem (ready level) = refl
  image_after_lem (wake_up level) = refl
  image_after_lem (command s) = refl
  image_after_lem show = sym (encode_decode l v.valid v.bytes)
  image_after_lem lines = sym (encode_decode l v.valid v.bytes)
  image_after_lem (supply_return n) = refl

  module _ (e : Event) (g : Given e) (o : List ℕ) (a : (after e l o).number ≡ 0) where
    accepted_image : (after e l o).image ≡ encoded (panel_after e (decoded l))
    accepted_image = (accepted_leaves e l o a).0 ∙ image_after_lem e

    -- the panel in the image that an accepted event leaves
    pub accepted_panel : decoded (after e l o).image ≡ panel_after e (decoded l)
    accepted_panel = ap decoded accepted_image ∙ decode_encode (panel_after e (decoded l)) (sound_after e g o a)

    accepted_valid : ValidImage (after e l o).image
    accepted_valid = subst ValidImage (sym accepted_image) (sound_valid (sound_after e g o a))

  -- ---- A VALID IMAGE STAYS VALID, whatever happens

  pub stays_valid : (e : Event) → Given e → (o : List ℕ) → ValidImage (after e l o).image
  stays_valid e g o =
      by_cases (ValidImage (after e l o).image) (eqb (after e l o).number 0) (λ z. accepted_valid e g o (eqb-true _ 0 z))
      (λ z. subst ValidImage (sym (refused_untouched e l o (eqb-false _ 0 z)).0) v)

-- ---- POWER-UP makes one of any 64 bytes

pub powered_panel : (l o : List ℕ) → (after power_up l o).number ≡ 0 → decoded (after power_up l o).image ≡ panel_powered_up
powered_panel l o a = ap decoded (accepted_leaves power_up l o a).0 ∙ decode_encode panel_powered_up sound_powered

pub power_up_valid : (l o : List ℕ) → length l ≡ 64 → ((after power_up l o).number ≡ 0) × ValidImage (after power_up l o).image
power_up_valid l o n =
    let a = (grounds_exact power_up l o).accepted ((λ i. not (eq-eqb (length l) 64 n i)), tt) in
    (a, subst ValidImage (sym (accepted_leaves power_up l o a).0) (sound_valid sound_powered))
