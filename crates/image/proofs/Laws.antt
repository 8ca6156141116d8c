-- What decoding and encoding make of each other. Assumes nothing.
use Prim.Native.Nat.{ℕ, ◌+◌, ◌<◌}
use native.Mathlib.Omega.{arith}
use mathlib.Core.Path.{◌≡◌, sym, ◌∙◌}
use mathlib.Core.Bool.{true, ◌||◌}
use mathlib.Core.Logic.{⊎_elim}
use mathlib.Core.List.{List, [], ◌∷◌, ◌++◌}
use lib.ListN.{length, replicate}
use lib.Dec.{eqb}
use borrow.Author.Tests.{eqb-true}
use Rattle.common.specs.Spell.{spell}
use Rattle.common.proofs.Choice.{or_cases}
use Rattle.common.proofs.Spell.{spell_all}
use Rattle.registers.proofs.Watchdog.{load_most}
use Rattle.controller.specs.declared.Core.{Core}
use Rattle.remote.specs.Frame.{is_protocol}
use Rattle.controller.specs.Sound.{Sound}
use Rattle.controller.specs.State.{rtc, power, keys, sixteenths}
use Rattle.panel.specs.declared.Panel.{Panel}
use Rattle.image.specs.Layout as at
use Rattle.image.specs.Layout.{image_len, byte_at, Bytes, word_at, low_byte, high_byte}
use Rattle.image.specs.Image.{rtc_in, power_in, setup_in, keys_in, display_in, decoded, pins_byte, status_bytes, words_of, encoded}
use Rattle.image.specs.Sound.{SoundPanel}
use Rattle.image.proofs.Numbers.{low_back, high_back, word_back, setup_back, protocol_back, value_back, pins_back, bits_back, byte_back}

-- ---- From an image to its state and back

-- an image of which the state keeps every bit
pub record Whole (l : List ℕ) : Type 0 where
  pub sized : length l ≡ image_len
  pub bytes : Bytes l
  pub pins : byte_at l at.PINS < 8
  pub setup : byte_at l at.SETUP < 128
  pub zeros : spell at.UNUSED 20 l ≡ replicate 20 0

module _ (l : List ℕ) (w : Whole l) where
  low_at : (i : ℕ) → low_byte (word_at l i) ≡ byte_at l i
  low_at i = low_back (byte_at l i) (byte_at l (i + 1)) (w.bytes i)

  high_at : (i : ℕ) → high_byte (word_at l i) ≡ byte_at l (i + 1)
  high_at i = high_back (byte_at l i) (byte_at l (i + 1)) (w.bytes i) (w.bytes (i + 1))

  status_back : status_bytes (decoded l).core (pins_byte (decoded l).core.power) ≡ spell 16 6 l
  status_back =
      λ i. byte_back (byte_at l 16) (w.bytes 16) i ∷ byte_at l 17 ∷ byte_at l 18 ∷ pins_back (byte_at l 19) w.pins i
      ∷ byte_at l 20 ∷ setup_back (byte_at l 21) w.setup i ∷ []

  words_back : words_of (decoded l).core ≡ spell 22 12 l
  words_back =
      λ i. low_at 22 i ∷ high_at 22 i ∷ low_at 24 i ∷ high_at 24 i ∷ low_at 26 i ∷ high_at 26 i ∷ low_at 28 i ∷ high_at 28 i
      ∷ low_at 30 i ∷ high_at 30 i ∷ low_at 32 i ∷ high_at 32 i ∷ []

  pub encode_decode_whole : encoded (decoded l) ≡ l
  encode_decode_whole =
      (λ i. spell 0 16 l ++ status_back i ++ words_back i ++ spell 34 10 l ++ sym w.zeros i) ∙ spell_all 64 l w.sized

-- ---- From a state to its image and back

pub small_protocol : (p : ℕ) → is_protocol p ≡ true → p < 8
small_protocol p h =
    ⊎_elim
    (λ e. ⊎_elim (λ f. omega (arith, eqb-true p 0 f)) (λ f. omega (arith, eqb-true p 2 f)) (or_cases (eqb p 0) (eqb p 2) e))
    (λ e. omega (arith, eqb-true p 4 e)) (or_cases (eqb p 0 || eqb p 2) (eqb p 4) h)

module _ (p : Panel) (s : SoundPanel p) where
  abbrev c : Core
  c = p.core

  abbrev t : Sound 16 c
  t = s.core

  rtc_kept : rtc_in (encoded p) ≡ c.rtc
  rtc_kept =
      let left : c.rtc.watchdog.0 < 65_536 = omega (arith, t.rtc.watchdog, load_most (byte_at c.rtc.registers 9)) in
      let small : c.rtc.sixteenths.0 < 256 = omega (arith, t.rtc.sixteenths) in
      λ i. rtc (spell_all 16 c.rtc.registers t.rtc.sized i) (sixteenths (byte_back c.rtc.sixteenths.0 small i)) c.rtc.flags
      (sixteenths (word_back c.rtc.watchdog.0 left i))

  power_kept : power_in (encoded p) ≡ c.power
  power_kept =
      let bits = bits_back c.power.ready c.power.wakeup c.power.stby in
      let left : c.power.guard.0 < 65_536 = omega (arith, t.power.guard, t.setup.value) in
      λ i. power (bits.0 i) (bits.1 i) (bits.2 i) (sixteenths (word_back c.power.guard.0 left i))

  setup_kept : setup_in (encoded p) ≡ c.setup
  setup_kept =
      let small = small_protocol c.setup.protocol t.setup.protocol in
      λ i. record {
        configuration = c.setup.configuration;
        protocol = protocol_back c.setup.protocol c.setup.guardvalue.0 small i;
        guardvalue = record { 0 = value_back c.setup.protocol c.setup.guardvalue.0 t.setup.value i };
      }

  keys_kept : keys_in (encoded p) ≡ c.keys
  keys_kept =
      λ i. keys (word_back c.keys.mask t.keys.mask i) (word_back c.keys.sample t.keys.sample i)
      (word_back c.keys.accepted t.keys.accepted i) (word_back c.keys.store t.keys.store i)

  display_kept : display_in (encoded p) ≡ p.display
  display_kept =
      λ i. record { digits = p.display.digits; control = p.display.control; bytes = spell_all 5 p.display.bytes s.display.sized i }

  pub decode_encode : decoded (encoded p) ≡ p
  decode_encode =
      λ i. record {
        core =
            record {
              rtc = rtc_kept i;
              power = power_kept i;
              setup = setup_kept i;
              keys = keys_kept i;
              remote = c.remote;
              interrupt = c.interrupt;
            };
        display = display_kept i;
      }
