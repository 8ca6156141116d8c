-- A valid image holds a sound state and is that state's image; the image of a sound state is valid. Assumes nothing.
use Prim.Native.Nat.{ℕ, ◌+◌, ◌^◌, ◌<◌}
use native.Mathlib.Omega.{arith}
use mathlib.Core.Path.{◌≡◌, refl, sym, ap, subst, ◌∙◌}
use mathlib.Core.Bool.{Bool, true, false, not, cond, ◌||◌, true≢false}
use Rattle.std.specs.Prelude.{Result, Ok, Err, is_ok}
use Rattle.std.specs.Result.{result_unwrap_or}
use Rattle.common.specs.declared.refusal.Refusal.{Refusal}
use Rattle.common.specs.declared.refusal.Refusal.TheVariants.{InvalidImage}
use mathlib.Core.List.{List}
use lib.ListN.{length, get_or, replicate}
use lib.Dec.{eqb}
use borrow.Author.Tests.{ltb-true, leb-true, eqb-true, lt-ltb, le-leb, eq-eqb}
use Rattle.common.specs.Tests.{conj}
use Rattle.common.specs.Spell.{spell}
use Rattle.common.proofs.Each.{done, ◌also◌}
use Rattle.common.proofs.Tests.{each, all_hold}
use Rattle.timekeeper.specs.Clock.{valid_calendar}
use Rattle.controller.specs.Sound.{Sound, SoundRtc, SoundSetup, SoundPower, SoundKeys, SoundRemote}
use Rattle.panel.specs.declared.Panel.{Panel}
use Rattle.image.specs.Layout.{image_len, UNUSED, byte_at, Bytes, word_at}
use Rattle.image.specs.Image.{rtc_in, power_in, setup_in, keys_in, remote_in, core_in, display_in, decoded, setup_byte, encoded}
use Rattle.image.specs.Sound.{SoundDisplay, SoundPanel}
use Rattle.image.proofs.Numbers.{pins_small}
use Rattle.image.proofs.Bytes.{spelt_byte}
use Rattle.image.proofs.Laws.{encode_decode_whole, decode_encode}
use Rattle.validity.specs.Valid.{unnamed_tests, range_tests, state_tests, valid_tests, is_valid, panel_read}
use Rattle.validity.proofs.Zero.{zeros}

-- ---- What the tests say

-- x holds or y is 0, and x does not
zero_unless : (x : Bool) (n : ℕ) → (not x || eqb n 0) ≡ true → x ≡ true → n ≡ 0
zero_unless x n h e = eqb-true n 0 (rw e at h)

unless_zero : (x : Bool) (n : ℕ) → (x ≡ true → n ≡ 0) → (not x || eqb n 0) ≡ true
unless_zero true n h = eq-eqb n 0 (h refl)
unless_zero false n h = refl

module _ (l : List ℕ) (h : is_valid l ≡ true) where
  test : (i : ℕ) → get_or (valid_tests l) i true ≡ true
  unfolding is_valid
  test = each (valid_tests l) h

  unnamed : (i : ℕ) → get_or (unnamed_tests l) i true ≡ true
  unnamed = each (unnamed_tests l) (test 2)

  state : (i : ℕ) → get_or (state_tests (decoded l)) i true ≡ true
  state = each (state_tests (decoded l)) (test 4)

  range : (i : ℕ) → get_or (range_tests (decoded l)) i true ≡ true
  range = each (range_tests (decoded l)) (state 1)

  pub valid_length : length l ≡ image_len
  valid_length = eqb-true (length l) image_len (test 0)

  module _ (small : Bytes l) where
    rtc_sound : SoundRtc (rtc_in l)
    rtc_sound =
        record {
          sized = refl;
          bytes = spelt_byte l small 0 16;
          calendar = test 1;
          reserved = state 0;
          sixteenths = ltb-true _ _ (range 0);
          flags = ltb-true _ _ (unnamed 0);
          watchdog = leb-true _ _ (state 5);
        }

    setup_sound : SoundSetup (setup_in l)
    setup_sound =
        record {
          configuration = ltb-true _ _ (unnamed 2);
          unnamed = eqb-true _ _ (unnamed 3);
          protocol = state 2;
          value = omega arith;
        }

    power_sound : SoundPower (setup_in l) (power_in l)
    power_sound = record { guard = leb-true _ _ (state 3); stopped = zero_unless (power_in l).stby (power_in l).guard.0 (state 4) }

    word_small : (i : ℕ) → word_at l i < 2 ^ 16
    word_small i = omega (arith, small i, small (i + 1))

    keys_sound : SoundKeys 16 (keys_in l)
    keys_sound = record { mask = word_small 26; sample = word_small 28; accepted = word_small 30; store = word_small 32 }

    remote_sound : SoundRemote (remote_in l)
    remote_sound =
        record {
          fresh = ltb-true _ _ (range 1);
          address = eqb-true _ _ (state 6);
          command = small 36;
          stale = λ e. zero_unless (eqb (byte_at l 34) 0) (byte_at l 36) (state 7) (eq-eqb (byte_at l 34) 0 e);
        }

    core_sound : Sound 16 (core_in l)
    core_sound =
        record { rtc = rtc_sound; setup = setup_sound; power = power_sound; keys = keys_sound; remote = remote_sound; interrupt = small 18 }

    display_sound : SoundDisplay (display_in l)
    display_sound =
        record {
          some = leb-true _ _ (range 2);
          most = leb-true _ _ (range 3);
          control = ltb-true _ _ (unnamed 5);
          sized = refl;
          bytes = spelt_byte l small 39 5;
        }

    pub sound : SoundPanel (decoded l)
    sound = record { core = core_sound; display = display_sound }

    -- ---- A valid image is the image of its state

    tail : spell UNUSED 20 l ≡ replicate 20 0
    tail = zeros (spell UNUSED 20 l) (test 3)

    pub encode_decode : encoded (decoded l) ≡ l
    encode_decode =
        encode_decode_whole l
        record { sized = valid_length; bytes = small; pins = ltb-true _ _ (unnamed 1); setup = ltb-true _ _ (unnamed 4); zeros = tail }

-- what is read is the panel of a valid image
pub read_valid : (l : List ℕ) (p : Panel) → ◌≡◌ {A = Result Panel Refusal} (Ok p) (panel_read l) → (is_valid l ≡ true) × (p ≡ decoded l)
read_valid l p e = by (is_valid l) refl e
  where
    by : (b : Bool) → is_valid l ≡ b → ◌≡◌ {A = Result Panel Refusal} (Ok p) (cond b (Ok (decoded l)) (Err InvalidImage)) → (is_valid l ≡ true) × (p ≡ decoded l)
    by true v e = (v, ap (λ (r : Result Panel Refusal). result_unwrap_or r p) e)
    by false v e = absurd (true≢false (ap (λ (r : Result Panel Refusal). is_ok r) e))

-- the panel of a copied image
pub read_sound : {l a : List ℕ} {p : Panel} → is_valid l ≡ true → a ≡ l → p ≡ decoded a → Bytes l → SoundPanel p
read_sound h e f small = subst SoundPanel (sym (f ∙ ap decoded e)) (sound _ h small)

-- ---- The image of a sound state is valid

module _ (p : Panel) (s : SoundPanel p) where
  unnamed_clear : conj (unnamed_tests (encoded p)) ≡ true
  unnamed_clear =
      let c = p.core in
      let t = s.core in
      all_hold (unnamed_tests (encoded p))
      (lt-ltb _ _ t.rtc.flags
      also lt-ltb _ _ (pins_small c.power.ready c.power.wakeup c.power.stby)
      also lt-ltb _ _ t.setup.configuration
      also eq-eqb _ _ t.setup.unnamed
      also lt-ltb (setup_byte c.setup) 128 (omega arith)
      also lt-ltb _ _ s.display.control
      also done)

  in_ranges : conj (range_tests p) ≡ true
  in_ranges =
      all_hold (range_tests p)
      (lt-ltb _ _ s.core.rtc.sixteenths
      also lt-ltb _ _ s.core.remote.fresh
      also le-leb _ _ s.display.some
      also le-leb _ _ s.display.most
      also done)

  state_valid : conj (state_tests p) ≡ true
  state_valid =
      let c = p.core in
      let t = s.core in
      all_hold (state_tests p)
      (t.rtc.reserved
      also in_ranges
      also t.setup.protocol
      also le-leb _ _ t.power.guard
      also unless_zero c.power.stby c.power.guard.0 t.power.stopped
      also le-leb _ _ t.rtc.watchdog
      also eq-eqb _ _ t.remote.address
      also unless_zero (eqb c.remote.fresh 0) c.remote.command (λ e. t.remote.stale (eqb-true _ _ e))
      also done)

  pub valid_encoded : is_valid (encoded p) ≡ true
  unfolding is_valid
  valid_encoded =
      all_hold (valid_tests (encoded p))
      (refl
      also (ap (λ (q : Panel). valid_calendar q.core.rtc.registers) (decode_encode p s) ∙ s.core.rtc.calendar)
      also unnamed_clear
      also refl
      also (ap (λ (q : Panel). conj (state_tests q)) (decode_encode p s) ∙ state_valid)
      also done)
