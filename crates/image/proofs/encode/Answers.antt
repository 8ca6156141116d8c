-- `image::encode` meets its contract: each byte stands at its place. Assumes nothing.
use Prim.Native.Nat.{ℕ}
use mathlib.Core.Path.{◌≡◌, sym, ◌∙◌}
use mathlib.Core.List.{List, ◌++◌}
use lib.ListN.{length, set, replicate}
use borrow.Rule.Slice.PartMut.{put_mid}
use Rattle.common.proofs.Spell.{spell_all}
use Rattle.controller.specs.declared.Core.{Core}
use Rattle.panel.specs.declared.Panel.{Panel}
use Rattle.image.specs.Layout as at
use Rattle.image.specs.Layout.{low_byte, word_put}
use Rattle.image.specs.Image.{pins_byte, setup_byte, encoded}
use borrow.Author.Rules.{rules}
use Rattle.image.proofs.encode.Goals as goal

-- the bytes behind the registers rs, the pins' byte given
abbrev status_put : Core → ℕ → List ℕ → List ℕ
status_put c pins rs =
    set (set (set (set (set (set (rs ++ replicate 48 0) at.SIXTEENTHS (low_byte c.rtc.sixteenths.0)) at.FLAGS c.rtc.flags) at.INTERRUPT c.interrupt) at.PINS pins)
    at.CONFIGURATION c.setup.configuration) at.SETUP (setup_byte c.setup)

abbrev words_put : Core → List ℕ → List ℕ
words_put c l =
    word_put (word_put (word_put (word_put (word_put (word_put l at.GUARD_LEFT c.power.guard.0) at.WATCHDOG_LEFT c.rtc.watchdog.0) at.HOT_KEYS c.keys.mask)
    at.LAST_SAMPLE c.keys.sample) at.ACCEPTED_KEYS c.keys.accepted) at.KEY_STORE c.keys.store

in_turn : (c : Core) (l w₁ w₂ w₃ w₄ w₅ w₆ : List ℕ) (m s a t : ℕ) → m ≡ c.keys.mask → s ≡ c.keys.sample → a ≡ c.keys.accepted → t ≡ c.keys.store
    → w₁ ≡ word_put l at.GUARD_LEFT c.power.guard.0 → w₂ ≡ word_put w₁ at.WATCHDOG_LEFT c.rtc.watchdog.0 → w₃ ≡ word_put w₂ at.HOT_KEYS m
    → w₄ ≡ word_put w₃ at.LAST_SAMPLE s → w₅ ≡ word_put w₄ at.ACCEPTED_KEYS a → w₆ ≡ word_put w₅ at.KEY_STORE t → w₆ ≡ words_put c l
in_turn c l w₁ w₂ w₃ w₄ w₅ w₆ m s a t em es ea et e₁ e₂ e₃ e₄ e₅ e₆ =
    let f₂ = e₂ ∙ (λ i. word_put (e₁ i) at.WATCHDOG_LEFT c.rtc.watchdog.0) in
    let f₃ = e₃ ∙ (λ i. word_put (f₂ i) at.HOT_KEYS (em i)) in
    let f₄ = e₄ ∙ (λ i. word_put (f₃ i) at.LAST_SAMPLE (es i)) in
    let f₅ = e₅ ∙ (λ i. word_put (f₄ i) at.ACCEPTED_KEYS (ea i)) in
    e₆ ∙ (λ i. word_put (f₅ i) at.KEY_STORE (et i))

-- the bytes before the digit bytes ds, and these
abbrev rest_put : Panel → List ℕ → List ℕ → List ℕ
rest_put p l ds =
    put_mid 39 5
    (set (set (set (set (set l at.REMOTE_FRESH p.core.remote.fresh) at.REMOTE_ADDRESS p.core.remote.address) at.REMOTE_COMMAND p.core.remote.command)
    at.DIGITS p.display.digits) at.DISPLAY_CONTROL p.display.control) ds

all_put : (p : Panel) (pins : ℕ) (rs ds l : List ℕ) → length p.core.rtc.registers ≡ 16 → length p.display.bytes ≡ 5 → rs ≡ p.core.rtc.registers → pins ≡ pins_byte p.core.power
    → ds ≡ p.display.bytes → l ≡ words_put p.core (status_put p.core pins rs) → rest_put p l ds ≡ encoded p
all_put p pins rs ds l nr nd er ep ed el =
    λ i. rest_put p ((el ∙ (λ j. words_put p.core (status_put p.core (ep j) ((er ∙ sym (spell_all 16 p.core.rtc.registers nr)) j)))) i)
    ((ed ∙ sym (spell_all 5 p.display.bytes nd)) i)

pub returns : goal.returns
returns c =
    let p = c.args.p in
    let nr : length p.core.rtc.registers ≡ 16 = search rules in
    let nd : length p.display.bytes ≡ 5 = search rules in
    all_put p _ _ _ _ nr nd c.copy_from_slice.ensures.after c.encode_pins.ensures c.copy_from_slice-2.ensures.after
    (in_turn p.core _ _ _ _ _ _ _ _ _ _ _ c.from.ensures c.from-2.ensures c.from-3.ensures c.from-4.ensures c.write_word.ensures c.write_word-2.ensures
    c.write_word-3.ensures c.write_word-4.ensures c.write_word-5.ensures c.write_word-6.ensures)
