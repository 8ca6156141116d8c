-- Each byte of a state's image is below 256. Assumes nothing.
use Prim.Native.Nat.{ℕ, zero, suc, ◌<◌}
use native.Mathlib.Omega.{arith}
use mathlib.Core.Path.{◌≡◌, refl}
use mathlib.Core.List.{List, ◌++◌}
use lib.ListN.{length, get_or, replicate}
use Rattle.common.specs.Spell.{spell}
use Rattle.common.proofs.Each.{Each, each_at, done, ◌also◌}
use Rattle.panel.specs.declared.Panel.{Panel}
use Rattle.image.specs.Layout.{image_len, byte_at, low_byte, high_byte, word_bytes}
use Rattle.image.specs.Image.{encoded}
use Rattle.image.specs.Sound.{SoundPanel}
use Rattle.image.proofs.Numbers.{pins_small}

pub encoded_length : (p : Panel) → length (encoded p) ≡ image_len
encoded_length p = refl

abbrev Byte : ℕ → Type 0
Byte n = n < 256

infixr 60 ◌then◌
◌then◌ : {xs ys : List ℕ} → Each Byte xs → Each Byte ys → Each Byte (xs ++ ys)
done then f = f
(b also e) then f = b also (e then f)

spelt : (l : List ℕ) → ((i : ℕ) → Byte (get_or l i 0)) → (i n : ℕ) → Each Byte (spell i n l)
spelt l b i zero = done
spelt l b i (suc n) = b i also spelt l b (suc i) n

-- each of n bytes from place i on
pub spelt_byte : (l : List ℕ) → ((i : ℕ) → get_or l i 0 < 256) → (i n k : ℕ) → get_or (spell i n l) k 0 < 256
spelt_byte l b i n = each_at Byte (spell i n l) 0 (spelt l b i n) (omega arith)

zeros : (n : ℕ) → Each Byte (replicate n 0)
zeros zero = done
zeros (suc n) = let z : 0 < 256 = omega arith in z also zeros n

word : (n : ℕ) → Each Byte (word_bytes n)
word n =
    let l : low_byte n < 256 = omega arith in
    let h : high_byte n < 256 = omega arith in
    l also h also done

module _ (p : Panel) (s : SoundPanel p) where
  pub encoded_bytes : (i : ℕ) → byte_at (encoded p) i < 256
  encoded_bytes =
      let c = p.core in
      let t = s.core in
      each_at Byte (encoded p) 0 (
      spelt c.rtc.registers t.rtc.bytes 0 16
      then (omega arith also omega (arith, t.rtc.flags) also t.interrupt also omega (arith, pins_small c.power.ready c.power.wakeup c.power.stby) also omega (arith, t.setup.configuration) also omega arith also done)
      then word c.power.guard.0
      then word c.rtc.watchdog.0
      then word c.keys.mask
      then word c.keys.sample
      then word c.keys.accepted
      then word c.keys.store
      then (omega (arith, t.remote.fresh) also omega (arith, t.remote.address) also t.remote.command also done)
      then (omega (arith, s.display.most) also omega (arith, s.display.control) also done)
      then spelt p.display.bytes s.display.bytes 0 5
      then zeros 20
      ) (omega arith)
