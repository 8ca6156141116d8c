-- Numbers and the bytes that they are written in. Assumes nothing.
use Prim.Native.Nat.{ℕ, zero, suc, ◌+◌, ◌*◌, ◌/◌, ◌%◌, ◌<◌}
use native.Mathlib.Omega.{arith}
use mathlib.Core.Path.{◌≡◌, refl, ◌∙◌}
use mathlib.Core.Bool.{Bool, true, false, cond}
use lib.Dec.{eqb, lit<}
use Rattle.common.specs.Bits.{bit_set}
use Rattle.image.specs.Layout.{low_byte, high_byte, READY, WAKE_UP, STBY}

-- ---- One byte and two

pub byte_back : (a : ℕ) → a < 256 → low_byte a ≡ a
byte_back a h = omega arith

pub low_back : (a b : ℕ) → a < 256 → low_byte (a + 256 * b) ≡ a
low_back a b h = omega arith

pub high_back : (a b : ℕ) → a < 256 → b < 256 → high_byte (a + 256 * b) ≡ b
high_back a b h k = omega arith

pub word_back : (n : ℕ) → n < 65_536 → low_byte n + 256 * high_byte n ≡ n
word_back n h = omega arith

-- ---- Protocol and guard value

pub setup_back : (x : ℕ) → x < 128 → 16 * (x / 16 % 8 % 8) + x % 16 % 16 ≡ x
setup_back x h = omega arith

pub protocol_back : (a b : ℕ) → a < 8 → (16 * (a % 8) + b % 16) / 16 % 8 ≡ a
protocol_back a b h = omega arith

pub value_back : (a b : ℕ) → b < 16 → (16 * (a % 8) + b % 16) % 16 ≡ b
value_back a b h = omega arith

-- ---- Three bits

-- a bit's weight where it is set
flag : (m w : ℕ) → m < 2 → cond (eqb m 1) w 0 ≡ w * m
flag zero w h = omega arith
flag (suc zero) w h = omega arith
flag (suc (suc m)) w h = omega arith

-- read and written again
pub pins_back : (b : ℕ) → b < 8 → cond (bit_set b READY) READY 0 + cond (bit_set b WAKE_UP) WAKE_UP 0 + cond (bit_set b STBY) STBY 0 ≡ b
pins_back b h =
    (λ i. flag (b / 1 % 2) 1 (omega arith) i + flag (b / 2 % 2) 2 (omega arith) i + flag (b / 4 % 2) 4 (omega arith) i)
    ∙ omega arith

-- written and read again
abbrev Read : Bool → Bool → Bool → Type 0
Read x y z =
    let b = cond x READY 0 + cond y WAKE_UP 0 + cond z STBY 0 in
    (bit_set b READY ≡ x) × (bit_set b WAKE_UP ≡ y) × (bit_set b STBY ≡ z)

pub bits_back : (x y z : Bool) → Read x y z
bits_back true true true = (refl, refl, refl)
bits_back true true false = (refl, refl, refl)
bits_back true false true = (refl, refl, refl)
bits_back true false false = (refl, refl, refl)
bits_back false true true = (refl, refl, refl)
bits_back false true false = (refl, refl, refl)
bits_back false false true = (refl, refl, refl)
bits_back false false false = (refl, refl, refl)

pub pins_small : (x y z : Bool) → cond x READY 0 + cond y WAKE_UP 0 + cond z STBY 0 < 8
pins_small true true true = lit< tt
pins_small true true false = lit< tt
pins_small true false true = lit< tt
pins_small true false false = lit< tt
pins_small false true true = lit< tt
pins_small false true false = lit< tt
pins_small false false true = lit< tt
pins_small false false false = lit< tt
