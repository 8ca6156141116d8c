-- Every key has its frame, and protocol 0 has no key. Assumes nothing.
use Prim.Native.Nat.{ℕ, ◌+◌, ◌*◌, ◌/◌, ◌%◌, ◌<◌}
use mathlib.Core.Path.{◌≡◌, refl, sym, ap, ◌∙◌}
use mathlib.Core.Bool.{cond, ◌&&◌}
use native.Mathlib.Omega.{arith}
use borrow.Author.Tests.{eq-eqb}
use Rattle.common.proofs.Choice.{on_true, and_both}
use Rattle.std.specs.Prelude.{Option, Some, None}
use Rattle.std.specs.Option.{ok_or}
use Rattle.common.specs.declared.refusal.Refusal.TheVariants.{NoKey}
use Rattle.common.specs.Refused.{number_of}
use Rattle.remote.specs.declared.RemoteKey.{RemoteKey}
use Rattle.remote.specs.Frame.{complements, remote_key, nec_key, rc5_key, sent_by, key_of, refusal_of}

-- NEC, first byte lowest
abbrev pub nec_frame : ℕ → ℕ → ℕ → ℕ → ℕ
nec_frame a b c d = a + 256 * b + 65_536 * (c + 256 * d)

-- RC-5 with its start bits
abbrev pub rc5_frame : ℕ → ℕ → ℕ → ℕ
rc5_frame toggle a c = 12_288 + 2_048 * toggle + 64 * a + c

low : (x y : ℕ) → x + y ≡ 255 → (x + 256 * y) % 256 ≡ x
low x y h = omega arith

high : (x y : ℕ) → x + y ≡ 255 → (x + 256 * y) / 256 % 256 ≡ y
high x y h = let e : (x + 256 * y) / 256 ≡ y = omega arith in let d : y % 256 ≡ y = omega arith in ap (λ (z : ℕ). z % 256) e ∙ d

-- the four bytes of two words
module _ (a b m : ℕ) (h : a + b ≡ 255) where
  first_byte : (a + 256 * b + 65_536 * m) % 256 ≡ a
  first_byte = omega arith

  second_byte : (a + 256 * b + 65_536 * m) / 256 % 256 ≡ b
  second_byte =
      let e : (a + 256 * b + 65_536 * m) / 256 ≡ b + 256 * m = omega arith in
      let d : (b + 256 * m) % 256 ≡ b = omega arith in
      ap (λ (x : ℕ). x % 256) e ∙ d

  third_byte : (a + 256 * b + 65_536 * m) / 65_536 % 256 ≡ m % 256
  third_byte = let e : (a + 256 * b + 65_536 * m) / 65_536 ≡ m = omega arith in ap (λ (x : ℕ). x % 256) e

  fourth_byte : (a + 256 * b + 65_536 * m) / 16_777_216 % 256 ≡ m / 256 % 256
  fourth_byte = let e : (a + 256 * b + 65_536 * m) / 16_777_216 ≡ m / 256 = omega arith in ap (λ (x : ℕ). x % 256) e

pub nec_frame_lem : (a b c d : ℕ) → a + b ≡ 255 → c + d ≡ 255 → nec_key (nec_frame a b c d) ≡ Some (remote_key a c)
unfolding nec_key
nec_frame_lem a b c d h k =
    let m = c + 256 * d in
    let p = first_byte a b m h in
    let q = second_byte a b m h in
    let r = third_byte a b m h ∙ low c d k in
    let s = fourth_byte a b m h ∙ high c d k in
    (λ i. cond (complements (p i) (q i) && complements (r i) (s i)) (Some (remote_key (p i) (r i))) None)
    ∙ sym (on_true _ _ (and_both (complements a b) (complements c d) (eq-eqb _ _ h) (eq-eqb _ _ k)))

pub rc5_frame_lem : (t a c : ℕ) → t < 2 → a < 32 → c < 64 → rc5_key (rc5_frame t a c) ≡ Some (remote_key a c)
unfolding rc5_key
rc5_frame_lem t a c g h k =
    let f = rc5_frame t a c in
    let p : f / 64 % 32 ≡ a = omega arith in
    let q : f % 64 ≡ c = omega arith in
    sym (on_true _ _ (eq-eqb (f / 4_096) 3 (omega arith))) ∙ (λ i. Some (remote_key (p i) (q i)))

-- protocol 0: every frame is refused by 11
pub no_protocol : (f : ℕ) → refusal_of (key_of 0 f) ≡ 11
unfolding key_of sent_by
no_protocol f = refl

pub no_key_by_0 : (f : ℕ) → key_of 0 f ≡ None
unfolding key_of sent_by
no_key_by_0 f = refl

-- the number of a frame's call is that of the answer which refuses where there is no key
pub refused_as : (r : Option RemoteKey) → refusal_of r ≡ number_of (ok_or r NoKey)
refused_as (Some k) = refl
refused_as None = refl
