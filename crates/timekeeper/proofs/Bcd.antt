-- Both ways between a number and its two digits. Assumes nothing.
use Prim.Native.Nat.{ℕ, suc, ◌+◌, ◌*◌, ◌/◌, ◌%◌, ◌≤◌, ◌<◌}
use mathlib.Core.Path.{◌≡◌, refl, ◌∙◌}
use mathlib.Core.Bool.{Bool, true}
use mathlib.Core.List.{List, [], ◌∷◌}
use native.Mathlib.Omega.{arith}
use lib.ListN.{get_or}
use borrow.Author.Tests.{leb-true, le-leb}
use Rattle.common.specs.Tests.{conj}
use Rattle.common.proofs.Tests.{each, all_hold}
use Rattle.common.proofs.Each.{Each, each_at, done, ◌also◌}
use Rattle.timekeeper.specs.Bcd.{digits, bcd, decimal_tests}

-- ---- Number to digits and back

digits_of : (t u : ℕ) → u < 16 → digits (t * 16 + u) ≡ t * 10 + u
digits_of t u h = omega arith

pub digits_bcd : (x : ℕ) → x < 100 → digits (bcd x) ≡ x
digits_bcd x h = let e : x / 10 % 10 * 10 + x % 10 ≡ x = omega arith in digits_of (x / 10 % 10) (x % 10) (omega arith) ∙ e

pub bcd_high : (x : ℕ) → bcd x / 16 ≤ 9
bcd_high x = omega arith

pub bcd_low : (x : ℕ) → bcd x % 16 ≤ 9
bcd_low x = omega arith

-- a number below ten times t has a byte below sixteen times t
pub bcd_below : (x t : ℕ) → x < 10 * t → bcd x < 16 * t
bcd_below x t h = omega arith

pub bcd_byte : (x : ℕ) → bcd x < 256
bcd_byte x = omega arith

-- ---- Digits to number and back

pub bcd_digits : (b : ℕ) → b / 16 ≤ 9 → b % 16 ≤ 9 → bcd (digits b) ≡ b
bcd_digits b h k = omega arith

-- ---- Bytes of which each nibble is at most 9

module _ (bs : List ℕ) (h : conj (decimal_tests bs) ≡ true) where
  pub decimal_back : (k : ℕ) → bcd (digits (get_or bs k 0)) ≡ get_or bs k 0
  decimal_back = each_at (λ (b : ℕ). bcd (digits b) ≡ b) bs 0 (all_back bs (each (decimal_tests bs) h)) refl
    where
      all_back : (bs : List ℕ) → ((i : ℕ) → get_or (decimal_tests bs) i true ≡ true) → Each (λ (b : ℕ). bcd (digits b) ≡ b) bs
      all_back [] t = done
      all_back (b ∷ bs) t = bcd_digits b (leb-true _ _ (t 0)) (leb-true _ _ (t 1)) also all_back bs (λ (i : ℕ). t (suc (suc i)))

-- numbers' bytes are such bytes
pub decimal_bytes : (bs : List ℕ) → Each (λ (b : ℕ). (x : ℕ) × (b ≡ bcd x)) bs → conj (decimal_tests bs) ≡ true
decimal_bytes bs h = all_hold (decimal_tests bs) (each_nibble bs h)
  where
    each_nibble : (bs : List ℕ) → Each (λ (b : ℕ). (x : ℕ) × (b ≡ bcd x)) bs → Each (λ (t : Bool). t ≡ true) (decimal_tests bs)
    each_nibble [] done = done
    each_nibble (b ∷ bs) (p also ps) =
        le-leb (b / 16) 9 (omega (arith, p.1, bcd_high p.0)) also le-leb (b % 16) 9 (omega (arith, p.1, bcd_low p.0)) also each_nibble bs ps
