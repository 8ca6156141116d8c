-- Laws of the font and of the hours. Assumes nothing.
use Prim.Native.Nat.{ℕ, ◌+◌, ◌%◌, ◌≤◌}
use mathlib.Core.Path.{◌≡◌, refl}
use native.Mathlib.Omega.{arith}
use Rattle.common.proofs.Each.{each_at, done, ◌also◌}
use Rattle.display.specs.Font.{font, DASH, POINT, segments, pointed}
use Rattle.display.specs.Hours.{twelve}

-- no digit uses the point, so that setting it adds it
pub pointed_adds : (n : ℕ) → pointed (segments n) ≡ segments n + POINT
unfolding segments
pointed_adds n =
    each_at (λ (s : ℕ). pointed s ≡ s + POINT) font DASH
    (refl also refl also refl also refl also refl also refl also refl also refl also refl also refl also done) refl n

-- the twelve-hour form is from 1 to 12 and tells the same hour
pub twelve_least : (h : ℕ) → 1 ≤ twelve h
twelve_least h = omega arith

pub twelve_most : (h : ℕ) → twelve h ≤ 12
twelve_most h = omega arith

pub twelve_same : (h : ℕ) → twelve h % 12 ≡ h % 12
twelve_same h = omega arith
