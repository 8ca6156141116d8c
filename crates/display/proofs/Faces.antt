-- The clock face has four bytes. Assumes nothing.
use Prim.Native.Nat.{ℕ}
use mathlib.Core.Path.{◌≡◌, refl}
use mathlib.Core.List.{List}
use lib.ListN.{length}
use Rattle.common.proofs.Choice.{of_cond}
use Rattle.registers.specs.Names.{md_h, m_ms}
use Rattle.display.specs.Face.{face_of}

abbrev Four : List ℕ → Type 0
Four l = length l ≡ 4

pub face_length : (rs : List ℕ) → length (face_of rs) ≡ 4
unfolding face_of
face_length rs = of_cond Four (md_h rs) _ _ (λ e. refl) (λ e. of_cond Four (m_ms rs) _ _ (λ e. refl) (λ e. refl))
