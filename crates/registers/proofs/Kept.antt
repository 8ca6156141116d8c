-- What dropping reserved bits does to a byte: done twice it changes nothing more, and it adds nothing. Assumes nothing.
use Prim.Native.Nat.{ℕ, ◌≤◌}
use mathlib.Core.Path.{◌≡◌, refl, sym, ap, ◌∙◌}
use mathlib.Core.List.{List, [], ◌∷◌}
use native.Mathlib.Omega.{arith}
use lib.ListN.{get_or, get_or-map}
use Rattle.common.proofs.Each.{each_at, done, ◌also◌}
use Rattle.registers.specs.Written.{nothing, whole, low3, low6, low7, high4, without_b5, without_b6, kept}

-- f keeps part of a byte: done twice it keeps the same, and it adds nothing
record Masking (f : ℕ → ℕ) : Type 0 where
  twice : (b : ℕ) → f (f b) ≡ f b
  less : (b : ℕ) → f b ≤ b

-- what each register keeps of a byte, from 00h on
masks : List (ℕ → ℕ)
masks =
    nothing ∷ whole ∷ low7 ∷ whole
    ∷ low3 ∷ low6 ∷ without_b5 ∷ whole
    ∷ without_b6 ∷ whole ∷ without_b6 ∷ whole
    ∷ whole ∷ whole ∷ whole ∷ high4 ∷ []

masking_nothing : Masking nothing
masking_nothing = record { twice = λ b. refl; less = λ b. omega arith }

masking_whole : Masking whole
masking_whole = record { twice = λ b. refl; less = λ b. omega arith }

masking_low3 : Masking low3
masking_low3 = record { twice = λ b. omega arith; less = λ b. omega arith }

masking_low6 : Masking low6
masking_low6 = record { twice = λ b. omega arith; less = λ b. omega arith }

masking_low7 : Masking low7
masking_low7 = record { twice = λ b. omega arith; less = λ b. omega arith }

masking_high4 : Masking high4
masking_high4 = record { twice = λ b. omega arith; less = λ b. omega arith }

masking_b5 : Masking without_b5
masking_b5 = record { twice = λ b. omega arith; less = λ b. omega arith }

masking_b6 : Masking without_b6
masking_b6 = record { twice = λ b. omega arith; less = λ b. omega arith }

masking_at : (a : ℕ) → Masking (get_or masks a nothing)
unfolding masks
masking_at a =
    each_at Masking masks nothing
    (masking_nothing also masking_whole also masking_low7 also masking_whole
    also masking_low3 also masking_low6 also masking_b5 also masking_whole
    also masking_b6 also masking_whole also masking_b6 also masking_whole
    also masking_whole also masking_whole also masking_whole also masking_high4 also done)
    masking_nothing a

by_mask : (a b : ℕ) → kept a b ≡ get_or masks a nothing b
unfolding masks
by_mask a b = get_or-map (λ (f : ℕ → ℕ). f b) masks a nothing

pub kept_kept : (a b : ℕ) → kept a (kept a b) ≡ kept a b
kept_kept a b = by_mask a (kept a b) ∙ ap (get_or masks a nothing) (by_mask a b) ∙ (masking_at a).twice b ∙ sym (by_mask a b)

pub kept_less : (a b : ℕ) → kept a b ≤ b
kept_less a b = omega (arith, by_mask a b, (masking_at a).less b)
