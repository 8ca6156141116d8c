-- A refusal and its number give one another. Assumes nothing.
use Prim.Native.Nat.{ℕ}
use mathlib.Core.Path.{◌≡◌, refl}
use mathlib.Core.List.{List, [], ◌∷◌}
use native.Mathlib.Omega.{arith}
use Rattle.common.specs.Grounds.{Ground, first_ground}
use Rattle.common.proofs.Choice.{of_cond}
use Rattle.common.specs.declared.refusal.Refusal.{Refusal}
use Rattle.common.specs.declared.refusal.Refusal.TheVariants.{InvalidImage, EmptyCommand, InStandby, UnlistedCommand, TooShort, AddressOut, ProtocolOut, DigitsOut, InvalidCalendar, LongCut, NoKey, BufferLength}
use Rattle.common.specs.Refused.{refusal_number, refusal_numbered}

-- the refusal is the one of its number
pub numbered : (r : Refusal) → refusal_numbered (refusal_number r) ≡ r
numbered InvalidImage = refl
numbered EmptyCommand = refl
numbered InStandby = refl
numbered UnlistedCommand = refl
numbered TooShort = refl
numbered AddressOut = refl
numbered ProtocolOut = refl
numbered DigitsOut = refl
numbered InvalidCalendar = refl
numbered LongCut = refl
numbered NoKey = refl
numbered BufferLength = refl

-- no refusal is 0
pub nonzero : (r : Refusal) → refusal_number r ≡ 0 → ⊥
nonzero InvalidImage = λ (e : ◌≡◌ {A = ℕ} 1 0). omega arith
nonzero EmptyCommand = λ (e : ◌≡◌ {A = ℕ} 2 0). omega arith
nonzero InStandby = λ (e : ◌≡◌ {A = ℕ} 3 0). omega arith
nonzero UnlistedCommand = λ (e : ◌≡◌ {A = ℕ} 4 0). omega arith
nonzero TooShort = λ (e : ◌≡◌ {A = ℕ} 5 0). omega arith
nonzero AddressOut = λ (e : ◌≡◌ {A = ℕ} 6 0). omega arith
nonzero ProtocolOut = λ (e : ◌≡◌ {A = ℕ} 7 0). omega arith
nonzero DigitsOut = λ (e : ◌≡◌ {A = ℕ} 8 0). omega arith
nonzero InvalidCalendar = λ (e : ◌≡◌ {A = ℕ} 9 0). omega arith
nonzero LongCut = λ (e : ◌≡◌ {A = ℕ} 10 0). omega arith
nonzero NoKey = λ (e : ◌≡◌ {A = ℕ} 11 0). omega arith
nonzero BufferLength = λ (e : ◌≡◌ {A = ℕ} 12 0). omega arith

-- the refusal of the number n has that number
abbrev pub Numbered : ℕ → Type 0
Numbered n = refusal_number (refusal_numbered n) ≡ n

abbrev pub AllNumbered : List Ground → Type 0
AllNumbered [] = Unit
AllNumbered (g ∷ gs) = Numbered g.number × AllNumbered gs

-- so has the refusal of the first ground that holds, if one does
pub first_numbered : (gs : List Ground) → AllNumbered gs → (first_ground gs ≡ 0 → ⊥) → Numbered (first_ground gs)
first_numbered [] h = λ z. absurd (z refl)
first_numbered (g ∷ gs) h =
    of_cond (λ (n : ℕ). (n ≡ 0 → ⊥) → Numbered n) g.holds g.number (first_ground gs) (λ _ _. h.0) (λ _. first_numbered gs h.1)
