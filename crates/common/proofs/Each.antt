-- What holds of each element of a list, given element by element, and its use at one of them. Assumes nothing.
use Prim.Native.Nat.{ℕ, zero, suc}
use mathlib.Core.List.{List, [], ◌∷◌}
use lib.ListN.{get_or}

infixr 67 ◌also◌
pub data Each {A : Type 0} (P : A → Type 0) : List A → Type 0 where
  done : Each P []
  ◌also◌ : {x : A} {xs : List A} → P x → Each P xs → Each P (x ∷ xs)

-- at any place, where it holds of the default too
pub each_at : {A : Type 0} (P : A → Type 0) (l : List A) (d : A) → Each P l → P d → (n : ℕ) → P (get_or l n d)
each_at P [] d done q n = q
each_at P (x ∷ xs) d (p also ps) q zero = p
each_at P (x ∷ xs) d (p also ps) q (suc n) = each_at P xs d ps q n
