-- A list of tests taken apart by number, and put together. Assumes nothing.
use Prim.Native.Nat.{ℕ, zero, suc}
use mathlib.Core.Path.{◌≡◌, refl}
use mathlib.Core.Bool.{Bool, true, ◌&&◌}
use mathlib.Core.List.{List, [], ◌∷◌}
use lib.ListN.{get_or}
use Rattle.common.specs.Tests.{conj, conj_from}
use Rattle.common.proofs.Choice.{and_left, and_right, and_both}
use Rattle.common.proofs.Each.{Each, done, ◌also◌}

first : (a : Bool) (ts : List Bool) → conj_from a ts ≡ true → a ≡ true
first a [] h = h
first a (b ∷ bs) h = and_left a b (first (a && b) bs h)

from : (a : Bool) (ts : List Bool) → conj_from a ts ≡ true → (i : ℕ) → get_or (a ∷ ts) i true ≡ true
from a ts h zero = first a ts h
from a [] h (suc i) = refl
from a (b ∷ bs) h (suc zero) = and_right a b (first (a && b) bs h)
from a (b ∷ bs) h (suc (suc i)) = from (a && b) bs h (suc i)

-- each test of a list that holds, by its number
pub each : (ts : List Bool) → conj ts ≡ true → (i : ℕ) → get_or ts i true ≡ true
each [] h i = refl
each (a ∷ bs) h i = from a bs h i

onward : (a : Bool) (ts : List Bool) → a ≡ true → Each (λ (b : Bool). b ≡ true) ts → conj_from a ts ≡ true
onward a [] e done = e
onward a (b ∷ bs) e (p also ps) = onward (a && b) bs (and_both a b e p) ps

-- the list holds if its tests do, given one after the other: `p also q also done`
pub all_hold : (ts : List Bool) → Each (λ (b : Bool). b ≡ true) ts → conj ts ≡ true
all_hold [] done = refl
all_hold (a ∷ bs) (p also ps) = onward a bs p ps
