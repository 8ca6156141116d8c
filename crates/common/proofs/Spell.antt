-- What a list spelt out by its elements is. Assumes nothing.
use Prim.Native.Nat.{ℕ, zero, suc, ◌+◌, ◌≤◌}
use native.Mathlib.Omega.{arith}
use mathlib.Core.Path.{◌≡◌, refl, sym, ap, ◌∙◌}
use mathlib.Core.List.{List, ◌∷◌}
use lib.ListN.{length, get_or, take, drop}
use lib.Seq.{drop-cons, take-length}
use Rattle.common.specs.Spell.{spell}

-- a part of the list
pub spell_part : (i n : ℕ) (l : List ℕ) → i + n ≤ length l → spell i n l ≡ take n (drop i l)
spell_part i zero l h = refl
spell_part i (suc n) l h =
    ap (λ (t : List ℕ). get_or l i 0 ∷ t) (spell_part (suc i) n l (omega arith)) ∙ ap (take (suc n)) (sym (drop-cons l i 0 (omega arith)))

-- all of it
pub spell_all : (n : ℕ) (l : List ℕ) → length l ≡ n → spell 0 n l ≡ l
spell_all n l h = spell_part 0 n l (omega arith) ∙ ap (λ (k : ℕ). take k l) (sym h) ∙ take-length l
