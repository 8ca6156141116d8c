-- A list spelt out by its elements, so that it computes even where the list is a variable.
use Rattle.std.specs.Prelude.{ℕ, zero, suc, List, [], ◌∷◌, get_or}

-- the n elements from place i on
abbrev pub spell : ℕ → ℕ → List ℕ → List ℕ
spell i zero l = []
spell i (suc n) l = get_or l i 0 ∷ spell (suc i) n l
