-- A list of tests that must all hold.
use Rattle.std.specs.Prelude.{Bool, true, ◌&&◌, List, [], ◌∷◌}

abbrev pub conj_from : Bool → List Bool → Bool
conj_from a [] = a
conj_from a (b ∷ bs) = conj_from (a && b) bs

-- every test of the list holds; it computes to what `a & b & c` is in code
abbrev pub conj : List Bool → Bool
conj [] = true
conj (a ∷ bs) = conj_from a bs
