-- A part of a buffer lent on from an index, as the borrow checker hands it over and back. Assumes nothing.
use mathlib.Core.Path.{◌≡◌, sym, ap, ◌∙◌}
use mathlib.Core.List.{List, ◌++◌, append-nil}
use mathlib.Core.Logic.{⊎_elim}
use Prim.Native.Nat.{ℕ, ◌-◌, ◌≤◌, ◌<◌, min}
use native.Mathlib.Omega.{arith}
use lib.ListN.{length, take, drop, length-drop, drop_of_length-le}
use lib.Seq.{take_all}
use Rattle.common.proofs.Order.{lt_or_le}

-- the part that is lent, of a buffer of n elements
pub lent : (n a : ℕ) (xs : List ℕ) → length xs ≡ n → take (n - a) (drop a xs) ≡ drop a xs
lent n a xs e = take_all (n - a) (drop a xs) (simp length-drop (omega arith))

-- the buffer when the part comes back as l
pub back : (n a : ℕ) (xs l : List ℕ) → length xs ≡ n → take a xs ++ (l ++ drop (n - a) (drop a xs)) ≡ take a xs ++ l
back n a xs l e =
    let h : length (drop a xs) ≤ n - a = simp length-drop (omega arith) in
    ap (λ (m : List ℕ). take a xs ++ m) (ap (λ (m : List ℕ). l ++ m) (drop_of_length-le (drop a xs) h) ∙ append-nil l)

-- what is dropped at most is all there is
pub drop_most : (k : ℕ) (xs : List ℕ) (n : ℕ) → n ≡ min k (length xs) → drop n xs ≡ drop k xs
drop_most k xs n e =
    ⊎_elim (λ (h : k < length xs). let q : n ≡ k = omega arith in ap (λ (j : ℕ). drop j xs) q)
    (λ (h : length xs ≤ k). let q : length xs ≤ n = omega arith in drop_of_length-le xs q ∙ sym (drop_of_length-le xs h)) (lt_or_le k (length xs))
