-- A reply stored into an output as far as it fits, and what is beyond it filled. Assumes nothing.
use Prim.Native.Nat.{ℕ, zero, suc, ◌+◌, ◌-◌, ◌<◌, ◌≤◌, min}
use mathlib.Core.Path.{◌≡◌, refl, sym, ap, ◌∙◌}
use mathlib.Core.List.{List, [], ◌∷◌, ◌++◌, append-nil}
use native.Mathlib.Omega.{arith}
use mathlib.Core.Bool.{Bool, true, false}
use lib.Dec.{leb}
use lib.ListN.{length, length-drop, get_or, get_or-eq_default, take, drop, set, replicate}
use borrow.Author.Tests.{leb-true, leb-false}
use lib.Seq.{append_snoc}
use Rattle.std.proofs.Math.Seq.{take-append_seam}
use Rattle.common.specs.Fill.{up_to, front}
use Rattle.common.proofs.Part.{lent, back}
use Rattle.common.proofs.Fill.{up_to_length, front_none, front_more, get_d_any}

-- the byte at place k of an output
abbrev at : List ℕ → ℕ → ℕ
at r k = get_or r k 255

pub none_yet : (r d : List ℕ) → d ≡ front (at r) (min 0 (length d)) d
none_yet r d = let z : 0 ≡ min 0 (length d) = omega arith in sym (front_none (at r) d) ∙ ap (λ (n : ℕ). front (at r) n d) z

-- one byte more, while the output holds it
pub held : (r d out : List ℕ) (i : ℕ) → out ≡ front (at r) (min i (length d)) d → i < length r → i < length d
    → set out i (get_or r i 0) ≡ front (at r) (min (i + 1) (length d)) d
held r d out i e h g =
    let a : min i (length d) ≡ i = omega arith in
    let b : i + 1 ≡ min (i + 1) (length d) = omega arith in
    (λ j. set ((e ∙ ap (λ (n : ℕ). front (at r) n d) a) j) i (get_d_any r i 0 255 h j))
    ∙ front_more (at r) i d g
    ∙ ap (λ (n : ℕ). front (at r) n d) b

-- and none more where it does not
pub full : (r d out : List ℕ) (i : ℕ) → out ≡ front (at r) (min i (length d)) d → length d ≤ i
    → out ≡ front (at r) (min (i + 1) (length d)) d
full r d out i e h =
    let a : min i (length d) ≡ min (i + 1) (length d) = omega arith in
    e ∙ ap (λ (n : ℕ). front (at r) n d) a

-- past the reply the bytes are FFh
beyond : (r : List ℕ) (k m : ℕ) → length r ≤ m → up_to (at r) m ++ replicate k 255 ≡ up_to (at r) (m + k)
unfolding up_to
beyond r zero m h = let s : m ≡ m + 0 = omega arith in append-nil (up_to (at r) m) ∙ ap (up_to (at r)) s
beyond r (suc k) m h =
    let g : length r ≤ suc m = omega arith in
    let s : suc m + k ≡ m + suc k = omega arith in
    sym (append_snoc (up_to (at r) m) 255 (replicate k 255))
    ∙ ap (λ (x : ℕ). (up_to (at r) m ++ (x ∷ [])) ++ replicate k 255) (sym (get_or-eq_default r 255 h))
    ∙ beyond r k (suc m) g
    ∙ ap (up_to (at r)) s

filled_by : (r : List ℕ) (n m : ℕ) → m ≡ min (length r) n → up_to (at r) m ++ replicate (n - m) 255 ≡ up_to (at r) n
filled_by r n m e = by (leb (length r) n) refl
  where
    by : (b : Bool) → leb (length r) n ≡ b → up_to (at r) m ++ replicate (n - m) 255 ≡ up_to (at r) n
    by true t =
        let le : length r ≤ n = leb-true (length r) n t in
        let h : length r ≤ m = omega arith in
        let s : m + (n - m) ≡ n = omega arith in
        beyond r (n - m) m h ∙ ap (up_to (at r)) s
    by false t =
        let lt : n < length r = leb-false (length r) n t in
        let none : n - m ≡ 0 = omega arith in
        let same : m ≡ n = omega arith in
        ap (λ (k : ℕ). up_to (at r) m ++ replicate k 255) none ∙ append-nil (up_to (at r) m) ∙ ap (up_to (at r)) same

-- the bytes from m on filled
filled : (r d out part : List ℕ) (m : ℕ) → m ≡ min (length r) (length d) → out ≡ front (at r) m d → part ≡ replicate (length d - m) 255
    → take m out ++ part ≡ up_to (at r) (length d)
unfolding front
filled r d out part m e h p =
    let f : take m out ≡ up_to (at r) m =
    ap (take m) h
    ∙ ap (λ (n : ℕ). take n (up_to (at r) m ++ drop m d)) (sym (up_to_length (at r) m))
    ∙ take-append_seam (up_to (at r) m) (drop m d) in
    (λ j. f j ++ p j) ∙ filled_by r (length d) m e

-- the whole output, where the loop over the reply has ended and the rest, put back behind m bytes, is filled
pub answered_by : (r d out part : List ℕ) (i m : ℕ) → out ≡ front (at r) (min i (length d)) d → length out ≡ length d → length r ≤ i → i ≤ length r
    → m ≡ min (length r) (length out) → part ≡ replicate (length (take (length out - m) (drop m out))) 255
    → take m out ++ (part ++ drop (length out - m) (drop m out)) ≡ up_to (at r) (length d)
answered_by r d out part i m e same ended most least p =
    let bound : m ≡ min (length r) (length d) = omega arith in
    let all : min i (length d) ≡ m = omega arith in
    let rest : part ≡ replicate (length d - m) 255 =
    p
    ∙ ap (λ (l : List ℕ). replicate (length l) 255) (lent (length out) m out refl)
    ∙ ap (λ (n : ℕ). replicate n 255) (length-drop m out ∙ ap (λ (n : ℕ). n - m) same) in
    back (length out) m out part refl ∙ filled r d out part m bound (e ∙ ap (λ (n : ℕ). front (at r) n d) all) rest
