-- Laws of a loop that fills a buffer byte by byte. Assumes nothing.
use mathlib.Core.Path.{◌≡◌, refl, sym, ap, ◌∙◌}
use mathlib.Core.List.{List, [], ◌∷◌, ◌++◌, append-nil}
use Prim.Native.Nat.{ℕ, zero, suc, ◌+◌, ◌<◌, ◌≤◌}
use native.Mathlib.Nat.{le_of_suc-le-suc, not-suc-le-zero}
use native.Mathlib.Omega.{arith}
use native.Mathlib.Numerals.{add-one}
use lib.ListN.{length, get_or, drop, set, length-append, drop_of_length-le}
use lib.Seq.{drop-cons, set_at, append_snoc}
use Rattle.common.specs.Fill.{up_to, front}

pub up_to_length : (f : ℕ → ℕ) (n : ℕ) → length (up_to f n) ≡ n
unfolding up_to
up_to_length f zero = refl
up_to_length f (suc n) = length-append (up_to f n) (f n ∷ []) ∙ ap (λ (k : ℕ). k + 1) (up_to_length f n) ∙ add-one n

pub front_none : (f : ℕ → ℕ) (d : List ℕ) → front f 0 d ≡ d
unfolding front up_to
front_none f d = refl

pub front_more : (f : ℕ → ℕ) (n : ℕ) (d : List ℕ) → n < length d → set (front f n d) n (f n) ≡ front f (n + 1) d
unfolding front up_to
front_more f n d h =
    ap (λ (l : List ℕ). set (up_to f n ++ l) n (f n)) (drop-cons d n 0 h)
    ∙ set_at (up_to f n) (get_or d n 0) (drop (suc n) d) (f n) n (up_to_length f n)
    ∙ sym (append_snoc (up_to f n) (f n) (drop (suc n) d))
    ∙ ap (λ (k : ℕ). up_to f k ++ drop k d) (sym (add-one n))

pub front_all : (f : ℕ → ℕ) (n : ℕ) (d : List ℕ) → n ≡ length d → front f n d ≡ up_to f (length d)
unfolding front
front_all f n d e =
    let h : length d ≤ n = omega arith in
    ap (λ (l : List ℕ). up_to f n ++ l) (drop_of_length-le d h) ∙ append-nil (up_to f n) ∙ ap (up_to f) e

-- within a list the default does not matter
pub get_d_any : (l : List ℕ) (i d e : ℕ) → i < length l → get_or l i d ≡ get_or l i e
get_d_any [] i d e h = absurd (not-suc-le-zero h)
get_d_any (x ∷ l) zero d e h = refl
get_d_any (x ∷ l) (suc i) d e h = get_d_any l i d e (le_of_suc-le-suc h)
