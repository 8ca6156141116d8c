-- The parts of a line: what each way out of the functions gives. Assumes nothing.
use Prim.Native.Nat.{ℕ, ◌+◌, ◌≤◌, ◌<◌}
use native.Mathlib.Numerals.{add-one}
use native.Mathlib.Omega.{arith}
use mathlib.Core.Path.{◌≡◌, refl, sym, ap, ◌∙◌}
use mathlib.Core.Bool.{Bool, true, false, not, ◌||◌}
use mathlib.Core.List.{List, [], ◌∷◌}
use lib.Dec.{eqb, ltb}
use lib.ListN.{length, get_or, take, drop, drop_of_length-le}
use lib.Seq.{take-length, drop-cons}
use borrow.Author.Tests.{lt-ltb, le-ltb, eq-eqb, ne_eqb}
use Rattle.std.specs.Cmp.Lexicographic.{pointwise}
use Rattle.std.specs.Prelude.{Some, None, unwrap_or}
use Rattle.common.proofs.Choice.{on_true, on_false, past}
use Rattle.notation.specs.declared.Reading.{Reading}
use Rattle.notation.specs.Reading.{start, read_all, filled}
use Rattle.notation.specs.Line.{index_of, between, part_to, part, part_read, end_by, end_of, number_by, number_of, end_within, answer_end, same, is_filled, is_written}

-- ---- a part, its marks being found
pub part_found : (from to : ℕ) (line : List ℕ) (end first : ℕ) → end ≡ index_of to (take (length line) line)
    → first ≡ index_of from (take end line) → between first end line ≡ part from to line
unfolding part
part_found from to line end first e f =
    ap (λ (k : ℕ). between k end line) f ∙ ap (λ (k : ℕ). part_to from k line) (e ∙ ap (index_of to) (take-length line))

-- ---- a part that is read as s
module _ (from to : ℕ) (line text : List ℕ) (e : text ≡ part from to line) where
  pub filled_part : (bytes : List ℕ) {next : List ℕ} → next ≡ filled start text bytes → next ≡ filled start (part from to line) bytes
  filled_part bytes g = g ∙ ap (λ (t : List ℕ). filled start t bytes) e

  module _ (s : Reading) (f : s ≡ read_all start text) where
    as_read : s ≡ part_read from to line
    as_read = f ∙ ap (read_all start) e

    pub end_read : s.readable ≡ true → Some s.at ≡ end_of from to line
    unfolding end_of
    end_read h = on_true _ _ h ∙ ap end_by as_read

    pub end_unread : s.readable ≡ false → None ≡ end_of from to line
    unfolding end_of
    end_unread h = on_false _ _ h ∙ ap end_by as_read

    module _ (decimal : Bool) where
      number_by_lem : number_by decimal s ≡ number_of from to decimal line
      unfolding number_of
      number_by_lem = ap (number_by decimal) as_read

      pub number_unread : (not s.readable || ltb 5 s.at) ≡ true → None ≡ number_of from to decimal line
      number_unread h = on_true _ _ h ∙ number_by_lem

      module _ (h : (not s.readable || ltb 5 s.at) ≡ false) where
        pub number_decimal : decimal ≡ true → Some s.decimal ≡ number_of from to decimal line
        number_decimal k = past _ _ h (ap Some (on_true _ _ k)) ∙ number_by_lem

        pub number_hexadecimal : decimal ≡ false → Some s.number ≡ number_of from to decimal line
        number_hexadecimal k = past _ _ h (ap Some (on_false _ _ k)) ∙ number_by_lem

-- ---- an answer that ends at n
pub end_none : (line : List ℕ) → None ≡ end_of 62 124 line → 66 ≡ answer_end line
unfolding answer_end
end_none line e = ap (λ o. end_within (unwrap_or o 66)) e

module _ (line : List ℕ) (n : ℕ) (e : Some n ≡ end_of 62 124 line) where
  end_by_lem : end_within n ≡ answer_end line
  unfolding answer_end
  end_by_lem = ap (λ o. end_within (unwrap_or o 66)) e

  pub end_first : n < 1 → 1 ≡ answer_end line
  end_first h = on_true _ _ (lt-ltb n 1 h) ∙ end_by_lem

  pub end_last : 1 ≤ n → 66 < n → 66 ≡ answer_end line
  end_last h k = past _ _ (le-ltb n 1 h) (on_true _ _ (lt-ltb 66 n k)) ∙ end_by_lem

  pub end_inside : 1 ≤ n → n ≤ 66 → n ≡ answer_end line
  end_inside h k = past _ _ (le-ltb n 1 h) (on_false _ _ (le-ltb 66 n k)) ∙ end_by_lem

-- ---- two lists of one length, as `==` compares them
pub same_if_equal : (a b : List ℕ) → length a ≡ length b → pointwise eqb a b ≡ same a b
unfolding same
same_if_equal [] [] h = refl
same_if_equal [] (y ∷ b) h = grind arith
same_if_equal (x ∷ a) [] h = refl
same_if_equal (x ∷ a) (y ∷ b) h =
    let rest : pointwise eqb a b ≡ same a b = same_if_equal a b (grind arith) in
    grind arith

-- ---- two lists from a place on
module _ (a b : List ℕ) (i : ℕ) where
  module _ (h : i < length a) (k : i < length b) where
    heads : same (get_or a i 0 ∷ drop (i + 1) a) (get_or b i 0 ∷ drop (i + 1) b) ≡ same (drop i a) (drop i b)
    heads =
        let e = drop-cons a i 0 h ∙ ap (λ (n : ℕ). get_or a i 0 ∷ drop n a) (sym (add-one i)) in
        let f = drop-cons b i 0 k ∙ ap (λ (n : ℕ). get_or b i 0 ∷ drop n b) (sym (add-one i)) in
        sym (λ j. same (e j) (f j))

    pub not_same : (get_or a i 0 ≡ get_or b i 0 → ⊥) → {w : Bool} → same (drop i a) (drop i b) ≡ w → false ≡ w
    unfolding same
    not_same n f = on_false _ _ (ne_eqb (get_or a i 0) (get_or b i 0) n) ∙ heads ∙ f

    pub same_on : get_or a i 0 ≡ get_or b i 0 → {w : Bool} → same (drop i a) (drop i b) ≡ w → same (drop (i + 1) a) (drop (i + 1) b) ≡ w
    unfolding same
    same_on n f = on_true _ _ (eq-eqb (get_or a i 0) (get_or b i 0) n) ∙ heads ∙ f

  pub same_end : length a ≤ i → {w : Bool} → same (drop i a) (drop i b) ≡ w → true ≡ w
  unfolding same
  same_end h f = ap (λ (l : List ℕ). same l (drop i b)) (sym (drop_of_length-le a h)) ∙ f

-- ---- bytes that a part leaves, up to n
pub unread_written : (from to : ℕ) (line bytes got : List ℕ) → None ≡ end_of from to line → false ≡ is_written from to line bytes got
unfolding is_written
unread_written from to line bytes got e = ap (λ o. is_filled o (filled start (part from to line) bytes) got) e

module _ (from to : ℕ) (line : List ℕ) (n : ℕ) (e : Some n ≡ end_of from to line) (bytes next got : List ℕ)
    (f : next ≡ filled start (part from to line) bytes) where
  written_by : is_filled (Some n) next got ≡ is_written from to line bytes got
  unfolding is_written
  written_by = λ i. is_filled (e i) (f i) got

  pub not_written : 66 < n → false ≡ is_written from to line bytes got
  not_written h = on_true _ _ (lt-ltb 66 n h) ∙ written_by

  pub as_written : n ≤ 66 → {r : Bool} → r ≡ same got next → r ≡ is_written from to line bytes got
  as_written h g = past _ _ (le-ltb 66 n h) g ∙ written_by
