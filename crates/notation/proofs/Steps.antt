-- The next character of a text: what it makes of the reading and of the bytes. Assumes nothing.
use Prim.Native.Nat.{ℕ, ◌+◌, ◌≤◌, ◌<◌}
use native.Mathlib.Numerals.{add-one}
use native.Mathlib.Omega.{arith}
use mathlib.Core.Path.{◌≡◌, sym, ap, ◌∙◌}
use mathlib.Core.Bool.{true, false}
use mathlib.Core.List.{List, ◌∷◌}
use lib.ListN.{length, get_or, set, drop, drop_of_length-le}
use lib.Seq.{drop-cons}
use borrow.Author.Tests.{lt-ltb, le-ltb, eq-eqb, ne_eqb}
use Rattle.std.specs.Prelude.{Some, None}
use Rattle.common.proofs.Choice.{on_true, on_false}
use Rattle.notation.specs.declared.Reading.{Reading}
use Rattle.notation.specs.Reading.{digit_of, reading, byte_of, digit_read, gap_read, read_as, read, stored_as, stored, read_all, filled}

-- ---- one character, which is the digit d
module _ (s : Reading) (c d : ℕ) (e : Some d ≡ digit_of c) where
  pub by_digit : {r : Reading} → r ≡ digit_read s d → r ≡ read s c
  unfolding read
  by_digit f = f ∙ ap (read_as s c) e

  module _ (high : ℕ) (f : Some high ≡ s.high) (bytes : List ℕ) where
    as_pair : stored_as s (Some high) (Some d) bytes ≡ stored s c bytes
    unfolding stored
    as_pair = λ i. stored_as s (f i) (e i) bytes

    pub stored_in : s.place ≡ false → s.at < length bytes → set bytes s.at (byte_of high d) ≡ stored s c bytes
    stored_in h l = on_true _ _ (lt-ltb s.at (length bytes) l) ∙ on_false _ _ h ∙ as_pair

    pub stored_beyond : s.place ≡ false → length bytes ≤ s.at → bytes ≡ stored s c bytes
    stored_beyond h l = on_false _ _ (le-ltb s.at (length bytes) l) ∙ on_false _ _ h ∙ as_pair

    pub stored_place : s.place ≡ true → bytes ≡ stored s c bytes
    stored_place h = on_true _ _ h ∙ as_pair

  pub stored_first : None ≡ s.high → (bytes : List ℕ) → bytes ≡ stored s c bytes
  unfolding stored
  stored_first f bytes = λ i. stored_as s (f i) (digit_of c) bytes

-- ---- one character, which is no digit
module _ (s : Reading) (c : ℕ) (e : None ≡ digit_of c) where
  pub by_place : c ≡ 64 → reading s.at s.number s.decimal s.high true s.readable ≡ read s c
  unfolding read
  by_place f = on_true _ _ (eq-eqb c 64 f) ∙ ap (read_as s c) e

  pub by_gap : {r : Reading} → (c ≡ 64 → ⊥) → r ≡ gap_read s c → r ≡ read s c
  unfolding read
  by_gap n f = f ∙ on_false _ _ (ne_eqb c 64 n) ∙ ap (read_as s c) e

  pub stored_none : (bytes : List ℕ) → bytes ≡ stored s c bytes
  unfolding stored
  stored_none bytes = grind arith

-- ---- the text from a place on
module _ (s : Reading) (text : List ℕ) (i : ℕ) (h : i < length text) where
  rest : drop i text ≡ get_or text i 0 ∷ drop (i + 1) text
  rest = drop-cons text i 0 h ∙ ap (λ (k : ℕ). get_or text i 0 ∷ drop k text) (sym (add-one i))

  pub read_on : {r w : Reading} → r ≡ read s (get_or text i 0) → read_all s (drop i text) ≡ w → read_all r (drop (i + 1) text) ≡ w
  unfolding read_all
  read_on e f = ap (λ (x : Reading). read_all x (drop (i + 1) text)) e ∙ sym (ap (read_all s) rest) ∙ f

  pub filled_on : (bytes : List ℕ) {r : Reading} {next w : List ℕ} → r ≡ read s (get_or text i 0) → next ≡ stored s (get_or text i 0) bytes
      → filled s (drop i text) bytes ≡ w → filled r (drop (i + 1) text) next ≡ w
  unfolding filled
  filled_on bytes e g f =
      (λ j. filled (e j) (drop (i + 1) text) (g j)) ∙ sym (ap (λ (l : List ℕ). filled s l bytes) rest) ∙ f

-- ---- its end
module _ (s : Reading) (text : List ℕ) (i : ℕ) (h : length text ≤ i) where
  pub read_end : read s 32 ≡ read_all s (drop i text)
  unfolding read_all
  read_end = ap (read_all s) (sym (drop_of_length-le text h))

  pub filled_end : (bytes : List ℕ) → bytes ≡ filled s (drop i text) bytes
  unfolding filled
  filled_end bytes = ap (λ (l : List ℕ). filled s l bytes) (sym (drop_of_length-le text h))
