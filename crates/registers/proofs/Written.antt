-- Laws of `stored` and `written`: one byte more, all bytes, lengths, and what stands at each address afterwards. Assumes nothing.
use mathlib.Core.Path.{◌≡◌, refl, sym, ap, ◌∙◌, subst}
use mathlib.Core.Logic.{⊎_elim}
use mathlib.Core.List.{List, [], ◌∷◌, ◌++◌, append-nil}
use Prim.Native.Nat.{ℕ, zero, suc, ◌+◌, ◌-◌, ◌<◌, ◌≤◌, min}
use native.Mathlib.Nat.{add-zero, add-suc, suc-add, le_of_suc-le-suc, not-suc-le-zero, add-sub_of_le}
use native.Mathlib.Omega.{arith}
use lib.ListN.{length, get_or, take, drop, set, length-append, length-drop, take-append-drop, drop_of_length-le, get_or-append}
use lib.Seq.{take-nil, take_all, length-take-le, get_or-append-add, get_or-take, get_or-drop}
use Rattle.common.proofs.Part.{lent, back}
use Rattle.common.proofs.Order.{lt_or_le}
use Rattle.registers.specs.Written.{kept, stored, written}

pub stored_none : (a : ℕ) (rs : List ℕ) → stored a rs [] ≡ rs
unfolding stored
stored_none a [] = refl
stored_none a (r ∷ rs) = refl

-- byte j joins those before it
pub stored_more : (a : ℕ) (rs bytes : List ℕ) (j : ℕ) → j < length rs → j < length bytes
    → set (stored a rs (take j bytes)) j (kept (a + j) (get_or bytes j 0)) ≡ stored a rs (take (suc j) bytes)
unfolding stored
stored_more a [] bytes j hr hb = absurd (not-suc-le-zero hr)
stored_more a (r ∷ rs) [] j hr hb = absurd (not-suc-le-zero hb)
stored_more a (r ∷ rs) (b ∷ bytes) zero hr hb =
    ap (λ (k : ℕ). kept k b ∷ rs) (add-zero a) ∙ ap (λ (l : List ℕ). kept a b ∷ l) (sym (stored_none (suc a) rs))
stored_more a (r ∷ rs) (b ∷ bytes) (suc j) hr hb =
    ap (λ (k : ℕ). kept a b ∷ set (stored (suc a) rs (take j bytes)) j (kept k (get_or bytes j 0))) (add-suc a j ∙ sym (suc-add a j))
    ∙ ap (λ (l : List ℕ). kept a b ∷ l) (stored_more (suc a) rs bytes j (le_of_suc-le-suc hr) (le_of_suc-le-suc hb))

-- as many bytes as both have are all
pub stored_all : (a : ℕ) (rs bytes : List ℕ) (n : ℕ) → min (length rs) (length bytes) ≤ n → stored a rs (take n bytes) ≡ stored a rs bytes
unfolding stored
stored_all a [] bytes n h = refl
stored_all a (r ∷ rs) [] n h = ap (stored a (r ∷ rs)) (take-nil n)
stored_all a (r ∷ rs) (b ∷ bytes) zero h = absurd (omega arith)
stored_all a (r ∷ rs) (b ∷ bytes) (suc n) h = ap (λ (l : List ℕ). kept a b ∷ l) (stored_all (suc a) rs bytes n (omega arith))

stored_length : (a : ℕ) (rs bytes : List ℕ) → length (stored a rs bytes) ≡ length rs
unfolding stored
stored_length a [] bytes = refl
stored_length a (r ∷ rs) [] = refl
stored_length a (r ∷ rs) (b ∷ bytes) = ap suc (stored_length (suc a) rs bytes)

-- ---- Written from an address on

module _ (rs : List ℕ) (a : ℕ) (bytes : List ℕ) where
  -- from behind the last register on, nothing changes
  pub written_past : length rs ≤ a → rs ≡ written rs a bytes
  unfolding written stored
  written_past h =
      sym
      (ap (λ (l : List ℕ). l ++ stored a (drop a rs) bytes) (take_all a rs h)
      ∙ ap (λ (l : List ℕ). rs ++ stored a l bytes) (drop_of_length-le rs h)
      ∙ append-nil rs)

  -- the part from a on is lent, stored into, and comes back as l
  pub written_lent : (n : ℕ) (l : List ℕ) → length rs ≡ n → l ≡ stored a (take (n - a) (drop a rs)) bytes
      → take a rs ++ (l ++ drop (n - a) (drop a rs)) ≡ written rs a bytes
  unfolding written
  written_lent n l e s = back n a rs l e ∙ ap (λ (t : List ℕ). take a rs ++ t) (s ∙ ap (λ (t : List ℕ). stored a t bytes) (lent n a rs e))

  pub written_length : length (written rs a bytes) ≡ length rs
  unfolding written
  written_length =
      length-append (take a rs) (stored a (drop a rs) bytes)
      ∙ ap (λ (k : ℕ). length (take a rs) + k) (stored_length a (drop a rs) bytes)
      ∙ sym (length-append (take a rs) (drop a rs))
      ∙ ap length (take-append-drop a rs)

-- ---- What stands at each address

-- a register's address is touched: a byte goes to it
stored_at : (a : ℕ) (rs bytes : List ℕ) (i : ℕ) → i < length rs → i < length bytes → get_or (stored a rs bytes) i 0 ≡ kept (a + i) (get_or bytes i 0)
unfolding stored
stored_at a [] bytes i hr hb = absurd (not-suc-le-zero hr)
stored_at a (r ∷ rs) [] i hr hb = absurd (not-suc-le-zero hb)
stored_at a (r ∷ rs) (b ∷ bytes) zero hr hb = ap (λ (k : ℕ). kept k b) (sym (add-zero a))
stored_at a (r ∷ rs) (b ∷ bytes) (suc i) hr hb =
    stored_at (suc a) rs bytes i (le_of_suc-le-suc hr) (le_of_suc-le-suc hb) ∙ ap (λ (k : ℕ). kept k (get_or bytes i 0)) (suc-add a i ∙ sym (add-suc a i))

-- or it is not
stored_rest : (a : ℕ) (rs bytes : List ℕ) (i : ℕ) → length bytes ≤ i → get_or (stored a rs bytes) i 0 ≡ get_or rs i 0
unfolding stored
stored_rest a [] bytes i h = refl
stored_rest a (r ∷ rs) [] i h = refl
stored_rest a (r ∷ rs) (b ∷ bytes) zero h = absurd (not-suc-le-zero h)
stored_rest a (r ∷ rs) (b ∷ bytes) (suc i) h = stored_rest (suc a) rs bytes i (le_of_suc-le-suc h)

module _ (rs : List ℕ) (a : ℕ) (bytes : List ℕ) (h : a ≤ length rs) where
  behind : (i : ℕ) → get_or (written rs a bytes) (a + i) 0 ≡ get_or (stored a (drop a rs) bytes) i 0
  unfolding written
  behind i =
      ap (λ (n : ℕ). get_or (written rs a bytes) (n + i) 0) (sym (length-take-le a rs h))
      ∙ get_or-append-add (take a rs) (stored a (drop a rs) bytes) i 0

  -- below a all is as it was
  pub written_below : (k : ℕ) → k < a → get_or (written rs a bytes) k 0 ≡ get_or rs k 0
  unfolding written
  written_below k lt =
      get_or-append (take a rs) (stored a (drop a rs) bytes) 0 k (omega (arith, length-take-le a rs h)) ∙ get_or-take a rs k 0 lt

  -- byte i stands at a + i, reserved bits apart
  pub written_at : (i : ℕ) → a + i < length rs → i < length bytes → get_or (written rs a bytes) (a + i) 0 ≡ kept (a + i) (get_or bytes i 0)
  written_at i hr hb = behind i ∙ stored_at a (drop a rs) bytes i (simp length-drop (omega arith)) hb

  -- behind the last byte all is as it was
  pub written_behind : (i : ℕ) → length bytes ≤ i → get_or (written rs a bytes) (a + i) 0 ≡ get_or rs (a + i) 0
  written_behind i hb = behind i ∙ stored_rest a (drop a rs) bytes i hb ∙ get_or-drop a rs i 0

  -- so each register holds what it held, or what it keeps of some byte
  pub written_case : (P : ℕ → Type 0) (k : ℕ) → k < length rs → P (get_or rs k 0) → ((i : ℕ) → P (kept k (get_or bytes i 0))) → P (get_or (written rs a bytes) k 0)
  written_case P k hk old new =
      ⊎_elim (λ (lt : k < a). subst P (sym (written_below k lt)) old)
      (λ (le : a ≤ k). subst (λ (j : ℕ). j < length rs → P (get_or rs j 0) → ((i : ℕ) → P (kept j (get_or bytes i 0))) → P (get_or (written rs a bytes) j 0)) (add-sub_of_le le) (from_a (k - a)) hk old new)
      (lt_or_le k a)
    where
      from_a : (i : ℕ) → a + i < length rs → P (get_or rs (a + i) 0) → ((j : ℕ) → P (kept (a + i) (get_or bytes j 0))) → P (get_or (written rs a bytes) (a + i) 0)
      from_a i hi was is =
          ⊎_elim (λ (lt : i < length bytes). subst P (sym (written_at i hi lt)) (is i)) (λ (le : length bytes ≤ i). subst P (sym (written_behind i le)) was) (lt_or_le i (length bytes))
