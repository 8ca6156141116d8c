-- Reserved bits stay 0: a write drops them. The tests are taken one by one, each at its register. Assumes nothing.
use Prim.Native.Nat.{ℕ, ◌/◌, ◌%◌, ◌<◌, ◌≤◌}
use mathlib.Core.Path.{◌≡◌, refl, sym, ap, subst, ◌∙◌}
use mathlib.Core.Bool.{Bool, true}
use mathlib.Core.Logic.{⊎_elim}
use mathlib.Core.List.{List, [], ◌∷◌, ◌++◌}
use native.Mathlib.Nat.{zero-add}
use native.Mathlib.Omega.{arith}
use lib.ListN.{length, get_or, get_or-eq_default}
use lib.Dec.{eqb, ltb}
use borrow.Author.Tests.{eq-eqb, lt-ltb, eqb-true, ltb-true}
use Rattle.common.proofs.Tests.{each, all_hold}
use Rattle.common.proofs.Each.{done, ◌also◌}
use Rattle.common.specs.Spell.{spell}
use Rattle.common.proofs.Spell.{spell_all}
use Rattle.common.proofs.Order.{lt_or_le}
use Rattle.registers.specs.Names.{at, MINUTES, WEEKDAY, DATE, MONTH, CALIBRATION, ALARM_MONTH, ALARM_WEEKDAY}
use Rattle.registers.specs.Written.{low3, low6, low7, high4, without_b5, without_b6, kept, reserved_tests, reserved_clear, stored, written}
use Rattle.registers.proofs.Kept.{kept_less}
use Rattle.registers.proofs.Written.{written_length, written_at, written_case}

-- ---- One bit

no_b5 : (b : ℕ) → eqb (without_b5 b / 32 % 2) 0 ≡ true
no_b5 b = eq-eqb (without_b5 b / 32 % 2) 0 (omega arith)

no_b6 : (b : ℕ) → eqb (without_b6 b / 64 % 2) 0 ≡ true
no_b6 b = eq-eqb (without_b6 b / 64 % 2) 0 (omega arith)

b5_clear : (b : ℕ) → without_b5 b ≡ b → b / 32 % 2 ≡ 0
b5_clear b e = let d : b / 64 ≡ b / 32 / 2 = omega arith in omega arith

b6_clear : (b : ℕ) → without_b6 b ≡ b → b / 64 % 2 ≡ 0
b6_clear b e = let d : b / 128 ≡ b / 64 / 2 = omega arith in omega arith

without_b6_lem : (b : ℕ) → b / 64 % 2 ≡ 0 → without_b6 b ≡ b
without_b6_lem b e = omega arith

-- ---- A write keeps them 0

module _ (rs : List ℕ) (a : ℕ) (bytes : List ℕ) (h : a ≤ length rs) (n : length rs ≡ 16) where
  -- a test of one register holds after the write if it held, and holds of all that the register keeps
  still : (test : ℕ → Bool) (k : ℕ) → k < 16 → test (at rs k) ≡ true → ((b : ℕ) → test (kept k b) ≡ true) → test (at (written rs a bytes) k) ≡ true
  still test k lt old new = written_case rs a bytes h (λ (x : ℕ). test x ≡ true) k (omega arith) old (λ (i : ℕ). new (get_or bytes i 0))

  pub written_clear : reserved_clear rs ≡ true → reserved_clear (written rs a bytes) ≡ true
  written_clear c =
      let old = each (reserved_tests rs) c in
      all_hold (reserved_tests (written rs a bytes))
      (still (λ (x : ℕ). eqb x 0) 0x00 (omega arith) (old 0) (λ (b : ℕ). refl)
      also still (λ (x : ℕ). ltb x 128) MINUTES (omega arith) (old 1) (λ (b : ℕ). lt-ltb (b % 128) 128 (omega arith))
      also still (λ (x : ℕ). ltb x 8) WEEKDAY (omega arith) (old 2) (λ (b : ℕ). lt-ltb (b % 8) 8 (omega arith))
      also still (λ (x : ℕ). ltb x 64) DATE (omega arith) (old 3) (λ (b : ℕ). lt-ltb (b % 64) 64 (omega arith))
      also still (λ (x : ℕ). eqb (x / 32 % 2) 0) MONTH (omega arith) (old 4) no_b5
      also still (λ (x : ℕ). eqb (x / 64 % 2) 0) CALIBRATION (omega arith) (old 5) no_b6
      also still (λ (x : ℕ). eqb (x / 64 % 2) 0) ALARM_MONTH (omega arith) (old 6) no_b6
      also still (λ (x : ℕ). eqb (x % 16) 0) ALARM_WEEKDAY (omega arith) (old 7) (λ (b : ℕ). eq-eqb (high4 b % 16) 0 (omega arith))
      also done)

-- bytes stay bytes
pub written_bytes : (rs : List ℕ) (a : ℕ) (bytes : List ℕ) → a ≤ length rs → ((i : ℕ) → at rs i < 256) → ((i : ℕ) → get_or bytes i 0 < 256) → (k : ℕ) → at (written rs a bytes) k < 256
written_bytes rs a bytes h old new k =
    ⊎_elim (λ (lt : k < length rs). written_case rs a bytes h (λ (x : ℕ). x < 256) k lt (old k) (λ (i : ℕ). omega (arith, kept_less k (get_or bytes i 0), new i)))
    (λ (le : length rs ≤ k).
    let past : length (written rs a bytes) ≤ k = omega (arith, written_length rs a bytes) in omega (arith, get_or-eq_default (written rs a bytes) 0 past))
    (lt_or_le k (length rs))

-- ---- Clear registers are those that a write of themselves leaves as they are

module _ (rs : List ℕ) (n : length rs ≡ 16) where
  pub clear_written : reserved_clear rs ≡ true → written rs 0 rs ≡ rs
  unfolding written stored
  clear_written h =
      let t = each (reserved_tests rs) h in
      let e0 : 0 ≡ at rs 0x00 = omega (arith, eqb-true (at rs 0x00) 0 (t 0)) in
      let e2 : low7 (at rs MINUTES) ≡ at rs MINUTES = omega (arith, ltb-true (at rs MINUTES) 128 (t 1)) in
      let e4 : low3 (at rs WEEKDAY) ≡ at rs WEEKDAY = omega (arith, ltb-true (at rs WEEKDAY) 8 (t 2)) in
      let e5 : low6 (at rs DATE) ≡ at rs DATE = omega (arith, ltb-true (at rs DATE) 64 (t 3)) in
      let e6 : without_b5 (at rs MONTH) ≡ at rs MONTH = omega (arith, eqb-true (at rs MONTH / 32 % 2) 0 (t 4)) in
      let e8 = without_b6_lem (at rs CALIBRATION) (eqb-true _ _ (t 5)) in
      let eA = without_b6_lem (at rs ALARM_MONTH) (eqb-true _ _ (t 6)) in
      let e_f : high4 (at rs ALARM_WEEKDAY) ≡ at rs ALARM_WEEKDAY = omega (arith, eqb-true (at rs ALARM_WEEKDAY % 16) 0 (t 7)) in
      (λ i. written (sym (spell_all 16 rs n) i) 0 (sym (spell_all 16 rs n) i))
      ∙ (λ i. e0 i ∷ at rs 1 ∷ e2 i ∷ at rs 3 ∷ e4 i ∷ e5 i ∷ e6 i ∷ at rs 7 ∷ e8 i ∷ at rs 9 ∷ eA i ∷ spell 11 4 rs ++ (e_f i ∷ []))
      ∙ spell_all 16 rs n

  pub written_same_clear : written rs 0 rs ≡ rs → reserved_clear rs ≡ true
  written_same_clear e =
      all_hold (reserved_tests rs)
      (eq-eqb (at rs 0x00) 0 (sym (holds 0x00 (omega arith)))
      also lt-ltb (at rs MINUTES) 128 (omega (arith, holds MINUTES (omega arith)))
      also lt-ltb (at rs WEEKDAY) 8 (omega (arith, holds WEEKDAY (omega arith)))
      also lt-ltb (at rs DATE) 64 (omega (arith, holds DATE (omega arith)))
      also eq-eqb (at rs MONTH / 32 % 2) 0 (b5_clear (at rs MONTH) (holds MONTH (omega arith)))
      also eq-eqb (at rs CALIBRATION / 64 % 2) 0 (b6_clear (at rs CALIBRATION) (holds CALIBRATION (omega arith)))
      also eq-eqb (at rs ALARM_MONTH / 64 % 2) 0 (b6_clear (at rs ALARM_MONTH) (holds ALARM_MONTH (omega arith)))
      also eq-eqb (at rs ALARM_WEEKDAY % 16) 0 (omega (arith, holds ALARM_WEEKDAY (omega arith)))
      also done)
    where
      holds : (k : ℕ) → k < 16 → kept k (at rs k) ≡ at rs k
      holds k h =
          sym (subst (λ (j : ℕ). at (written rs 0 rs) j ≡ kept j (at rs k)) (zero-add k) (written_at rs 0 rs (omega arith) k (omega arith) (omega arith)))
          ∙ ap (λ (l : List ℕ). at l k) e
