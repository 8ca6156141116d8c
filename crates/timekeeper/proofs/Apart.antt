-- What writing a calendar leaves alone: all registers but 01h to 07h, the flag bits, reserved bits and a byte's size. Assumes nothing.
use Prim.Native.Nat.{ℕ, ◌+◌, ◌-◌, ◌*◌, ◌/◌, ◌%◌, ◌≤◌, ◌<◌}
use mathlib.Core.Path.{◌≡◌, refl, sym, ap, ◌∙◌}
use mathlib.Core.Bool.{true}
use mathlib.Core.Logic.{⊎_elim}
use mathlib.Core.List.{List, ◌∷◌}
use native.Mathlib.Omega.{arith}
use lib.ListN.{length, get_or, drop, length-drop}
use lib.Seq.{take_all, get_or-drop}
use lib.Dec.{eqb}
use borrow.Author.Tests.{lt-ltb, eq-eqb}
use Rattle.common.specs.Spell.{spell}
use Rattle.common.proofs.Tests.{each, all_hold}
use Rattle.common.proofs.Each.{each_at, done, ◌also◌}
use Rattle.common.proofs.Spell.{spell_part}
use Rattle.common.proofs.Order.{lt_or_le}
use Rattle.calendar.specs.declared.Clock.{Clock}
use Rattle.calendar.specs.Clock.{full_year, Valid}
use Rattle.calendar.proofs.Date.{date_31}
use Rattle.registers.specs.Names.{at, SECONDS, HOURS, YEAR, WATCHDOG, stopped, md_h, m_ms, twelve_hours, afe, abe, wdfen}
use Rattle.registers.specs.Written.{reserved_tests, reserved_clear}
use Rattle.timekeeper.specs.Bcd.{bcd}
use Rattle.timekeeper.specs.Clock.{under_b7, under_b7_b6, with_clock}
use Rattle.timekeeper.proofs.Bcd.{bcd_below, bcd_byte}

-- ---- Flags above a byte

b7_stays : (r x : ℕ) → under_b7 r x / 128 ≡ r / 128
b7_stays r x = omega arith

b7_b6_stay : (r x : ℕ) → under_b7_b6 r x / 64 ≡ r / 64
b7_b6_stay r x = omega arith

b7_of_both_stays : (r x : ℕ) → under_b7_b6 r x / 128 ≡ r / 128
b7_of_both_stays r x = omega arith

no_b5 : (k x : ℕ) → x < 32 → (k % 4 * 64 + x % 64) / 32 % 2 ≡ 0
no_b5 k x h = omega arith

module _ (rs : List ℕ) (c : Clock) where
  pub with_length : length (with_clock rs c) ≡ 16
  unfolding with_clock
  with_length = refl

  -- 08h to 0Fh
  pub with_drop : length rs ≡ 16 → drop 8 (with_clock rs c) ≡ drop 8 rs
  unfolding with_clock
  with_drop n = spell_part 8 8 rs (omega arith) ∙ take_all 8 (drop 8 rs) (simp length-drop (omega arith))

  with_first : at (with_clock rs c) 0 ≡ at rs 0
  unfolding with_clock
  with_first = refl

  -- all but 01h to 07h
  pub with_at : length rs ≡ 16 → (k : ℕ) → (SECONDS ≤ k → k ≤ YEAR → ⊥) → at (with_clock rs c) k ≡ at rs k
  with_at n k h =
      ⊎_elim (λ (l : k < 1). let e : k ≡ 0 = omega arith in ap (at (with_clock rs c)) e ∙ with_first ∙ ap (at rs) (sym e))
      (λ (m : 1 ≤ k). ⊎_elim (λ (l : k < 8). absurd (h m (omega arith))) (λ (m : 8 ≤ k). behind m) (lt_or_le k 8))
      (lt_or_le k 1)
    where
      behind : 8 ≤ k → at (with_clock rs c) k ≡ at rs k
      behind m =
          let e : 8 + (k - 8) ≡ k = omega arith in
          ap (at (with_clock rs c)) (sym e) ∙ sym (get_or-drop 8 (with_clock rs c) (k - 8) 0)
          ∙ ap (λ (l : List ℕ). get_or l (k - 8) 0) (with_drop n) ∙ get_or-drop 8 rs (k - 8) 0 ∙ ap (at rs) e

  pub with_stopped : stopped (with_clock rs c) ≡ stopped rs
  unfolding with_clock
  with_stopped = ap (λ (x : ℕ). eqb (x % 2) 1) (b7_stays (at rs SECONDS) (bcd c.second))

  pub with_md_h : md_h (with_clock rs c) ≡ md_h rs
  unfolding with_clock
  with_md_h = ap (λ (x : ℕ). eqb (x % 2) 1) (b7_of_both_stays (at rs HOURS) (bcd c.hour))

  pub with_m_ms : m_ms (with_clock rs c) ≡ m_ms rs
  unfolding with_clock
  with_m_ms = ap (λ (x : ℕ). eqb (x % 2) 1) (b7_b6_stay (at rs HOURS) (bcd c.hour))

  pub with_twelve : twelve_hours (with_clock rs c) ≡ twelve_hours rs
  unfolding with_clock
  with_twelve = refl

  pub with_afe : afe (with_clock rs c) ≡ afe rs
  unfolding with_clock
  with_afe = refl

  pub with_abe : abe (with_clock rs c) ≡ abe rs
  unfolding with_clock
  with_abe = refl

  pub with_wdfen : wdfen (with_clock rs c) ≡ wdfen rs
  unfolding with_clock
  with_wdfen = refl

  pub with_watchdog : at (with_clock rs c) WATCHDOG ≡ at rs WATCHDOG
  unfolding with_clock
  with_watchdog = refl

  -- of two calendars written the last stays
  pub with_with : (d : Clock) → with_clock (with_clock rs c) d ≡ with_clock rs d
  unfolding with_clock
  with_with d =
      λ i. at rs 0x00
      ∷ (b7_stays (at rs SECONDS) (bcd c.second) i * 128 + bcd d.second % 128)
      ∷ bcd d.minute
      ∷ (b7_b6_stay (at rs HOURS) (bcd c.hour) i * 64 + bcd d.hour % 64)
      ∷ bcd d.weekday
      ∷ bcd d.date
      ∷ (d.century % 4 * 64 + bcd d.month % 64)
      ∷ bcd d.year
      ∷ spell 0x08 8 rs

  pub with_bytes : ((i : ℕ) → at rs i < 256) → (k : ℕ) → at (with_clock rs c) k < 256
  unfolding with_clock
  with_bytes h =
      each_at (λ (x : ℕ). x < 256) (with_clock rs c) 0
      (h 0
      also omega (arith, h SECONDS)
      also bcd_byte c.minute
      also omega (arith, h HOURS)
      also bcd_byte c.weekday
      also bcd_byte c.date
      also omega arith
      also bcd_byte c.year
      also h 8
      also h 9
      also h 10
      also h 11
      also h 12
      also h 13
      also h 14
      also h 15
      also done)
      (omega arith)

  pub with_clear : Valid c → reserved_clear rs ≡ true → reserved_clear (with_clock rs c) ≡ true
  unfolding with_clock
  with_clear v h =
      let old = each (reserved_tests rs) h in
      all_hold (reserved_tests (with_clock rs c))
      (old 0
      also lt-ltb (bcd c.minute) 128 (omega (arith, bcd_below c.minute 6 (omega (arith, v.minute))))
      also lt-ltb (bcd c.weekday) 8 (omega (arith, v.weekday_high))
      also lt-ltb (bcd c.date) 64 (omega (arith, bcd_below c.date 4 (omega (arith, date_31 (full_year c) c.month c.date v.dated))))
      also eq-eqb ((c.century % 4 * 64 + bcd c.month % 64) / 32 % 2) 0 (no_b5 c.century (bcd c.month) (bcd_below c.month 2 (omega (arith, v.dated.month_high))))
      also old 5
      also old 6
      also old 7
      also done)
