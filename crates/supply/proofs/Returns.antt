-- One supply return after another is one after the sum; where the clock stands and when the alarm flag is up. Assumes nothing.
use Prim.Native.Nat.{ℕ, ◌+◌, ◌*◌, ◌%◌, ◌/◌}
use mathlib.Core.Path.{◌≡◌, refl, sym, ap, ◌∙◌}
use mathlib.Core.Bool.{Bool, true, false, cond, not, ◌&&◌, ◌||◌, or-true, or-false, and-or_distrib_left}
use mathlib.Core.List.{List}
use native.Mathlib.Omega.{arith}
use lib.Bits.{bit_or, or_step, or_zero_r}
use borrow.Author.Tests.{eq-eqb}
use Rattle.common.specs.Bits.{bit_set}
use Rattle.common.proofs.Choice.{on_true, on_false, of_cond, by_cases}
use Rattle.calendar.specs.Clock.{moved}
use Rattle.calendar.proofs.Moved.{moved_valid, moved_moved}
use Rattle.alarm.specs.Match.{matches}
use Rattle.alarm.specs.Reached.{any_reached}
use Rattle.alarm.proofs.Reached.{any_add}
use Rattle.registers.specs.Names.{stopped, afe, abe}
use Rattle.timekeeper.specs.Clock.{clock_of, with_clock}
use Rattle.timekeeper.specs.Alarm.{alarm_of}
use Rattle.timekeeper.proofs.Clock.{clock_with}
use Rattle.timekeeper.proofs.Apart.{with_stopped, with_afe, with_abe, with_with}
use Rattle.timekeeper.proofs.Alarm.{with_alarm}
use Rattle.controller.specs.declared.Core.{Core}
use Rattle.controller.specs.State.{rtc, sixteenths, ALARM_FLAG}
use Rattle.panel.specs.declared.Panel.{Panel}
use Rattle.panel.specs.State.{with_core}
use Rattle.panel.specs.PowerUp.{panel_powered_up}
use Rattle.supply.specs.Return.{registers_returned, match_counts, flags_returned, core_returned, returned, panel_returned}

module _ (rs : List ℕ) where
  -- ---- the two cases of a return
  pub registers_stopped : (n : ℕ) → stopped rs ≡ true → registers_returned n rs ≡ rs
  unfolding registers_returned
  registers_stopped n t = sym (on_true _ _ t)

  pub registers_running : (n : ℕ) → stopped rs ≡ false → registers_returned n rs ≡ with_clock rs (moved (clock_of rs) n)
  unfolding registers_returned
  registers_running n t = sym (on_false _ _ t)

  -- ---- what a return keeps of the registers
  kept_stopped : (n : ℕ) → stopped (registers_returned n rs) ≡ stopped rs
  unfolding registers_returned
  kept_stopped n = of_cond (λ (x : List ℕ). stopped x ≡ stopped rs) (stopped rs) _ _ (λ t. refl) (λ t. with_stopped rs (moved (clock_of rs) n))

  kept_alarm : (n : ℕ) → alarm_of (registers_returned n rs) ≡ alarm_of rs
  unfolding registers_returned
  kept_alarm n = of_cond (λ (x : List ℕ). alarm_of x ≡ alarm_of rs) (stopped rs) _ _ (λ t. refl) (λ t. with_alarm rs (moved (clock_of rs) n))

  kept_bits : (n : ℕ) → (afe (registers_returned n rs) && abe (registers_returned n rs)) ≡ (afe rs && abe rs)
  unfolding registers_returned
  kept_bits n =
      of_cond (λ (x : List ℕ). (afe x && abe x) ≡ (afe rs && abe rs)) (stopped rs) _ _ (λ t. refl)
      (λ t. (λ i. with_afe rs (moved (clock_of rs) n) i && with_abe rs (moved (clock_of rs) n) i))

  -- ---- where the clock stands
  pub clock_stopped : (n : ℕ) → stopped rs ≡ true → clock_of (registers_returned n rs) ≡ clock_of rs
  clock_stopped n t = ap clock_of (registers_stopped n t)

  pub clock_running : (n : ℕ) → stopped rs ≡ false → clock_of (registers_returned n rs) ≡ moved (clock_of rs) n
  clock_running n t = ap clock_of (registers_running n t) ∙ clock_with rs (moved (clock_of rs) n) (moved_valid (clock_of rs) n)

-- ---- one after another
module _ (rs : List ℕ) (m n : ℕ) where
  abbrev between : List ℕ
  between = registers_returned m rs

  runs_on : stopped rs ≡ false → stopped between ≡ false
  runs_on t = kept_stopped rs m ∙ t

  registers_add : registers_returned n between ≡ registers_returned (m + n) rs
  registers_add = by_cases (registers_returned n between ≡ registers_returned (m + n) rs) (stopped rs) stands moves
    where
      stands : stopped rs ≡ true → registers_returned n between ≡ registers_returned (m + n) rs
      stands t = ap (registers_returned n) (registers_stopped rs m t) ∙ registers_stopped rs n t ∙ sym (registers_stopped rs (m + n) t)

      moves : stopped rs ≡ false → registers_returned n between ≡ registers_returned (m + n) rs
      moves t =
          registers_running between n (runs_on t)
          ∙ (λ i. with_clock (registers_running rs m t i) (moved (clock_running rs m t i) n))
          ∙ with_with rs (moved (clock_of rs) m) (moved (moved (clock_of rs) m) n)
          ∙ ap (with_clock rs) (moved_moved (clock_of rs) m n)
          ∙ sym (registers_running rs (m + n) t)

  matches_add : match_counts (m + n) rs ≡ (match_counts m rs || match_counts n between)
  unfolding match_counts
  matches_add = by_cases (match_counts (m + n) rs ≡ (match_counts m rs || match_counts n between)) (stopped rs) stands moves
    where
      armed : Bool
      armed = afe rs && abe rs

      any : ℕ → Bool
      any k = any_reached (matches (alarm_of rs)) (clock_of rs) k

      later : Bool
      later = any_reached (matches (alarm_of rs)) (moved (clock_of rs) m) n

      shut : (a b c d e f : Bool) → (not true && a && b) ≡ ((not true && c && d) || (not true && e && f))
      shut a b c d e f = refl

      stands : stopped rs ≡ true → match_counts (m + n) rs ≡ (match_counts m rs || match_counts n between)
      stands t =
          (λ i. not (t i) && armed && any (m + n)) ∙ shut armed (any (m + n)) armed (any m) (afe between && abe between) (any_reached (matches (alarm_of between)) (clock_of between) n)
          ∙ (λ i. (not (sym t i) && armed && any m) || (not (sym (kept_stopped rs m ∙ t) i) && (afe between && abe between) && any_reached (matches (alarm_of between)) (clock_of between) n))

      moves : stopped rs ≡ false → match_counts (m + n) rs ≡ (match_counts m rs || match_counts n between)
      moves t =
          (λ i. not (t i) && armed && any_add (matches (alarm_of rs)) (clock_of rs) m n i)
          ∙ and-or_distrib_left armed (any m) later
          ∙ (λ i. (not (sym t i) && armed && any m) || (not (sym (runs_on t) i) && sym (kept_bits rs m) i && any_reached (matches (sym (kept_alarm rs m) i)) (sym (clock_running rs m t) i) n))

-- ---- the flags
or_one : (f : ℕ) → bit_or f ALARM_FLAG ≡ f / 2 * 2 + 1
or_one f = or_step f 1 ∙ (let e : bit_or (f / 2) 0 ≡ f / 2 = or_zero_r (f / 2) in omega arith)

once : (f : ℕ) → bit_or (bit_or f ALARM_FLAG) ALARM_FLAG ≡ bit_or f ALARM_FLAG
once f = or_one (bit_or f ALARM_FLAG) ∙ omega (arith, or_one f)

is_up : (f : ℕ) → bit_set (bit_or f ALARM_FLAG) ALARM_FLAG ≡ true
is_up f = eq-eqb (bit_or f ALARM_FLAG / 1 % 2) 1 (omega (arith, or_one f))

flags_add : (rs : List ℕ) (m n f : ℕ) → flags_returned n (registers_returned m rs) (flags_returned m rs f) ≡ flags_returned (m + n) rs f
unfolding flags_returned
flags_add rs m n f = by (match_counts m rs) (match_counts n (registers_returned m rs)) ∙ ap (λ (b : Bool). cond b (bit_or f ALARM_FLAG) f) (sym (matches_add rs m n))
  where
    by : (x y : Bool) → cond y (bit_or (cond x (bit_or f ALARM_FLAG) f) ALARM_FLAG) (cond x (bit_or f ALARM_FLAG) f) ≡ cond (x || y) (bit_or f ALARM_FLAG) f
    by true true = once f
    by true false = refl
    by false true = refl
    by false false = refl

-- the alarm flag is up exactly if it was up or a match counts
pub flag_returned : (rs : List ℕ) (n f : ℕ) → bit_set (flags_returned n rs f) ALARM_FLAG ≡ (bit_set f ALARM_FLAG || match_counts n rs)
unfolding flags_returned
flag_returned rs n f = by (match_counts n rs)
  where
    by : (x : Bool) → bit_set (cond x (bit_or f ALARM_FLAG) f) ALARM_FLAG ≡ (bit_set f ALARM_FLAG || x)
    by true = is_up f ∙ sym (or-true (bit_set f ALARM_FLAG))
    by false = sym (or-false (bit_set f ALARM_FLAG))

-- ---- the whole state
pub core_add : (c : Core) (m n : ℕ) → returned n (returned m c) ≡ returned (m + n) c
core_add c m n =
    ap core_returned (λ i. rtc (registers_add c.rtc.registers m n i) c.rtc.sixteenths (flags_add c.rtc.registers m n c.rtc.flags i) (sixteenths 0))

pub panel_add : (p : Panel) (m n : ℕ) → panel_returned n (panel_returned m p) ≡ panel_returned (m + n) p
panel_add p m n = ap (with_core panel_powered_up) (core_add p.core m n)
