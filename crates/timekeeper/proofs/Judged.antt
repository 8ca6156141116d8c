-- Command 50h's write: its number, its registers, that a valid calendar stays one, and a date that is written before its month. Assumes nothing.
use Prim.Native.Nat.{ℕ}
use mathlib.Core.Path.{◌≡◌, refl}
use mathlib.Core.Bool.{true, cond}
use mathlib.Core.List.{List, [], ◌∷◌}
use Rattle.common.proofs.Choice.{of_cond, ap_cond, by_cases}
use Rattle.calendar.specs.Date.{leap, month_length}
use Rattle.registers.specs.Written.{stored, written}
use Rattle.std.specs.Prelude.{Result, Ok, Err}
use Rattle.std.specs.Result.{result_unwrap_or}
use Rattle.common.specs.declared.refusal.Refusal.{Refusal}
use Rattle.common.specs.declared.refusal.Refusal.TheVariants.{InvalidCalendar}
use Rattle.common.specs.Refused.{number_of}
use Rattle.timekeeper.specs.Clock.{clock_of, valid_calendar}
use Rattle.timekeeper.specs.Commit.{committed}

module _ (rs : List ℕ) (a : ℕ) (bytes : List ℕ) where
  -- refused by 9 exactly if the finished registers hold no valid calendar
  pub commit_number : number_of (committed rs a bytes) ≡ cond (valid_calendar (written rs a bytes)) 0 9
  unfolding committed
  commit_number = ap_cond number_of (valid_calendar (written rs a bytes)) (Ok (written rs a bytes)) (Err InvalidCalendar)

  -- the registers then, or as they were
  pub commit_registers : result_unwrap_or (committed rs a bytes) rs ≡ cond (valid_calendar (written rs a bytes)) (written rs a bytes) rs
  unfolding committed
  commit_registers = ap_cond (λ (r : Result (List ℕ) Refusal). result_unwrap_or r rs) (valid_calendar (written rs a bytes)) (Ok (written rs a bytes)) (Err InvalidCalendar)

  pub commit_valid : valid_calendar rs ≡ true → valid_calendar (result_unwrap_or (committed rs a bytes) rs) ≡ true
  unfolding committed
  commit_valid h =
      of_cond (λ (r : Result (List ℕ) Refusal). valid_calendar (result_unwrap_or r rs) ≡ true) (valid_calendar (written rs a bytes)) (Ok (written rs a bytes)) (Err InvalidCalendar) (λ e. e) (λ e. h)

-- ---- The date written first

-- the registers at midnight on a date of 2024, weekday 4
abbrev pub dated : ℕ → ℕ → List ℕ
dated month date = 0 ∷ 0 ∷ 0 ∷ 0 ∷ 4 ∷ date ∷ month ∷ 0x24 ∷ 0 ∷ 0 ∷ 0 ∷ 0 ∷ 0 ∷ 0 ∷ 0 ∷ 0 ∷ []

-- 28 February to 31 March in one write, date first, is accepted; the date alone is refused, leap year or not
pub date_first : (committed (dated 0x02 0x28) 0x05 (0x31 ∷ 0x03 ∷ []) ≡ Ok (dated 0x03 0x31)) × (committed (dated 0x02 0x28) 0x05 (0x31 ∷ []) ≡ Err InvalidCalendar)
unfolding committed written stored valid_calendar clock_of month_length
date_first = (refl, by_cases (committed (dated 0x02 0x28) 0x05 (0x31 ∷ []) ≡ Err InvalidCalendar) (leap 24) (λ e. rw e refl) (λ e. rw e refl))
