-- Command 50h (document 01, "Commands"): all or nothing, judged on the finished registers.
use Rattle.std.specs.Prelude.{ℕ, cond, List, Result, Ok, Err}
use Rattle.common.specs.declared.refusal.Refusal.{Refusal}
use Rattle.common.specs.declared.refusal.Refusal.TheVariants.{InvalidCalendar}
use Rattle.registers.specs.Written.{written}
use Rattle.timekeeper.specs.Clock.{valid_calendar}

-- all of the write, or none of it where the registers would hold no valid calendar
unfoldable pub committed : List ℕ → ℕ → List ℕ → Result (List ℕ) Refusal
committed rs a bytes = cond (valid_calendar (written rs a bytes)) (Ok (written rs a bytes)) (Err InvalidCalendar)
