-- Document 01, "The plain clock": the seconds reached, over any test of a clock.
use Rattle.std.specs.Prelude.{Bool, false, ◌||◌, ℕ, zero, suc}
use Rattle.calendar.specs.declared.Clock.{Clock}
use Rattle.calendar.specs.Clock.{moved}
use Rattle.alarm.specs.Search.{first_from}

-- one of the n seconds reached passes the test
unfoldable pub any_reached : (Clock → Bool) → Clock → ℕ → Bool
any_reached p c zero = false
any_reached p c (suc n) = any_reached p c n || p (moved c (suc n))

-- the least k from 1 to n such that the clock moved on k seconds passes the test, or n + 1
abbrev pub first_reached : (Clock → Bool) → Clock → ℕ → ℕ
first_reached p c n = first_from (λ k. p (moved c k)) 1 n
