-- The number of a call's result.
use Rattle.std.specs.Prelude.{ℕ, Result, Ok, Err}
use Rattle.common.specs.Refused.{refusal_number}
use Rattle.script.specs.declared.Failure.{Failure}
use Rattle.script.specs.declared.Failure.TheVariants.{NoCall, Refused}

-- 0, the number of the refusal, or 99 of what is no call
abbrev pub result_number : Result Unit Failure → ℕ
result_number (Ok x) = 0
result_number (Err NoCall) = 99
result_number (Err (Refused r)) = refusal_number r
