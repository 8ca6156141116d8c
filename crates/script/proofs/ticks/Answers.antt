-- `script::ticks` meets its contract. Assumes nothing.
use Rattle.std.proofs.Common.{rules, ◌∙◌}
use Rattle.script.proofs.Made.{tick_refused}
use Rattle.script.proofs.ticks.Goals as goal

pub returns-in_err-returned : goal.returns-in_err-returned
returns-in_err-returned c = tick_refused _ _ _ c.loop-test.true _ _ (search rules) (search rules) ∙ c.loop.invariant
