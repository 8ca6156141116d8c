-- `registers::store` meets its contract. The loop's invariant: the bytes before `j` are stored. Assumes nothing.
use mathlib.Core.Path.{sym, ◌∙◌}
use native.Mathlib.Numerals.{add-one}
use native.Mathlib.Omega.{arith}
use Rattle.registers.proofs.Written.{stored_none, stored_more, stored_all}
use Rattle.registers.proofs.store.Goals as goal

pub loop-j-init : goal.loop-j-init
loop-j-init c = sym (stored_none _ _)

pub loop-j-preserved : goal.loop-j-preserved
loop-j-preserved c =
    let a = c.args in
    cc (stored_more a.a a.dst.now a.bytes.now c.loop-j.j (omega arith) (omega arith), add-one c.loop-j.j)

pub returns : goal.returns
returns c =
    let a = c.args in
    c.loop-j.invariant ∙ stored_all a.a a.dst.now a.bytes.now c.loop-j.j (omega arith)
