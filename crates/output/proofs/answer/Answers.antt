-- `output::answer` meets its contract. The loop's invariant: of the first `i` bytes of the reply those are written that the output holds. Assumes nothing.
use mathlib.Core.Path.{◌∙◌}
use native.Mathlib.Omega.{arith}
use Rattle.output.specs.Output.{answered}
use Rattle.output.proofs.Reply.{none_yet, held, full, answered_by}
use Rattle.output.proofs.answer.Goals as goal
use Rattle.output.proofs.answer.Goals.{then-i-out, else-i-out}

pub loop-i-init : goal.loop-i-init
loop-i-init c = none_yet c.args.reply.now c.args.out.now

pub loop-i-preserved : goal.loop-i-preserved
loop-i-preserved c =
    elim c.if-i-out.branch [
      | then-i-out w ↦ w.out-is ∙ held c.args.reply.now c.args.out.now c.loop-i.out c.loop-i.i c.loop-i.invariant c.loop-i-test.true (omega arith)
      | else-i-out w ↦ w.out-is ∙ full c.args.reply.now c.args.out.now c.loop-i.out c.loop-i.i c.loop-i.invariant (omega arith)
    ]

pub returns : goal.returns
unfolding answered
returns c =
    answered_by c.args.reply.now c.args.out.now c.loop-i.out c.fill.new.self c.loop-i.i c.min-end.result c.loop-i.invariant c.loop-i.auto.out
    c.loop-i-test.false c.loop-i.auto.i-end c.min-end.ensures (c.fill.ensures.after (λ y h. h))
