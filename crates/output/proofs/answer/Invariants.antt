use mathlib.Core.Path.{◌≡◌}
use Prim.Native.Nat.{min}
use lib.ListN.{length, get_or}
use Rattle.common.specs.Fill.{front}
use Rattle.output.proofs.answer.Given as goal

abbrev pub invariant-loop-i : goal.invariant-loop-i
invariant-loop-i l = l.out ≡ front (λ k. get_or l.reply k 255) (min l.i (length l.initial.out)) l.initial.out
