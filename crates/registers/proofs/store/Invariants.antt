use mathlib.Core.Path.{◌≡◌}
use lib.ListN.{take}
use Rattle.registers.specs.Written.{stored}
use Rattle.registers.proofs.store.Given as goal

abbrev pub invariant-loop-j : goal.invariant-loop-j
invariant-loop-j l = l.dst ≡ stored l.a l.initial.dst (take l.j l.bytes)
