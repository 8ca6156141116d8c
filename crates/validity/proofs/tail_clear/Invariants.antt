use mathlib.Core.Path.{◌≡◌}
use mathlib.Core.Bool.{true}
use lib.ListN.{take}
use Rattle.common.specs.Tests.{conj_from}
use Rattle.validity.specs.Valid.{zero_tests}
use Rattle.validity.proofs.tail_clear.Given as goal

abbrev pub invariant-loop-byte : goal.invariant-loop-byte
invariant-loop-byte l = l.clear ≡ conj_from true (zero_tests (take l.byte-index l.byte-items))
