use mathlib.Core.Path.{◌≡◌}
use Prim.Native.Nat.{◌*◌}
use Rattle.calendar.specs.Clock.{moved}
use Rattle.calendar.proofs.span.Span.end.Given as goal

-- as many whole days behind the first midnight as were walked
abbrev pub invariant-loop : goal.invariant-loop
invariant-loop l = l.day ≡ moved l.initial.day (86_400 * l.counter)
