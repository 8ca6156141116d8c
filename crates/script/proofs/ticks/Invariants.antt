-- The ticks that are left, from the image as it is, give what all of them do.
use Rattle.std.proofs.Common.{◌≡◌, ◌-◌}
use Rattle.script.specs.Script.{ticks_made}
use Rattle.script.proofs.ticks.Given as goal

abbrev pub invariant-loop : goal.invariant-loop
invariant-loop l = ticks_made (l.n - l.counter) l.image ≡ ticks_made l.n l.initial.image
