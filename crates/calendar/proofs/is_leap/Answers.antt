-- `calendar::is_leap` meets its contract: the century does not change the two digits. Assumes nothing.
use mathlib.Core.Path.{ap}
use Prim.Native.Nat.{ℕ, ◌+◌, ◌*◌, ◌%◌}
use mathlib.Core.Path.{◌≡◌}
use native.Mathlib.Omega.{arith}
use lib.Dec.{eqb}
use Rattle.calendar.specs.Date.{leap}
use Rattle.calendar.proofs.is_leap.Goals as goal

pub returns : goal.returns
unfolding leap
returns c =
    let e : c.args.year % 100 % 4 ≡ (100 * c.args.century + c.args.year) % 100 % 4 = omega arith in
    ap (λ (n : ℕ). eqb n 0) e
