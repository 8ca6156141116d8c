-- What is known of a count that fills no second. Assumes nothing.
use mathlib.Core.Path.{◌≡◌}
use mathlib.Core.Bool.{false}
use Prim.Native.Nat.{◌<◌}
use borrow.Author.Tests.{leb-false}
use Rattle.units.specs.declared.Sixteenths.{Sixteenths}
use Rattle.units.specs.Units.{PER_SECOND, fills_second}

pub unfilled : (x : Sixteenths) → fills_second x ≡ false → x.0 < PER_SECOND
unfilled x e = leb-false PER_SECOND x.0 e
