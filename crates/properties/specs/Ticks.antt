-- Ticks one after the other.
use Rattle.std.specs.Prelude.{ℕ, zero, suc}
use Rattle.controller.specs.declared.Core.{Core}
use Rattle.controller.specs.Tick.{ticked}

-- the state after n ticks
unfoldable pub ticks : ℕ → Core → Core
ticks zero c = c
ticks (suc n) c = ticked (ticks n c)
