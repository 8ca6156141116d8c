-- Document 01, "READY, WAKE_UP": the same level again does nothing.
use Rattle.std.specs.Prelude.{Bool, true, false, cond, ◌&&◌}
use Rattle.std.specs.Bool.{beq}
use Rattle.controller.specs.declared.Core.{Core}
use Rattle.controller.specs.State.{with_power, power, sixteenths, wake_up_counts, WAKE_UP}
use Rattle.controller.specs.Standby.{standby_begun, raised}

-- READY rising stops the guard
abbrev pub ready_risen : Core → Core
ready_risen c = with_power c (power true c.power.wakeup c.power.stby (sixteenths 0))

-- READY falling begins standby, from STBY low
abbrev pub ready_fallen : Core → Core
ready_fallen c =
    cond c.power.stby (with_power c (power false c.power.wakeup c.power.stby c.power.guard))
    (standby_begun (with_power c (power false c.power.wakeup c.power.stby c.power.guard)))

unfoldable pub ready_set : Core → Bool → Core
ready_set c level = cond (beq level c.power.ready) c (cond level (ready_risen c) (ready_fallen c))

-- WAKE_UP takes a level
abbrev pub with_wake_up : Core → Bool → Core
with_wake_up c level = with_power c (power c.power.ready level c.power.stby c.power.guard)

-- a rise is an event only with b5
unfoldable pub wake_up_set : Core → Bool → Core
wake_up_set c level =
    cond (beq level c.power.wakeup) c
    (cond (level && wake_up_counts c) (raised WAKE_UP (with_wake_up c level)) (with_wake_up c level))
