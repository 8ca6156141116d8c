-- Document 01, "Remote frame": what a key does.
use Rattle.std.specs.Prelude.{ℕ, cond, not, ◌&&◌}
use Rattle.controller.specs.declared.Core.{Core}
use Rattle.controller.specs.State.{with_remote, remote, remote_wakes, REMOTE}
use Rattle.controller.specs.Standby.{raised}

-- a key is stored fresh and is an event of the remote, but not in standby without b2
unfoldable pub keyed : Core → ℕ → ℕ → Core
keyed c address command =
    cond (c.power.stby && not (remote_wakes c)) (with_remote c (remote 1 address command)) (raised REMOTE (with_remote c (remote 1 address command)))
