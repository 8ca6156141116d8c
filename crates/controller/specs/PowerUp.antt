-- Document 01, "Power-up".
use Rattle.std.specs.Prelude.{false, [], ◌∷◌}
use Rattle.controller.specs.declared.Core.{Core}
use Rattle.controller.specs.State.{rtc, power, keys, remote, sixteenths}

-- registers 04h = 07h, 05h = 01h, 06h = 01h; configuration 01h; protocol 0 and guard value 10; guard left 160; all else low or 0
abbrev pub powered_up : Core
powered_up =
    record {
      rtc = rtc (0 ∷ 0 ∷ 0 ∷ 0 ∷ 7 ∷ 1 ∷ 1 ∷ 0 ∷ 0 ∷ 0 ∷ 0 ∷ 0 ∷ 0 ∷ 0 ∷ 0 ∷ 0 ∷ []) (sixteenths 0) 0 (sixteenths 0);
      power = power false false false (sixteenths 160);
      setup = record { configuration = 1; protocol = 0; guardvalue = record { 0 = 10 } };
      keys = keys 0 0 0 0;
      remote = remote 0 0 0;
      interrupt = 0;
    }
