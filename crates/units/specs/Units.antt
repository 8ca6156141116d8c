-- Seconds and sixteenths of a second (document 01, "What is built"): a count of one meets a count of the other only through these.
use Rattle.std.specs.Prelude.{ℕ, ◌+◌, ◌*◌, Bool, leb}
use Rattle.units.specs.declared.Seconds.{Seconds}
use Rattle.units.specs.declared.Sixteenths.{Sixteenths}

-- sixteenths in a second
abbrev pub PER_SECOND : ℕ
PER_SECOND = 16

-- the same time in sixteenths
abbrev pub sixteenths_of : Seconds → Sixteenths
sixteenths_of s = record { 0 = PER_SECOND * s.0 }

-- the count after the next sixteenth
abbrev pub one_more : Sixteenths → Sixteenths
one_more x = record { 0 = x.0 + 1 }

-- a whole second is reached
abbrev pub fills_second : Sixteenths → Bool
fills_second x = leb PER_SECOND x.0
