-- Document 01, "Key sample".
use Rattle.std.specs.Prelude.{ℕ, ◌-◌, cond, eqb}
use Rattle.std.specs.Int.Bits.{bit_and, bit_or}
use Rattle.controller.specs.declared.Core.{Core}
use Rattle.controller.specs.State.{with_keys, keys, all_hot, KEY}
use Rattle.controller.specs.Standby.{raised}

-- the keys of a that b lacks, of 32 at most
abbrev pub without : ℕ → ℕ → ℕ
without a b = bit_and a (4_294_967_295 - b)

-- the hot ones of some new presses: those of the mask, or all with b1
abbrev pub hot : Core → ℕ → ℕ
hot c new = cond (all_hot c) new (bit_and new c.keys.mask)

-- the new presses that count: with STBY low all of them, with STBY high the hot ones
abbrev pub counted : Core → ℕ → ℕ
counted c new = cond c.power.stby (hot c new) new

-- presses that count join the store and, if any, are a key event
abbrev pub joined : Core → ℕ → Core
joined c new =
    cond (eqb new 0) c (raised KEY (with_keys c (keys c.keys.mask c.keys.sample c.keys.accepted (bit_or c.keys.store new))))

unfoldable pub pressed : Core → ℕ → Core
pressed c new = joined c (counted c new)

-- two equal samples running are accepted; new presses are those accepted now and not before
unfoldable pub sampled : Core → ℕ → Core
sampled c sample =
    cond (eqb sample c.keys.sample)
    (pressed (with_keys c (keys c.keys.mask sample sample c.keys.store)) (without sample c.keys.accepted))
    (with_keys c (keys c.keys.mask sample c.keys.accepted c.keys.store))
