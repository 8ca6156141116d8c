-- The refusals by their numbers, in the order of checking.
use Rattle.std.specs.Prelude.{ℕ, ◌-◌, Result, Ok, Err, List, [], ◌∷◌, get_or}
use Rattle.common.specs.declared.refusal.Refusal.{Refusal}
use Rattle.common.specs.declared.refusal.Refusal.TheVariants.{InvalidImage, EmptyCommand, InStandby, UnlistedCommand, TooShort, AddressOut, ProtocolOut, DigitsOut, InvalidCalendar, LongCut, NoKey, BufferLength}

-- the number of each refusal
abbrev pub refusal_number : Refusal → ℕ
refusal_number InvalidImage = 1
refusal_number EmptyCommand = 2
refusal_number InStandby = 3
refusal_number UnlistedCommand = 4
refusal_number TooShort = 5
refusal_number AddressOut = 6
refusal_number ProtocolOut = 7
refusal_number DigitsOut = 8
refusal_number InvalidCalendar = 9
refusal_number LongCut = 10
refusal_number NoKey = 11
refusal_number BufferLength = 12

-- the number of an answer, 0 where it is accepted
abbrev pub number_of : {A : Type 0} → Result A Refusal → ℕ
number_of (Ok x) = 0
number_of (Err r) = refusal_number r

-- the refusals from number 1 on
abbrev pub refusals : List Refusal
refusals =
    InvalidImage
    ∷ EmptyCommand
    ∷ InStandby
    ∷ UnlistedCommand
    ∷ TooShort
    ∷ AddressOut
    ∷ ProtocolOut
    ∷ DigitsOut
    ∷ InvalidCalendar
    ∷ LongCut
    ∷ NoKey
    ∷ BufferLength
    ∷ []

-- and back: the refusal of a number from 1 to 12
abbrev pub refusal_numbered : ℕ → Refusal
refusal_numbered n = get_or refusals (n - 1) BufferLength
