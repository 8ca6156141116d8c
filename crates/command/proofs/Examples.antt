-- Commands and their answers, computed: refusals go strictly by number. Assumes nothing.
use mathlib.Core.Path.{◌≡◌, refl}
use mathlib.Core.Bool.{true, false}
use mathlib.Core.List.{[], ◌∷◌}
use Rattle.command.specs.Refusals.{bytes_needed, room_needed, grounds_by}
use Rattle.command.specs.Decode.{command_by, decoded_of}
use Rattle.command.specs.declared.Command.TheVariants.{Configure, ConfigureDigits, ReadKeys, ReadRegisters, SetDisplay, ReloadGuard}
use Rattle.std.specs.Prelude.{Ok, Err}
use Rattle.common.specs.declared.refusal.Refusal.TheVariants.{EmptyCommand, InStandby, UnlistedCommand, TooShort, AddressOut, ProtocolOut, DigitsOut}

-- ---- Refused

pub empty_in_standby : decoded_of [] true 0 ≡ Err EmptyCommand
unfolding decoded_of grounds_by
empty_in_standby = refl

pub unlisted_in_standby : decoded_of (0xFF ∷ []) true 0 ≡ Err InStandby
unfolding decoded_of grounds_by
unlisted_in_standby = refl

pub unlisted : decoded_of (0x60 ∷ []) false 0 ≡ Err UnlistedCommand
unfolding decoded_of grounds_by
unlisted = refl

-- 40h 99h is short before its address is out of range
pub short_before_address : decoded_of (0x40 ∷ 0x99 ∷ []) false 0 ≡ Err TooShort
unfolding decoded_of grounds_by bytes_needed
short_before_address = refl

-- 10h 10h is short before its protocol is judged
pub short_before_protocol : decoded_of (0x10 ∷ 0x10 ∷ []) false 0 ≡ Err TooShort
unfolding decoded_of grounds_by bytes_needed
short_before_protocol = refl

pub output_too_short : decoded_of (0x61 ∷ []) false 1 ≡ Err TooShort
unfolding decoded_of grounds_by bytes_needed room_needed
output_too_short = refl

pub address_out_lem : decoded_of (0x70 ∷ 0x10 ∷ []) false 0 ≡ Err AddressOut
unfolding decoded_of grounds_by bytes_needed room_needed
address_out_lem = refl

-- 10h 10h 06h has a bad protocol before its digits are judged
pub protocol_before_digits : decoded_of (0x10 ∷ 0x10 ∷ 0x06 ∷ []) false 0 ≡ Err ProtocolOut
unfolding decoded_of grounds_by bytes_needed room_needed
protocol_before_digits = refl

pub six_digits : decoded_of (0x10 ∷ 0x20 ∷ 0x06 ∷ []) false 0 ≡ Err DigitsOut
unfolding decoded_of grounds_by bytes_needed room_needed
six_digits = refl

-- ---- Accepted

-- b7 of the second byte is dropped
pub configured : decoded_of (0x2F ∷ 0xCA ∷ []) false 0 ≡ Ok (Configure 0x2F 0x4A)
unfolding decoded_of grounds_by bytes_needed room_needed command_by
configured = refl

-- b4 of the first byte is cleared
pub configured_digits : decoded_of (0x31 ∷ 0x2A ∷ 0x04 ∷ []) false 0 ≡ Ok (ConfigureDigits 0x21 0x2A 4)
unfolding decoded_of grounds_by bytes_needed room_needed command_by
configured_digits = refl

pub keys_read : decoded_of (0x61 ∷ []) false 2 ≡ Ok ReadKeys
unfolding decoded_of grounds_by bytes_needed room_needed command_by
keys_read = refl

-- 70h is accepted with an empty output
pub registers_read : decoded_of (0x70 ∷ 0x0F ∷ []) false 0 ≡ Ok (ReadRegisters 0x0F)
unfolding decoded_of grounds_by bytes_needed room_needed command_by
registers_read = refl

pub display_set_lem : decoded_of (0x9F ∷ []) false 0 ≡ Ok (SetDisplay 0x1F)
unfolding decoded_of grounds_by bytes_needed room_needed command_by
display_set_lem = refl

-- surplus bytes are ignored
pub guard_reloaded_lem : decoded_of (0xC2 ∷ 0x40 ∷ []) false 0 ≡ Ok ReloadGuard
unfolding decoded_of grounds_by bytes_needed room_needed command_by
guard_reloaded_lem = refl
