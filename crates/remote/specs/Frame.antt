-- Which key a remote frame is (document 01, "Remote frame"). A frame is a number of 32 bits.
use Rattle.std.specs.Prelude.{ℕ, ◌+◌, ◌/◌, ◌%◌, Bool, cond, ◌&&◌, ◌||◌, eqb, Option, Some, None}
use Rattle.remote.specs.declared.RemoteKey.{RemoteKey}

-- ---- Protocols, as b6..b4 of image byte 21 hold them

abbrev pub RC5 : ℕ
RC5 = 2

abbrev pub NEC : ℕ
NEC = 4

-- the protocol is 0, 2 or 4: none, RC-5 or NEC
abbrev pub is_protocol : ℕ → Bool
is_protocol p = eqb p 0 || eqb p RC5 || eqb p NEC

-- ---- Keys

-- a key by its device address and its command
abbrev pub remote_key : ℕ → ℕ → RemoteKey
remote_key a c = record { address = a; command = c }

-- a byte and its complement
abbrev pub complements : ℕ → ℕ → Bool
complements b c = eqb (b + c) 255

-- NEC: address, its complement, command, its complement, the first byte received lowest
unfoldable pub nec_key : ℕ → Option RemoteKey
nec_key f =
    cond (complements (f % 256) (f / 256 % 256) && complements (f / 65_536 % 256) (f / 16_777_216 % 256))
    (Some (remote_key (f % 256) (f / 65_536 % 256))) None

-- RC-5: from bit 13 down two start bits 1, toggle, 5 bits of address, 6 of command; above bit 13 all 0
unfoldable pub rc5_key : ℕ → Option RemoteKey
rc5_key f = cond (eqb (f / 4_096) 3) (Some (remote_key (f / 64 % 32) (f % 64))) None

-- the key that a frame sends, for any device; any other protocol sends none
unfoldable pub sent_by : ℕ → ℕ → Option RemoteKey
sent_by protocol f = cond (eqb protocol NEC) (nec_key f) (cond (eqb protocol RC5) (rc5_key f) None)

-- THE ADDRESS TEST: only device address 0 is a key
abbrev pub addressed : ℕ → Bool
addressed a = eqb a 0

-- the key where its device address is the panel's, else none
abbrev pub addressed_key : Option RemoteKey → Option RemoteKey
addressed_key (Some k) = cond (addressed k.address) (Some k) None
addressed_key None = None

-- the key that a frame is
unfoldable pub key_of : ℕ → ℕ → Option RemoteKey
key_of protocol f = addressed_key (sent_by protocol f)

-- the number of a frame's call: 0 for a key, 11 for none
abbrev pub refusal_of : Option RemoteKey → ℕ
refusal_of (Some k) = 0
refusal_of None = 11
