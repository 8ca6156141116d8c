-- Where things stand in the image (document 01, "The image": the table).
use Rattle.std.specs.Prelude.{ℕ, ◌+◌, ◌*◌, ◌/◌, ◌%◌, ◌<◌, List, [], ◌∷◌, get_or, slice_set}

-- ---- Bytes

abbrev pub image_len : ℕ
image_len = 64

abbrev pub REGISTERS : ℕ
REGISTERS = 0

abbrev pub SIXTEENTHS : ℕ
SIXTEENTHS = 16

abbrev pub FLAGS : ℕ
FLAGS = 17

abbrev pub INTERRUPT : ℕ
INTERRUPT = 18

abbrev pub PINS : ℕ
PINS = 19

abbrev pub CONFIGURATION : ℕ
CONFIGURATION = 20

abbrev pub SETUP : ℕ
SETUP = 21

abbrev pub GUARD_LEFT : ℕ
GUARD_LEFT = 22

abbrev pub WATCHDOG_LEFT : ℕ
WATCHDOG_LEFT = 24

abbrev pub HOT_KEYS : ℕ
HOT_KEYS = 26

abbrev pub LAST_SAMPLE : ℕ
LAST_SAMPLE = 28

abbrev pub ACCEPTED_KEYS : ℕ
ACCEPTED_KEYS = 30

abbrev pub KEY_STORE : ℕ
KEY_STORE = 32

abbrev pub REMOTE_FRESH : ℕ
REMOTE_FRESH = 34

abbrev pub REMOTE_ADDRESS : ℕ
REMOTE_ADDRESS = 35

abbrev pub REMOTE_COMMAND : ℕ
REMOTE_COMMAND = 36

abbrev pub DIGITS : ℕ
DIGITS = 37

abbrev pub DISPLAY_CONTROL : ℕ
DISPLAY_CONTROL = 38

abbrev pub DIGIT_BYTES : ℕ
DIGIT_BYTES = 39

abbrev pub UNUSED : ℕ
UNUSED = 44

-- ---- Bits of byte 19, by their weights

abbrev pub READY : ℕ
READY = 1

abbrev pub WAKE_UP : ℕ
WAKE_UP = 2

abbrev pub STBY : ℕ
STBY = 4

-- ---- Numbers

abbrev pub byte_at : List ℕ → ℕ → ℕ
byte_at l at = get_or l at 0

-- every number is a byte: what a lent image always is, valid or not
abbrev pub Bytes : List ℕ → Type 0
Bytes l = (i : ℕ) → byte_at l i < 256

-- the number in two bytes, low byte first
abbrev pub word_at : List ℕ → ℕ → ℕ
word_at l at = byte_at l at + 256 * byte_at l (at + 1)

-- the two bytes of a number
abbrev pub low_byte : ℕ → ℕ
low_byte n = n % 256

abbrev pub high_byte : ℕ → ℕ
high_byte n = n / 256 % 256

abbrev pub word_bytes : ℕ → List ℕ
word_bytes n = low_byte n ∷ high_byte n ∷ []

-- an image with a number put in two bytes, low byte first
abbrev pub word_put : List ℕ → ℕ → ℕ → List ℕ
word_put l at n = slice_set (slice_set l at (low_byte n)) (at + 1) (high_byte n)
