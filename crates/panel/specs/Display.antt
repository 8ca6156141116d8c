-- Document 01, "Commands": what the 00 group, 40h and 100xxxxx make of the display.
use Rattle.std.specs.Prelude.{ℕ, ◌-◌, ◌%◌, cond, List, [], ◌∷◌, eqb, length, get_or}
use Rattle.effects.specs.Write.{touched}
use Rattle.display.specs.declared.Display.{Display}
use Rattle.panel.specs.State.{display}

-- digits in use; if they change the display goes off
unfoldable pub digits_set : ℕ → Display → Display
digits_set n d = cond (eqb n d.digits) d (display n (d.control % 16) d.bytes)

-- 100xxxxx: display on and brightness
abbrev pub display_set : ℕ → Display → Display
display_set x d = display d.digits x d.bytes

-- the digit byte at address x after data from address a on
abbrev pub digit_byte : ℕ → List ℕ → ℕ → ℕ → ℕ
digit_byte a bytes x old = cond (touched a (length bytes) x) (get_or bytes (x - a) 0) old

-- 40h: the digit bytes are at addresses 10h..14h
unfoldable pub digits_written : ℕ → List ℕ → Display → Display
digits_written a bytes d =
    display d.digits d.control
    (digit_byte a bytes 0x10 (get_or d.bytes 0 0)
    ∷ digit_byte a bytes 0x11 (get_or d.bytes 1 0)
    ∷ digit_byte a bytes 0x12 (get_or d.bytes 2 0)
    ∷ digit_byte a bytes 0x13 (get_or d.bytes 3 0)
    ∷ digit_byte a bytes 0x14 (get_or d.bytes 4 0)
    ∷ [])
