-- Faces and lines computed from the definitions. Assumes nothing.
use Prim.Native.Nat.{ℕ}
use mathlib.Core.Path.{◌≡◌, refl}
use mathlib.Core.Bool.{true, false}
use mathlib.Core.List.{List, [], ◌∷◌}
use Rattle.common.specs.Spell.{spell}
use Rattle.common.specs.Fill.{up_to}
use Rattle.display.specs.declared.Display.{Display}
use Rattle.display.specs.Font.{segments}
use Rattle.display.specs.Hours.{twelve, leading, hours_shown}
use Rattle.display.specs.Face.{face_of}
use Rattle.display.specs.Shown.{content, shown}
use Rattle.display.specs.Lines.{lines_of}

-- sixteen registers: seconds, minutes, hours, weekday 7, date, month, year 24 and 08h from 01h on, the rest 0
abbrev clock : ℕ → ℕ → ℕ → ℕ → ℕ → ℕ → List ℕ
clock s m h date month calibration = spell 0 16 (0x00 ∷ s ∷ m ∷ h ∷ 0x07 ∷ date ∷ month ∷ 0x24 ∷ calibration ∷ [])

-- a display that is on, with n digits and digit bytes 01h..05h
abbrev lit : ℕ → Display
lit n = record { digits = n; control = 0x10; bytes = 0x01 ∷ 0x02 ∷ 0x03 ∷ 0x04 ∷ 0x05 ∷ [] }

-- what hours and minutes, with this byte in 08h, show on five digits
abbrev shown_at : ℕ → ℕ → ℕ → List ℕ
shown_at calibration h m = shown (clock 0x56 m h 0x28 0x09 calibration) 0x08 false (lit 5)

-- ---- Hours and minutes

-- 00.05 is 12.05 in the twelve-hour form
pub midnight_is_12 : shown_at 0x80 0x00 0x05 ≡ 0x06 ∷ 0xDB ∷ 0x3F ∷ 0x6D ∷ 0x00 ∷ []
unfolding content face_of hours_shown leading segments
midnight_is_12 = refl

-- 13.59 is 1.59, the leading zero blank
pub thirteen_is_1 : shown_at 0x80 0x13 0x59 ≡ 0x00 ∷ 0x86 ∷ 0x6D ∷ 0x6F ∷ 0x00 ∷ []
unfolding content face_of hours_shown leading segments
thirteen_is_1 = refl

-- 12.00 stays 12.00
pub noon_is_12 : shown_at 0x80 0x12 0x00 ≡ 0x06 ∷ 0xDB ∷ 0x3F ∷ 0x3F ∷ 0x00 ∷ []
unfolding content face_of hours_shown leading segments
noon_is_12 = refl

-- the hours of a day in the twelve-hour form
pub twelve_of_a_day : up_to twelve 24
    ≡ 12 ∷ 1 ∷ 2 ∷ 3 ∷ 4 ∷ 5 ∷ 6 ∷ 7 ∷ 8 ∷ 9 ∷ 10 ∷ 11 ∷ 12 ∷ 1 ∷ 2 ∷ 3 ∷ 4 ∷ 5 ∷ 6 ∷ 7 ∷ 8 ∷ 9 ∷ 10 ∷ 11 ∷ []
unfolding up_to
twelve_of_a_day = refl

-- 07.48 in the 24-hour form keeps its leading zero
pub seven_keeps_zero : shown_at 0x00 0x07 0x48 ≡ 0x3F ∷ 0x87 ∷ 0x66 ∷ 0x7F ∷ 0x00 ∷ []
unfolding content face_of hours_shown segments
seven_keeps_zero = refl

-- a nibble above 9 is a dash
pub nibble_above_9 : shown_at 0x00 0x1A 0xBF ≡ 0x06 ∷ 0xC0 ∷ 0x4F ∷ 0x40 ∷ 0x00 ∷ []
unfolding content face_of hours_shown segments
nibble_above_9 = refl

-- ---- The other faces

-- MD_H wins over M_MS, and the century is not shown: 12.31 with both bits set
pub md_h_wins : shown (clock 0x56 0x34 0xE3 0x31 0xD2 0x00) 0x08 false (lit 5) ≡ 0x06 ∷ 0xDB ∷ 0x4F ∷ 0x06 ∷ 0x00 ∷ []
unfolding content face_of segments
md_h_wins = refl

-- M_MS: 34.56, also with the oscillator stopped, with 4 digits, in standby
pub minutes_and_seconds : shown (clock 0xD6 0x34 0x63 0x31 0x12 0x00) 0x08 true (lit 4) ≡ 0x4F ∷ 0xE6 ∷ 0x6D ∷ 0x7D ∷ 0x00 ∷ []
unfolding content face_of segments
minutes_and_seconds = refl

-- ---- Digit bytes and darkness, whatever the registers hold

module _ (rs : List ℕ) where
  pub off_is_dark : shown rs 0x08 false (record { digits = 5; control = 0x0F; bytes = (lit 5).bytes }) ≡ 0x00 ∷ 0x00 ∷ 0x00 ∷ 0x00 ∷ 0x00 ∷ []
  unfolding content
  off_is_dark = refl

  pub standby_is_dark : shown rs 0x37 true (lit 5) ≡ 0x00 ∷ 0x00 ∷ 0x00 ∷ 0x00 ∷ 0x00 ∷ []
  unfolding content
  standby_is_dark = refl

  pub three_digits_in_standby : shown rs 0x08 true (lit 3) ≡ 0x01 ∷ 0x02 ∷ 0x03 ∷ 0x00 ∷ 0x00 ∷ []
  unfolding content
  three_digits_in_standby = refl

  pub five_digits_lem : shown rs 0x00 false (lit 5) ≡ 0x01 ∷ 0x02 ∷ 0x03 ∷ 0x04 ∷ 0x05 ∷ []
  unfolding content
  five_digits_lem = refl

-- ---- Lines

-- MUTE alone after power-up, IRQ with READY high, STBY without IRQ
pub lines_powered_up : lines_of false false 0x00 ≡ 0x02
unfolding lines_of
lines_powered_up = refl

pub lines_requesting : lines_of true false 0x80 ≡ 0x04
unfolding lines_of
lines_requesting = refl

pub lines_in_standby : lines_of true true 0x80 ≡ 0x01
unfolding lines_of
lines_in_standby = refl
