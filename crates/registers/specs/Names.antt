-- The clock registers by name, and the single bits that the panel reads (document 01, "Clock registers").
use Rattle.std.specs.Prelude.{ℕ, Bool, List, get_or}
use Rattle.common.specs.Bits.{bit_set}

-- ---- Addresses

abbrev pub RESERVED : ℕ
RESERVED = 0x00

abbrev pub SECONDS : ℕ
SECONDS = 0x01

abbrev pub MINUTES : ℕ
MINUTES = 0x02

abbrev pub HOURS : ℕ
HOURS = 0x03

abbrev pub WEEKDAY : ℕ
WEEKDAY = 0x04

abbrev pub DATE : ℕ
DATE = 0x05

abbrev pub MONTH : ℕ
MONTH = 0x06

abbrev pub YEAR : ℕ
YEAR = 0x07

abbrev pub CALIBRATION : ℕ
CALIBRATION = 0x08

abbrev pub WATCHDOG : ℕ
WATCHDOG = 0x09

abbrev pub ALARM_MONTH : ℕ
ALARM_MONTH = 0x0A

abbrev pub ALARM_DATE : ℕ
ALARM_DATE = 0x0B

abbrev pub ALARM_HOUR : ℕ
ALARM_HOUR = 0x0C

abbrev pub ALARM_MINUTE : ℕ
ALARM_MINUTE = 0x0D

abbrev pub ALARM_SECOND : ℕ
ALARM_SECOND = 0x0E

abbrev pub ALARM_WEEKDAY : ℕ
ALARM_WEEKDAY = 0x0F

-- what a register holds
abbrev pub at : List ℕ → ℕ → ℕ
at rs a = get_or rs a 0

-- ---- Single bits

-- 01h b7: the oscillator is stopped
abbrev pub stopped : List ℕ → Bool
stopped rs = bit_set (at rs SECONDS) 128

-- 03h b7: the face shows month and date
abbrev pub md_h : List ℕ → Bool
md_h rs = bit_set (at rs HOURS) 128

-- 03h b6: with MD_H clear the face shows minutes and seconds
abbrev pub m_ms : List ℕ → Bool
m_ms rs = bit_set (at rs HOURS) 64

-- 08h b7: hours show from 1 to 12
abbrev pub twelve_hours : List ℕ → Bool
twelve_hours rs = bit_set (at rs CALIBRATION) 128

-- 0Ah b7: a match raises the alarm
abbrev pub afe : List ℕ → Bool
afe rs = bit_set (at rs ALARM_MONTH) 128

-- 0Ah b5: the alarm counts in backup
abbrev pub abe : List ℕ → Bool
abe rs = bit_set (at rs ALARM_MONTH) 32

-- 0Fh b7: the watchdog's end raises its flag
abbrev pub wdfen : List ℕ → Bool
wdfen rs = bit_set (at rs ALARM_WEEKDAY) 128
