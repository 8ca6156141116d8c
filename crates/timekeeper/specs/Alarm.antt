-- The alarm in the registers (document 01, "Clock registers", "Alarm"). RPT1..RPT6 set means that the field is not compared.
use Rattle.std.specs.Prelude.{ℕ, ◌/◌, ◌%◌, Bool, cond, List, Option, None, Some}
use Rattle.common.specs.Bits.{bit_set}
use Rattle.alarm.specs.declared.Alarm.{Alarm}
use Rattle.registers.specs.Names.{at, ALARM_MONTH, ALARM_DATE, ALARM_HOUR, ALARM_MINUTE, ALARM_SECOND, ALARM_WEEKDAY}
use Rattle.timekeeper.specs.Bcd.{decimal, digits}

-- the value of a field whose byte has a nibble above 9: no possible time
abbrev pub no_time : ℕ
no_time = 255

-- a field with its RPT bit: not compared where it is set
abbrev pub field_of : Bool → ℕ → Option ℕ
field_of rpt b = cond rpt None (Some (cond (decimal b) (digits b) no_time))

abbrev pub rpt1 : List ℕ → Bool
rpt1 rs = bit_set (at rs ALARM_SECOND) 128

abbrev pub rpt2 : List ℕ → Bool
rpt2 rs = bit_set (at rs ALARM_MINUTE) 128

abbrev pub rpt3 : List ℕ → Bool
rpt3 rs = bit_set (at rs ALARM_HOUR) 128

abbrev pub rpt4 : List ℕ → Bool
rpt4 rs = bit_set (at rs ALARM_DATE) 128

abbrev pub rpt5 : List ℕ → Bool
rpt5 rs = bit_set (at rs ALARM_DATE) 64

abbrev pub rpt6 : List ℕ → Bool
rpt6 rs = bit_set (at rs ALARM_HOUR) 64

-- the alarm that the registers hold
unfoldable pub alarm_of : List ℕ → Alarm
alarm_of rs =
    record {
      second = field_of (rpt1 rs) (at rs ALARM_SECOND % 128);
      minute = field_of (rpt2 rs) (at rs ALARM_MINUTE % 128);
      hour = field_of (rpt3 rs) (at rs ALARM_HOUR % 64);
      date = field_of (rpt4 rs) (at rs ALARM_DATE % 64);
      month = field_of (rpt5 rs) (at rs ALARM_MONTH % 32);
      weekday = field_of (rpt6 rs) (at rs ALARM_WEEKDAY / 16 % 8);
    }
