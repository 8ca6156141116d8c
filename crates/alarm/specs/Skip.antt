-- The step of the search through a day. It is no rule of document 01: laws say that nothing between fits.
use Rattle.std.specs.Prelude.{cond, ℕ, ◌+◌, ◌*◌, ◌/◌, ◌%◌}
use Rattle.alarm.specs.declared.Alarm.{Alarm}
use Rattle.alarm.specs.Match.{fits}

-- where to look on after the second u of the day did not fit: the next hour, the next minute, or the next second
unfoldable pub candidate_after : Alarm → ℕ → ℕ
candidate_after a u =
    cond (fits a.hour (u / 3_600)) (cond (fits a.minute (u / 60 % 60)) (u + 1) ((u / 60 + 1) * 60)) ((u / 3_600 + 1) * 3_600)
