-- The command call (document 01, "Commands"): the refusal table's grounds 1 to 9, and what an accepted command leaves.
use Rattle.std.specs.Prelude.{ℕ, List, [], ◌∷◌, ◌++◌, length}
use Rattle.common.specs.Grounds.{Ground, ground}
use Rattle.command.specs.Refusals.{grounds}
use Rattle.command.specs.Decode.{command_of}
use Rattle.panel.specs.Read.{output_after}
use Rattle.effects.specs.Execute.{writes_no_calendar}
use Rattle.panel.specs.Execute.{executed}
use Rattle.image.specs.Image.{decoded, encoded}
use Rattle.stled325.specs.Outcome.{Outcome, decided, invalid}

-- grounds 2 to 8 are the command's, with STBY and the output's length; 9 is judged on the finished registers
abbrev pub command_grounds : List ℕ → List ℕ → List ℕ → List Ground
command_grounds l s o =
    invalid l ∷ (grounds s (decoded l).core.power.stby (length o) ++ (ground 9 (writes_no_calendar (decoded l).core (command_of s) s) ∷ []))

abbrev pub command_call : List ℕ → List ℕ → List ℕ → Outcome
command_call l s o =
    decided (command_grounds l s o) l o (encoded (executed (decoded l) (command_of s) s)) (output_after (decoded l).core (command_of s) o)
