-- `alarm::Alarm::first_match` meets its contract: no second is reached, or an impossible field is matched by none. Assumes nothing.
use mathlib.Core.Path.{◌≡◌, refl, sym, subst, ◌∙◌}
use mathlib.Core.Bool.{Bool, true, false, not, ◌||◌}
use mathlib.Core.Logic.{⊎_elim}
use Prim.Native.Nat.{ℕ, ◌+◌}
use native.Mathlib.Nat.{add_comm}
use borrow.Author.Tests.{eqb-true, not-true}
use lib.Dec.{eqb}
use Rattle.common.proofs.Choice.{or_cases}
use Rattle.calendar.specs.declared.Clock.{Clock}
use Rattle.calendar.specs.Clock.{moved}
use Rattle.calendar.proofs.Moved.{moved_valid}
use Rattle.alarm.specs.declared.Alarm.{Alarm}
use Rattle.alarm.specs.Search.{first_from}
use Rattle.alarm.specs.Match.{matches, possible}
use Rattle.alarm.specs.Reached.{first_reached}
use Rattle.alarm.proofs.Search.{first_none}
use Rattle.alarm.proofs.Match.{impossible_never}
use borrow.Author.Rules.{rules}
use Rattle.alarm.proofs.Alarm.first_match.Goals as goal

module _ (a : Alarm) (c : Clock) (n : ℕ) where
  at_none : n ≡ 0 → n + 1 ≡ first_reached (matches a) c n
  unfolding first_from
  at_none z = subst (λ (k : ℕ). k + 1 ≡ first_reached (matches a) c k) (sym z) refl

  never : possible a ≡ false → n + 1 ≡ first_reached (matches a) c n
  never e = add_comm n 1 ∙ first_none (λ k. matches a (moved c k)) 1 n (λ k l h. impossible_never a e (moved c k) (moved_valid c k))

  either : (r : Bool) → r ≡ possible a → (eqb n 0 || not r) ≡ true → n + 1 ≡ first_reached (matches a) c n
  either r e h = ⊎_elim (λ t. at_none (eqb-true n 0 t)) (λ t. never (sym e ∙ not-true r t)) (or_cases (eqb n 0) (not r) h)

pub returns-then-n-is_possible : goal.returns-then-n-is_possible
returns-then-n-is_possible c = search (rules, either)
