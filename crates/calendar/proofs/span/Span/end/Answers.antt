-- `calendar::Span::end` meets its contract: the day stands as many whole days behind the first midnight as were walked. Assumes nothing.
use mathlib.Core.Path.{◌≡◌, sym, ap, subst, ◌∙◌}
use Prim.Native.Nat.{ℕ, ◌+◌, ◌*◌, ◌/◌, ◌%◌}
use native.Mathlib.Omega.{arith}
use Rattle.calendar.specs.declared.Clock.{Clock}
use Rattle.calendar.specs.Clock.{Valid, time_of, moved}
use Rattle.calendar.specs.Carry.{at_time, next_day}
use Rattle.calendar.proofs.Moved.{moved_none, moved_moved, moved_valid, time_valid, from_midnight, whole_days}
use Rattle.calendar.proofs.Carry.{next_day_moved}
use borrow.Author.Rules.{rules}
use Rattle.calendar.proofs.span.Span.end.Goals as goal

-- the midnight m before the clock c
begin : (c m : Clock) → Valid c → m ≡ at_time c 0 → m ≡ moved m (86_400 * 0)
begin c m v e = sym (moved_none m (subst Valid (sym e) (time_valid c 0 v (omega arith))))

turn : (m d r : Clock) (k : ℕ) → d ≡ moved m (86_400 * k) → r ≡ next_day d → r ≡ moved m (86_400 * (k + 1))
turn m d r k e f =
    let j : 86_400 * k + 86_400 ≡ 86_400 * (k + 1) = omega arith in
    f ∙ ap next_day e ∙ next_day_moved (moved m (86_400 * k)) (moved_valid m (86_400 * k)) ∙ moved_moved m (86_400 * k) 86_400 ∙ ap (moved m) j

finish : (c m d r : Clock) (n t : ℕ) → Valid c → t ≡ time_of c → m ≡ at_time c 0 → d ≡ moved m (86_400 * ((t + n) / 86_400)) → r ≡ at_time d ((t + n) % 86_400) → r ≡ moved c n
finish c m d r n t v et em e f =
    let j : 86_400 * ((t + n) / 86_400) + (t + n) % 86_400 ≡ time_of c + n = omega arith in
    f ∙ ap (λ (x : Clock). at_time x ((t + n) % 86_400)) e
    ∙ whole_days m ((t + n) / 86_400) ((t + n) % 86_400) (ap time_of em) (omega arith)
    ∙ ap (moved m) j ∙ ap (λ (x : Clock). moved x (time_of c + n)) em ∙ sym (from_midnight c n v)

pub loop-init : goal.loop-init
loop-init c = search (rules, begin)

pub loop-preserved : goal.loop-preserved
loop-preserved c = search (rules, turn)

pub returns : goal.returns
returns c = search (rules, finish)
