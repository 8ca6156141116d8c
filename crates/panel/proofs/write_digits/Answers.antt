-- `panel::write_digits` meets its contract: each digit byte is the one that the definition says. Assumes nothing.
use mathlib.Core.Path.{◌≡◌, sym, ◌∙◌}
use mathlib.Core.List.{List, [], ◌∷◌}
use Prim.Native.Nat.{ℕ, ◌+◌, ◌<◌}
use native.Mathlib.Omega.{arith}
use lib.ListN.{length, get_or}
use Rattle.common.proofs.Spell.{spell_all}
use Rattle.display.specs.declared.Display.{Display}
use Rattle.panel.specs.State.{display}
use Rattle.panel.specs.Display.{digit_byte, digits_written}
use Rattle.panel.proofs.write_digits.Goals as goal

five : (a : ℕ) (bytes : List ℕ) (d r : Display) → length r.bytes ≡ 5 → r.digits ≡ d.digits → r.control ≡ d.control
    → ((k : ℕ) → k < 5 → get_or r.bytes k 0 ≡ digit_byte a bytes (0x10 + k) (get_or d.bytes k 0)) → r ≡ digits_written a bytes d
unfolding digits_written
five a bytes d r n ed ec e =
    let e0 = e 0 (omega arith) in
    let e1 = e 1 (omega arith) in
    let e2 = e 2 (omega arith) in
    let e3 = e 3 (omega arith) in
    let e4 = e 4 (omega arith) in
    (λ i. display (ed i) (ec i) (sym (spell_all 5 r.bytes n) i)) ∙ (λ i. display d.digits d.control (e0 i ∷ e1 i ∷ e2 i ∷ e3 i ∷ e4 i ∷ []))

pub returns : goal.returns
returns c =
    let v = c.loop-i.invariant in
    five c.args.a c.args.bytes.now c.args.d c.loop-i.d v.sized v.others.0 v.others.1 (λ k h. v.done k (omega arith))
