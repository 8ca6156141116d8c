use Prim.Native.Nat.{ℕ, ◌+◌, ◌<◌, ◌≤◌}
use mathlib.Core.Path.{◌≡◌}
use lib.ListN.{length, get_or}
use Rattle.panel.specs.Display.{digit_byte}
use Rattle.panel.proofs.write_digits.Given as goal

abbrev pub invariant-loop-i : goal.invariant-loop-i
invariant-loop-i l =
    record {
      sized : length l.d.bytes ≡ 5;
      others : (l.d.digits ≡ l.initial.d.digits) × (l.d.control ≡ l.initial.d.control);
      done : (k : ℕ) → k < l.i → get_or l.d.bytes k 0 ≡ digit_byte l.a l.bytes (0x10 + k) (get_or l.initial.d.bytes k 0);
      left : (k : ℕ) → l.i ≤ k → get_or l.d.bytes k 0 ≡ get_or l.initial.d.bytes k 0;
    }
