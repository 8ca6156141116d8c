-- `validity::tail_clear` meets its contract. The loop's invariant: the tests of the bytes so far. Assumes nothing.
use Prim.Native.Nat.{ℕ, ◌+◌, ◌<◌}
use mathlib.Core.Path.{◌≡◌, refl, sym, ap, ◌∙◌}
use mathlib.Core.Bool.{Bool, true, ◌&&◌}
use mathlib.Core.List.{List, [], ◌∷◌, ◌++◌}
use native.Mathlib.Omega.{arith}
use native.Mathlib.Numerals.{add-one}
use lib.Dec.{eqb}
use lib.ListN.{length, get_or, take, drop}
use lib.Seq.{take-suc, take_all}
use Rattle.common.specs.Tests.{conj, conj_from}
use Rattle.common.specs.Spell.{spell}
use Rattle.common.proofs.Spell.{spell_part}
use Rattle.validity.specs.Valid.{zero_tests}
use borrow.Author.Rules.{rules}
use Rattle.validity.proofs.tail_clear.Goals as goal

pushed : (a : Bool) (bs : List ℕ) (b : ℕ) → conj_from a (zero_tests (bs ++ (b ∷ []))) ≡ (conj_from a (zero_tests bs) && eqb b 0)
pushed a [] b = refl
pushed a (x ∷ bs) b = pushed (a && eqb x 0) bs b

more : (l : List ℕ) (i : ℕ) (c : Bool) → i < length l → c ≡ conj_from true (zero_tests (take i l)) → (c && eqb (get_or l i 0) 0) ≡ conj_from true (zero_tests (take (i + 1) l))
more l i c h e =
    ap (λ (a : Bool). a && eqb (get_or l i 0) 0) e ∙ sym (pushed true (take i l) (get_or l i 0))
    ∙ ap (λ (bs : List ℕ). conj_from true (zero_tests bs)) (sym (take-suc l i 0 h) ∙ ap (λ (n : ℕ). take n l) (sym (add-one i)))

all_tests : (bs : List ℕ) → conj_from true (zero_tests bs) ≡ conj (zero_tests bs)
all_tests [] = refl
all_tests (b ∷ bs) = refl

pub loop-byte-preserved : goal.loop-byte-preserved
loop-byte-preserved c = more _ c.loop-byte.byte-index c.loop-byte.clear c.loop-byte-test.true c.loop-byte.invariant

pub returns : goal.returns
returns c =
    let l = c.args.image in
    let n : length l ≡ 64 = search rules in
    let bs = take 20 (drop 44 l) in
    let e : take c.loop-byte.byte-index bs ≡ bs = take_all c.loop-byte.byte-index bs (omega arith) in
    c.loop-byte.invariant ∙ ap (λ (xs : List ℕ). conj_from true (zero_tests xs)) (e ∙ sym (spell_part 44 20 l (omega arith))) ∙ all_tests (spell 44 20 l)
