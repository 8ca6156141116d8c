-- In a list whose numbers rise, the first ground that holds is the one with the least number. Assumes nothing.
use Prim.Native.Nat.{ℕ, ◌≤◌, ◌<◌}
use mathlib.Core.Path.{◌≡◌, refl, sym, ap, ◌∙◌}
use mathlib.Core.Bool.{Bool, true, false, ◌&&◌, ◌||◌, true≢false, false≢true}
use mathlib.Core.Logic.{⊎_elim}
use mathlib.Core.List.{List, [], ◌∷◌}
use native.Mathlib.Omega.{arith}
use lib.Dec.{eqb, ltb}
use borrow.Author.Tests.{ltb-true, lt-ltb, eq-eqb, ne_eqb}
use Rattle.common.specs.Grounds.{Ground, first_ground}
use Rattle.common.proofs.Choice.{on_true, on_false, by_cases, and_left, and_right, and_both}
use Rattle.common.proofs.Grounds.{numbered, ground_none, zero_none}
use Rattle.common.proofs.Order.{lt_or_le}
use Rattle.demands.specs.Exact.{holds_at, First, rising, Exact}

module _ (n : ℕ) (g : Ground) (gs : List Ground) (r : rising n (g ∷ gs) ≡ true) where
  next_above : n < g.number
  next_above = ltb-true n g.number (and_left (ltb n g.number) (rising g.number gs) r)

  rest_rises : rising g.number gs ≡ true
  rest_rises = and_right (ltb n g.number) (rising g.number gs) r

-- whether a ground holds at k, by the first of the list
module _ (k : ℕ) (g : Ground) (gs : List Ground) where
  not_holding : g.holds ≡ false → holds_at k (g ∷ gs) ≡ holds_at k gs
  not_holding f = ap (λ (b : Bool). (b && eqb g.number k) || holds_at k gs) f

  other_number : (g.number ≡ k → ⊥) → holds_at k (g ∷ gs) ≡ holds_at k gs
  other_number f = ap (λ (b : Bool). (g.holds && b) || holds_at k gs) (ne_eqb g.number k f) ∙ drops g.holds (holds_at k gs)
    where
      drops : (a b : Bool) → ((a && false) || b) ≡ b
      drops true b = refl
      drops false b = refl

  same_number : g.holds ≡ true → g.number ≡ k → holds_at k (g ∷ gs) ≡ true
  same_number t e = λ i. (t i && eq-eqb g.number k e i) || holds_at k gs

-- no ground holds at a number that the list starts above
none_below : (n : ℕ) (gs : List Ground) → rising n gs ≡ true → (j : ℕ) → j ≤ n → holds_at j gs ≡ false
none_below n [] r j h = refl
none_below n (g ∷ gs) r j h =
    let a = next_above n g gs r in
    other_number j g gs (λ e. omega arith) ∙ none_below g.number gs (rest_rises n g gs r) j (omega arith)

first_least : (n : ℕ) (gs : List Ground) → rising n gs ≡ true → (k : ℕ) → (k ≡ 0 → ⊥) → first_ground gs ≡ k → First k gs
first_least n [] r k z e = absurd (z (sym e))
first_least n (g ∷ gs) r k z e = by_cases (First k (g ∷ gs)) g.holds holding (passed (first_least g.number gs (rest_rises n g gs r) k z))
  where
    holding : g.holds ≡ true → First k (g ∷ gs)
    holding t =
        let same : g.number ≡ k = on_true _ _ t ∙ e in
        record {
          holds = same_number k g gs t same;
          none_earlier = λ j h. other_number j g gs (λ q. omega arith) ∙ none_below g.number gs (rest_rises n g gs r) j (omega arith);
        }

    passed : (first_ground gs ≡ k → First k gs) → g.holds ≡ false → First k (g ∷ gs)
    passed from f =
        let rest = from (on_false _ _ f ∙ e) in
        record { holds = not_holding k g gs f ∙ rest.holds; none_earlier = λ j h. not_holding j g gs f ∙ rest.none_earlier j h }

least_first : (n : ℕ) (gs : List Ground) → rising n gs ≡ true → (k : ℕ) → First k gs → first_ground gs ≡ k
least_first n [] r k f = absurd (false≢true f.holds)
least_first n (g ∷ gs) r k f = by_cases (first_ground (g ∷ gs) ≡ k) g.holds holding (passed (least_first g.number gs (rest_rises n g gs r) k))
  where
    not_above : k < g.number → ⊥
    not_above h =
        true≢false (sym f.holds ∙ other_number k g gs (λ q. omega arith) ∙ none_below g.number gs (rest_rises n g gs r) k (omega arith))

    not_below : g.holds ≡ true → g.number < k → ⊥
    not_below t h = true≢false (sym (same_number g.number g gs t refl) ∙ f.none_earlier g.number h)

    holding : g.holds ≡ true → first_ground (g ∷ gs) ≡ k
    holding t =
        sym (on_true _ _ t)
        ∙ ⊎_elim (λ (h : k < g.number). absurd (not_above h))
        (λ (h : g.number ≤ k). ⊎_elim (λ (m : g.number < k). absurd (not_below t m)) (λ (m : k ≤ g.number). omega arith) (lt_or_le g.number k))
        (lt_or_le k g.number)

    passed : (First k gs → first_ground gs ≡ k) → g.holds ≡ false → first_ground (g ∷ gs) ≡ k
    passed from n' =
        sym (on_false _ _ n')
        ∙ from
        (record { holds = sym (not_holding k g gs n') ∙ f.holds; none_earlier = λ j h. sym (not_holding j g gs n') ∙ f.none_earlier j h })

rising_numbered : (n : ℕ) (gs : List Ground) → rising n gs ≡ true → numbered gs ≡ true
rising_numbered n [] r = refl
rising_numbered n (g ∷ gs) r =
    and_both (ltb 0 g.number) (numbered gs) (lt-ltb 0 g.number (omega (arith, next_above n g gs r)))
    (rising_numbered g.number gs (rest_rises n g gs r))

pub exact : (number : ℕ) (gs : List Ground) → rising 0 gs ≡ true → number ≡ first_ground gs → Exact number gs
exact number gs r e =
    record {
      is_first = e;
      grounded = λ k z q. first_least 0 gs r k z (sym e ∙ q);
      refused = λ k f. e ∙ least_first 0 gs r k f;
      groundless = λ z. zero_none gs (rising_numbered 0 gs r) (sym e ∙ z);
      accepted = λ none. e ∙ sym (ground_none gs none);
    }
