-- `series::supply_series` meets its contract. The invariant: after i returns the image and the numbers are those of the series of the
-- first i. Assumes nothing.
use Prim.Native.Nat.{ℕ, suc, ◌+◌, ◌≤◌, ◌<◌}
use mathlib.Core.Path.{◌≡◌, refl, sym, ap, subst, ◌∙◌}
use mathlib.Core.List.{List, [], ◌∷◌, ◌++◌}
use native.Mathlib.Omega.{arith}
use native.Mathlib.Numerals.{add-one}
use lib.ListN.{length, get_or, take, set, length-set}
use lib.Seq.{take-suc, take_all, length-take-le}
use Rattle.image.specs.Layout.{Bytes}
use Rattle.stled325.specs.Outcome.{Outcome, outcome}
use Rattle.stled325.specs.Calls.{supply_return_call}
use Rattle.series.specs.Series.{image_after_series, numbers, noted}
use Rattle.series.specs.Demand.{Demand3}
use Rattle.series.proofs.Series.{length_call}
use Rattle.series.proofs.Demand.{series}
use Rattle.series.proofs.supply_series.Invariants.{Gone}
use Rattle.series.proofs.supply_series.Goals as goal

-- one return more at the end of a series
image_more : (l xs : List ℕ) (n : ℕ) → image_after_series l (xs ++ (n ∷ [])) ≡ (supply_return_call (image_after_series l xs) n).image
unfolding image_after_series
image_more l [] n = refl
image_more l (x ∷ xs) n = image_more (supply_return_call l x).image xs n

numbers_more : (l xs : List ℕ) (n : ℕ) → numbers l (xs ++ (n ∷ [])) ≡ numbers l xs ++ ((supply_return_call (image_after_series l xs) n).number ∷ [])
unfolding image_after_series numbers
numbers_more l [] n = refl
numbers_more l (x ∷ xs) n = ap (λ (ys : List ℕ). (supply_return_call l x).number ∷ ys) (numbers_more (supply_return_call l x).image xs n)

numbers_length : (l xs : List ℕ) → length (numbers l xs) ≡ length xs
unfolding numbers
numbers_length l [] = refl
numbers_length l (x ∷ xs) = ap suc (numbers_length (supply_return_call l x).image xs)

noted_none : (ys : List ℕ) → noted ys [] ≡ ys
unfolding noted
noted_none [] = refl
noted_none (a ∷ ys) = refl

noted_more : (ys xs : List ℕ) (r : ℕ) → set (noted ys xs) (length xs) r ≡ noted ys (xs ++ (r ∷ []))
unfolding noted
noted_more [] xs r = refl
noted_more (a ∷ ys) [] r = ap (λ (l : List ℕ). r ∷ l) (sym (noted_none ys))
noted_more (a ∷ ys) (x ∷ xs) r = ap (λ (l : List ℕ). x ∷ l) (noted_more ys xs r)

begin : (l ns a : List ℕ) → Gone l ns a l a 0
unfolding image_after_series numbers
begin l ns a = record { most = omega arith; sized = refl; places = refl; image_is = refl; answers_are = sym (noted_none a) }

turn : (l ns a image answers next said : List ℕ) (i r : ℕ) → i < length ns → Gone l ns a image answers i
    → (v : ℕ) → outcome v next [] ≡ supply_return_call image (get_or ns i 0) → r ≡ v → said ≡ set answers i r → Gone l ns a next said (i + 1)
turn l ns a image answers next said i r h g v e₀ er f =
    record {
      most = omega arith;
      sized = ap length (ap (λ (x : Outcome). x.image) e) ∙ length_call image (get_or ns i 0) ∙ g.sized;
      places = ap length f ∙ length-set answers i r ∙ g.places;
      image_is = ap (λ (x : Outcome). x.image) call ∙ sym (image_more l (take i ns) (get_or ns i 0)) ∙ ap (image_after_series l) one_more_lem;
      answers_are =
          f ∙ (λ j. set (g.answers_are j) (sym made j) r) ∙ noted_more a (numbers l (take i ns)) r
          ∙ ap (λ (k : ℕ). noted a (numbers l (take i ns) ++ (k ∷ []))) (ap (λ (x : Outcome). x.number) call)
          ∙ ap (noted a) (sym (numbers_more l (take i ns) (get_or ns i 0)) ∙ ap (numbers l) one_more_lem);
    }
  where
    e : outcome r next [] ≡ supply_return_call image (get_or ns i 0)
    e = ap (λ (x : ℕ). outcome x next []) er ∙ e₀

    call : outcome r next [] ≡ supply_return_call (image_after_series l (take i ns)) (get_or ns i 0)
    call = e ∙ ap (λ (y : List ℕ). supply_return_call y (get_or ns i 0)) g.image_is

    made : length (numbers l (take i ns)) ≡ i
    made = numbers_length l (take i ns) ∙ length-take-le i ns (omega arith)

    one_more_lem : take i ns ++ (get_or ns i 0 ∷ []) ≡ take (i + 1) ns
    one_more_lem = sym (take-suc ns i 0 h) ∙ ap (λ (k : ℕ). take k ns) (sym (add-one i))

finish : (l ns a image answers : List ℕ) (i : ℕ) → Bytes l → length ns ≤ i → Gone l ns a image answers i → Demand3 l ns a image answers
finish l ns a image answers i small h g =
    subst (λ (x : List ℕ). Demand3 l ns a x answers) (sym (g.image_is ∙ ap (image_after_series l) (take_all i ns h)))
    (subst (λ (y : List ℕ). Demand3 l ns a (image_after_series l ns) y) (sym (g.answers_are ∙ ap (λ (x : List ℕ). noted a (numbers l x)) (take_all i ns h))) (series l ns small a))

pub loop-i-init : goal.loop-i-init
loop-i-init c = begin _ _ _

pub loop-i-preserved : goal.loop-i-preserved
loop-i-preserved c =
    turn _ _ _ _ _ _ _ _ _ c.loop-i-test.true c.loop-i.invariant _ c.stled325_supply_return-answer.ensures c.number.ensures c.note.ensures

pub returns : goal.returns
returns c =
    finish _ _ _ _ _ _ (λ i. omega (arith, c.slice_known-1.given i)) c.loop-i-test.false c.loop-i.invariant
