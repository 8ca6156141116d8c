-- Demand 3 from the law that one supply return after another is one after the sum. Assumes nothing.
use Prim.Native.Nat.{ℕ, ◌+◌}
use mathlib.Core.Path.{◌≡◌, refl, sym, ap, ◌∙◌}
use mathlib.Core.Bool.{Bool, true, false, cond, not, ◌||◌, true≢false}
use mathlib.Core.List.{List, [], ◌∷◌, map}
use native.Mathlib.Omega.{arith}
use lib.Dec.{ltb, eqb}
use lib.ListN.{length}
use borrow.Author.Tests.{leb-true, leb-false, lt-ltb, le-ltb}
use Rattle.common.specs.Grounds.{ground, first_ground}
use Rattle.common.proofs.Choice.{on_true, on_false, of_cond, by_cases}
use Rattle.calendar.specs.Clock.{limit}
use Rattle.image.specs.Image.{decoded, encoded}
use Rattle.image.specs.Layout.{Bytes}
use Rattle.image.specs.Sound.{SoundPanel}
use Rattle.image.proofs.Laws.{decode_encode}
use Rattle.image.proofs.Bytes.{encoded_length, encoded_bytes}
use Rattle.validity.specs.Valid.{is_valid}
use Rattle.validity.proofs.Laws.{valid_length, sound, valid_encoded}
use Rattle.supply.specs.Return.{panel_returned}
use Rattle.supply.proofs.Sound.{sound_returned}
use Rattle.supply.proofs.Returns.{panel_add}
use Rattle.stled325.specs.Outcome.{Outcome, outcome}
use Rattle.stled325.specs.Calls.{supply_grounds, image_returned, supply_return_call}
use Rattle.stled325.proofs.Decided.{accepted, refused, decided_number, first_holds, first_passed, not_valid}
use Rattle.series.specs.Series.{image_after_series, numbers, within, total, some_accepted}

-- ---- one return by its cases
module _ (l : List ℕ) (n : ℕ) where
  call_bad : is_valid l ≡ false → supply_return_call l n ≡ outcome 1 l []
  call_bad v = sym (not_valid (ground 10 (ltb limit n) ∷ []) l [] (image_returned l n) [] (λ i. not (v i)))

  call_over : is_valid l ≡ true → within n ≡ false → supply_return_call l n ≡ outcome 10 l []
  call_over v h =
      sym (refused (supply_grounds l n) l [] (image_returned l n) [] 10 (λ (z : ◌≡◌ {A = ℕ} 10 0). omega arith)
      (first_holds (ltb limit n) 10 [] (lt-ltb limit n (leb-false n limit h)) ∙ first_passed (not (is_valid l)) 1 (ground 10 (ltb limit n) ∷ []) (λ i. not (v i))))

  pub call_done : is_valid l ≡ true → within n ≡ true → supply_return_call l n ≡ outcome 0 (image_returned l n) []
  call_done v h = sym (accepted (supply_grounds l n) l [] (image_returned l n) [] ((λ i. not (v i)), (le-ltb limit n (leb-true n limit h), tt)))

  number_is : (supply_return_call l n).number ≡ first_ground (supply_grounds l n)
  number_is = decided_number (supply_grounds l n) l [] (image_returned l n) []

  -- accepted exactly within the limit
  pub within_accepted : is_valid l ≡ true → within n ≡ eqb (first_ground (supply_grounds l n)) 0
  within_accepted v =
      by_cases (within n ≡ eqb (first_ground (supply_grounds l n)) 0) (within n)
      (λ t. t ∙ ap (λ (k : ℕ). eqb k 0) (sym (ap (λ (x : Outcome). x.number) (call_done v t)) ∙ number_is))
      (λ f. f ∙ ap (λ (k : ℕ). eqb k 0) (sym (ap (λ (x : Outcome). x.number) (call_over v f)) ∙ number_is))

  -- the image is the returned one, or as it was
  image_is : is_valid l ≡ true → (supply_return_call l n).image ≡ cond (within n) (image_returned l n) l
  image_is v =
      by_cases ((supply_return_call l n).image ≡ cond (within n) (image_returned l n) l) (within n)
      (λ t. ap (λ (x : Outcome). x.image) (call_done v t) ∙ on_true (image_returned l n) l t)
      (λ f. ap (λ (x : Outcome). x.image) (call_over v f) ∙ on_false (image_returned l n) l f)

-- no return changes the length
pub length_call : (l : List ℕ) (n : ℕ) → length (supply_return_call l n).image ≡ length l
length_call l n =
    by_cases (length (supply_return_call l n).image ≡ length l) (is_valid l)
    (λ v. ap length (image_is l n v) ∙ of_cond (λ (x : List ℕ). length x ≡ length l) (within n) (image_returned l n) l
    (λ t. encoded_length (panel_returned n (decoded l)) ∙ sym (valid_length l v)) (λ f. refl))
    (λ v. ap (λ (x : Outcome). length x.image) (call_bad l n v))

-- ---- the image after one accepted return
module _ (l : List ℕ) (v : is_valid l ≡ true) (small : Bytes l) (n : ℕ) where
  state : SoundPanel (decoded l)
  state = sound l v small

  pub returned_valid : is_valid (image_returned l n) ≡ true
  returned_valid = valid_encoded (panel_returned n (decoded l)) (sound_returned n (decoded l) state)

  returned_small : Bytes (image_returned l n)
  returned_small = encoded_bytes (panel_returned n (decoded l)) (sound_returned n (decoded l) state)

  pub holds : decoded (image_returned l n) ≡ panel_returned n (decoded l)
  holds = decode_encode (panel_returned n (decoded l)) (sound_returned n (decoded l) state)

  -- another after it is one after the sum
  returned_again : (m : ℕ) → image_returned (image_returned l n) m ≡ image_returned l (n + m)
  returned_again m = ap encoded (ap (panel_returned m) holds ∙ panel_add (decoded l) n m)

  grounds_same : (m : ℕ) → first_ground (supply_grounds (image_returned l n) m) ≡ first_ground (supply_grounds l m)
  grounds_same m = ap (λ (b : Bool). first_ground (ground 1 (not b) ∷ ground 10 (ltb limit m) ∷ [])) (returned_valid ∙ sym v)

-- ---- sums
pub none_total : (ns : List ℕ) → some_accepted ns ≡ false → total ns ≡ 0
unfolding some_accepted total
none_total [] e = refl
none_total (n ∷ ns) e = by (within n) e (λ p. none_total ns p)
  where
    by : (b : Bool) → (b || some_accepted ns) ≡ false → (some_accepted ns ≡ false → total ns ≡ 0) → cond b n 0 + total ns ≡ 0
    by true p h = absurd (true≢false p)
    by false p h = omega (arith, h p)

-- ---- THE IMAGE after a series: that of one return after the sum, or as it was
pub after_is : (l ns : List ℕ) → is_valid l ≡ true → Bytes l → image_after_series l ns ≡ cond (some_accepted ns) (image_returned l (total ns)) l
unfolding image_after_series some_accepted total
after_is l [] v small = refl
after_is l (n ∷ ns) v small = by_cases (image_after_series (supply_return_call l n).image ns ≡ cond (within n || some_accepted ns) (image_returned l (cond (within n) n 0 + total ns)) l) (within n)
    (λ t. taken t (after_is (image_returned l n) ns (returned_valid l v small n) (returned_small l v small n))) (λ f. passed f (after_is l ns v small))
  where
    summed : (b : Bool) → (b ≡ false → total ns ≡ 0) → cond b (image_returned (image_returned l n) (total ns)) (image_returned l n) ≡ image_returned l (n + total ns)
    summed true h = returned_again l v small n (total ns)
    summed false h = let e : n ≡ n + total ns = omega (arith, h refl) in ap (image_returned l) e

    taken : within n ≡ true → image_after_series (image_returned l n) ns ≡ cond (some_accepted ns) (image_returned (image_returned l n) (total ns)) (image_returned l n) → image_after_series (supply_return_call l n).image ns ≡ cond (within n || some_accepted ns) (image_returned l (cond (within n) n 0 + total ns)) l
    taken t ih =
        ap (λ (x : List ℕ). image_after_series x ns) (image_is l n v ∙ sym (on_true (image_returned l n) l t))
        ∙ ih
        ∙ summed (some_accepted ns) (none_total ns)
        ∙ (λ i. cond (sym t i || some_accepted ns) (image_returned l (cond (sym t i) n 0 + total ns)) l)

    passed : within n ≡ false → image_after_series l ns ≡ cond (some_accepted ns) (image_returned l (total ns)) l → image_after_series (supply_return_call l n).image ns ≡ cond (within n || some_accepted ns) (image_returned l (cond (within n) n 0 + total ns)) l
    passed f ih =
        let e : total ns ≡ 0 + total ns = omega arith in
        ap (λ (x : List ℕ). image_after_series x ns) (image_is l n v ∙ sym (on_false (image_returned l n) l f))
        ∙ ih ∙ ap (λ (k : ℕ). cond (some_accepted ns) (image_returned l k) l) e
        ∙ (λ i. cond (sym f i || some_accepted ns) (image_returned l (cond (sym f i) n 0 + total ns)) l)

-- from an image that is not valid nothing changes
pub after_bad : (l ns : List ℕ) → is_valid l ≡ false → image_after_series l ns ≡ l
unfolding image_after_series
after_bad l [] v = refl
after_bad l (n ∷ ns) v = ap (λ (x : List ℕ). image_after_series x ns) (ap (λ (x : Outcome). x.image) (call_bad l n v)) ∙ after_bad l ns v

-- ---- THE NUMBERS: each the first true ground at the start
pub numbers_bad : (l ns : List ℕ) → is_valid l ≡ false → numbers l ns ≡ map (λ n. first_ground (supply_grounds l n)) ns
unfolding numbers
numbers_bad l [] v = refl
numbers_bad l (n ∷ ns) v =
    (λ i. number_is l n i ∷ (ap (λ (x : List ℕ). numbers x ns) (ap (λ (x : Outcome). x.image) (call_bad l n v)) ∙ numbers_bad l ns v) i)

pub numbers_good : (l ns : List ℕ) → is_valid l ≡ true → Bytes l → numbers l ns ≡ map (λ n. first_ground (supply_grounds l n)) ns
unfolding numbers
numbers_good l [] v small = refl
numbers_good l (n ∷ ns) v small =
    (λ i. number_is l n i ∷ (ap (λ (x : List ℕ). numbers x ns) (image_is l n v) ∙ of_cond (λ (x : List ℕ). numbers x ns ≡ map (λ m. first_ground (supply_grounds l m)) ns) (within n) (image_returned l n) l
    (λ t. numbers_good (image_returned l n) ns (returned_valid l v small n) (returned_small l v small n) ∙ same ns) (λ f. numbers_good l ns v small)) i)
  where
    same : (ms : List ℕ) → map (λ m. first_ground (supply_grounds (image_returned l n) m)) ms ≡ map (λ m. first_ground (supply_grounds l m)) ms
    same [] = refl
    same (m ∷ ms) = λ i. grounds_same l v small n m i ∷ same ms i
