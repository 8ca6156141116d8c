-- THE THEOREM of demand 3: what holds of a series of supply returns, as one statement. Assumes only that the image's elements are bytes.
use Prim.Native.Nat.{ℕ, ◌+◌, ◌≤◌}
use mathlib.Core.Path.{◌≡◌, refl, sym, ap, subst, ◌∙◌}
use mathlib.Core.Bool.{Bool, true, false, cond, not, ◌&&◌, ◌||◌, and-false, or-false}
use mathlib.Core.List.{List, [], ◌∷◌, map}
use native.Mathlib.Omega.{arith}
use lib.Dec.{eqb}
use borrow.Author.Tests.{le-leb}
use Rattle.common.specs.Bits.{bit_set}
use Rattle.common.specs.Grounds.{first_ground}
use Rattle.common.proofs.Choice.{on_true, on_false, of_cond, by_cases}
use Rattle.calendar.specs.declared.Clock.{Clock}
use Rattle.calendar.specs.Clock.{limit, Valid, count, moved}
use Rattle.calendar.proofs.Moved.{moved_valid, moved_none, moved_moved, count_moved, weekday_moved}
use Rattle.alarm.specs.Match.{matches}
use Rattle.alarm.specs.Reached.{any_reached}
use Rattle.registers.specs.Names.{afe, abe}
use Rattle.timekeeper.specs.Clock.{clock_of}
use Rattle.timekeeper.specs.Alarm.{alarm_of}
use Rattle.controller.specs.State.{ALARM_FLAG}
use Rattle.properties.proofs.SoundParts.{valid_clock_of}
use Rattle.panel.specs.declared.Panel.{Panel}
use Rattle.image.specs.Image.{registers_in}
use Rattle.image.specs.Layout.{FLAGS, byte_at, Bytes}
use Rattle.validity.specs.Valid.{is_valid}
use Rattle.validity.proofs.Laws.{sound}
use Rattle.supply.specs.Return.{registers_returned, match_counts}
use Rattle.supply.proofs.Returns.{clock_stopped, clock_running, flag_returned}
use Rattle.stled325.specs.Outcome.{outcome}
use Rattle.stled325.specs.Calls.{supply_grounds, image_returned, supply_return_call}
use Rattle.series.specs.Series.{image_after_series, numbers, noted, within, total, sum_accepted, some_accepted, some_zero, plain_clock}
use Rattle.series.specs.Demand.{clock_in, stopped_in, flag_in, alarm_reached, Demand3}
use Rattle.series.proofs.Series.{call_done, within_accepted, returned_valid, holds, none_total, after_is, after_bad, numbers_bad, numbers_good}

-- ---- the plain clock over a series
plain_stopped : (c : Clock) (ns : List ℕ) → plain_clock true c ns ≡ c
unfolding plain_clock
plain_stopped c [] = refl
plain_stopped c (n ∷ ns) = ap (λ (x : Clock). plain_clock true x ns) (stays (within n)) ∙ plain_stopped c ns
  where
    stays : (b : Bool) → cond (b && not true) (moved c n) c ≡ c
    stays true = refl
    stays false = refl

plain_running : (c : Clock) (ns : List ℕ) → Valid c → plain_clock false c ns ≡ moved c (total ns)
unfolding plain_clock total
plain_running c [] v = sym (moved_none c v)
plain_running c (n ∷ ns) v = by (within n) (plain_running (moved c n) ns (moved_valid c n)) (plain_running c ns v)
  where
    by : (b : Bool) → plain_clock false (moved c n) ns ≡ moved (moved c n) (total ns) → plain_clock false c ns ≡ moved c (total ns)
        → plain_clock false (cond (b && not false) (moved c n) c) ns ≡ moved c (cond b n 0 + total ns)
    by true p q = p ∙ moved_moved c n (total ns)
    by false p q = let e : total ns ≡ 0 + total ns = omega arith in q ∙ ap (moved c) e

-- ---- the sum, and whether one was accepted, by the answered numbers
sum_is : (f : ℕ → ℕ) → ((n : ℕ) → within n ≡ eqb (f n) 0) → (ns : List ℕ) → total ns ≡ sum_accepted (map f ns) ns
unfolding total sum_accepted
sum_is f h [] = refl
sum_is f h (n ∷ ns) = λ i. cond (h n i) n 0 + sum_is f h ns i

some_is : (f : ℕ → ℕ) → ((n : ℕ) → within n ≡ eqb (f n) 0) → (ns : List ℕ) → some_accepted ns ≡ some_zero (map f ns)
unfolding some_accepted some_zero
some_is f h [] = refl
some_is f h (n ∷ ns) = λ i. h n i || some_is f h ns i

-- ---- the series from a valid image
module _ (l ns : List ℕ) (v : is_valid l ≡ true) (small : Bytes l) where
  abbrev after : List ℕ
  after = image_after_series l ns

  start_valid : Valid (clock_in l)
  start_valid = valid_clock_of (sound l v small).core.rtc

  -- what holds of the image after one return, and of the image as it was where none was accepted, holds after the series
  either : (P : List ℕ → Type 0) → P (image_returned l (total ns)) → (total ns ≡ 0 → P l) → P after
  either P p q =
      subst P (sym (after_is l ns v small)) (of_cond P (some_accepted ns) (image_returned l (total ns)) l (λ t. p) (λ f. q (none_total ns f)))

  registers_are : registers_in (image_returned l (total ns)) ≡ registers_returned (total ns) (registers_in l)
  registers_are = ap (λ (p : Panel). p.core.rtc.registers) (holds l v small (total ns))

  stands : stopped_in l ≡ true → clock_in after ≡ clock_in l
  stands t = either (λ (x : List ℕ). clock_in x ≡ clock_in l) (ap clock_of registers_are ∙ clock_stopped (registers_in l) (total ns) t) (λ z. refl)

  runs : stopped_in l ≡ false → clock_in after ≡ moved (clock_in l) (total ns)
  runs t =
      either (λ (x : List ℕ). clock_in x ≡ moved (clock_in l) (total ns)) (ap clock_of registers_are ∙ clock_running (registers_in l) (total ns) t)
      (λ z. sym (ap (moved (clock_in l)) z ∙ moved_none (clock_in l) start_valid))

  beside : clock_in after ≡ plain_clock (stopped_in l) (clock_in l) ns
  beside =
      by_cases (clock_in after ≡ plain_clock (stopped_in l) (clock_in l) ns) (stopped_in l)
      (λ t. stands t ∙ sym (plain_stopped (clock_in l) ns) ∙ ap (λ (b : Bool). plain_clock b (clock_in l) ns) (sym t))
      (λ f. runs f ∙ sym (plain_running (clock_in l) ns start_valid) ∙ ap (λ (b : Bool). plain_clock b (clock_in l) ns) (sym f))

  counts_as : match_counts (total ns) (registers_in l) ≡ alarm_reached l (total ns)
  unfolding match_counts
  counts_as = refl

  none_reached : total ns ≡ 0 → alarm_reached l (total ns) ≡ false
  unfolding any_reached
  none_reached z =
      ap (λ (n : ℕ). not (stopped_in l) && (afe (registers_in l) && abe (registers_in l)) && any_reached (matches (alarm_of (registers_in l))) (clock_in l) n) z
      ∙ and-false (not (stopped_in l) && (afe (registers_in l) && abe (registers_in l)))

  flag_is : flag_in after ≡ (flag_in l || alarm_reached l (total ns))
  flag_is =
      either (λ (x : List ℕ). flag_in x ≡ (flag_in l || alarm_reached l (total ns)))
      (ap (λ (p : Panel). bit_set p.core.rtc.flags ALARM_FLAG) (holds l v small (total ns)) ∙ flag_returned (registers_in l) (total ns) (byte_at l FLAGS)
      ∙ ap (λ (b : Bool). flag_in l || b) counts_as)
      (λ z. sym (ap (λ (b : Bool). flag_in l || b) (none_reached z) ∙ or-false (flag_in l)))

  one : some_accepted ns ≡ true → total ns ≤ limit → outcome 0 after [] ≡ supply_return_call l (total ns)
  one t h =
      ap (λ (x : List ℕ). outcome 0 x []) (after_is l ns v small ∙ sym (on_true (image_returned l (total ns)) l t))
      ∙ sym (call_done l (total ns) v (le-leb (total ns) limit h))

-- ---- DEMAND 3
module _ (l ns : List ℕ) (small : Bytes l) where
  untouched : some_accepted ns ≡ false → image_after_series l ns ≡ l
  untouched f =
      by_cases (image_after_series l ns ≡ l) (is_valid l) (λ v. after_is l ns v small ∙ sym (on_false (image_returned l (total ns)) l f)) (λ v. after_bad l ns v)

  numbers_are : numbers l ns ≡ map (λ n. first_ground (supply_grounds l n)) ns
  numbers_are = by_cases _ (is_valid l) (λ v. numbers_good l ns v small) (λ v. numbers_bad l ns v)

  pub series : (before : List ℕ) → Demand3 l ns before (image_after_series l ns) (noted before (numbers l ns))
  series before =
      record {
        steps = refl;
        answered = refl;
        refusals = numbers_are;
        accepted = λ v n. within_accepted l n v;
        sum = λ v. sum_is (λ n. first_ground (supply_grounds l n)) (λ n. within_accepted l n v) ns ∙ ap (λ (x : List ℕ). sum_accepted x ns) (sym numbers_are);
        some = λ v. some_is (λ n. first_ground (supply_grounds l n)) (λ n. within_accepted l n v) ns ∙ ap some_zero (sym numbers_are);
        invalid_start = λ v. after_bad l ns v;
        none_accepted = untouched;
        valid_end = λ v. either l ns v small (λ (x : List ℕ). is_valid x ≡ true) (returned_valid l v small (total ns)) (λ z. v);
        clock = λ v. beside l ns v small;
        running = λ v t. ap count (runs l ns v small t) ∙ count_moved (clock_in l) (total ns);
        weekday = λ v t. ap (λ (c : Clock). c.weekday) (runs l ns v small t) ∙ weekday_moved (clock_in l) (total ns);
        standing = λ v t. stands l ns v small t;
        flag = λ v. flag_is l ns v small;
        whole = λ v t. after_is l ns v small ∙ sym (on_true (image_returned l (total ns)) l t);
        single = λ v t h. one l ns v small t h;
      }
