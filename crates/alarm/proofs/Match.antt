-- What fits and what does not: the fields of a day and of a time, hours and minutes passed over, impossible fields. Assumes nothing.
use mathlib.Core.Path.{◌≡◌, refl, sym, ap, ◌∙◌}
use mathlib.Core.Bool.{Bool, true, false, ◌&&◌, and_assoc, and-true, and-false, true≢false}
use mathlib.Core.List.{[], ◌∷◌}
use Prim.Native.Nat.{ℕ, ◌+◌, ◌*◌, ◌/◌, ◌%◌, ◌≤◌, ◌<◌}
use native.Mathlib.Omega.{arith}
use borrow.Author.Tests.{eqb-true, le-leb}
use lib.Dec.{leb}
use Rattle.std.specs.Prelude.{Option, None, Some}
use Rattle.common.proofs.Choice.{of_cond, by_cases, and_both}
use Rattle.common.proofs.Tests.{each, all_hold}
use Rattle.common.proofs.Each.{done, ◌also◌}
use Rattle.calendar.specs.declared.Clock.{Clock}
use Rattle.calendar.specs.Clock.{Valid}
use Rattle.calendar.specs.Carry.{at_time}
use Rattle.calendar.proofs.Date.{date_31}
use Rattle.alarm.specs.declared.Alarm.{Alarm}
use Rattle.alarm.specs.Match.{fits, matches, time_fits, day_fits, in_range, possible}
use Rattle.alarm.specs.Skip.{candidate_after}

-- ---- the match of a second is that of its time and of its day
module _ (a : Alarm) (c : Clock) (t : ℕ) where
  match_split : matches a (at_time c t) ≡ (time_fits a t && day_fits a c)
  unfolding matches time_fits day_fits
  match_split = simp and_assoc

  pub day_not : day_fits a c ≡ false → matches a (at_time c t) ≡ false
  day_not e = match_split ∙ ap (λ (b : Bool). time_fits a t && b) e ∙ and-false (time_fits a t)

  pub day_fit : day_fits a c ≡ true → matches a (at_time c t) ≡ time_fits a t
  day_fit e = match_split ∙ ap (λ (b : Bool). time_fits a t && b) e ∙ and-true (time_fits a t)

-- ---- hours, minutes and seconds that do not fit
module _ (a : Alarm) (u : ℕ) where
  hour_not : fits a.hour (u / 3_600) ≡ false → (w : ℕ) → u ≤ w → w < (u / 3_600 + 1) * 3_600 → time_fits a w ≡ false
  unfolding time_fits
  hour_not e w l h =
      let q : w / 3_600 ≡ u / 3_600 = omega arith in
      simp (q, e, and-false)

  minute_not : fits a.minute (u / 60 % 60) ≡ false → (w : ℕ) → u ≤ w → w < (u / 60 + 1) * 60 → time_fits a w ≡ false
  unfolding time_fits
  minute_not e w l h =
      let q : w / 60 % 60 ≡ u / 60 % 60 = omega arith in
      simp (q, e, and-false)

  -- nothing fits before the next candidate, which is later and on the same day or at its end
  pub candidate_none : time_fits a u ≡ false → (w : ℕ) → u ≤ w → w < candidate_after a u → time_fits a w ≡ false
  unfolding candidate_after
  candidate_none e =
      of_cond P (fits a.hour (u / 3_600)) _ _
      (λ f. of_cond P (fits a.minute (u / 60 % 60)) _ _ (λ g w l h. let q : w ≡ u = omega arith in ap (time_fits a) q ∙ e) (λ g. minute_not g))
      (λ f. hour_not f)
    where
      P : ℕ → Type 0
      P r = (w : ℕ) → u ≤ w → w < r → time_fits a w ≡ false

  pub candidate_range : u < 86_400 → (u < candidate_after a u) × (candidate_after a u ≤ 86_400)
  unfolding candidate_after
  candidate_range h =
      of_cond P (fits a.hour (u / 3_600)) _ _ (λ f. of_cond P (fits a.minute (u / 60 % 60)) _ _ (λ g. omega arith) (λ g. omega arith)) (λ f. omega arith)
    where
      P : ℕ → Type 0
      P r = (u < r) × (r ≤ 86_400)

-- ---- a field that is no possible time never matches
fit_in : (f : Option ℕ) (lo hi x : ℕ) → lo ≤ x → x ≤ hi → fits f x ≡ true → in_range f lo hi ≡ true
unfolding fits in_range
fit_in None lo hi x l h e = refl
fit_in (Some v) lo hi x l h e =
    let q : v ≡ x = eqb-true v x e in
    and_both (leb lo v) (leb v hi) (le-leb lo v (omega arith)) (le-leb v hi (omega arith))

match_possible : (a : Alarm) (c : Clock) → Valid c → matches a c ≡ true → possible a ≡ true
unfolding matches possible
match_possible a c v e =
    let f = each (fits a.second c.second ∷ fits a.minute c.minute ∷ fits a.hour c.hour ∷ fits a.date c.date ∷ fits a.month c.month ∷ fits a.weekday c.weekday ∷ []) e in
    all_hold (in_range a.second 0 59 ∷ in_range a.minute 0 59 ∷ in_range a.hour 0 23 ∷ in_range a.date 1 31 ∷ in_range a.month 1 12 ∷ in_range a.weekday 1 7 ∷ [])
    (fit_in a.second 0 59 c.second (omega arith) v.second (f 0)
    also fit_in a.minute 0 59 c.minute (omega arith) v.minute (f 1)
    also fit_in a.hour 0 23 c.hour (omega arith) v.hour (f 2)
    also fit_in a.date 1 31 c.date v.dated.date_low (date_31 _ _ _ v.dated) (f 3)
    also fit_in a.month 1 12 c.month v.dated.month_low v.dated.month_high (f 4)
    also fit_in a.weekday 1 7 c.weekday v.weekday_low v.weekday_high (f 5)
    also done)

pub impossible_never : (a : Alarm) → possible a ≡ false → (c : Clock) → Valid c → matches a c ≡ false
impossible_never a e c v =
    by_cases (matches a c ≡ false) (matches a c) (λ t. absurd (true≢false (sym (match_possible a c v t) ∙ e))) (λ f. f)
