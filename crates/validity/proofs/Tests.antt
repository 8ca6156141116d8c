-- The tests of validity, as the code puts them together. Assumes nothing.
use Prim.Native.Nat.{ℕ}
use mathlib.Core.Path.{◌≡◌, sym, ap, ◌∙◌}
use mathlib.Core.Bool.{Bool, true, false, not, ◌&&◌}
use mathlib.Core.List.{List, [], ◌∷◌}
use lib.Dec.{leb}
use lib.ListN.{length}
use borrow.Author.Tests.{eq-eqb, ne_eqb, not-true, not-false}
use Rattle.common.specs.Tests.{conj}
use Rattle.registers.specs.Names.{at, WATCHDOG}
use Rattle.registers.specs.Written.{reserved_clear}
use Rattle.registers.specs.Watchdog.{watchdog_load}
use Rattle.timekeeper.specs.Clock.{valid_calendar}
use Rattle.units.specs.declared.Sixteenths.{Sixteenths}
use Rattle.controller.specs.declared.Core.{Core}
use Rattle.controller.specs.Standby.{guard_load}
use Rattle.remote.specs.Frame.{is_protocol}
use Rattle.panel.specs.declared.Panel.{Panel}
use Rattle.image.specs.Layout.{image_len}
use Rattle.image.specs.Image.{registers_in, decoded}
use Rattle.validity.specs.Valid.{unnamed_tests, tail_tests, range_tests, guard_within, guard_stopped, watchdog_within, address_zero, command_zero, state_tests, is_valid}

module _ (c : Core) (load : Sixteenths) where
  pub guard_test : load ≡ guard_load c → leb c.power.guard.0 load.0 ≡ guard_within c
  guard_test e = ap (λ (x : Sixteenths). leb c.power.guard.0 x.0) e

  pub watchdog_test : load ≡ watchdog_load (at c.rtc.registers WATCHDOG) → leb c.rtc.watchdog.0 load.0 ≡ watchdog_within c
  watchdog_test e = ap (λ (x : Sixteenths). leb c.rtc.watchdog.0 x.0) e

pub state_tests_lem : (p : Panel) (r n q g w : Bool) → r ≡ reserved_clear p.core.rtc.registers → n ≡ conj (range_tests p) → q ≡ is_protocol p.core.setup.protocol → g ≡ guard_within p.core → w ≡ watchdog_within p.core
    → conj (r ∷ n ∷ q ∷ g ∷ guard_stopped p.core ∷ w ∷ address_zero p.core ∷ command_zero p.core ∷ []) ≡ conj (state_tests p)
state_tests_lem p r n q g w er en eq eg ew =
    λ i. conj (er i ∷ en i ∷ eq i ∷ eg i ∷ guard_stopped p.core ∷ ew i ∷ address_zero p.core ∷ command_zero p.core ∷ [])

-- ---- the image

module _ (l : List ℕ) where
  -- by whether it has 64 bytes, whether its calendar is valid, and the rest
  judged : Bool → Bool → Bool
  judged sized calendar = conj (sized ∷ calendar ∷ conj (unnamed_tests l) ∷ conj (tail_tests l) ∷ conj (state_tests (decoded l)) ∷ [])

  pub not_sized : (length l ≡ image_len → ⊥) → false ≡ is_valid l
  unfolding is_valid judged
  not_sized n = sym (ap (λ (b : Bool). judged b (valid_calendar (registers_in l))) (ne_eqb (length l) image_len n))

  module _ (rs : List ℕ) (v : Bool) (sized : length l ≡ image_len) (er : rs ≡ registers_in l) (ev : v ≡ valid_calendar rs) where
    calendar_is : v ≡ valid_calendar (registers_in l)
    calendar_is = ev ∙ ap valid_calendar er

    pub no_calendar : not v ≡ true → false ≡ is_valid l
    unfolding is_valid judged
    no_calendar h = λ i. judged (sym (eq-eqb (length l) image_len sized) i) ((sym (not-true v h) ∙ calendar_is) i)

    pub whole : not v ≡ false → (a : List ℕ) → a ≡ l → (u z : Bool) → u ≡ conj (unnamed_tests a) → z ≡ conj (tail_tests a) → (p : Panel) → p ≡ decoded a → (s : Bool) → s ≡ conj (state_tests p)
        → (u && z && s) ≡ is_valid l
    unfolding is_valid judged
    whole h a ea u z eu ez p ep s es =
        (λ i. (eu ∙ ap (λ (m : List ℕ). conj (unnamed_tests m)) ea) i && (ez ∙ ap (λ (m : List ℕ). conj (tail_tests m)) ea) i && (es ∙ ap (λ (q : Panel). conj (state_tests q)) (ep ∙ ap decoded ea)) i)
        ∙ (λ i. judged (sym (eq-eqb (length l) image_len sized) i) ((sym (not-false v h) ∙ calendar_is) i))
