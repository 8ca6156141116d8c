-- Demand 1: a refused event changes nothing, and its number is that of the first ground that holds. Assumes nothing.
use Prim.Native.Nat.{ℕ}
use mathlib.Core.Path.{◌≡◌, refl}
use mathlib.Core.Bool.{true, false}
use mathlib.Core.List.{List}
use lib.Dec.{eqb}
use borrow.Author.Tests.{eqb-false}
use Rattle.common.specs.Grounds.{Ground, first_ground}
use Rattle.common.proofs.Choice.{of_cond}
use Rattle.command.specs.Refusals.{grounds_by}
use Rattle.stled325.specs.Outcome.{Outcome, outcome, decided}
use Rattle.stled325.proofs.Decided.{decided_number}
use Rattle.demands.specs.Event.{Event, power_up, tick, sample, frame, ready, wake_up, command, show, lines, supply_return, grounds_of, image_after, reply_after, after}
use Rattle.demands.specs.Exact.{rising, Exact}
use Rattle.demands.proofs.Exact.{exact}

-- ---- Any call that is decided by its grounds

module _ (gs : List Ground) (l o m q : List ℕ) where
  abbrev n : ℕ
  n = first_ground gs

  decided_refused : ((decided gs l o m q).number ≡ 0 → ⊥) → ((decided gs l o m q).image ≡ l) × ((decided gs l o m q).output ≡ o)
  unfolding decided
  decided_refused =
      of_cond (λ (x : Outcome). (x.number ≡ 0 → ⊥) → (x.image ≡ l) × (x.output ≡ o)) (eqb n 0) (outcome 0 m q) (outcome n l o)
      (λ e z. absurd (z refl)) (λ e z. (refl, refl))

  decided_accepted : (decided gs l o m q).number ≡ 0 → ((decided gs l o m q).image ≡ m) × ((decided gs l o m q).output ≡ q)
  unfolding decided
  decided_accepted =
      of_cond (λ (x : Outcome). x.number ≡ 0 → (x.image ≡ m) × (x.output ≡ q)) (eqb n 0) (outcome 0 m q) (outcome n l o)
      (λ e z. (refl, refl)) (λ e z. absurd (lost e z))
    where
      lost : eqb n 0 ≡ false → n ≡ 0 → ⊥
      lost = eqb-false n 0

module _ (e : Event) (l o : List ℕ) where
  -- ---- A REFUSED EVENT CHANGES NO BYTE of the image or the output

  pub refused_untouched : ((after e l o).number ≡ 0 → ⊥) → ((after e l o).image ≡ l) × ((after e l o).output ≡ o)
  refused_untouched = decided_refused (grounds_of e l o) l o (image_after e l) (reply_after e l o)

  -- an accepted one leaves the image and the output of its definition
  pub accepted_leaves : (after e l o).number ≡ 0 → ((after e l o).image ≡ image_after e l) × ((after e l o).output ≡ reply_after e l o)
  accepted_leaves = decided_accepted (grounds_of e l o) l o (image_after e l) (reply_after e l o)

  -- ---- THE NUMBER IS THAT OF THE FIRST GROUND that holds

  number_first : (after e l o).number ≡ first_ground (grounds_of e l o)
  number_first = decided_number (grounds_of e l o) l o (image_after e l) (reply_after e l o)

-- every call's grounds stand in the order of their numbers
pub grounds_rise : (e : Event) (l o : List ℕ) → rising 0 (grounds_of e l o) ≡ true
unfolding grounds_by
grounds_rise power_up l o = refl
grounds_rise tick l o = refl
grounds_rise (sample n) l o = refl
grounds_rise (frame n) l o = refl
grounds_rise (ready level) l o = refl
grounds_rise (wake_up level) l o = refl
grounds_rise (command s) l o = refl
grounds_rise show l o = refl
grounds_rise lines l o = refl
grounds_rise (supply_return n) l o = refl

pub grounds_exact : (e : Event) (l o : List ℕ) → Exact (after e l o).number (grounds_of e l o)
grounds_exact e l o = exact (after e l o).number (grounds_of e l o) (grounds_rise e l o) (number_first e l o)
