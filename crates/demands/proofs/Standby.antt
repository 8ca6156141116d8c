-- Demand 2: STBY after each event, by exactly the causes of document 01, whatever bytes the image held: from one that is not valid
-- power-up alone is accepted. Assumes nothing.
use Prim.Native.Nat.{ℕ}
use mathlib.Core.Path.{◌≡◌, refl, sym, ap, subst, ◌∙◌}
use mathlib.Core.Bool.{Bool, true, false, cond, not, ◌&&◌, ◌||◌, true≢false, false≢true}
use mathlib.Core.Logic.{⊎_elim}
use mathlib.Core.List.{List}
use lib.Dec.{eqb}
use borrow.Author.Tests.{eqb-true, eqb-false, not-false}
use Rattle.common.proofs.Choice.{by_cases}
use Rattle.std.specs.Prelude.{Option, Some, None}
use Rattle.remote.specs.declared.RemoteKey.{RemoteKey}
use Rattle.remote.specs.Frame.{key_of}
use Rattle.command.specs.Decode.{command_of}
use Rattle.command.specs.Refusals.{byte}
use Rattle.controller.specs.declared.Core.{Core}
use Rattle.properties.specs.Causes.{hot_press, remote_counts, ready_falls, wake_up_rises}
use Rattle.properties.proofs.Standby.{stby_ticked, stby_sampled, stby_keyed, stby_ready_set, stby_wake_up_set}
use Rattle.panel.specs.declared.Panel.{Panel}
use Rattle.image.specs.Layout.{Bytes}
use Rattle.image.specs.Image.{decoded}
use Rattle.stled325.specs.Calls.{high, is_no_key, keyed_by}
use Rattle.demands.specs.Event.{Event, power_up, tick, sample, frame, ready, wake_up, command, show, lines, supply_return, Given, panel_after, after, ValidImage, stby}
use Rattle.demands.specs.Exact.{Exactly}
use Rattle.demands.specs.Standby.{begins, ends}
use Rattle.demands.proofs.Refusals.{refused_untouched, grounds_exact}
use Rattle.demands.proofs.Commands.{standby_byte, stby_executed}
use Rattle.demands.proofs.Valid.{power_up_or_valid, command_awake, accepted_panel, powered_panel}

-- ---- One event, by STBY before it

ended : (b e : Bool) → (b && not e) ≡ cond b (not e) false
ended true e = refl
ended false e = refl

begun : (b e : Bool) → (b || e) ≡ cond b true e
begun true e = refl
begun false e = refl

same : (b : Bool) → b ≡ cond b true false
same true = refl
same false = refl

lowered : (b : Bool) → false ≡ cond b false false
lowered true = refl
lowered false = refl

stby_keyed_by : (c : Core) (r : Option RemoteKey) → is_no_key r ≡ false → (keyed_by r c).power.stby ≡ cond c.power.stby (not (remote_counts c)) false
stby_keyed_by c (Some k) n = stby_keyed c k.address k.command ∙ ended c.power.stby (remote_counts c)
stby_keyed_by c None n = absurd (true≢false n)

abbrev stby_of : Panel → Bool
stby_of p = p.core.power.stby

module _ (l : List ℕ) where
  abbrev c : Core
  c = (decoded l).core

  after_each : (e : Event) (o : List ℕ) → (after e l o).number ≡ 0 → (panel_after e (decoded l)).core.power.stby ≡ cond (stby l) (not (ends e c)) (begins e c)
  after_each power_up o a = lowered (stby l)
  after_each tick o a = stby_ticked c
  after_each (sample n) o a = stby_sampled c n ∙ ended (stby l) (hot_press c n)
  after_each (frame n) o a = stby_keyed_by c (key_of c.setup.protocol n) ((grounds_exact (frame n) l o).groundless a).1.0
  after_each (ready level) o a = stby_ready_set c (high level) ∙ begun (stby l) (ready_falls c (high level))
  after_each (wake_up level) o a = stby_wake_up_set c (high level) ∙ ended (stby l) (wake_up_rises c (high level))
  after_each (command s) o a =
      stby_executed (decoded l) s (command_awake s l o a) (command_of s)
      ∙ standby_byte (byte s 0) (byte s 1) (byte s 2)
      ∙ ap (λ (b : Bool). cond b true (begins (command s) c)) (sym (command_awake s l o a))
  after_each show o a = same (stby l)
  after_each lines o a = same (stby l)
  after_each (supply_return n) o a = lowered (stby l)

  exact_of_valid : ValidImage l → (e : Event) → Given e → (o : List ℕ) → (after e l o).number ≡ 0 → stby (after e l o).image ≡ cond (stby l) (not (ends e c)) (begins e c)
  exact_of_valid v e g o a = ap stby_of (accepted_panel v e g o a) ∙ after_each e o a

  module _ (small : Bytes l) (e : Event) (g : Given e) (o : List ℕ) where
    -- ---- AN ACCEPTED EVENT

    pub standby_exact : (after e l o).number ≡ 0 → stby (after e l o).image ≡ cond (stby l) (not (ends e c)) (begins e c)
    standby_exact a =
        ⊎_elim (λ (p : e ≡ power_up). subst Stands (sym p) (λ z. ap stby_of (powered_panel l o z) ∙ lowered (stby l)) a) (λ (v : ValidImage l). exact_of_valid v e g o a)
        (power_up_or_valid l small e o a)
      where
        Stands : Event → Type 0
        Stands x = (after x l o).number ≡ 0 → stby (after x l o).image ≡ cond (stby l) (not (ends x c)) (begins x c)

    -- a refused one leaves STBY
    refused_stby : ((after e l o).number ≡ 0 → ⊥) → stby (after e l o).image ≡ stby l
    refused_stby n = ap stby (refused_untouched e l o n).0

    -- STBY that has changed, has changed by an accepted event
    changed_accepted : (b : Bool) → stby l ≡ b → stby (after e l o).image ≡ not b → (after e l o).number ≡ 0
    changed_accepted b was is =
        by_cases ((after e l o).number ≡ 0) (eqb (after e l o).number 0) (λ z. eqb-true _ 0 z)
        (λ z. absurd (differ b (sym was ∙ sym (refused_stby (eqb-false _ 0 z)) ∙ is)))
      where
        differ : (b : Bool) → b ≡ not b → ⊥
        differ true q = true≢false q
        differ false q = false≢true q

    -- ---- STANDBY BEGINS, from STBY low, exactly on the causes of its beginning

    begins_by : (after e l o).number ≡ 0 → stby l ≡ false → stby (after e l o).image ≡ begins e c
    begins_by a was = standby_exact a ∙ ap (λ (b : Bool). cond b (not (ends e c)) (begins e c)) was

    pub standby_begins_only : stby l ≡ false → Exactly (stby (after e l o).image ≡ true) (((after e l o).number ≡ 0) × (begins e c ≡ true))
    standby_begins_only was =
        record {
          only = λ is. let a = changed_accepted false was is in (a, sym (begins_by a was) ∙ is);
          always = λ h. begins_by h.0 was ∙ h.1;
        }

    -- ---- IT ENDS, from STBY high, exactly on the causes of its end

    ends_by : (after e l o).number ≡ 0 → stby l ≡ true → stby (after e l o).image ≡ not (ends e c)
    ends_by a was = standby_exact a ∙ ap (λ (b : Bool). cond b (not (ends e c)) (begins e c)) was

    pub standby_ends_only : stby l ≡ true → Exactly (stby (after e l o).image ≡ false) (((after e l o).number ≡ 0) × (ends e c ≡ true))
    standby_ends_only was =
        record {
          only = λ is. let a = changed_accepted true was is in (a, not-false (ends e c) (sym (ends_by a was) ∙ is));
          always = λ h. ends_by h.0 was ∙ ap not h.1;
        }
