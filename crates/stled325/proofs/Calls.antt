-- What each call but the command leaves, by whether a ground holds. Assumes nothing.
use Prim.Native.Nat.{ℕ, ◌≤◌, ◌<◌}
use mathlib.Core.Path.{◌≡◌, refl, sym, ap, ◌∙◌}
use mathlib.Core.Bool.{true, false, not}
use mathlib.Core.List.{List, [], ◌∷◌}
use native.Mathlib.Omega.{arith}
use lib.Dec.{eqb, ltb}
use lib.ListN.{length, set}
use borrow.Author.Tests.{eq-eqb, ne_eqb, lt-ltb, le-ltb}
use Rattle.std.specs.Prelude.{Option, Some, None, Result, Ok}
use Rattle.common.specs.declared.refusal.Refusal.{Refusal}
use Rattle.common.specs.Grounds.{ground}
use Rattle.remote.specs.declared.RemoteKey.{RemoteKey}
use Rattle.remote.specs.Frame.{key_of, refusal_of}
use Rattle.controller.specs.declared.Core.{Core}
use Rattle.controller.specs.Remote.{keyed}
use Rattle.display.specs.Lines.{lines_of}
use Rattle.panel.specs.declared.Panel.{Panel}
use Rattle.panel.specs.State.{on_core}
use Rattle.supply.specs.Return.{panel_returned}
use Rattle.panel.specs.PowerUp.{panel_powered_up}
use Rattle.image.specs.Image.{decoded, encoded}
use Rattle.validity.specs.Valid.{is_valid, panel_read}
use Rattle.validity.proofs.Laws.{read_valid}
use Rattle.calendar.specs.Clock.{limit}
use Rattle.events.specs.Show.{shown_in}
use Rattle.stled325.specs.Outcome.{outcome, decided}
use Rattle.stled325.specs.Calls.{power_up_grounds, power_up_call, event_grounds, image_after, event_call, received, is_no_key, keyed_by, frame_grounds, frame_call, supply_grounds, image_returned, supply_return_call, view_grounds, show_call, lines_in, lines_call}
use Rattle.stled325.proofs.Decided.{accepted, refused, first_holds, first_passed}

-- ---- power-up
module _ (l : List ℕ) where
  pub up_short : (length l ≡ 64 → ⊥) → outcome 1 l [] ≡ power_up_call l
  up_short h =
      refused (power_up_grounds l) l [] (encoded panel_powered_up) [] 1 (λ (z : ◌≡◌ {A = ℕ} 1 0). omega arith)
      (first_holds (not (eqb (length l) 64)) 1 [] (λ i. not (ne_eqb (length l) 64 h i)))

  pub up_done : length l ≡ 64 → (m : List ℕ) → m ≡ encoded panel_powered_up → outcome 0 m [] ≡ power_up_call l
  up_done h m em =
      ap (λ (x : List ℕ). outcome 0 x []) em ∙ accepted (power_up_grounds l) l [] (encoded panel_powered_up) [] ((λ i. not (eq-eqb (length l) 64 h i)), tt)

-- ---- calls on a valid image
module _ (l : List ℕ) (valid : is_valid l ≡ true) where
  good : not (is_valid l) ≡ false
  good = ap not valid

  -- an event of the shared state
  pub event_done : (event : Core → Core) (m : List ℕ) → m ≡ image_after event l → outcome 0 m [] ≡ event_call event l
  event_done event m em = ap (λ (y : List ℕ). outcome 0 y []) em ∙ accepted (event_grounds l) l [] (image_after event l) [] (good, tt)

  -- a remote frame
  module _ (frame : ℕ) where
    pub frame_refused : received l frame ≡ None → outcome (refusal_of (received l frame)) l [] ≡ frame_call l frame
    frame_refused e =
        ap (λ (r : Option RemoteKey). outcome (refusal_of r) l []) e
        ∙ refused (frame_grounds l frame) l [] (image_after (keyed_by (received l frame)) l) [] 11 (λ (z : ◌≡◌ {A = ℕ} 11 0). omega arith)
        (first_holds (is_no_key (received l frame)) 11 [] (ap is_no_key e) ∙ first_passed (not (is_valid l)) 1 (ground 11 (is_no_key (received l frame)) ∷ []) good)

    pub frame_done : (k : RemoteKey) → received l frame ≡ Some k → (m : List ℕ) → m ≡ image_after (keyed_by (Some k)) l → outcome 0 m [] ≡ frame_call l frame
    frame_done k e m em =
        ap (λ (y : List ℕ). outcome 0 y []) (em ∙ ap (λ (y : Option RemoteKey). image_after (keyed_by y) l) (sym e))
        ∙ accepted (frame_grounds l frame) l [] (image_after (keyed_by (received l frame)) l) [] (good, (ap is_no_key e, tt))

  -- supply return
  module _ (n : ℕ) where
    pub return_refused : limit < n → outcome 10 l [] ≡ supply_return_call l n
    return_refused g =
        refused (supply_grounds l n) l [] (image_returned l n) [] 10 (λ (z : ◌≡◌ {A = ℕ} 10 0). omega arith)
        (first_holds (ltb limit n) 10 [] (lt-ltb limit n g) ∙ first_passed (not (is_valid l)) 1 (ground 10 (ltb limit n) ∷ []) good)

    pub return_done : n ≤ limit → (m : List ℕ) → m ≡ image_returned l n → outcome 0 m [] ≡ supply_return_call l n
    return_done g m em = ap (λ (y : List ℕ). outcome 0 y []) em ∙ accepted (supply_grounds l n) l [] (image_returned l n) [] (good, (le-ltb limit n g, tt))

  -- show and lines
  module _ (o : List ℕ) where
    pub view_refused : (size : ℕ) (q : List ℕ) → (length o ≡ size → ⊥) → outcome 12 l o ≡ decided (view_grounds size l o) l o l q
    view_refused size q n =
        refused (view_grounds size l o) l o l q 12 (λ (z : ◌≡◌ {A = ℕ} 12 0). omega arith)
        (first_holds (not (eqb (length o) size)) 12 [] (λ i. not (ne_eqb (length o) size n i)) ∙ first_passed (not (is_valid l)) 1 (ground 12 (not (eqb (length o) size)) ∷ []) good)

    view_done : (size : ℕ) (q : List ℕ) → length o ≡ size → outcome 0 l q ≡ decided (view_grounds size l o) l o l q
    view_done size q n = accepted (view_grounds size l o) l o l q (good, ((λ i. not (eq-eqb (length o) size n i)), tt))

    pub show_done : length o ≡ 5 → (m : List ℕ) → m ≡ shown_in (decoded l) → outcome 0 l m ≡ show_call l o
    show_done n m em = ap (outcome 0 l) em ∙ view_done 5 (shown_in (decoded l)) n

    pub lines_done : length o ≡ 1 → (m : List ℕ) → m ≡ lines_in (decoded l).core → outcome 0 l m ≡ lines_call l o
    lines_done n m em = ap (outcome 0 l) em ∙ view_done 1 (lines_in (decoded l).core) n

-- ---- the same by the panel p that is read, with what the code makes of it

module _ (l : List ℕ) (p : Panel) (read : ◌≡◌ {A = Result Panel Refusal} (Ok p) (panel_read l)) where
  valid_lem : is_valid l ≡ true
  valid_lem = (read_valid l p read).0

  is_panel : p ≡ decoded l
  is_panel = (read_valid l p read).1

  pub frame_stored : (frame : ℕ) (r : Option RemoteKey) (k : RemoteKey) → r ≡ key_of p.core.setup.protocol frame → r ≡ Some k
      → (q : Panel) (m : List ℕ) → q ≡ on_core (λ c. keyed c k.address k.command) p → m ≡ encoded q → outcome 0 m [] ≡ frame_call l frame
  frame_stored frame r k er e q m eq em =
      frame_done l valid_lem frame k (ap (λ (x : Panel). key_of x.core.setup.protocol frame) (sym is_panel) ∙ sym er ∙ e) m
      (em ∙ ap encoded (eq ∙ ap (on_core (λ c. keyed c k.address k.command)) is_panel))

  pub return_stored : (n : ℕ) → n ≤ limit → (q : Panel) (m : List ℕ) → q ≡ panel_returned n p → m ≡ encoded q → outcome 0 m [] ≡ supply_return_call l n
  return_stored n h q m eq em = return_done l valid_lem n h m (em ∙ ap encoded (eq ∙ ap (panel_returned n) is_panel))

  pub show_written : (o m : List ℕ) → length o ≡ 5 → m ≡ shown_in p → outcome 0 l m ≡ show_call l o
  show_written o m h e = show_done l valid_lem o h m (e ∙ ap shown_in is_panel)

  pub lines_written : (o : List ℕ) (b : ℕ) → length o ≡ 1 → b ≡ lines_of p.core.power.ready p.core.power.stby p.core.interrupt → outcome 0 l (set o 0 b) ≡ lines_call l o
  lines_written o b h e = lines_done l valid_lem o h (set o 0 b) (one o h ∙ ap (λ (x : ℕ). x ∷ []) e ∙ ap (λ (x : Panel). lines_in x.core) is_panel)
    where
      one : (y : List ℕ) → length y ≡ 1 → set y 0 b ≡ b ∷ []
      one [] z = absurd (omega arith)
      one (y ∷ []) z = refl
      one (y ∷ w ∷ ws) z = absurd (omega arith)
