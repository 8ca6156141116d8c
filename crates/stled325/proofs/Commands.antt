-- What the command call leaves, by the first ground that holds. Assumes nothing.
use Prim.Native.Nat.{ℕ}
use mathlib.Core.Path.{◌≡◌, refl, sym, ap, subst, ◌∙◌}
use mathlib.Core.Bool.{Bool, true, false, cond, not}
use mathlib.Core.List.{List, [], ◌∷◌, ◌++◌}
use native.Mathlib.Omega.{arith}
use lib.ListN.{length}
use Rattle.std.specs.Prelude.{Result, Ok, Err}
use Rattle.common.specs.Grounds.{Ground, ground, first_ground}
use Rattle.common.specs.declared.refusal.Refusal.{Refusal}
use Rattle.common.specs.declared.refusal.Refusal.TheVariants.{InvalidCalendar}
use Rattle.common.specs.Refused.{refusal_number}
use Rattle.common.proofs.Choice.{on_true, on_false}
use Rattle.common.proofs.Grounds.{ground_passed, ground_before}
use Rattle.command.specs.declared.Command.{Command}
use Rattle.command.specs.Refusals.{grounds}
use Rattle.command.specs.Decode.{command_of, decoded_of}
use Rattle.command.proofs.Answers.{refused_number, refused_nonzero, accepted_command, accepted_none}
use Rattle.panel.specs.declared.Panel.{Panel}
use Rattle.panel.specs.Read.{output_after}
use Rattle.effects.specs.Execute.{writes_no_calendar}
use Rattle.panel.specs.Execute.{executed, served}
use Rattle.image.specs.Image.{decoded, encoded}
use Rattle.validity.specs.Valid.{is_valid, panel_read}
use Rattle.validity.proofs.Laws.{read_valid}
use Rattle.stled325.specs.Outcome.{outcome}
use Rattle.stled325.specs.Command.{command_grounds, command_call}
use Rattle.stled325.proofs.Decided.{accepted_zero, refused, first_passed}

module _ (l s o : List ℕ) (valid : is_valid l ≡ true) where
  abbrev stby : Bool
  stby = (decoded l).core.power.stby

  abbrev table : List Ground
  table = grounds s stby (length o)

  abbrev last : Bool
  last = writes_no_calendar (decoded l).core (command_of s) s

  past_1 : first_ground (table ++ (ground 9 last ∷ [])) ≡ first_ground (command_grounds l s o)
  past_1 = first_passed (not (is_valid l)) 1 (table ++ (ground 9 last ∷ [])) (ap not valid)

  abbrev next_image : List ℕ
  next_image = encoded (executed (decoded l) (command_of s) s)

  abbrev next_output : List ℕ
  next_output = output_after (decoded l).core (command_of s) o

  by_number : (n : ℕ) → (n ≡ 0 → ⊥) → n ≡ first_ground (command_grounds l s o) → outcome n l o ≡ command_call l s o
  by_number n z e = refused (command_grounds l s o) l o next_image next_output n z e

  -- grounds 2 to 8
  pub decode_refused : (r : Refusal) → decoded_of s stby (length o) ≡ Err r → outcome (refusal_number r) l o ≡ command_call l s o
  decode_refused r e =
      by_number (refusal_number r) (refused_nonzero s stby (length o) e)
      (refused_number s stby (length o) e
      ∙ sym (ground_before table (ground 9 last ∷ []) (λ (z : first_ground table ≡ 0). refused_nonzero s stby (length o) e (refused_number s stby (length o) e ∙ z))) ∙ past_1)

  module _ (k : Command) (f : decoded_of s stby (length o) ≡ Ok k) where
    number : first_ground (command_grounds l s o) ≡ cond last 9 0
    number = sym past_1 ∙ ground_passed table (ground 9 last ∷ []) (accepted_none s stby (length o) f)

    -- ground 9
    pub write_refused : last ≡ true → outcome 9 l o ≡ command_call l s o
    write_refused t = by_number 9 (λ (z : ◌≡◌ {A = ℕ} 9 0). omega arith) (on_true 9 0 t ∙ sym number)

    write_accepted : last ≡ false → outcome 0 next_image next_output ≡ command_call l s o
    write_accepted t = accepted_zero (command_grounds l s o) l o next_image next_output (number ∙ sym (on_false 9 0 t))

    -- what was served is the outcome
    abbrev pub Served : Result Panel Refusal → Type 0
    Served (Ok p) = outcome 0 (encoded p) (output_after (decoded l).core k o) ≡ command_call l s o
    Served (Err r) = outcome (refusal_number r) l o ≡ command_call l s o

    served_as : (b : Bool) → last ≡ b → Served (cond b (Err InvalidCalendar) (Ok (executed (decoded l) (command_of s) s)))
    served_as true t = write_refused t
    served_as false t = (λ i. outcome 0 next_image (output_after (decoded l).core (accepted_command s stby (length o) f i) o)) ∙ write_accepted t

    pub command_done : Served (served (decoded l) k s)
    command_done = subst (λ (j : Command). Served (served (decoded l) j s)) (sym (accepted_command s stby (length o) f)) (served_as last refl)

-- ---- the same by the panel p that is read

module _ (l s o : List ℕ) (p : Panel) (read : ◌≡◌ {A = Result Panel Refusal} (Ok p) (panel_read l)) where
  valid_lem : is_valid l ≡ true
  valid_lem = (read_valid l p read).0

  is_panel : p ≡ decoded l
  is_panel = (read_valid l p read).1

  is_decoded : decoded_of s (decoded l).core.power.stby (length o) ≡ decoded_of s p.core.power.stby (length o)
  is_decoded = ap (λ (x : Panel). decoded_of s x.core.power.stby (length o)) (sym is_panel)

  pub call_refused : (r : Refusal) → ◌≡◌ {A = Result Command Refusal} (Err r) (decoded_of s p.core.power.stby (length o)) → outcome (refusal_number r) l o ≡ command_call l s o
  call_refused r e = decode_refused l s o valid_lem r (is_decoded ∙ sym e)

  module _ (k : Command) (ek : ◌≡◌ {A = Result Command Refusal} (Ok k) (decoded_of s p.core.power.stby (length o))) where
    done : (w : Result Panel Refusal) → w ≡ served p k s → Served l s o valid_lem k (is_decoded ∙ sym ek) w
    done w ew =
        subst (Served l s o valid_lem k (is_decoded ∙ sym ek)) (sym (ew ∙ ap (λ (x : Panel). served x k s) is_panel))
        (command_done l s o valid_lem k (is_decoded ∙ sym ek))

    pub serve_refused : (r : Refusal) → ◌≡◌ {A = Result Panel Refusal} (Err r) (served p k s) → outcome (refusal_number r) l o ≡ command_call l s o
    serve_refused r e = done (Err r) e

    pub serve_done : (q : Panel) → ◌≡◌ {A = Result Panel Refusal} (Ok q) (served p k s) → (m n : List ℕ) → m ≡ encoded q → n ≡ output_after p.core k o → outcome 0 m n ≡ command_call l s o
    serve_done q e m n em en = (λ i. outcome 0 (em i) ((en ∙ ap (λ (x : Panel). output_after x.core k o) is_panel) i)) ∙ done (Ok q) e
