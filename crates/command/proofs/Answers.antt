-- What each answer to a command says: an acceptance that no ground holds, a refusal the number of the first. Assumes nothing.
use Prim.Native.Nat.{ℕ}
use mathlib.Core.Path.{◌≡◌, refl, sym}
use mathlib.Core.Bool.{Bool, false}
use mathlib.Core.List.{List}
use lib.Dec.{eqb}
use borrow.Author.Tests.{eq-eqb, eqb-true, eqb-false}
use Rattle.std.specs.Prelude.{Result, Ok, Err}
use Rattle.common.specs.Grounds.{first_ground, NoneHolds}
use Rattle.common.specs.declared.refusal.Refusal.{Refusal}
use Rattle.common.specs.Refused.{refusal_number, refusal_numbered, number_of}
use Rattle.common.proofs.Choice.{of_cond, on_true}
use Rattle.common.proofs.Grounds.{ground_none, zero_none}
use Rattle.common.proofs.Refused.{nonzero, Numbered, first_numbered}
use Rattle.command.specs.Refusals.{grounds_by, grounds}
use Rattle.command.specs.Decode.{command_of, decoded_by, decoded_of}
use Rattle.command.specs.Holds.{Holds}
use Rattle.command.specs.declared.Command.{Command}
use Rattle.command.proofs.Accepted.{none_awake, none_holds}

numbered : (s : List ℕ) (standby : Bool) (room : ℕ) → (first_ground (grounds s standby room) ≡ 0 → ⊥) → Numbered (first_ground (grounds s standby room))
unfolding grounds_by
numbered s standby room = first_numbered (grounds s standby room) (refl, (refl, (refl, (refl, (refl, (refl, (refl, tt)))))))

-- what an answer to the command k says of the number n
abbrev Told : ℕ → Command → Result Command Refusal → Type 0
Told n k (Ok j) = (n ≡ 0) × (j ≡ k)
Told n k (Err r) = refusal_number r ≡ n

told : (n : ℕ) (k : Command) → ((n ≡ 0 → ⊥) → Numbered n) → Told n k (decoded_by n k)
told n k h = of_cond (Told n k) (eqb n 0) (Ok k) (Err (refusal_numbered n)) (λ e. (eqb-true n 0 e, refl)) (λ e. h (eqb-false n 0 e))

module _ (s : List ℕ) (standby : Bool) (room : ℕ) where
  says : (d : Result Command Refusal) → decoded_of s standby room ≡ d → Told (first_ground (grounds s standby room)) (command_of s) d
  unfolding decoded_of
  says d e = rw e at (told (first_ground (grounds s standby room)) (command_of s) (numbered s standby room))

  -- ---- The number

  number_by : (d : Result Command Refusal) → decoded_of s standby room ≡ d → number_of d ≡ first_ground (grounds s standby room)
  number_by (Ok k) e = sym (says (Ok k) e).0
  number_by (Err r) e = says (Err r) e

  -- a command's number is that of the first ground that holds, 0 where none does
  pub number_first : number_of (decoded_of s standby room) ≡ first_ground (grounds s standby room)
  number_first = number_by (decoded_of s standby room) refl

  -- ---- Refusals

  module _ {r : Refusal} (e : decoded_of s standby room ≡ Err r) where
    pub refused_number : refusal_number r ≡ first_ground (grounds s standby room)
    refused_number = says (Err r) e

    pub refused_nonzero : refusal_number r ≡ 0 → ⊥
    refused_nonzero = nonzero r

  -- ---- Acceptance

  module _ {k : Command} (e : decoded_of s standby room ≡ Ok k) where
    pub accepted_command : k ≡ command_of s
    accepted_command = (says (Ok k) e).1

    pub accepted_none : NoneHolds (grounds s standby room)
    unfolding grounds_by
    accepted_none = zero_none (grounds s standby room) refl (says (Ok k) e).0

    pub accepted_awake : standby ≡ false
    accepted_awake = none_awake s standby room accepted_none

    pub accepted_holds : Holds s room k
    accepted_holds = rw accepted_command (none_holds s standby room accepted_none)

  pub none_accepted : NoneHolds (grounds s standby room) → decoded_of s standby room ≡ Ok (command_of s)
  unfolding decoded_of
  none_accepted h = sym (on_true _ _ (eq-eqb _ 0 (sym (ground_none (grounds s standby room) h))))
