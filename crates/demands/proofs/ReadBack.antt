-- Demand 2: a clock register that is written is read back the same, reserved bits apart, until time, another write to it or a power-up.
-- Assumes nothing.
use Prim.Native.Nat.{ℕ, zero, suc, ◌+◌, ◌-◌, ◌≤◌, ◌<◌}
use mathlib.Core.Path.{◌≡◌, refl, sym, ap, ◌∙◌}
use mathlib.Core.Bool.{false, not, ◌||◌}
use mathlib.Core.Logic.{⊎_elim}
use mathlib.Core.List.{List, [], ◌∷◌, ◌++◌}
use native.Mathlib.Omega.{arith}
use native.Mathlib.Nat.{eq-or-lt_of_le, le_of_suc-le-suc, not-suc-le-zero}
use lib.Dec.{eqb, ltb}
use lib.ListN.{length, get_or, drop, get_or-append}
use lib.Seq.{get_or-drop, get_or-append-add, ext_get_or}
use borrow.Author.Tests.{le-ltb, ne_eqb}
use Rattle.common.specs.Fill.{up_to}
use Rattle.common.proofs.Fill.{up_to_length, get_d_any}
use Rattle.command.specs.Codes.{WRITE_REGISTERS, READ_REGISTERS}
use Rattle.command.specs.Refusals.{bytes_needed, room_needed, grounds_by}
use Rattle.command.specs.Decode.{command_by}
use Rattle.registers.specs.Names.{at}
use Rattle.registers.specs.Written.{kept, written}
use Rattle.registers.proofs.Written.{written_length, written_at}
use Rattle.effects.specs.Write.{registers_written}
use Rattle.output.specs.Output.{FILL, answered}
use Rattle.panel.specs.declared.Panel.{Panel}
use Rattle.image.specs.Image.{registers_in}
use Rattle.demands.specs.Event.{Event, command, Given, after, ValidImage, stby}
use Rattle.demands.specs.Clock.{Step, after_all, AllGiven, Quiet}
use Rattle.demands.proofs.Refusals.{accepted_leaves, grounds_exact}
use Rattle.demands.proofs.Valid.{command_holds, accepted_panel, stays_valid}
use Rattle.demands.proofs.Clock.{all_valid, all_kept}

-- ---- A reply, byte by byte

up_to_at : (f : ℕ → ℕ) (n i : ℕ) → i < n → get_or (up_to f n) i 0 ≡ f i
unfolding up_to
up_to_at f zero i h = absurd (not-suc-le-zero h)
up_to_at f (suc n) i h =
    ⊎_elim (λ (e : i ≡ n). last e) (λ (l : i < n). get_or-append (up_to f n) (f n ∷ []) 0 i (omega (arith, up_to_length f n)) ∙ up_to_at f n i l)
    (eq-or-lt_of_le (le_of_suc-le-suc h))
  where
    last : i ≡ n → get_or (up_to f n ++ (f n ∷ [])) i 0 ≡ f i
    last e =
        let p : i ≡ length (up_to f n) + 0 = omega (arith, up_to_length f n) in
        ap (λ (k : ℕ). get_or (up_to f n ++ (f n ∷ [])) k 0) p ∙ get_or-append-add (up_to f n) (f n ∷ []) 0 0 ∙ ap f (sym e)

answered_at : (reply : List ℕ) (n i : ℕ) → i < n → get_or (answered reply n) i 0 ≡ get_or reply i FILL
unfolding answered
answered_at reply n i h = up_to_at (λ i. get_or reply i FILL) n i h

-- ---- The two commands

-- 50h with its address and data
abbrev pub write : ℕ → List ℕ → Event
write a bytes = command (WRITE_REGISTERS ∷ a ∷ bytes)

-- 70h with its address; surplus bytes are ignored
abbrev pub read : ℕ → List ℕ → Event
read a surplus = command (READ_REGISTERS ∷ a ∷ surplus)

module _ {l : List ℕ} (v : ValidImage l) (a : ℕ) (bytes : List ℕ) (g : Given (write a bytes)) (o : List ℕ) (w : (after (write a bytes) l o).number ≡ 0) where
  write_registers : registers_in (after (write a bytes) l o).image ≡ written (registers_in l) a bytes
  unfolding command_by registers_written
  write_registers = ap (λ (p : Panel). p.core.rtc.registers) (accepted_panel v (write a bytes) g o w)

  write_most : a ≤ 15
  unfolding command_by
  write_most = (command_holds (WRITE_REGISTERS ∷ a ∷ bytes) l o w).0.most

module _ {l : List ℕ} (v : ValidImage l) (low : stby l ≡ false) (a : ℕ) (most : a ≤ 15) (surplus o : List ℕ) where
  -- with STBY low 70h is accepted, whatever the room
  read_accepted : (after (read a surplus) l o).number ≡ 0
  unfolding grounds_by command_by bytes_needed room_needed
  read_accepted =
      (grounds_exact (read a surplus) l o).accepted
      (ap not v.valid, (some, (low, (refl, (short, (far, (refl, (refl, (refl, tt)))))))))
    where
      some : eqb (suc (suc (length surplus))) 0 ≡ false
      some = ne_eqb (suc (suc (length surplus))) 0 (λ e. omega arith)

      short : (ltb (suc (suc (length surplus))) 2 || ltb (length o) 0) ≡ false
      short = λ i. le-ltb (suc (suc (length surplus))) 2 (omega arith) i || le-ltb (length o) 0 (omega arith) i

      far : (ltb a 0 || ltb 15 a) ≡ false
      far = λ i. le-ltb a 0 (omega arith) i || le-ltb 15 a most i

  read_replies : (after (read a surplus) l o).output ≡ answered (drop a (registers_in l)) (length o)
  unfolding command_by
  read_replies = (accepted_leaves (read a surplus) l o read_accepted).1

-- ---- READ BACK: after an accepted 50h, and any events of which none may change register k, with STBY low

module _ {l : List ℕ} (v : ValidImage l) (a : ℕ) (bytes : List ℕ) (g : Given (write a bytes)) (o : List ℕ) (w : (after (write a bytes) l o).number ≡ 0)
    (k : ℕ) (most : k ≤ 15) (xs : List Step) (given : AllGiven xs) (q : Quiet k xs (after (write a bytes) l o).image)
    (low : stby (after_all xs (after (write a bytes) l o).image) ≡ false) where
  abbrev then : List ℕ
  then = after_all xs (after (write a bytes) l o).image

  still_valid : ValidImage then
  still_valid = all_valid xs (stays_valid v (write a bytes) g o) given

  still_written : at (registers_in then) k ≡ at (written (registers_in l) a bytes) k
  still_written = all_kept k xs (stays_valid v (write a bytes) g o) given q ∙ ap (λ (rs : List ℕ). at rs k) (write_registers v a bytes g o w)

  -- 70h from any address up to k replies the register as the write left it
  pub read_back : (b : ℕ) → b ≤ k → (surplus out : List ℕ) → k - b < length out
      → ((after (read b surplus) then out).number ≡ 0) × (get_or (after (read b surplus) then out).output (k - b) 0 ≡ at (written (registers_in l) a bytes) k)
  read_back b under surplus out room =
      let e : b + (k - b) ≡ k = omega arith in
      let rs = registers_in then in
      let far : b ≤ 15 = omega arith in (
        read_accepted still_valid low b far surplus out,
        ap (λ (x : List ℕ). get_or x (k - b) 0) (read_replies still_valid low b far surplus out)
            ∙ answered_at (drop b rs) (length out) (k - b) room
            ∙ get_or-drop b rs (k - b) FILL
            ∙ ap (λ (x : ℕ). get_or rs x FILL) e
            ∙ get_d_any rs k FILL 0 (omega arith)
            ∙ still_written,
      )

  -- and where data byte i went to it, that byte, as the register keeps it
  pub read_back_byte : (b : ℕ) → b ≤ k → (surplus out : List ℕ) → k - b < length out → (i : ℕ) → i < length bytes → a + i ≡ k
      → get_or (after (read b surplus) then out).output (k - b) 0 ≡ kept k (get_or bytes i 0)
  read_back_byte b under surplus out room i hb e =
      (read_back b under surplus out room).1 ∙ ap (at (written (registers_in l) a bytes)) (sym e)
      ∙ written_at (registers_in l) a bytes (omega (arith, write_most v a bytes g o w)) i (omega arith) hb
      ∙ ap (λ (x : ℕ). kept x (get_or bytes i 0)) e

-- ---- READ BACK, THE WHOLE REPLY: if none of the events may change any register

module _ {l : List ℕ} (v : ValidImage l) (a : ℕ) (bytes : List ℕ) (g : Given (write a bytes)) (o : List ℕ) (w : (after (write a bytes) l o).number ≡ 0)
    (xs : List Step) (given : AllGiven xs) (q : (k : ℕ) → k ≤ 15 → Quiet k xs (after (write a bytes) l o).image)
    (low : stby (after_all xs (after (write a bytes) l o).image) ≡ false) where
  abbrev later : List ℕ
  later = after_all xs (after (write a bytes) l o).image

  all_written : registers_in later ≡ written (registers_in l) a bytes
  all_written =
      ext_get_or 0 (registers_in later) (written (registers_in l) a bytes) (sym (written_length (registers_in l) a bytes))
      (λ k b. still_written v a bytes g o w k (omega arith) xs given (q k (omega arith)) low)

  -- 70h from any address replies the registers as the write left them
  pub read_back_all : (b : ℕ) → b ≤ 15 → (surplus out : List ℕ)
      → ((after (read b surplus) later out).number ≡ 0) × ((after (read b surplus) later out).output ≡ answered (drop b (written (registers_in l) a bytes)) (length out))
  read_back_all b most surplus out =
      let still = all_valid xs (stays_valid v (write a bytes) g o) given in
      (read_accepted still low b most surplus out, read_replies still low b most surplus out ∙ ap (λ (rs : List ℕ). answered (drop b rs) (length out)) all_written)
