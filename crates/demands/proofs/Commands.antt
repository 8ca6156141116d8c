-- What a command makes of STBY and of the clock registers. Assumes nothing.
use Prim.Native.Nat.{ℕ, ◌+◌, ◌-◌, ◌≤◌, ◌<◌}
use mathlib.Core.Path.{◌≡◌, refl, sym, ap, subst, ◌∙◌}
use mathlib.Core.Bool.{Bool, false, true≢false}
use mathlib.Core.Logic.{◌⊎◌, inl, inr, ⊎_elim}
use mathlib.Core.List.{List}
use native.Mathlib.Omega.{arith}
use lib.Dec.{eqb, leb, ltb}
use lib.ListN.{length}
use borrow.Author.Tests.{eqb-true, ne_eqb, ltb-false, le-leb}
use Rattle.common.proofs.Choice.{of_cond, not_other}
use Rattle.common.proofs.Order.{lt_or_le}
use Rattle.command.specs.Codes.{WRITE_DIGITS, WRITE_REGISTERS, READ_KEYS, READ_REMOTE, READ_INTERRUPTS, READ_REGISTERS, SET_HOT_KEYS, STANDBY, configures, gives_digits, sets_display}
use Rattle.command.specs.Refusals.{byte}
use Rattle.command.specs.Decode.{command_by, command_of}
use Rattle.command.specs.Holds.{Holds}
use Rattle.command.specs.declared.Command.{Command}
use Rattle.command.specs.declared.Command.TheVariants.{Configure, ConfigureDigits, WriteDigits, WriteRegisters, ReadKeys, ReadRemote, ReadInterrupts, ReadRegisters, SetDisplay, SetHotKeys, Standby, ReloadGuard}
use Rattle.registers.specs.Names.{at}
use Rattle.registers.specs.Written.{written}
use Rattle.registers.proofs.Written.{written_below, written_behind}
use Rattle.controller.specs.declared.Core.{Core}
use Rattle.effects.specs.Configure.{configured, guard_reloaded}
use Rattle.effects.specs.Write.{touched, registers_written}
use Rattle.effects.specs.Execute.{data_of}
use Rattle.panel.specs.declared.Panel.{Panel}
use Rattle.panel.specs.Execute.{executed}

-- ---- Which command a first byte names

-- the code of a command that has one of its own; 0 of the others, and of C2h, which is what is left
code : Command → ℕ
code (Configure x b) = 0
code (ConfigureDigits x b n) = 0
code (WriteDigits a) = WRITE_DIGITS
code (WriteRegisters a) = WRITE_REGISTERS
code ReadKeys = READ_KEYS
code ReadRemote = READ_REMOTE
code ReadInterrupts = READ_INTERRUPTS
code (ReadRegisters a) = READ_REGISTERS
code (SetDisplay x) = 0
code (SetHotKeys lo hi) = SET_HOT_KEYS
code Standby = STANDBY
code ReloadGuard = 0

-- the command is C1h
pub is_standby : Command → Bool
is_standby k = eqb (code k) STANDBY

-- the command is 50h
pub is_write : Command → Bool
is_write k = eqb (code k) WRITE_REGISTERS

module _ (c a b : ℕ) where
  code_named : (code (command_by c a b) ≡ 0) ⊎ (code (command_by c a b) ≡ c)
  unfolding command_by code
  code_named =
      let k : Command → Type 0 = λ x. (code x ≡ 0) ⊎ (code x ≡ c) in
      of_cond k (gives_digits c) _ _ (λ _. inl refl)
      (λ _. of_cond k (configures c) _ _ (λ _. inl refl)
      (λ _. of_cond k (sets_display c) _ _ (λ _. inl refl)
      (λ _. of_cond k (eqb c WRITE_DIGITS) _ _ (λ e. inr (sym (eqb-true c WRITE_DIGITS e)))
      (λ _. of_cond k (eqb c WRITE_REGISTERS) _ _ (λ e. inr (sym (eqb-true c WRITE_REGISTERS e)))
      (λ _. of_cond k (eqb c READ_KEYS) _ _ (λ e. inr (sym (eqb-true c READ_KEYS e)))
      (λ _. of_cond k (eqb c READ_REMOTE) _ _ (λ e. inr (sym (eqb-true c READ_REMOTE e)))
      (λ _. of_cond k (eqb c READ_INTERRUPTS) _ _ (λ e. inr (sym (eqb-true c READ_INTERRUPTS e)))
      (λ _. of_cond k (eqb c READ_REGISTERS) _ _ (λ e. inr (sym (eqb-true c READ_REGISTERS e)))
      (λ _. of_cond k (eqb c SET_HOT_KEYS) _ _ (λ e. inr (sym (eqb-true c SET_HOT_KEYS e)))
      (λ _. of_cond k (eqb c STANDBY) _ _ (λ e. inr (sym (eqb-true c STANDBY e))) (λ _. inl refl)))))))))))

  -- a code x of its own is named by the byte x and by no other
  code_byte : (x : ℕ) → (x ≡ 0 → ⊥) → code (command_by x a b) ≡ x → eqb (code (command_by c a b)) x ≡ eqb c x
  code_byte x z own =
      ⊎_elim
      (λ (e : code (command_by c a b) ≡ 0).
      ne_eqb _ x (λ h. z (sym h ∙ e)) ∙ sym (ne_eqb c x (λ h. z (sym own ∙ ap (λ (n : ℕ). code (command_by n a b)) (sym h) ∙ e))))
      (λ (e : code (command_by c a b) ≡ c). ap (λ (n : ℕ). eqb n x) e) code_named

  pub standby_byte : is_standby (command_by c a b) ≡ eqb c STANDBY
  unfolding command_by code is_standby
  standby_byte = code_byte STANDBY (λ e. omega arith) refl

  pub write_byte : is_write (command_by c a b) ≡ eqb c WRITE_REGISTERS
  unfolding command_by code is_write
  write_byte = code_byte WRITE_REGISTERS (λ e. omega arith) refl

-- ---- What each makes of STBY and of the registers

module _ (p : Panel) (s : List ℕ) where
  pub stby_executed : p.core.power.stby ≡ false → (k : Command) → (executed p k s).core.power.stby ≡ is_standby k
  unfolding code is_standby configured guard_reloaded registers_written
  stby_executed low (Configure x b) = low
  stby_executed low (ConfigureDigits x b n) = low
  stby_executed low (WriteDigits a) = low
  stby_executed low (WriteRegisters a) = low
  stby_executed low ReadKeys = low
  stby_executed low ReadRemote = low
  stby_executed low ReadInterrupts = low
  stby_executed low (ReadRegisters a) = low
  stby_executed low (SetDisplay x) = low
  stby_executed low (SetHotKeys lo hi) = low
  stby_executed low Standby = refl
  stby_executed low ReloadGuard = of_cond (λ (c : Core). c.power.stby ≡ false) (eqb p.core.power.guard.0 0) _ _ (λ _. low) (λ _. low)

  pub registers_executed : (k : Command) → is_write k ≡ false → (executed p k s).core.rtc.registers ≡ p.core.rtc.registers
  unfolding code is_write configured guard_reloaded
  registers_executed (Configure x b) n = refl
  registers_executed (ConfigureDigits x b d) n = refl
  registers_executed (WriteDigits a) n = refl
  registers_executed (WriteRegisters a) n = absurd (true≢false n)
  registers_executed ReadKeys n = refl
  registers_executed ReadRemote n = refl
  registers_executed ReadInterrupts n = refl
  registers_executed (ReadRegisters a) n = refl
  registers_executed (SetDisplay x) n = refl
  registers_executed (SetHotKeys lo hi) n = refl
  registers_executed Standby n = refl
  registers_executed ReloadGuard n =
      of_cond (λ (c : Core). c.rtc.registers ≡ p.core.rtc.registers) (eqb p.core.power.guard.0 0) _ _ (λ _. refl) (λ _. refl)

-- ---- 50h leaves the registers that no data byte goes to

-- an address that no data byte goes to keeps its register
pub untouched : (rs : List ℕ) (a : ℕ) (bytes : List ℕ) → a ≤ length rs → (x : ℕ) → touched a (length bytes) x ≡ false → at (written rs a bytes) x ≡ at rs x
untouched rs a bytes h x t =
    ⊎_elim (λ (l : x < a). written_below rs a bytes h x l)
    (λ (l : a ≤ x).
    let most : length bytes ≤ x - a = ltb-false (x - a) (length bytes) (not_other (leb a x) (ltb (x - a) (length bytes)) (le-leb a x l) t) in
    let same : a + (x - a) ≡ x = omega arith in
    ap (at (written rs a bytes)) (sym same) ∙ written_behind rs a bytes h (x - a) most ∙ ap (at rs) same) (lt_or_le x a)

write_named : (c a b : ℕ) → c ≡ WRITE_REGISTERS → command_by c a b ≡ WriteRegisters a
unfolding command_by
write_named c a b e = rw e refl

module _ (p : Panel) (s : List ℕ) (sized : length p.core.rtc.registers ≡ 16) (e : byte s 0 ≡ WRITE_REGISTERS) where
  named : command_of s ≡ WriteRegisters (byte s 1)
  named = write_named (byte s 0) (byte s 1) (byte s 2) e

  pub written_apart : (room : ℕ) → Holds s room (command_of s) → (k : ℕ) → touched (byte s 1) (length (data_of s)) k ≡ false
      → at (executed p (command_of s) s).core.rtc.registers k ≡ at p.core.rtc.registers k
  unfolding registers_written
  written_apart room h k t =
      ap (λ (x : Command). at (executed p x s).core.rtc.registers k) named
      ∙ untouched p.core.rtc.registers (byte s 1) (data_of s) (omega (arith, (subst (Holds s room) named h).0.most)) k t
