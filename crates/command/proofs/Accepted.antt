-- What is known of a command that no ground refuses, code by code. Assumes nothing.
use Prim.Native.Nat.{ℕ, ◌/◌, ◌%◌, ◌≤◌}
use mathlib.Core.Path.{◌≡◌, refl, ap, ◌∙◌}
use mathlib.Core.Bool.{Bool, true, false, not, ◌||◌}
use mathlib.Core.List.{List}
use native.Mathlib.Omega.{arith}
use lib.Dec.{eqb, ltb}
use lib.ListN.{length}
use borrow.Author.Tests.{eqb-true, eqb-false, ltb-false, not-false}
use Rattle.common.specs.Bits.{bit_set}
use Rattle.common.specs.Grounds.{NoneHolds}
use Rattle.common.proofs.Choice.{of_cond, and_left, neither_left, neither_right, not_other}
use Rattle.command.specs.Codes.{WRITE_DIGITS, WRITE_REGISTERS, READ_KEYS, READ_REMOTE, READ_INTERRUPTS, READ_REGISTERS, SET_HOT_KEYS, STANDBY, configures, gives_digits, sets_display}
use Rattle.remote.specs.Frame.{is_protocol}
use Rattle.command.specs.Refusals.{byte, bytes_needed, room_needed, too_short, outside, address_out, protocol_out, digits_out, grounds_by, grounds}
use Rattle.command.specs.Decode.{configuration_bits, command_by, command_of}
use Rattle.command.specs.Holds.{Configuration, Range, Holds}

-- ---- One ground at a time

within : (lo hi x : ℕ) → outside lo hi x ≡ false → Range lo hi x
within lo hi x h =
    record {
      least = ltb-false x lo (neither_left (ltb x lo) (ltb hi x) h);
      most = ltb-false hi x (neither_right (ltb x lo) (ltb hi x) h);
    }

module _ (c n room : ℕ) (h : too_short c n room ≡ false) where
  long_enough : bytes_needed c ≤ n
  long_enough = ltb-false n (bytes_needed c) (neither_left (ltb n (bytes_needed c)) (ltb room (room_needed c)) h)

  room_enough : room_needed c ≤ room
  room_enough = ltb-false room (room_needed c) (neither_right (ltb n (bytes_needed c)) (ltb room (room_needed c)) h)

  three_bytes : (k : ℕ) → c ≡ k → bytes_needed k ≡ 3 → 3 ≤ n
  three_bytes k e f = omega (arith, long_enough, ap bytes_needed e)

  room_for : (k r : ℕ) → c ≡ k → room_needed k ≡ r → r ≤ room
  room_for k r e f = omega (arith, room_enough, ap room_needed e)

digits_range : (a : ℕ) → address_out WRITE_DIGITS a ≡ false → Range 0x10 0x14 a
digits_range a h = let x = outside 0x10 0x14 a in within 0x10 0x14 a (neither_left x false (neither_left (x || false) false h))

registers_range : (a : ℕ) → address_out WRITE_REGISTERS a ≡ false → Range 0x01 0x0F a
registers_range a h = within 0x01 0x0F a (neither_left (outside 0x01 0x0F a) false h)

reading_range : (a : ℕ) → address_out READ_REGISTERS a ≡ false → Range 0x00 0x0F a
reading_range a h = within 0x00 0x0F a h

-- the configuration with b4 clear, and with b4 cleared
module _ (c a : ℕ) (g : configures c ≡ true) (h : protocol_out c a ≡ false) where
  six : c / 64 ≡ 0
  six = eqb-true (c / 64) 0 g

  listed_protocol : is_protocol (a % 128 / 16) ≡ true
  listed_protocol =
      let e : a % 128 / 16 ≡ a / 16 % 8 = omega arith in
      ap is_protocol e ∙ not-false (is_protocol (a / 16 % 8)) (not_other (configures c) (not (is_protocol (a / 16 % 8))) g h)

  plain : gives_digits c ≡ false → Configuration c (a % 128)
  plain f =
      let b4 = eqb-false (c / 16 % 2) 1 (not_other (configures c) (bit_set c 16) g f) in
      record {
        six_bits = omega (arith, six);
        b4_zero = omega (arith, b4);
        seven_bits = omega arith;
        protocol = listed_protocol;
      }

  cleared : Configuration (configuration_bits c) (a % 128)
  cleared = record { six_bits = omega (arith, six); b4_zero = omega (arith, six); seven_bits = omega arith; protocol = listed_protocol }

-- ---- All of them

module _ (s : List ℕ) (standby : Bool) (room : ℕ) (none : NoneHolds (grounds s standby room)) where
  n5 : too_short (byte s 0) (length s) room ≡ false
  unfolding grounds_by
  n5 = none.1.1.1.0

  n6 : address_out (byte s 0) (byte s 1) ≡ false
  unfolding grounds_by
  n6 = none.1.1.1.1.0

  n7 : protocol_out (byte s 0) (byte s 1) ≡ false
  unfolding grounds_by
  n7 = none.1.1.1.1.1.0

  n8 : digits_out (byte s 0) (byte s 2) ≡ false
  unfolding grounds_by
  n8 = none.1.1.1.1.1.1.0

  pub none_awake : standby ≡ false
  unfolding grounds_by
  none_awake = none.1.0

  pub none_holds : Holds s room (command_of s)
  unfolding command_by bytes_needed room_needed
  none_holds =
      let c = byte s 0 in
      let a = byte s 1 in
      let b = byte s 2 in
      let k = Holds s room in
      of_cond k (gives_digits c) _ _ (λ g. (
        cleared c a (and_left (configures c) (bit_set c 16) g) n7,
        within 1 5 b (not_other (gives_digits c) (outside 1 5 b) g n8),
      ))
      (λ f. of_cond k (configures c) _ _ (λ g. plain c a g n7 f)
      (λ _. of_cond k (sets_display c) _ _ (λ _. omega arith)
      (λ _. of_cond k (eqb c WRITE_DIGITS) _ _ (λ e.
      let p = eqb-true c WRITE_DIGITS e in (digits_range a (rw p at n6), three_bytes c (length s) room n5 WRITE_DIGITS p refl))
      (λ _. of_cond k (eqb c WRITE_REGISTERS) _ _ (λ e.
      let p = eqb-true c WRITE_REGISTERS e in (registers_range a (rw p at n6), three_bytes c (length s) room n5 WRITE_REGISTERS p refl))
      (λ _. of_cond k (eqb c READ_KEYS) _ _ (λ e. room_for c (length s) room n5 READ_KEYS 2 (eqb-true c READ_KEYS e) refl)
      (λ _. of_cond k (eqb c READ_REMOTE) _ _ (λ e. room_for c (length s) room n5 READ_REMOTE 3 (eqb-true c READ_REMOTE e) refl)
      (λ _. of_cond k (eqb c READ_INTERRUPTS) _ _ (λ e. room_for c (length s) room n5 READ_INTERRUPTS 2 (eqb-true c READ_INTERRUPTS e) refl)
      (λ _. of_cond k (eqb c READ_REGISTERS) _ _ (λ e. (reading_range a (rw (eqb-true c READ_REGISTERS e) at n6)).most)
      (λ _. of_cond k (eqb c SET_HOT_KEYS) _ _ (λ _. (refl, refl))
      (λ _. of_cond k (eqb c STANDBY) _ _ (λ _. tt) (λ _. tt)))))))))))
