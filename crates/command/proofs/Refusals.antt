-- The refusal table judged from the top: each ground is reached past those before it. Assumes nothing.
use Prim.Native.Nat.{ℕ}
use mathlib.Core.Path.{◌≡◌, sym, ap, ◌∙◌}
use mathlib.Core.Bool.{Bool, true, false, not, ◌||◌}
use lib.Dec.{eqb}
use borrow.Author.Tests.{eq-eqb, ne_eqb}
use Rattle.common.specs.Grounds.{first_ground}
use Rattle.common.proofs.Choice.{on_true, on_false, past}
use Rattle.command.specs.Codes.{WRITE_DIGITS, WRITE_REGISTERS, READ_REGISTERS, SET_HOT_KEYS, configures, gives_digits, listed}
use Rattle.command.specs.Refusals.{bytes_needed, too_short, address_out, protocol_out, digits_out, grounds_by}

-- ---- 5: the bytes needed, where code has answered g and f to the two groups

module _ (c : ℕ) {g : Bool} (p : g ≡ gives_digits c) where
  pub needs_3 : (g || eqb c WRITE_DIGITS || eqb c WRITE_REGISTERS || eqb c SET_HOT_KEYS) ≡ true → 3 ≡ bytes_needed c
  unfolding bytes_needed
  needs_3 e = on_true _ _ (rw p at e)

  module _ (n3 : (g || eqb c WRITE_DIGITS || eqb c WRITE_REGISTERS || eqb c SET_HOT_KEYS) ≡ false) {f : Bool} (q : f ≡ configures c) where
    pub needs_2 : (f || eqb c READ_REGISTERS) ≡ true → 2 ≡ bytes_needed c
    unfolding bytes_needed
    needs_2 e = past _ _ (rw p at n3) (on_true _ _ (rw q at e))

    pub needs_1 : (f || eqb c READ_REGISTERS) ≡ false → 1 ≡ bytes_needed c
    unfolding bytes_needed
    needs_1 e = past _ _ (rw p at n3) (on_false _ _ (rw q at e))

-- ---- The table

-- the answer t4 .. t8 of code to each ground is what the table says (p4 .. p8), and no (n2 .. n7) or, last, yes
module _ (c a b n : ℕ) (standby : Bool) (room : ℕ) where
  abbrev Number : ℕ → Type 0
  Number k = k ≡ first_ground (grounds_by c a b n standby room)

  pub judged_2 : n ≡ 0 → Number 2
  unfolding grounds_by
  judged_2 e = rw (eq-eqb n 0 e)

  module _ (n2 : n ≡ 0 → ⊥) where
    pub judged_3 : standby ≡ true → Number 3
    unfolding grounds_by
    judged_3 e = rw (ne_eqb n 0 n2, e)

    module _ (n3 : standby ≡ false) {t4 : Bool} (p4 : t4 ≡ listed c) where
      pub judged_4 : not t4 ≡ true → Number 4
      unfolding grounds_by
      judged_4 e = rw (ne_eqb n 0 n2, n3, sym (ap not p4) ∙ e)

      module _ (n4 : not t4 ≡ false) {t5 : Bool} (p5 : t5 ≡ too_short c n room) where
        pub judged_5 : t5 ≡ true → Number 5
        unfolding grounds_by
        judged_5 e = rw (ne_eqb n 0 n2, n3, sym (ap not p4) ∙ n4, sym p5 ∙ e)

        module _ (n5 : t5 ≡ false) {t6 : Bool} (p6 : t6 ≡ address_out c a) where
          pub judged_6 : t6 ≡ true → Number 6
          unfolding grounds_by
          judged_6 e = rw (ne_eqb n 0 n2, n3, sym (ap not p4) ∙ n4, sym p5 ∙ n5, sym p6 ∙ e)

          module _ (n6 : t6 ≡ false) {t7 : Bool} (p7 : t7 ≡ protocol_out c a) where
            pub judged_7 : t7 ≡ true → Number 7
            unfolding grounds_by
            judged_7 e = rw (ne_eqb n 0 n2, n3, sym (ap not p4) ∙ n4, sym p5 ∙ n5, sym p6 ∙ n6, sym p7 ∙ e)

            module _ (n7 : t7 ≡ false) {t8 : Bool} (p8 : t8 ≡ digits_out c b) where
              pub judged_8 : t8 ≡ true → Number 8
              unfolding grounds_by
              judged_8 e = rw (ne_eqb n 0 n2, n3, sym (ap not p4) ∙ n4, sym p5 ∙ n5, sym p6 ∙ n6, sym p7 ∙ n7, sym p8 ∙ e)

              pub judged_none : t8 ≡ false → Number 0
              unfolding grounds_by
              judged_none e = rw (ne_eqb n 0 n2, n3, sym (ap not p4) ∙ n4, sym p5 ∙ n5, sym p6 ∙ n6, sym p7 ∙ n7, sym p8 ∙ e)
