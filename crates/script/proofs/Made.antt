-- What each way out of the functions gives. Assumes nothing.
use Prim.Native.Nat.{ℕ, suc, ◌+◌, ◌-◌, ◌≤◌, ◌<◌}
use native.Mathlib.Omega.{arith}
use mathlib.Core.Path.{◌≡◌, sym, ap, ◌∙◌}
use mathlib.Core.Bool.{◌||◌}
use mathlib.Core.List.{List, []}
use lib.Dec.{eqb}
use lib.ListN.{take}
use borrow.Author.Tests.{lt-ltb, le-ltb, eq-eqb, ne_eqb}
use Rattle.std.specs.Prelude.{Some, None}
use Rattle.common.proofs.Choice.{on_true, on_false, past}
use Rattle.notation.specs.Line.{end_of, number_of}
use Rattle.stled325.specs.Outcome.{Outcome, outcome}
use Rattle.stled325.specs.Calls.{tick_call}
use Rattle.stled325.specs.Command.{command_call}
use Rattle.script.specs.Script.{ticks_made, arguments_in, command_from, command_made, event_made, event_by, event_read, with_output, made}

-- ---- ticks, i of n made
module _ (n i : ℕ) (image : List ℕ) where
  module _ (h : i < n) (r : ℕ) (next : List ℕ) (e : outcome r next [] ≡ tick_call image) where
    one_fewer : suc (n - (i + 1)) ≡ n - i
    one_fewer = omega arith

    pub tick_refused : (r ≡ 0 → ⊥) → outcome r next [] ≡ ticks_made (n - i) image
    unfolding ticks_made
    tick_refused z =
        e ∙ on_false _ _ (ap (λ (x : Outcome). eqb x.number 0) (sym e) ∙ ne_eqb r 0 z)
        ∙ ap (λ (k : ℕ). ticks_made k image) one_fewer

    pub tick_made : r ≡ 0 → ticks_made (n - (i + 1)) next ≡ ticks_made (n - i) image
    unfolding ticks_made
    tick_made z =
        ap (λ (x : Outcome). ticks_made (n - (i + 1)) x.image) e
        ∙ on_true _ _ (ap (λ (x : Outcome). eqb x.number 0) (sym e) ∙ eq-eqb r 0 z)
        ∙ ap (λ (k : ℕ). ticks_made k image) one_fewer

  pub no_tick : ticks_made (n - 0) image ≡ ticks_made n image
  no_tick =
      let e : n - 0 ≡ n = omega arith in
      ap (λ (k : ℕ). ticks_made k image) e

  pub ticks_done : n ≤ i → outcome 0 image [] ≡ ticks_made (n - i) image
  unfolding ticks_made
  ticks_done h =
      let e : 0 ≡ n - i = omega arith in
      ap (λ (k : ℕ). ticks_made k image) e

-- ---- a command that cannot be read
pub command_unread : (line l o : List ℕ) → None ≡ end_of 32 62 line → outcome 99 l o ≡ command_made line l o
unfolding command_made
command_unread line l o e = ap (λ n. command_from n (arguments_in line) l o) e

-- ---- a command, n being where its bytes end
module _ (line : List ℕ) (n : ℕ) (e : Some n ≡ end_of 32 62 line) (bytes : List ℕ) (f : bytes ≡ arguments_in line) (l o : List ℕ) where
  command_by_lem : command_from (Some n) bytes l o ≡ command_made line l o
  unfolding command_made
  command_by_lem = λ i. command_from (e i) (f i) l o

  pub command_long : 24 < n → outcome 99 l o ≡ command_made line l o
  command_long h = on_true _ _ (lt-ltb 24 n h) ∙ command_by_lem

  pub command_sent : n ≤ 24 → {x : Outcome} → x ≡ command_call l (take (n - 0) bytes) o → x ≡ command_made line l o
  command_sent h g =
      let k : n - 0 ≡ n = omega arith in
      past _ _ (le-ltb 24 n h) (g ∙ ap (λ (m : ℕ). command_call l (take m bytes) o) k) ∙ command_by_lem

-- ---- an event whose number cannot be read
pub event_unread : (word : ℕ) (line l : List ℕ) → None ≡ number_of 32 62 (eqb word 116 || eqb word 111) line → outcome 99 l [] ≡ event_read word line l
unfolding event_read
event_unread word line l e = ap (event_by word l) e

-- ---- an event, n being the number of its arguments
module _ (word n : ℕ) (line l : List ℕ) (e : Some n ≡ number_of 32 62 (eqb word 116 || eqb word 111) line) where
  event_by_lem : event_by word l (Some n) ≡ event_read word line l
  unfolding event_read
  event_by_lem = ap (event_by word l) e

  pub event_none : 4_294_967_295 < n → outcome 99 l [] ≡ event_read word line l
  event_none h = on_true _ _ (lt-ltb 4_294_967_295 n h) ∙ event_by_lem

  pub event_done : n ≤ 4_294_967_295 → {x : Outcome} → x ≡ event_made word n l → x ≡ event_read word line l
  event_done h f = past _ _ (le-ltb 4_294_967_295 n h) f ∙ event_by_lem

-- a word that is none of the events
module _ (word n : ℕ) (l : List ℕ) where
  pub no_event : (word ≡ 102 → ⊥) → (word ≡ 107 → ⊥) → (word ≡ 111 → ⊥) → (word ≡ 112 → ⊥) → (word ≡ 114 → ⊥) → (word ≡ 116 → ⊥) → (word ≡ 119 → ⊥)
      → outcome 99 l [] ≡ event_made word n l
  unfolding event_made
  no_event f k o p r t w =
      past _ _ (ne_eqb word 102 f)
      (past _ _ (ne_eqb word 107 k)
      (past _ _ (ne_eqb word 111 o)
      (past _ _ (ne_eqb word 112 p) (past _ _ (ne_eqb word 114 r) (past _ _ (ne_eqb word 116 t) (on_false _ _ (ne_eqb word 119 w)))))))

-- a word that is none of the other calls
module _ (word : ℕ) (a l o : List ℕ) where
  pub an_event : {r : ℕ} {next : List ℕ} → (word ≡ 99 → ⊥) → (word ≡ 108 → ⊥) → (word ≡ 115 → ⊥) → outcome r next [] ≡ event_read word a l
      → outcome r next o ≡ made word a l o
  unfolding made
  an_event c m s e =
      past _ _ (ne_eqb word 99 c) (past _ _ (ne_eqb word 108 m) (past _ _ (ne_eqb word 115 s) (ap (with_output o) e)))
