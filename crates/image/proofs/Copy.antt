-- What copies leave in their target. Assumes nothing.
use Prim.Native.Nat.{ℕ}
use native.Mathlib.Omega.{arith}
use native.Mathlib.Nat.{le_of_eq}
use mathlib.Core.Path.{◌≡◌, sym, ◌∙◌}
use mathlib.Core.List.{List, ◌++◌, append-nil}
use lib.ListN.{length, take, drop, replicate, length-take, drop_of_length-le}
use lib.Seq.{take-length, take_all}
use borrow.Rule.Slice.PartMut.{put_mid}
use Rattle.common.specs.Spell.{spell}
use Rattle.common.proofs.Spell.{spell_part, spell_all}
use Rattle.image.specs.Image.{registers_in, laid_out}

module _ (s d e : List ℕ) (p : e ≡ take (length s) s ++ drop (length s) d) where
  -- as many elements as the target has
  pub whole : length d ≡ length s → e ≡ s
  whole h = p ∙ rw (drop_of_length-le d (le_of_eq h), take-length s) (append-nil s)

  -- n elements, spelt out
  front : (n : ℕ) → length s ≡ n → e ≡ spell 0 n s ++ drop n d
  front n h = p ∙ (λ i. (take-length s ∙ sym (spell_all n s h)) i ++ drop (h i) d)

module _ (l : List ℕ) (h : length l ≡ 64) where
  pub sixteen : 16 ≡ length (take 16 l)
  sixteen = simp length-take (omega arith)

  pub loaded : (a : List ℕ) → a ≡ take (length (take 64 l)) (take 64 l) ++ drop (length (take 64 l)) (replicate 64 0) → a ≡ l
  loaded a p =
      let n : 64 ≡ length (take 64 l) = simp length-take (omega arith) in
      whole (take 64 l) (replicate 64 0) a p n ∙ take_all 64 l (le_of_eq h)

  pub registers_copied : (r : List ℕ) → r ≡ take (length (take 16 l)) (take 16 l) ++ drop (length (take 16 l)) (replicate 16 0) → r ≡ registers_in l
  registers_copied r p = whole (take 16 l) (replicate 16 0) r p sixteen ∙ sym (spell_part 0 16 l (omega arith))

-- registers at the start of zeros, then fields behind them
pub laid : (rs fs a b : List ℕ) → length rs ≡ 16 → length fs ≡ 28 → a ≡ take (length rs) rs ++ drop (length rs) (replicate 64 0) → b ≡ take (length fs) fs ++ drop (length fs) (take 48 (drop 16 a)) → take 16 a ++ (b ++ drop 48 (drop 16 a)) ≡ laid_out rs fs
laid rs fs a b hr hf pa pb =
    let ea = front rs (replicate 64 0) a pa 16 hr in
    let eb = front fs (take 48 (drop 16 a)) b pb 28 hf in
    let ec = eb ∙ (λ i. spell 0 28 fs ++ drop 28 (take 48 (drop 16 (ea i)))) in
    λ i. take 16 (ea i) ++ (ec i ++ drop 48 (drop 16 (ea i)))

-- the same of copies that fill what they are lent
pub placed : (rs fs a b : List ℕ) → length rs ≡ 16 → length fs ≡ 28 → a ≡ rs → b ≡ fs → put_mid 16 28 (a ++ replicate 48 0) b ≡ laid_out rs fs
placed rs fs a b hr hf pa pb =
    λ i. put_mid 16 28 ((pa ∙ sym (spell_all 16 rs hr)) i ++ replicate 48 0) ((pb ∙ sym (spell_all 28 fs hf)) i)
