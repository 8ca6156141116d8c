use Prim.Native.Nat.{ℕ, ◌≤◌}
use mathlib.Core.Path.{◌≡◌}
use mathlib.Core.List.{List}
use lib.ListN.{length, take}
use Rattle.series.specs.Series.{image_after_series, numbers, noted}
use Rattle.series.proofs.supply_series.Given as goal

-- the first i returns are made
pub record Gone (l ns a image answers : List ℕ) (i : ℕ) : Type 0 where
  pub most : i ≤ length ns
  pub sized : length image ≡ length l
  pub places : length answers ≡ length a
  pub image_is : image ≡ image_after_series l (take i ns)
  pub answers_are : answers ≡ noted a (numbers l (take i ns))

abbrev pub invariant-loop-i : goal.invariant-loop-i
invariant-loop-i l = Gone l.initial.image l.ns l.initial.answers l.image l.answers l.i
