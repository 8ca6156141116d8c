-- `image::load` meets its contract: as many bytes as the image has are all of it. Assumes nothing.
use mathlib.Core.Path.{◌∙◌}
use native.Mathlib.Nat.{le_of_eq}
use lib.Seq.{take_all}
use Rattle.image.proofs.load.Goals as goal

pub returns : goal.returns
returns c = c.copy_from_slice.ensures.after ∙ take_all 64 c.args.image.now (le_of_eq c.requires)
