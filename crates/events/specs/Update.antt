-- What an event leaves of an image.
use Rattle.std.specs.Prelude.{ℕ, ◌≡◌, true, false, List, Result, Ok, Err}
use Rattle.common.specs.declared.refusal.Refusal.{Refusal}
use Rattle.common.specs.declared.refusal.Refusal.TheVariants.{InvalidImage}
use Rattle.panel.specs.declared.Panel.{Panel}
use Rattle.image.specs.Image.{decoded, encoded}
use Rattle.validity.specs.Valid.{is_valid}

-- from the image l to m: the image of a panel that the event gives for that in l
abbrev pub Applied : (Panel → Panel → Type 0) → List ℕ → List ℕ → Type 0
Applied event l m = (p : Panel) × (event (decoded l) p × (m ≡ encoded p))

-- the same of a valid image, or a refusal that leaves one that is not as it is
abbrev pub Updated : (Panel → Panel → Type 0) → List ℕ → List ℕ → Result Unit Refusal → Type 0
Updated event l m (Ok x) = (is_valid l ≡ true) × Applied event l m
Updated event l m (Err r) = (is_valid l ≡ false) × ((r ≡ InvalidImage) × (m ≡ l))
