-- What an output holds after a reply (document 01, "Commands": output beyond a reply is FFh).
use Rattle.std.specs.Prelude.{ℕ, List, get_or}
use Rattle.common.specs.Fill.{up_to}

-- what stands beyond a reply
abbrev pub FILL : ℕ
FILL = 0xFF

-- an output of n bytes: the reply's bytes, as many as fit, then FFh to the end
unfoldable pub answered : List ℕ → ℕ → List ℕ
answered reply n = up_to (λ i. get_or reply i FILL) n
