-- `registers::write` meets its contract: past the last register nothing changes, else the lent part comes back stored into. Assumes nothing.
use native.Mathlib.Omega.{arith}
use mathlib.Core.Path.{◌≡◌}
use lib.ListN.{length}
use Rattle.registers.proofs.Written.{written_past, written_lent}
use borrow.Author.Rules.{rules}
use Rattle.registers.proofs.write.Goals as goal

pub returns-else-a-le16 : goal.returns-else-a-le16
returns-else-a-le16 c =
    let n : length c.args.registers ≡ 16 = search rules in
    written_past _ _ _ (omega arith)

pub returns-then-a-le16 : goal.returns-then-a-le16
returns-then-a-le16 c =
    let n : length c.args.registers ≡ 16 = search rules in
    written_lent _ _ _ 16 _ n c.store.ensures
