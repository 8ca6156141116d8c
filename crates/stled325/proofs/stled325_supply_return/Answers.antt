-- `stled325::stled325_supply_return` meets its contract. Assumes nothing.
use Rattle.stled325.proofs.Calls.{return_stored}
use borrow.Author.Rules.{rules}
use Rattle.stled325.proofs.stled325_supply_return.Goals as goal

pub returns : goal.returns
returns c = search (rules, return_stored _ _ c.in_ok-panel.ensures.value)
