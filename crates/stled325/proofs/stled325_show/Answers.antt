-- `stled325::stled325_show` meets its contract. Assumes nothing.
use Rattle.stled325.proofs.Calls.{show_written}
use borrow.Author.Rules.{rules}
use Rattle.stled325.proofs.stled325_show.Goals as goal

pub returns : goal.returns
returns c = search (rules, show_written _ _ c.in_ok-panel.ensures.value)
