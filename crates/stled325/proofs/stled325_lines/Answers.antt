-- `stled325::stled325_lines` meets its contract. Assumes nothing.
use Rattle.stled325.proofs.Calls.{lines_written}
use borrow.Author.Rules.{rules}
use Rattle.stled325.proofs.stled325_lines.Goals as goal

pub returns : goal.returns
returns c = search (rules, lines_written _ _ c.in_ok-panel.ensures.value)
