-- `validity::is_valid_image` meets its contract. Assumes nothing.
use Rattle.validity.proofs.Tests.{no_calendar, whole}
use borrow.Author.Rules.{rules}
use Rattle.validity.proofs.is_valid_image.Goals as goal

pub returns-then-not-valid : goal.returns-then-not-valid
returns-then-not-valid c = search (rules, no_calendar)

pub returns : goal.returns
returns c = search (rules, whole)
