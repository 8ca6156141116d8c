-- `timekeeper::valid` meets its contract. Assumes nothing.
use Rattle.timekeeper.proofs.Values.{no_digits, in_digits}
use borrow.Author.Rules.{rules}
use mathlib.Core.Path.{ap}
use mathlib.Core.Bool.{not}
use Rattle.timekeeper.proofs.valid.Goals as goal

pub returns-then-not-decimal_fields : goal.returns-then-not-decimal_fields
returns-then-not-decimal_fields c = search (rules, no_digits)

pub returns : goal.returns
returns c =
    in_digits _ _ c.decimal_fields.ensures (ap not c.if-not-decimal_fields.false) _ _ _ _ _ _ c.number-date.ensures c.number-month.ensures c.number-year.ensures c.century.ensures c.is_leap-leapyear.ensures c.month_length-last.ensures
