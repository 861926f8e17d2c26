-- `find` meets its contract: the item of that number, if it is a byte.
use mathlib.Core.Path.{sym, ◌∙◌}
use Rattle.typed.proofs.Scanning.{missed, reached}
use Rattle.typed.proofs.scan.find.Goals as goal

pub returns-in_err-nth : goal.returns-in_err-nth
returns-in_err-nth c = c.from_residual.ensures ∙ missed _ _ _ c.nth.new.self _ c.new.ensures c.nth.ensures.ran c.in_err-nth.was

pub returns-in_err-byte : goal.returns-in_err-byte
returns-in_err-byte c =
    c.from_residual-in_err-byte.ensures ∙ reached _ _ _ c.nth.new.self _ c.new.ensures c.nth.ensures.ran _ c.in_ok-nth.was (sym c.in_err-byte.was ∙ c.ok.ensures.value)

pub returns : goal.returns
returns c = reached _ _ _ c.nth.new.self _ c.new.ensures c.nth.ensures.ran _ c.in_ok-nth.was (sym c.in_ok-byte.was ∙ c.ok.ensures.value)
