-- `RowLine` writes its text: a turn writes the next number.
use Rattle.std.proofs.Common.{rules, sym, ap, ◌∙◌, take, get_or, ◌++◌, append_assoc, codes, decimal, flat_map}
use Rattle.std.proofs.lemmas.List.{flat_map_more, take_more}
use Rattle.std.proofs.Output.{has_written_append, has_written_of_eq}
use Rattle.lines.specs.Text.{numbered}
use Rattle.lines.proofs.RowLineDisplay.fmt.Goals as goal

pub loop-number-preserved : goal.loop-number-preserved
loop-number-preserved g c p =
    let name = c.args.self.now.name.now in
    let numbers = c.in-Some.numbers.now in
    let at = c.loop-number.number-index in
    let number = get_or numbers at 0 in
    has_written_of_eq _ _ _ _ _
    (append_assoc (name ++ flat_map numbered (take at numbers)) (codes " ") (decimal number)
    ∙ flat_map_more numbered name (take at numbers) number
    ∙ ap (λ l. name ++ flat_map numbered l) (sym (take_more numbers at 0 (search rules))))
    (has_written_append _ _ _ _ _ _ (has_written_append _ _ _ _ _ c.write_str-in-loop-number.new.self (c.loop-number.invariant p) (search rules)) (search rules))
