use Rattle.std.proofs.Common.{sym, ◌∙◌}
use Rattle.dump_reader.proofs.Cutting.{lines_of-at, lines_of-whole, none_before}
use Rattle.dump_reader.proofs.text_lines.first_line.Goals as goal

pub returns-in-Some-clause-cut : goal.returns-in-Some-clause-cut
returns-in-Some-clause-cut c = lines_of-at c.args.bytes.now c.in-Some.at (sym c.newline_in.ensures ∙ c.in-Some.is)

pub returns-in-None-clause-cut : goal.returns-in-None-clause-cut
returns-in-None-clause-cut c =
    let bytes = c.args.bytes.now in
    lines_of-whole bytes c.requires (none_before bytes (sym c.newline_in.ensures ∙ c.in-None.is))
