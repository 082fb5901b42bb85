use Rattle.std.proofs.lemmas.List.{take_rest}
use Rattle.std.proofs.lemmas.List.Splits.{slice_split_none}
use Rattle.def_language.specs.Bytes.{is_line_feed}
use Rattle.lang_reader.proofs.Cut.{nowhere_one, before_one, cut_at}
use Rattle.lang_reader.proofs.split.first_line.Goals as goal

pub returns-in-Some-clause-lines : goal.returns-in-Some-clause-lines
returns-in-Some-clause-lines c =
    rw take_rest (cut_at c.args.text.now c.in-Some.place c.in-Some.ensures.0.high c.in-Some.ensures.1 (before_one c.args.text.now c.in-Some.place c.in-Some.ensures.0.high c.in-Some.ensures.0.before))

pub returns-in-None-clause-one_line : goal.returns-in-None-clause-one_line
returns-in-None-clause-one_line c = nowhere_one c.args.text.now c.in-None.ensures

pub returns-in-None-clause-lines : goal.returns-in-None-clause-lines
returns-in-None-clause-lines c = slice_split_none is_line_feed c.args.text.now (nowhere_one c.args.text.now c.in-None.ensures)
