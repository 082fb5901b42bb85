use Rattle.std.proofs.Common.{refl}
use Rattle.std.specs.Prelude.{codes}
use Rattle.def_language.specs.Checks.{add_relation, add_mapping, add_tuple, operation_of, add_update, choice_of, add_answer}
use Rattle.def_language.specs.Forms.{header_at, relation_at, replace_at, operation_at, update_at, choice_at, answer_at, named_at, statement_at}
use Rattle.def_language.specs.Layout.{laid_out}
use Rattle.def_language.specs.Lines.{open_line, line_with, lines_from, read}
use Rattle.def_language.specs.Meaning.{relation_of, fact_of, nulls_within, bounded_fact, pattern_of, mapping_of}
use Rattle.def_language.specs.Parts.{name_at, open_at, colon_at, end_at, whole, item_at, items_at, fact_at, atom_at, left_atom, right_atom, last_fact, left_at, right_at, mapping_at, facts_at}
use Rattle.def_language.specs.Reading.{many, each}
use Rattle.def_language.specs.LineTokens.{tokens_at}
use Rattle.def_language.specs.Numbers.{value_after}
use Rattle.def_language.specs.QuotedTexts.{text_from}
use Rattle.def_language.specs.Tokens.{number_at, minus_at, point_at, null_at, token_at}
use Rattle.std.specs.Fmt.{digits}
use Rattle.def_language.proofs.Ascii.{shown}
use Rattle.def_language.proofs.rows.printed_sessions.Goals as goal

pub returns-clause-spacing : goal.returns-clause-spacing
unfolding add_relation add_mapping add_tuple operation_of add_update choice_of add_answer header_at relation_at replace_at operation_at update_at choice_at answer_at named_at statement_at laid_out open_line line_with lines_from read relation_of fact_of nulls_within bounded_fact pattern_of mapping_of name_at open_at colon_at end_at whole item_at items_at fact_at atom_at left_atom right_atom last_fact left_at right_at mapping_at facts_at many each tokens_at value_after text_from number_at minus_at point_at null_at token_at digits
returns-clause-spacing c = shown (codes "youtopia   1  # spacing\nrelation A 1\nbase A( 007 )\nbase A(7)\nend\n") (codes "youtopia 1\nrelation A 1\nbase A(7)\nend\n") refl refl

pub returns-clause-format_check : goal.returns-clause-format_check
unfolding add_relation add_mapping add_tuple operation_of add_update choice_of add_answer header_at relation_at replace_at operation_at update_at choice_at answer_at named_at statement_at laid_out open_line line_with lines_from read relation_of fact_of nulls_within bounded_fact pattern_of mapping_of name_at open_at colon_at end_at whole item_at items_at fact_at atom_at left_atom right_atom last_fact left_at right_at mapping_at facts_at many each tokens_at value_after text_from number_at minus_at point_at null_at token_at digits
returns-clause-format_check c = shown (codes "youtopia 1\nrelation A 01\n\n\trelation B 2\r\nmapping m : A(x)->B(x,\"\\\"\\\\\\n\")  # m\nbase A(?0.01)\nbase A(-0)\nend") (codes "youtopia 1\nrelation A 1\nrelation B 2\nmapping m: A(x) -> B(x, \"\\\"\\\\\\n\")\nbase A(0)\nbase A(?0.1)\nend\n") refl refl

pub returns-clause-answers_follow_updates : goal.returns-clause-answers_follow_updates
unfolding add_relation add_mapping add_tuple operation_of add_update choice_of add_answer header_at relation_at replace_at operation_at update_at choice_at answer_at named_at statement_at laid_out open_line line_with lines_from read relation_of fact_of nulls_within bounded_fact pattern_of mapping_of name_at open_at colon_at end_at whole item_at items_at fact_at atom_at left_atom right_atom last_fact left_at right_at mapping_at facts_at many each tokens_at value_after text_from number_at minus_at point_at null_at token_at digits
returns-clause-answers_follow_updates c = shown (codes "youtopia 1\nrelation A 1\nupdate a ann insert A(1)\nupdate b bob delete A(1)\nanswer b delete A(1),A(2)\nanswer a unify A(?1.1)\nanswer a expand\nend\n") (codes "youtopia 1\nrelation A 1\nupdate a ann insert A(1)\nanswer a unify A(?1.1)\nanswer a expand\nupdate b bob delete A(1)\nanswer b delete A(1), A(2)\nend\n") refl refl

pub returns-clause-added_mapping : goal.returns-clause-added_mapping
unfolding add_relation add_mapping add_tuple operation_of add_update choice_of add_answer header_at relation_at replace_at operation_at update_at choice_at answer_at named_at statement_at laid_out open_line line_with lines_from read relation_of fact_of nulls_within bounded_fact pattern_of mapping_of name_at open_at colon_at end_at whole item_at items_at fact_at atom_at left_atom right_atom last_fact left_at right_at mapping_at facts_at many each tokens_at value_after text_from number_at minus_at point_at null_at token_at digits
returns-clause-added_mapping c = shown (codes "youtopia 2\nrelation A 1\nrelation B 1\nbase A(1)\nupdate a ann mapping m: A(x) -> B(y)\nupdate b bob replace ?1.2 with \"x\"\nend\n") (codes "youtopia 2\nrelation A 1\nrelation B 1\nbase A(1)\nupdate a ann mapping m: A(x) -> B(y)\nupdate b bob replace ?1.2 with \"x\"\nend\n") refl refl
