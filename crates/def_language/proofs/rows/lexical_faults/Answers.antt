use Rattle.std.proofs.Common.{refl}
use Rattle.std.specs.Prelude.{codes}
use Rattle.def_language.specs.Checks.{add_relation, add_mapping, add_tuple, operation_of, add_update, choice_of, add_answer}
use Rattle.def_language.specs.Forms.{header_at, relation_at, replace_at, operation_at, update_at, choice_at, answer_at, named_at, statement_at}
use Rattle.def_language.specs.Layout.{laid_out}
use Rattle.def_language.specs.Lines.{open_line, line_with, lines_from, read}
use Rattle.def_language.specs.Meaning.{relation_of, fact_of, nulls_within, bounded_fact, pattern_of, mapping_of}
use Rattle.def_language.specs.Parts.{name_at, open_at, colon_at, end_at, whole, item_at, items_at, fact_at, atom_at, left_atom, right_atom, last_fact, left_at, right_at, mapping_at, facts_at}
use Rattle.def_language.specs.Reading.{many, each}
use Rattle.def_language.specs.LineTokens.{tokens_at}
use Rattle.def_language.specs.Numbers.{value_after}
use Rattle.def_language.specs.QuotedTexts.{text_from}
use Rattle.def_language.specs.Tokens.{number_at, minus_at, point_at, null_at, token_at}
use Rattle.std.specs.Fmt.{digits}
use Rattle.def_language.proofs.Ascii.{told}
use Rattle.def_language.proofs.rows.lexical_faults.Goals as goal

pub returns-clause-bad_byte : goal.returns-clause-bad_byte
unfolding add_relation add_mapping add_tuple operation_of add_update choice_of add_answer header_at relation_at replace_at operation_at update_at choice_at answer_at named_at statement_at laid_out open_line line_with lines_from read relation_of fact_of nulls_within bounded_fact pattern_of mapping_of name_at open_at colon_at end_at whole item_at items_at fact_at atom_at left_atom right_atom last_fact left_at right_at mapping_at facts_at many each tokens_at value_after text_from number_at minus_at point_at null_at token_at digits
returns-clause-bad_byte c = told (codes "youtopia 1\nrelation A 1 $\n") (codes "session line 2: fault 10: bad byte at 24") refl refl

pub returns-clause-long_line : goal.returns-clause-long_line
unfolding add_relation add_mapping add_tuple operation_of add_update choice_of add_answer header_at relation_at replace_at operation_at update_at choice_at answer_at named_at statement_at laid_out open_line line_with lines_from read relation_of fact_of nulls_within bounded_fact pattern_of mapping_of name_at open_at colon_at end_at whole item_at items_at fact_at atom_at left_atom right_atom last_fact left_at right_at mapping_at facts_at many each tokens_at value_after text_from number_at minus_at point_at null_at token_at digits
returns-clause-long_line c = told (codes "youtopia 1\nrelation relation 9223372036854775808 $\nend\n") (codes "session line 2: fault 12: number out of range at 29") refl refl

pub returns-clause-least_number : goal.returns-clause-least_number
unfolding add_relation add_mapping add_tuple operation_of add_update choice_of add_answer header_at relation_at replace_at operation_at update_at choice_at answer_at named_at statement_at laid_out open_line line_with lines_from read relation_of fact_of nulls_within bounded_fact pattern_of mapping_of name_at open_at colon_at end_at whole item_at items_at fact_at atom_at left_atom right_atom last_fact left_at right_at mapping_at facts_at many each tokens_at value_after text_from number_at minus_at point_at null_at token_at digits
returns-clause-least_number c = told (codes "youtopia 1\nrelation A 1\nbase A(-9223372036854775808)\nend\n") (codes "") refl refl

pub returns-clause-wide_null : goal.returns-clause-wide_null
unfolding add_relation add_mapping add_tuple operation_of add_update choice_of add_answer header_at relation_at replace_at operation_at update_at choice_at answer_at named_at statement_at laid_out open_line line_with lines_from read relation_of fact_of nulls_within bounded_fact pattern_of mapping_of name_at open_at colon_at end_at whole item_at items_at fact_at atom_at left_atom right_atom last_fact left_at right_at mapping_at facts_at many each tokens_at value_after text_from number_at minus_at point_at null_at token_at digits
returns-clause-wide_null c = told (codes "youtopia 1\nrelation A 1\nbase A(?0.4294967296)\nend\n") (codes "session line 3: fault 12: number out of range at 31") refl refl

pub returns-clause-open_text : goal.returns-clause-open_text
unfolding add_relation add_mapping add_tuple operation_of add_update choice_of add_answer header_at relation_at replace_at operation_at update_at choice_at answer_at named_at statement_at laid_out open_line line_with lines_from read relation_of fact_of nulls_within bounded_fact pattern_of mapping_of name_at open_at colon_at end_at whole item_at items_at fact_at atom_at left_atom right_atom last_fact left_at right_at mapping_at facts_at many each tokens_at value_after text_from number_at minus_at point_at null_at token_at digits
returns-clause-open_text c = told (codes "youtopia 1\nrelation A 1\nbase A(\"x\\\nend\n") (codes "session line 3: fault 11: text is not closed, opened at 31") refl refl

pub returns-clause-bad_escape : goal.returns-clause-bad_escape
unfolding add_relation add_mapping add_tuple operation_of add_update choice_of add_answer header_at relation_at replace_at operation_at update_at choice_at answer_at named_at statement_at laid_out open_line line_with lines_from read relation_of fact_of nulls_within bounded_fact pattern_of mapping_of name_at open_at colon_at end_at whole item_at items_at fact_at atom_at left_atom right_atom last_fact left_at right_at mapping_at facts_at many each tokens_at value_after text_from number_at minus_at point_at null_at token_at digits
returns-clause-bad_escape c = told (codes "youtopia 1\nrelation A 1\nbase A(\"\\t\")\nend\n") (codes "session line 3: fault 10: bad byte at 33") refl refl

pub returns-clause-after_end : goal.returns-clause-after_end
unfolding add_relation add_mapping add_tuple operation_of add_update choice_of add_answer header_at relation_at replace_at operation_at update_at choice_at answer_at named_at statement_at laid_out open_line line_with lines_from read relation_of fact_of nulls_within bounded_fact pattern_of mapping_of name_at open_at colon_at end_at whole item_at items_at fact_at atom_at left_atom right_atom last_fact left_at right_at mapping_at facts_at many each tokens_at value_after text_from number_at minus_at point_at null_at token_at digits
returns-clause-after_end c = told (codes "youtopia 1\nend\nend $\n") (codes "session line 3: fault 10: bad byte at 19") refl refl
