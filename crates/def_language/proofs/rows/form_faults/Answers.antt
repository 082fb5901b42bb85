use Rattle.std.proofs.Common.{refl}
use Rattle.std.specs.Prelude.{codes}
use Rattle.def_language.specs.Checks.{add_relation, add_mapping, add_tuple, operation_of, add_update, choice_of, add_answer}
use Rattle.def_language.specs.Forms.{header_at, relation_at, replace_at, operation_at, update_at, choice_at, answer_at, named_at, statement_at}
use Rattle.def_language.specs.Layout.{laid_out}
use Rattle.def_language.specs.Lines.{open_line, line_with, lines_from, read}
use Rattle.def_language.specs.Meaning.{relation_of, fact_of, nulls_within, bounded_fact, pattern_of, mapping_of}
use Rattle.def_language.specs.Parts.{name_at, open_at, colon_at, end_at, whole, item_at, items_at, fact_at, atom_at, left_atom, right_atom, last_fact, left_at, right_at, mapping_at, facts_at}
use Rattle.def_language.specs.Reading.{many, each}
use Rattle.def_language.specs.LineTokens.{tokens_at}
use Rattle.def_language.specs.Numbers.{value_after}
use Rattle.def_language.specs.QuotedTexts.{text_from}
use Rattle.def_language.specs.Tokens.{number_at, minus_at, point_at, null_at, token_at}
use Rattle.std.specs.Fmt.{digits}
use Rattle.def_language.proofs.Ascii.{told}
use Rattle.def_language.proofs.rows.form_faults.Goals as goal

pub returns-clause-empty_input : goal.returns-clause-empty_input
unfolding add_relation add_mapping add_tuple operation_of add_update choice_of add_answer header_at relation_at replace_at operation_at update_at choice_at answer_at named_at statement_at laid_out open_line line_with lines_from read relation_of fact_of nulls_within bounded_fact pattern_of mapping_of name_at open_at colon_at end_at whole item_at items_at fact_at atom_at left_atom right_atom last_fact left_at right_at mapping_at facts_at many each tokens_at value_after text_from number_at minus_at point_at null_at token_at digits
returns-clause-empty_input c = told (codes "") (codes "session line 1: fault 20: header is not youtopia 1 or 2") refl refl

pub returns-clause-third_format : goal.returns-clause-third_format
unfolding add_relation add_mapping add_tuple operation_of add_update choice_of add_answer header_at relation_at replace_at operation_at update_at choice_at answer_at named_at statement_at laid_out open_line line_with lines_from read relation_of fact_of nulls_within bounded_fact pattern_of mapping_of name_at open_at colon_at end_at whole item_at items_at fact_at atom_at left_atom right_atom last_fact left_at right_at mapping_at facts_at many each tokens_at value_after text_from number_at minus_at point_at null_at token_at digits
returns-clause-third_format c = told (codes "youtopia 3\nend\n") (codes "session line 1: fault 20: header is not youtopia 1 or 2") refl refl

pub returns-clause-no_number : goal.returns-clause-no_number
unfolding add_relation add_mapping add_tuple operation_of add_update choice_of add_answer header_at relation_at replace_at operation_at update_at choice_at answer_at named_at statement_at laid_out open_line line_with lines_from read relation_of fact_of nulls_within bounded_fact pattern_of mapping_of name_at open_at colon_at end_at whole item_at items_at fact_at atom_at left_atom right_atom last_fact left_at right_at mapping_at facts_at many each tokens_at value_after text_from number_at minus_at point_at null_at token_at digits
returns-clause-no_number c = told (codes "youtopia 1\nrelation A\nend\n") (codes "session line 2: fault 21: expected number") refl refl

pub returns-clause-no_value : goal.returns-clause-no_value
unfolding add_relation add_mapping add_tuple operation_of add_update choice_of add_answer header_at relation_at replace_at operation_at update_at choice_at answer_at named_at statement_at laid_out open_line line_with lines_from read relation_of fact_of nulls_within bounded_fact pattern_of mapping_of name_at open_at colon_at end_at whole item_at items_at fact_at atom_at left_atom right_atom last_fact left_at right_at mapping_at facts_at many each tokens_at value_after text_from number_at minus_at point_at null_at token_at digits
returns-clause-no_value c = told (codes "youtopia 1\nrelation A 1\nbase A(x)\nend\n") (codes "session line 3: fault 21: expected value") refl refl

pub returns-clause-no_close : goal.returns-clause-no_close
unfolding add_relation add_mapping add_tuple operation_of add_update choice_of add_answer header_at relation_at replace_at operation_at update_at choice_at answer_at named_at statement_at laid_out open_line line_with lines_from read relation_of fact_of nulls_within bounded_fact pattern_of mapping_of name_at open_at colon_at end_at whole item_at items_at fact_at atom_at left_atom right_atom last_fact left_at right_at mapping_at facts_at many each tokens_at value_after text_from number_at minus_at point_at null_at token_at digits
returns-clause-no_close c = told (codes "youtopia 1\nrelation A 1\nbase A(1\nend\n") (codes "session line 3: fault 21: expected comma or close") refl refl

pub returns-clause-no_arrow : goal.returns-clause-no_arrow
unfolding add_relation add_mapping add_tuple operation_of add_update choice_of add_answer header_at relation_at replace_at operation_at update_at choice_at answer_at named_at statement_at laid_out open_line line_with lines_from read relation_of fact_of nulls_within bounded_fact pattern_of mapping_of name_at open_at colon_at end_at whole item_at items_at fact_at atom_at left_atom right_atom last_fact left_at right_at mapping_at facts_at many each tokens_at value_after text_from number_at minus_at point_at null_at token_at digits
returns-clause-no_arrow c = told (codes "youtopia 1\nrelation A 1\nmapping m: A(x)\nend\n") (codes "session line 3: fault 21: expected comma or arrow") refl refl

pub returns-clause-no_atom : goal.returns-clause-no_atom
unfolding add_relation add_mapping add_tuple operation_of add_update choice_of add_answer header_at relation_at replace_at operation_at update_at choice_at answer_at named_at statement_at laid_out open_line line_with lines_from read relation_of fact_of nulls_within bounded_fact pattern_of mapping_of name_at open_at colon_at end_at whole item_at items_at fact_at atom_at left_atom right_atom last_fact left_at right_at mapping_at facts_at many each tokens_at value_after text_from number_at minus_at point_at null_at token_at digits
returns-clause-no_atom c = told (codes "youtopia 1\nrelation A 1\nmapping m: A(x) -> 1\nend\n") (codes "session line 3: fault 21: expected name or end") refl refl

pub returns-clause-no_operation : goal.returns-clause-no_operation
unfolding add_relation add_mapping add_tuple operation_of add_update choice_of add_answer header_at relation_at replace_at operation_at update_at choice_at answer_at named_at statement_at laid_out open_line line_with lines_from read relation_of fact_of nulls_within bounded_fact pattern_of mapping_of name_at open_at colon_at end_at whole item_at items_at fact_at atom_at left_atom right_atom last_fact left_at right_at mapping_at facts_at many each tokens_at value_after text_from number_at minus_at point_at null_at token_at digits
returns-clause-no_operation c = told (codes "youtopia 1\nrelation A 1\nupdate a ann mapping m: A(x) -> A(x)\nend\n") (codes "session line 3: fault 21: expected operation") refl refl

pub returns-clause-no_with : goal.returns-clause-no_with
unfolding add_relation add_mapping add_tuple operation_of add_update choice_of add_answer header_at relation_at replace_at operation_at update_at choice_at answer_at named_at statement_at laid_out open_line line_with lines_from read relation_of fact_of nulls_within bounded_fact pattern_of mapping_of name_at open_at colon_at end_at whole item_at items_at fact_at atom_at left_atom right_atom last_fact left_at right_at mapping_at facts_at many each tokens_at value_after text_from number_at minus_at point_at null_at token_at digits
returns-clause-no_with c = told (codes "youtopia 1\nrelation A 1\nupdate a ann replace ?0.1 2\nend\n") (codes "session line 3: fault 21: expected with") refl refl

pub returns-clause-no_comma : goal.returns-clause-no_comma
unfolding add_relation add_mapping add_tuple operation_of add_update choice_of add_answer header_at relation_at replace_at operation_at update_at choice_at answer_at named_at statement_at laid_out open_line line_with lines_from read relation_of fact_of nulls_within bounded_fact pattern_of mapping_of name_at open_at colon_at end_at whole item_at items_at fact_at atom_at left_atom right_atom last_fact left_at right_at mapping_at facts_at many each tokens_at value_after text_from number_at minus_at point_at null_at token_at digits
returns-clause-no_comma c = told (codes "youtopia 1\nrelation A 1\nupdate a ann delete A(1)\nanswer a delete A(1) A(2)\nend\n") (codes "session line 4: fault 21: expected comma or end") refl refl

pub returns-clause-out_of_order : goal.returns-clause-out_of_order
unfolding add_relation add_mapping add_tuple operation_of add_update choice_of add_answer header_at relation_at replace_at operation_at update_at choice_at answer_at named_at statement_at laid_out open_line line_with lines_from read relation_of fact_of nulls_within bounded_fact pattern_of mapping_of name_at open_at colon_at end_at whole item_at items_at fact_at atom_at left_atom right_atom last_fact left_at right_at mapping_at facts_at many each tokens_at value_after text_from number_at minus_at point_at null_at token_at digits
returns-clause-out_of_order c = told (codes "youtopia 1\nrelation A 1\nbase A(1)\nrelation B 1\nend\n") (codes "session line 4: fault 21: expected statement") refl refl

pub returns-clause-no_end : goal.returns-clause-no_end
unfolding add_relation add_mapping add_tuple operation_of add_update choice_of add_answer header_at relation_at replace_at operation_at update_at choice_at answer_at named_at statement_at laid_out open_line line_with lines_from read relation_of fact_of nulls_within bounded_fact pattern_of mapping_of name_at open_at colon_at end_at whole item_at items_at fact_at atom_at left_atom right_atom last_fact left_at right_at mapping_at facts_at many each tokens_at value_after text_from number_at minus_at point_at null_at token_at digits
returns-clause-no_end c = told (codes "youtopia 1\nrelation A 1\n") (codes "session line 3: fault 25: end is missing") refl refl

pub returns-clause-after_end : goal.returns-clause-after_end
unfolding add_relation add_mapping add_tuple operation_of add_update choice_of add_answer header_at relation_at replace_at operation_at update_at choice_at answer_at named_at statement_at laid_out open_line line_with lines_from read relation_of fact_of nulls_within bounded_fact pattern_of mapping_of name_at open_at colon_at end_at whole item_at items_at fact_at atom_at left_atom right_atom last_fact left_at right_at mapping_at facts_at many each tokens_at value_after text_from number_at minus_at point_at null_at token_at digits
returns-clause-after_end c = told (codes "youtopia 1\nend\n\n# x\nend\n") (codes "session line 5: fault 26: something follows end") refl refl
