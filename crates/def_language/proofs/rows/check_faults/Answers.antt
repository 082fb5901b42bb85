use Rattle.std.proofs.Common.{refl}
use Rattle.std.specs.Prelude.{codes}
use Rattle.def_language.specs.Checks.{add_relation, add_mapping, add_tuple, operation_of, add_update, choice_of, add_answer}
use Rattle.def_language.specs.Forms.{header_at, relation_at, replace_at, operation_at, update_at, choice_at, answer_at, named_at, statement_at}
use Rattle.def_language.specs.Layout.{laid_out}
use Rattle.def_language.specs.Lines.{open_line, line_with, lines_from, read}
use Rattle.def_language.specs.Meaning.{relation_of, fact_of, nulls_within, bounded_fact, pattern_of, mapping_of}
use Rattle.def_language.specs.Parts.{name_at, open_at, colon_at, end_at, whole, item_at, items_at, fact_at, atom_at, left_atom, right_atom, last_fact, left_at, right_at, mapping_at, facts_at}
use Rattle.def_language.specs.Reading.{many, each}
use Rattle.def_language.specs.LineTokens.{tokens_at}
use Rattle.def_language.specs.Numbers.{value_after}
use Rattle.def_language.specs.QuotedTexts.{text_from}
use Rattle.def_language.specs.Tokens.{number_at, minus_at, point_at, null_at, token_at}
use Rattle.std.specs.Fmt.{digits}
use Rattle.def_language.proofs.Ascii.{told}
use Rattle.def_language.proofs.rows.check_faults.Goals as goal

pub returns-clause-unknown_relation : goal.returns-clause-unknown_relation
unfolding add_relation add_mapping add_tuple operation_of add_update choice_of add_answer header_at relation_at replace_at operation_at update_at choice_at answer_at named_at statement_at laid_out open_line line_with lines_from read relation_of fact_of nulls_within bounded_fact pattern_of mapping_of name_at open_at colon_at end_at whole item_at items_at fact_at atom_at left_atom right_atom last_fact left_at right_at mapping_at facts_at many each tokens_at value_after text_from number_at minus_at point_at null_at token_at digits
returns-clause-unknown_relation c = told (codes "youtopia 1\nrelation A 1\nupdate a ann insert B(1)\nend\n") (codes "session line 3: fault 1: unknown relation B") refl refl

pub returns-clause-arity : goal.returns-clause-arity
unfolding add_relation add_mapping add_tuple operation_of add_update choice_of add_answer header_at relation_at replace_at operation_at update_at choice_at answer_at named_at statement_at laid_out open_line line_with lines_from read relation_of fact_of nulls_within bounded_fact pattern_of mapping_of name_at open_at colon_at end_at whole item_at items_at fact_at atom_at left_atom right_atom last_fact left_at right_at mapping_at facts_at many each tokens_at value_after text_from number_at minus_at point_at null_at token_at digits
returns-clause-arity c = told (codes "youtopia 1\nrelation A 1\nbase A(1, 2)\nend\n") (codes "session line 3: fault 2: relation A has 1 columns, found 2") refl refl

pub returns-clause-empty_side : goal.returns-clause-empty_side
unfolding add_relation add_mapping add_tuple operation_of add_update choice_of add_answer header_at relation_at replace_at operation_at update_at choice_at answer_at named_at statement_at laid_out open_line line_with lines_from read relation_of fact_of nulls_within bounded_fact pattern_of mapping_of name_at open_at colon_at end_at whole item_at items_at fact_at atom_at left_atom right_atom last_fact left_at right_at mapping_at facts_at many each tokens_at value_after text_from number_at minus_at point_at null_at token_at digits
returns-clause-empty_side c = told (codes "youtopia 1\nrelation A 1\nmapping m: A(x) ->\nend\n") (codes "session line 3: fault 3: empty side") refl refl

pub returns-clause-many_atoms : goal.returns-clause-many_atoms
unfolding add_relation add_mapping add_tuple operation_of add_update choice_of add_answer header_at relation_at replace_at operation_at update_at choice_at answer_at named_at statement_at laid_out open_line line_with lines_from read relation_of fact_of nulls_within bounded_fact pattern_of mapping_of name_at open_at colon_at end_at whole item_at items_at fact_at atom_at left_atom right_atom last_fact left_at right_at mapping_at facts_at many each tokens_at value_after text_from number_at minus_at point_at null_at token_at digits
returns-clause-many_atoms c = told (codes "youtopia 1\nrelation A 1\nmapping m: A(x), A(x), A(x), A(x), A(x), A(x), A(x), A(x), A(x) -> A(y)\nend\n") (codes "session line 3: fault 4: more than 8 atoms on a side") refl refl

pub returns-clause-twice : goal.returns-clause-twice
unfolding add_relation add_mapping add_tuple operation_of add_update choice_of add_answer header_at relation_at replace_at operation_at update_at choice_at answer_at named_at statement_at laid_out open_line line_with lines_from read relation_of fact_of nulls_within bounded_fact pattern_of mapping_of name_at open_at colon_at end_at whole item_at items_at fact_at atom_at left_atom right_atom last_fact left_at right_at mapping_at facts_at many each tokens_at value_after text_from number_at minus_at point_at null_at token_at digits
returns-clause-twice c = told (codes "youtopia 1\nrelation A 1\nrelation A 2\nend\n") (codes "session line 3: fault 5: name A is used twice") refl refl

pub returns-clause-nine_columns : goal.returns-clause-nine_columns
unfolding add_relation add_mapping add_tuple operation_of add_update choice_of add_answer header_at relation_at replace_at operation_at update_at choice_at answer_at named_at statement_at laid_out open_line line_with lines_from read relation_of fact_of nulls_within bounded_fact pattern_of mapping_of name_at open_at colon_at end_at whole item_at items_at fact_at atom_at left_atom right_atom last_fact left_at right_at mapping_at facts_at many each tokens_at value_after text_from number_at minus_at point_at null_at token_at digits
returns-clause-nine_columns c = told (codes "youtopia 1\nrelation A 9\nend\n") (codes "session line 2: fault 24: limit reached: arity") refl refl

pub returns-clause-plain_cycle : goal.returns-clause-plain_cycle
unfolding add_relation add_mapping add_tuple operation_of add_update choice_of add_answer header_at relation_at replace_at operation_at update_at choice_at answer_at named_at statement_at laid_out open_line line_with lines_from read relation_of fact_of nulls_within bounded_fact pattern_of mapping_of name_at open_at colon_at end_at whole item_at items_at fact_at atom_at left_atom right_atom last_fact left_at right_at mapping_at facts_at many each tokens_at value_after text_from number_at minus_at point_at null_at token_at digits
returns-clause-plain_cycle c = told (codes "youtopia 1\nrelation A 1\nrelation B 1\nrelation C 2\nmapping m1: A(x) -> B(x)\nmapping m2: B(x) -> A(x), C(x, z)\nend\n") (codes "session line 6: fault 6: mapping m2 closes a plain cycle") refl refl

pub returns-clause-added_cycle : goal.returns-clause-added_cycle
unfolding add_relation add_mapping add_tuple operation_of add_update choice_of add_answer header_at relation_at replace_at operation_at update_at choice_at answer_at named_at statement_at laid_out open_line line_with lines_from read relation_of fact_of nulls_within bounded_fact pattern_of mapping_of name_at open_at colon_at end_at whole item_at items_at fact_at atom_at left_atom right_atom last_fact left_at right_at mapping_at facts_at many each tokens_at value_after text_from number_at minus_at point_at null_at token_at digits
returns-clause-added_cycle c = told (codes "youtopia 2\nrelation A 1\nrelation B 1\nbase A(1)\nupdate a ann mapping m: A(x) -> B(x)\nupdate b bob insert A(2)\nupdate c cy mapping n: B(x) -> A(x)\nend\n") (codes "session line 7: fault 6: mapping n closes a plain cycle") refl refl

pub returns-clause-null_not_below : goal.returns-clause-null_not_below
unfolding add_relation add_mapping add_tuple operation_of add_update choice_of add_answer header_at relation_at replace_at operation_at update_at choice_at answer_at named_at statement_at laid_out open_line line_with lines_from read relation_of fact_of nulls_within bounded_fact pattern_of mapping_of name_at open_at colon_at end_at whole item_at items_at fact_at atom_at left_atom right_atom last_fact left_at right_at mapping_at facts_at many each tokens_at value_after text_from number_at minus_at point_at null_at token_at digits
returns-clause-null_not_below c = told (codes "youtopia 1\nrelation A 1\nupdate a ann insert A(1)\nupdate b ann insert A(2)\nupdate c ann insert A(?3.1)\nend\n") (codes "session line 5: fault 23: null ?3.1 is not below") refl refl

pub returns-clause-base_null : goal.returns-clause-base_null
unfolding add_relation add_mapping add_tuple operation_of add_update choice_of add_answer header_at relation_at replace_at operation_at update_at choice_at answer_at named_at statement_at laid_out open_line line_with lines_from read relation_of fact_of nulls_within bounded_fact pattern_of mapping_of name_at open_at colon_at end_at whole item_at items_at fact_at atom_at left_atom right_atom last_fact left_at right_at mapping_at facts_at many each tokens_at value_after text_from number_at minus_at point_at null_at token_at digits
returns-clause-base_null c = told (codes "youtopia 1\nrelation A 1\nbase A(?1.1)\nend\n") (codes "session line 3: fault 23: null ?1.1 is not below") refl refl

pub returns-clause-unknown_label : goal.returns-clause-unknown_label
unfolding add_relation add_mapping add_tuple operation_of add_update choice_of add_answer header_at relation_at replace_at operation_at update_at choice_at answer_at named_at statement_at laid_out open_line line_with lines_from read relation_of fact_of nulls_within bounded_fact pattern_of mapping_of name_at open_at colon_at end_at whole item_at items_at fact_at atom_at left_atom right_atom last_fact left_at right_at mapping_at facts_at many each tokens_at value_after text_from number_at minus_at point_at null_at token_at digits
returns-clause-unknown_label c = told (codes "youtopia 1\nrelation A 1\nanswer a expand\nend\n") (codes "session line 3: fault 22: unknown label a") refl refl
