use Rattle.std.proofs.Common.{refl}
use Rattle.def_language.specs.Checks.{add_relation, add_mapping, add_tuple, operation_of, add_update, choice_of, add_answer}
use Rattle.def_language.specs.Forms.{header_at, relation_at, replace_at, operation_at, update_at, choice_at, answer_at, named_at, statement_at}
use Rattle.def_language.specs.Layout.{laid_out}
use Rattle.def_language.specs.Lines.{open_line, line_with, lines_from}
use Rattle.def_language.specs.Meaning.{relation_of, fact_of, nulls_within, bounded_fact, pattern_of, mapping_of}
use Rattle.def_language.specs.Parts.{name_at, open_at, colon_at, end_at, whole, item_at, items_at, fact_at, atom_at, left_atom, right_atom, last_fact, left_at, right_at, mapping_at, facts_at}
use Rattle.def_language.specs.Reading.{many, each}
use Rattle.def_language.specs.LineTokens.{tokens_at}
use Rattle.def_language.specs.Numbers.{value_after}
use Rattle.def_language.specs.QuotedTexts.{text_from}
use Rattle.def_language.specs.Tokens.{number_at, minus_at, point_at, null_at, token_at}
use Rattle.std.specs.Fmt.{digits}
use Rattle.lang_report.proofs.rows.worked_results.Goals as goal

pub returns-clause-one_repair : goal.returns-clause-one_repair
unfolding add_relation add_mapping add_tuple operation_of add_update choice_of add_answer header_at relation_at replace_at operation_at update_at choice_at answer_at named_at statement_at laid_out open_line line_with lines_from relation_of fact_of nulls_within bounded_fact pattern_of mapping_of name_at open_at colon_at end_at whole item_at items_at fact_at atom_at left_atom right_atom last_fact left_at right_at mapping_at facts_at many each tokens_at value_after text_from number_at minus_at point_at null_at token_at digits
returns-clause-one_repair c = refl

pub returns-clause-refused_null : goal.returns-clause-refused_null
unfolding add_relation add_mapping add_tuple operation_of add_update choice_of add_answer header_at relation_at replace_at operation_at update_at choice_at answer_at named_at statement_at laid_out open_line line_with lines_from relation_of fact_of nulls_within bounded_fact pattern_of mapping_of name_at open_at colon_at end_at whole item_at items_at fact_at atom_at left_atom right_atom last_fact left_at right_at mapping_at facts_at many each tokens_at value_after text_from number_at minus_at point_at null_at token_at digits
returns-clause-refused_null c = refl

pub returns-clause-stuck_missing : goal.returns-clause-stuck_missing
unfolding add_relation add_mapping add_tuple operation_of add_update choice_of add_answer header_at relation_at replace_at operation_at update_at choice_at answer_at named_at statement_at laid_out open_line line_with lines_from relation_of fact_of nulls_within bounded_fact pattern_of mapping_of name_at open_at colon_at end_at whole item_at items_at fact_at atom_at left_atom right_atom last_fact left_at right_at mapping_at facts_at many each tokens_at value_after text_from number_at minus_at point_at null_at token_at digits
returns-clause-stuck_missing c = refl

pub returns-clause-negative_frontier_misfit : goal.returns-clause-negative_frontier_misfit
unfolding add_relation add_mapping add_tuple operation_of add_update choice_of add_answer header_at relation_at replace_at operation_at update_at choice_at answer_at named_at statement_at laid_out open_line line_with lines_from relation_of fact_of nulls_within bounded_fact pattern_of mapping_of name_at open_at colon_at end_at whole item_at items_at fact_at atom_at left_atom right_atom last_fact left_at right_at mapping_at facts_at many each tokens_at value_after text_from number_at minus_at point_at null_at token_at digits
returns-clause-negative_frontier_misfit c = refl

pub returns-clause-added_mapping : goal.returns-clause-added_mapping
unfolding add_relation add_mapping add_tuple operation_of add_update choice_of add_answer header_at relation_at replace_at operation_at update_at choice_at answer_at named_at statement_at laid_out open_line line_with lines_from relation_of fact_of nulls_within bounded_fact pattern_of mapping_of name_at open_at colon_at end_at whole item_at items_at fact_at atom_at left_atom right_atom last_fact left_at right_at mapping_at facts_at many each tokens_at value_after text_from number_at minus_at point_at null_at token_at digits
returns-clause-added_mapping c = refl

pub returns-clause-added_mapping_spent : goal.returns-clause-added_mapping_spent
unfolding add_relation add_mapping add_tuple operation_of add_update choice_of add_answer header_at relation_at replace_at operation_at update_at choice_at answer_at named_at statement_at laid_out open_line line_with lines_from relation_of fact_of nulls_within bounded_fact pattern_of mapping_of name_at open_at colon_at end_at whole item_at items_at fact_at atom_at left_atom right_atom last_fact left_at right_at mapping_at facts_at many each tokens_at value_after text_from number_at minus_at point_at null_at token_at digits
returns-clause-added_mapping_spent c = refl
