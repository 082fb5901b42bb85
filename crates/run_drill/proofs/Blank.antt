-- The relations and the mappings of a drilled session are read.
use Rattle.std.proofs.Common.{◌≡◌, ◌∙◌, refl, subst, sym, [], Ok, Err}
use Rattle.def_language.specs.Checks.{add_relation, add_mapping, add_tuple, operation_of, add_update, choice_of, add_answer}
use Rattle.def_language.specs.Forms.{header_at, relation_at, replace_at, operation_at, update_at, choice_at, answer_at, named_at, statement_at}
use Rattle.def_language.specs.Layout.{laid_out}
use Rattle.def_language.specs.Lines.{open_line, line_with, lines_from, read}
use Rattle.def_language.specs.Meaning.{relation_of, fact_of, nulls_within, bounded_fact, pattern_of, mapping_of}
use Rattle.def_language.specs.Parts.{name_at, open_at, colon_at, end_at, whole, item_at, items_at, fact_at, atom_at, left_atom, right_atom, last_fact, left_at, right_at, mapping_at, facts_at}
use Rattle.def_language.specs.Reading.{many, each}
use Rattle.def_language.specs.LineTokens.{tokens_at}
use Rattle.def_language.specs.Numbers.{value_after}
use Rattle.def_language.specs.QuotedTexts.{text_from}
use Rattle.def_language.specs.Tokens.{number_at, minus_at, point_at, null_at, token_at}
use Rattle.std.specs.Fmt.{digits}
use Rattle.run_drill.proofs.Ascii.{ascii_is_text, text_read}
use Rattle.def_language.specs.Faults.{Wrong}
use Rattle.lang_reader.specs.Answers.{IsTold, wrong_of}
use Rattle.lang_reader.specs.declared.faults.ReadFailure.{ReadFailure}
use Rattle.lang_reader.specs.declared.faults.ReadFailure.TheVariants as failure
use Rattle.lang_reader.specs.declared.faults.SessionFault.{SessionFault}
use Rattle.def_language.specs.Sessions.{SessionData}
use Rattle.run_drill.specs.Drilled.{blank_text, with_updates}

pub blank_read : read blank_text ≡ Ok (with_updates [])
unfolding add_relation add_mapping add_tuple operation_of add_update choice_of add_answer header_at relation_at replace_at operation_at update_at choice_at answer_at named_at statement_at laid_out open_line line_with lines_from read relation_of fact_of nulls_within bounded_fact pattern_of mapping_of name_at open_at colon_at end_at whole item_at items_at fact_at atom_at left_atom right_atom last_fact left_at right_at mapping_at facts_at many each tokens_at value_after text_from number_at minus_at point_at null_at token_at digits
blank_read = text_read blank_text (ascii_is_text blank_text refl) ∙ refl

-- What is read there is that, and nothing is wrong with it.
pub blank_is : (s : SessionData) → read blank_text ≡ Ok s → s ≡ with_updates []
blank_is s e = let same : Ok s ≡ Ok (with_updates []) = sym e ∙ blank_read in cc

pub blank_right : (w : Wrong) → read blank_text ≡ Err w → ⊥
blank_right w e = let same : Err w ≡ Ok (with_updates []) = sym e ∙ blank_read in cc

pub blank_told : (f : ReadFailure) (e : SessionFault) → f ≡ failure.Fault e → IsTold blank_text f → ⊥
blank_told f e is told = blank_right (wrong_of e) (subst (IsTold blank_text) is told)
