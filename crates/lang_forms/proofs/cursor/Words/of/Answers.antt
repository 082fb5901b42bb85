use Rattle.lang_forms.specs.Views.{words_of}
use Rattle.lang_forms.proofs.Walked.{all_words}
use Rattle.lang_forms.proofs.cursor.Words.of.Goals as goal

pub returns-clause-all : goal.returns-clause-all
unfolding words_of
returns-clause-all c = all_words c.args.line.now c.in_ok-line_fault.ensures.faultless
