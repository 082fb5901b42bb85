use Rattle.youtopia.proofs.Completed.{completes}
use Rattle.youtopia.proofs.Drilled.{drills}
use Rattle.youtopia.proofs.Headlines.{headline, leaves}
use Rattle.youtopia.proofs.Served.{serves}
use Rattle.youtopia.proofs.top.youtopia.Goals as goal

pub returns-clause-headline : goal.returns-clause-headline
returns-clause-headline g c =
    headline c.words_are_answered_or_refused.ensures.never_both c.words_ask_for_one_thing.ensures c.performed_runs_write_their_trace.ensures
    c.runs_have_the_serial_status.ensures _ _ _ _ _ c.answer.ensures.calls

pub returns-clause-drills : goal.returns-clause-drills
returns-clause-drills g c =
    drills c.words_are_answered_or_refused.ensures.never_both c.words_ask_for_one_thing.ensures _ _ _ _ _ c.answer.ensures.calls

pub returns-clause-complete : goal.returns-clause-complete
returns-clause-complete g c =
    completes c.words_are_answered_or_refused.ensures.never_both c.words_ask_for_one_thing.ensures record {
      recovered = c.recovered_inputs_have_one_status.ensures;
      runs = c.runs_have_the_serial_status.ensures;
      audited = c.audited_inputs_have_one_output.ensures;
    } _ _ _ _ _ c.answer.ensures.calls

pub returns-clause-serves : goal.returns-clause-serves
returns-clause-serves g c =
    serves c.words_are_answered_or_refused.ensures.never_both c.words_ask_for_one_thing.ensures record {
      recovered = c.recovered_inputs_have_one_status.ensures;
      runs = c.runs_have_the_serial_status.ensures;
      audited = c.audited_inputs_have_one_output.ensures;
    } _ _ _ _ _ c.answer.ensures.calls

pub returns-clause-holds : goal.returns-clause-holds
returns-clause-holds g c =
    leaves c.words_are_answered_or_refused.ensures.never_both c.words_ask_for_one_thing.ensures c.performed_runs_write_what_holds.ensures
    c.performed_runs_write_their_trace.ensures _ _ _ _ _ c.answer.ensures.calls
