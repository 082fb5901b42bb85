use Rattle.std.proofs.Common.{◌≡◌, ◌∙◌, ap, sym, subst, false}
use Rattle.base_types.specs.Meanings.{fact_of}
use Rattle.def_language.specs.Lone.{IsTuple}
use Rattle.def_language.specs.Printing.{tuple_text}
use Rattle.lang_reader.specs.Facts.{Says}
use Rattle.lang_session.specs.Meanings.{session_of}
use Rattle.run_journal.proofs.Heads.{no_malformed, no_unknown, that_tuple, some_weaker, none_weaker}
use Rattle.run_journal.proofs.reading.read_printed.Goals as goal

pub returns-in-Malformed-clause-none : goal.returns-in-Malformed-clause-none
returns-in-Malformed-clause-none c = λ t fits e.
    no_malformed c.args.session.now.schema c.args.text.now t (subst (Says c.args.session.now.schema c.args.text.now) c.in-Malformed.is c.in_ok-read_tuple.ensures.says)
    (c.tuples_are_read_again.ensures (session_of c.args.session.now) t c.requires fits) e

pub returns-in-Unknown-clause-none : goal.returns-in-Unknown-clause-none
returns-in-Unknown-clause-none c = λ t fits e.
    no_unknown c.args.session.now.schema c.args.text.now t (subst (Says c.args.session.now.schema c.args.text.now) c.in-Unknown.is c.in_ok-read_tuple.ensures.says)
    (c.tuples_are_read_again.ensures (session_of c.args.session.now) t c.requires fits) e

pub returns-in-Tuple-clause-some : goal.returns-in-Tuple-clause-some
returns-in-Tuple-clause-some c =
    let said = subst (Says c.args.session.now.schema c.args.text.now) c.in-Tuple.is c.in_ok-read_tuple.ensures.says in
    let fits : IsTuple c.args.session.now.schema (fact_of c.in-Tuple.tuple) =
    c.lines_say_tuples.ensures c.args.session.now.schema c.args.text.now said.0 (fact_of c.in-Tuple.tuple) said.1.utf8 said.1.words said.2 in
    some_weaker c.if_printed.result
    (λ t h. (h.1 ∙ ap (tuple_text c.args.session.now.schema false) (sym h.0), subst (IsTuple c.args.session.now.schema) (sym h.0) fits)) c.if_printed.ensures.some

pub returns-in-Tuple-clause-none : goal.returns-in-Tuple-clause-none
returns-in-Tuple-clause-none c =
    let said = subst (Says c.args.session.now.schema c.args.text.now) c.in-Tuple.is c.in_ok-read_tuple.ensures.says in
    none_weaker c.if_printed.result
    (λ (none : c.args.text.now ≡ tuple_text c.args.session.now.schema false (fact_of c.in-Tuple.tuple) → ⊥). λ t fits e.
    let same = that_tuple c.args.session.now.schema c.args.text.now t c.in-Tuple.tuple said (c.tuples_are_read_again.ensures (session_of c.args.session.now) t c.requires fits) e in
    none (e ∙ ap (tuple_text c.args.session.now.schema false) (sym same)))
    c.if_printed.ensures.none
