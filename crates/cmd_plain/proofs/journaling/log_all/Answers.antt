use Rattle.std.proofs.Common.{◌≡◌, ◌∙◌, ◌++◌, ◌∷◌, [], ap, map, sym, subst, length-append, List, arith}
use Rattle.std.specs.Vec.Iter.{into_iter_items}
use Rattle.base_types.specs.Contents.{changes_of}
use Rattle.base_types.specs.Listed.{Listed}
use Rattle.base_types.specs.declared.updates.Write.{Write}
use Rattle.run_journal.specs.Format.{journal_text, logged}
use Rattle.run_laws.specs.Logged.{AreLogged, commits_of}
use Rattle.lang_session.specs.Meanings.{session_of}
use Rattle.cmd_plain.specs.Journaled.{HasJournal, HasOneMore, is_too_long}
use Rattle.cmd_plain.proofs.Journals.{long_with_all, made_more, none_of, one_logged, some_of, taken_front}
use Rattle.cmd_plain.proofs.journaling.log_all.Goals as goal

pub log_commit-requires-clause-writes : goal.log_commit-requires-clause-writes
log_commit-requires-clause-writes c =
    let front = taken_front c.into_iter-writes-iterator.result c.loop-writes.yielded c.loop-writes.writes-iterator c.loop-writes.yielded_by in
    let items : c.args.trails.items ≡ c.loop-writes.yielded ++ c.in-Some.writes ∷ into_iter_items c.next.new.self =
    sym c.into_vec-writes-items.ensures.same ∙ (sym c.into_iter-writes-iterator.ensures.into_iter_gives.0 ∙ (front ∙ ap (λ (rest : List (Listed Write)). c.loop-writes.yielded ++ rest) c.in-Some.ensures.steps.0)) in
    one_logged c.args.session.now.schema c.loop-writes.yielded (into_iter_items c.next.new.self) c.in-Some.writes
    (subst (λ (ts : List (Listed Write)). AreLogged c.args.session.now.schema (commits_of (map changes_of ts))) items c.requires.writes)

pub returns-in_default-clause-fits : goal.returns-in_default-clause-fits
returns-in_default-clause-fits c =
    let front = taken_front c.into_iter-writes-iterator.result c.loop-writes.yielded c.loop-writes.writes-iterator c.loop-writes.yielded_by in
    let items : c.args.trails.items ≡ c.loop-writes.yielded ++ c.in-Some.writes ∷ into_iter_items c.next.new.self =
    sym c.into_vec-writes-items.ensures.same ∙ (sym c.into_iter-writes-iterator.ensures.into_iter_gives.0 ∙ (front ∙ ap (λ (rest : List (Listed Write)). c.loop-writes.yielded ++ rest) c.in-Some.ensures.steps.0)) in
    let long = none_of c.in_ok-next.field-0 c.in_default.is c.in_ok-next.ensures.none (commits_of (map changes_of c.loop-writes.yielded)) c.loop-writes.invariant.made in
    ap (λ (ts : List (Listed Write)). is_too_long (journal_text (session_of c.args.session.now) (commits_of (map changes_of ts)))) items
    ∙ long_with_all (session_of c.args.session.now) c.loop-writes.yielded (into_iter_items c.next.new.self) c.in-Some.writes long

pub loop-writes-preserved : goal.loop-writes-preserved
loop-writes-preserved c =
    let s = session_of c.args.session.now in
    let more = some_of (HasOneMore c.loop-writes.disk c.log_commit.new.disk s (logged (changes_of c.in-Some.writes)) c.loop-writes.gate) c.in_ok-next.field-0 c.in-Some-2.next c.in-Some-2.is c.in_ok-next.ensures.more in
    record {
      made =
          subst (λ commits. HasJournal c.log_commit.new.disk s commits c.in-Some-2.next) (made_more c.loop-writes.yielded c.in-Some.writes)
          (more (commits_of (map changes_of c.loop-writes.yielded)) c.loop-writes.invariant.made);
      number = omega (arith, c.loop-writes.invariant.number, length-append c.loop-writes.yielded (c.in-Some.writes ∷ []));
    }
