-- The core is that of the session, and no label was dropped.
use Rattle.std.proofs.Common.{◌≡◌, ℕ, List, map, sym, ap, ◌∙◌}
use Rattle.std.proofs.lemmas.List.{length-map}
use Rattle.core_engine.specs.States.{State, opened}
use Rattle.def_language.specs.Names.{Name, firsts, same_name}
use Rattle.def_language.specs.Sessions.{labels}
use Rattle.core_queue.specs.Settings.{settings_of}
use Rattle.lang_session.specs.Meanings.{session_of, update_of}
use Rattle.lang_session.specs.declared.sessions.SessionUpdate.{SessionUpdate}
use Rattle.live_replies.proofs.Labels.{distinct_names}
use Rattle.live_replies.proofs.conversations.Conversation.open.Goals as goal

pub returns-clause-begun : goal.returns-clause-begun
returns-clause-begun c =
    let s = session_of c.args.session.now in
    let core = c.in_ok-core.ensures.opened ∙ ap (opened s c.args.budget (settings_of c.args.settings)) (sym (length-map c.args.session.now.updates.items update_of)) in
    let names = c.in_ok-labels.ensures ∙ (ap (λ (us : List SessionUpdate). firsts same_name (labels (map update_of us))) c.as_slice.ensures.items ∙ distinct_names (labels s.updates) c.requires.valid.labels) in
    λ i. record { session = s; core = core i; labels = names i }
