-- The names so far are the labels of the updates so far, each once.
use Rattle.std.proofs.Common.{◌≡◌, map, take}
use Rattle.def_language.specs.Names.{firsts, same_name}
use Rattle.def_language.specs.Sessions.{labels}
use Rattle.lang_session.specs.Meanings.{update_of}
use Rattle.live_replies.proofs.conversations.labels_of.Given as goal

abbrev pub invariant-loop-update : goal.invariant-loop-update
invariant-loop-update l = l.names.items ≡ firsts same_name (labels (map update_of (take l.update-index l.updates)))
