use Rattle.base_tree.proofs.Places.{none_seen}
use Rattle.base_tree.proofs.few.Few.new.Goals as goal

pub returns : goal.returns
returns g c = record { none = none_seen c.new.result.items c.new.ensures }
