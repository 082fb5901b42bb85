use Rattle.std.proofs.Common.{◌∙◌}
use Rattle.base_roll.proofs.Onwards.{on_ok}
use Rattle.run_journal.proofs.Openings.{told_of_disk}
use Rattle.run_journal.proofs.recovering.recover.Goals as goal

pub returns-clause-told : goal.returns-clause-told
returns-clause-told g c = told_of_disk (g.D.Disk.state c.args.disk.now) (g.D.Disk.state c.load_synced.new.disk) _ (c.deref.ensures.value ∙ c.in_ok-bytes.ensures.bytes) c.read_journal.result c.read_journal.ensures.told

pub returns-clause-lasts : goal.returns-clause-lasts
returns-clause-lasts g c = on_ok c.read_journal.result c.in_ok-bytes.ensures.lasts
