use Rattle.base_roll.proofs.Turns.{all_kept}
use Rattle.run_journal.specs.Journals.{IsJournal}
use Rattle.run_journal.proofs.laws.crashes_keep_what_is_acknowledged.Goals as goal

pub returns : goal.returns
returns g c = λ s commits start turns k bytes rest h l m i. all_kept (IsJournal s) g.D.Disk.state (c.journals_have_one_reading.ensures.commits s) k bytes start commits turns rest h l m i
