use Rattle.def_machine.specs.Effects.{Entry}
use Rattle.def_machine.specs.Updates.{Session, Settings}
use Rattle.def_steps.specs.Chase.{caused_chase}
use Rattle.def_history.specs.Cores.{Ground}
use Rattle.def_history.specs.PlainEntries.{PlainEntry}
use Rattle.def_record.proofs.Marking.{mark_law}
use Rattle.def_record.proofs.laws.marks_stand_for_items.Goals as goal

pub returns : goal.returns
returns c = λ ms budget. mark_law Ground PlainEntry (Settings × Session (caused_chase ms budget)) (Entry (caused_chase ms budget))
