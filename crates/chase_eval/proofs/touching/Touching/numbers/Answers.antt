use Rattle.std.proofs.Common.{ap}
use Rattle.base_types.specs.Meanings.{fact_of, change_of}
use Rattle.chase_eval.proofs.Touched.{inserted, deleted}
use Rattle.chase_eval.proofs.touching.Touching.numbers.Goals as goal

pub returns-in-Insert : goal.returns-in-Insert
returns-in-Insert c = record { numbers = inserted c.row_at.result c.args.self.now (change_of c.args.write.now) (fact_of c.in-Insert.tuple) (ap change_of c.in-Insert.is) c.row_at.ensures.row }

pub returns-in-Delete : goal.returns-in-Delete
returns-in-Delete c = record { numbers = deleted c.row_at-in-Delete.result c.args.self.now (change_of c.args.write.now) (fact_of c.in-Delete.tuple) (ap change_of c.in-Delete.is) c.row_at-in-Delete.ensures.row }
