use Rattle.chase_query.specs.declared.queries.Query.TheVariants.{Occurs}
use Rattle.chase_repair.specs.Stages.{gathering_of}
use Rattle.chase_repair.proofs.Unified.{begun}
use Rattle.chase_repair.proofs.choosing.first_asked.Goals as goal

pub returns : goal.returns
returns c =
    begun c.args.sub c.args.nulls.items c.remove-null.new.self.items c.remove-null.result c.new.result.items (gathering_of record { sub = c.args.sub; query = Occurs c.outer_name.result; later = c.remove-null.new.self; found = c.new.result })
    c.requires c.remove-null.ensures.value c.remove-null.ensures.items c.new.ensures.empty (λ i. gathering_of record { sub = c.args.sub; query = Occurs record { update = c.outer_name.ensures.update i; place = c.outer_name.ensures.place i }; later = c.remove-null.new.self; found = c.new.result })
