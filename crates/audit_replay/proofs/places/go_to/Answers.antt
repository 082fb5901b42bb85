use Rattle.audit_replay.proofs.places.go_to.Goals as goal

pub returns : goal.returns
returns c = record { there = λ D h l s. c.in_ok-rise_to.ensures.there D (c.in_ok-sink_below.ensures.stand D c.args.updates.now (record { many = h; within = l; stand = s })) }
