use Rattle.audit_replay.proofs.stepping.install.Goals as goal

pub returns : goal.returns
returns c = record { made = record { made = c.in_ok-make_step.ensures.made; told = c.step_entry-entry.ensures.told }; numbers = c.in_ok-make_step.ensures.numbers; err = tt }
