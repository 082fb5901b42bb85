use Rattle.chase_repair.proofs.Sets.{sorted_more}
use Rattle.chase_repair.proofs.nulls.+sorted.Goals as goal

pub returns-in_ok-insert-in-len1-up : goal.returns-in_ok-insert-in-len1-up
returns-in_ok-insert-in-len1-up t c = record {
  value = sorted_more c.args.nulls.now c.in_ok-set-in-len1-up.set.keys c.insert.new.self.keys _ c.in-len1-up.len_at_least c.in_ok-insert-in-len1-up.ensures.keys c.in_ok-set-in-len1-up.ensures.value;
}
