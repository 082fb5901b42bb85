-- What queued updates and queues mean: the updates of a history of the chase.
use Rattle.std.specs.Prelude.{◌≡◌, ℕ, suc, List, [], ◌∷◌, map, None}
use Rattle.base_types.specs.Meanings.{choice_of}
use Rattle.core_conflict.specs.Footprints.{Covers}
use Rattle.def_machine.specs.Updates.{Read, Update}
use Rattle.def_chase.specs.Mappings.{Rule}
use Rattle.chase_query.specs.Meanings.{Read as ReadMeant, reads_in}
use Rattle.def_steps.specs.Chase.{caused_chase}
use Rattle.core_queue.specs.declared.updates.QueuedUpdate.{QueuedUpdate}

module _ (ms : List Rule) (B : ℕ) where
  -- A read, as the log of a history's update has it.
  abbrev pub logged : ReadMeant → Read (caused_chase ms B)
  logged r = record { query = r.query; answer = r.reply; own = r.own }

  -- The update that a queued update stands for.
  abbrev pub update_of : QueuedUpdate → Update (caused_chase ms B)
  update_of r =
      record {
        operation = r.program.attempt.operation;
        attempt = r.program.attempt.attempt;
        state = r.program.attempt;
        log = map logged (reads_in r.log.items);
        withdrawn = r.withdrawn;
        answers = map choice_of r.answers.items;
        inbox = map choice_of r.inbox.items;
      }

  -- The updates that the queued updates of a queue stand for.
  abbrev pub updates_of : List QueuedUpdate → List (Update (caused_chase ms B))
  updates_of rs = map update_of rs

-- The queued update stands for update n, between two steps; its footprint covers its own writes and its reads.
pub record StandsAt (n : ℕ) (r : QueuedUpdate) : Type 0 where
  pub number : r.program.attempt.number ≡ n
  pub between : r.program.reading ≡ None
  pub covers : Covers r.footprint r.program.attempt.own (reads_in r.log.items)

-- The queued updates stand for the updates from number n on.
abbrev pub AreFrom : ℕ → List QueuedUpdate → Type 0
AreFrom n [] = Unit {0}
AreFrom n (r ∷ rs) = StandsAt n r × AreFrom (suc n) rs
