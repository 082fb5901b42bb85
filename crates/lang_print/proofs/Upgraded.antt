-- A session in format 2 passes the checks that it passes in its own format.
use Rattle.std.proofs.Common.{◌≡◌, ℕ, ◌≤◌, ◌⊎◌, inl, inr, length, refl, arith}
use Rattle.std.specs.Prelude.{◌==◌, if◌then◌else◌}
use Rattle.def_language.specs.Sessions.{SessionData, answer_count}
use Rattle.def_language.specs.Validity.{IsSession}
use Rattle.lang_print.specs.Upgrades.{upgraded}

-- a limit that depends on the format is at most that of format 2
few : (f n a b : ℕ) → (f ≡ 1) ⊎ (f ≡ 2) → a ≤ b → n ≤ (if f == 2 then b else a) → n ≤ b
few f n a b (inl e) le h = let r : n ≤ a = rw e at h in omega arith
few f n a b (inr e) le h = rw e at h

pub valid_upgraded : (s : SessionData) → IsSession s → IsSession (upgraded s)
valid_upgraded s v = record {
  format = inr refl;
  relation_names = v.relation_names;
  relations = v.relations;
  relation_count = few s.format (length s.relations) 64 128 v.format (omega arith) v.relation_count;
  mapping_names = v.mapping_names;
  mappings = v.mappings;
  mapping_count = v.mapping_count;
  added_count = v.added_count;
  added_last = v.added_last;
  added_by_updates = v.added_by_updates;
  added_format = λ e. absurd (omega arith);
  no_cycle = v.no_cycle;
  base_order = v.base_order;
  base = v.base;
  base_count = few s.format (length s.base) 20000 100000 v.format (omega arith) v.base_count;
  labels = v.labels;
  updates = v.updates;
  update_count = v.update_count;
  curator_count = v.curator_count;
  answers = few s.format (answer_count s.updates) 10000 20000 v.format (omega arith) v.answers;
}
