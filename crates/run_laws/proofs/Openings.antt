-- What a session begins with is a session.
use Rattle.std.specs.Prelude.{filter}
use Rattle.std.proofs.Common.{◌≡◌, ◌≤◌, ap, refl, sym, ◌∙◌, subst, List, [], ◌∷◌, ◌++◌, map, length, Bool, true, false, cond, arith}
use Rattle.std.proofs.lemmas.Bool.{eqb-true}
use Rattle.std.proofs.lemmas.List.{append-nil}
use Rattle.def_language.specs.Sessions.{SessionMapping, SessionData, is_initial, initial_mappings, added_mappings}
use Rattle.def_language.specs.Validity.{sinces, IsSession}
use Rattle.lang_report.specs.Saved.{from_start}
use Rattle.run_laws.proofs.Inherited.{some_of, names_new, some_mappings, some_few, none_added, all_initial, no_new_cycle}
use Rattle.run_laws.specs.Logged.{opening_of}

begun_same : (m : SessionMapping) → is_initial m ≡ true → from_start m ≡ m
begun_same m e = ap (λ n. record m { rule = record m.rule { since = n } }) (sym (eqb-true m.rule.since 0 e))

-- a mapping that no update adds is in force from the start
initial_some : (ms : List SessionMapping) → some_of is_initial ms ≡ initial_mappings ms
initial_some [] = refl
initial_some (m ∷ ms) = by (is_initial m) refl (initial_some ms)
  where
    by : (b : Bool) → is_initial m ≡ b → some_of is_initial ms ≡ initial_mappings ms → map from_start (cond b (m ∷ filter is_initial ms) (filter is_initial ms)) ≡ cond b (m ∷ filter is_initial ms) (filter is_initial ms)
    by true e rest = λ i. begun_same m e i ∷ rest i
    by false e rest = rest

abbrev fewer : List SessionMapping → SessionData → SessionData
fewer ms s = record { format = s.format; relations = s.relations; mappings = ms; base = s.base; updates = [] }

fewer_is : (s : SessionData) → IsSession s → IsSession (fewer (some_of is_initial s.mappings) s)
fewer_is s v =
    record {
      format = v.format;
      relation_names = v.relation_names;
      relations = v.relations;
      relation_count = v.relation_count;
      mapping_names = names_new is_initial s.mappings [] [] (λ n e. e) v.mapping_names;
      mappings = some_mappings s.relations is_initial s.mappings v.mappings;
      mapping_count = (let few : length (some_of is_initial s.mappings) ≤ length s.mappings = some_few is_initial s.mappings in let all : length s.mappings ≤ 64 = v.mapping_count in omega arith);
      added_count = (let none : length (added_mappings (some_of is_initial s.mappings)) ≡ 0 = ap length (none_added (filter is_initial s.mappings)) in omega arith);
      added_last = sym ((λ i. all_initial (filter is_initial s.mappings) i ++ none_added (filter is_initial s.mappings) i) ∙ append-nil (some_of is_initial s.mappings));
      added_by_updates = ap (sinces (length (initial_mappings (some_of is_initial s.mappings)))) (sym (none_added (filter is_initial s.mappings)));
      added_format = λ e. none_added (filter is_initial s.mappings);
      no_cycle = λ c. v.no_cycle (no_new_cycle is_initial s.mappings (length s.relations) c);
      base_order = v.base_order;
      base = v.base;
      base_count = v.base_count;
      labels = tt;
      updates = tt;
      update_count = omega arith;
      curator_count = omega arith;
      answers = omega arith;
    }

pub opening_is : (s : SessionData) → IsSession s → IsSession (opening_of s)
opening_is s v = subst (λ ms. IsSession (fewer ms s)) (initial_some s.mappings) (fewer_is s v)
