use Rattle.std.proofs.Common.{refl}
use Rattle.def_chase.proofs.laws.worked_values.Goals as goal

pub returns : goal.returns
returns c =
    record {
      values = record { below_zero = refl; words_last = refl; by_bytes = refl; nulls_last = refl; place_first = refl; attempts_count = refl; relation_first = refl; outer_form = refl };
      writes = record { in_order = refl; last_counts = refl; not_there = refl; written = refl; rewritten = refl };
      mappings = record { image = refl; least = refl; none = refl; twice = refl; other_nulls = refl; caused_forward = refl; not_caused = refl; caused_backward = refl; extension = refl; no_extension = refl; from_start = refl; not_yet = refl; in_force_now = refl };
      unifiers = record { specific = refl; not_two = refl; constants_stay = refl; to_null = refl; cycle = refl; chain = refl; into_cycle = refl; long_way = refl; others_stay = refl };
      queries = record { present = refl; absent = refl; specifics = refl; occurrences = refl; violation = refl; none_caused = refl; looked_whole = refl; no_mapping = refl; mentions_right = refl; mentions_no_more = refl; mentions_all = refl };
      cursors = record { first = refl; no_first = refl; next = refl; no_next = refl; next_of_absent = refl; scanned = refl; scanned_past = refl; no_column = refl; shifted = refl };
    }
