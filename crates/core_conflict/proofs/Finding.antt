-- What stands for a variable, found by a search.
use Rattle.std.proofs.Common.{◌≡◌, ◌∙◌, ap, sym, ℕ, ◌+◌, ◌<◌, List, find, Bor, Option, Some, None}
use Rattle.std.specs.Option.{option_map, option_copied}
use Rattle.base_types.specs.Meanings.{datum_of, slot_of}
use Rattle.base_types.specs.declared.mappings.Term.{Term}
use Rattle.base_types.specs.declared.values.Value.{Value}
use Rattle.def_chase.specs.Mappings.{Slot}
use Rattle.def_chase.specs.Values.{Datum}
use Rattle.core_conflict.specs.Impacts.{is_var, value_in}

abbrev pair_of : Bor Term × Bor Value → Slot × Datum
pair_of p = (slot_of p.0.now, datum_of p.1.now)

pub value_found : (v : ℕ) (ps : List (Slot × Datum)) (r : Option (Bor Term × Bor Value)) → option_map pair_of r ≡ find (λ (p : Slot × Datum). is_var v p.0) ps → (p : Bor Term × Bor Value) → r ≡ Some p → Some (datum_of p.1.now) ≡ value_in v ps
value_found v ps r e p is = ap (λ (o : Option (Slot × Datum)). option_map (λ (q : Slot × Datum). q.1) o) (sym (ap (option_map pair_of) is) ∙ e)

pub value_missing : (v : ℕ) (ps : List (Slot × Datum)) (r : Option (Bor Term × Bor Value)) → option_map pair_of r ≡ find (λ (p : Slot × Datum). is_var v p.0) ps → r ≡ None → None ≡ value_in v ps
value_missing v ps r e is = ap (λ (o : Option (Slot × Datum)). option_map (λ (q : Slot × Datum). q.1) o) (sym (ap (option_map pair_of) is) ∙ e)
