use Rattle.std.proofs.Common.{◌≡◌, ◌∙◌, IfOk, ap, arith, length, sym, subst, List}
use Rattle.std.specs.Option.{option_map}
use Rattle.std.specs.Prelude.{Option}
use Rattle.std.proofs.lemmas.Grind.{common_steps}
use Rattle.std.proofs.lemmas.List.{nil_from_length}
use Rattle.core_conflict.specs.Changes.{Numbered}
use Rattle.core_conflict.specs.declared.concerns.Trail.{Trail}
use Rattle.core_cascade.specs.Reached.{first_invalid, numbered_of}
use Rattle.core_cascade.proofs.Meeting.{none_invalid, same_invalid}
use Rattle.core_cascade.proofs.cascades.Cascade.first_invalid.Goals as goal

pub returns-then-is_empty : goal.returns-then-is_empty
returns-then-is_empty c =
    let ms = c.args.self.now.mappings.now in
    let v = c.args.lost.now.without in
    let r = c.args.reader.now in
    let met = c.in_ok-met.met.items in
    let zero : length met ≡ 0 = grind (arith, common_steps) in
    record {
      first = sym (none_invalid ms v r) ∙ ap (λ (ts : List Trail). first_invalid ms v ts r) (sym (nil_from_length met zero)) ∙ same_invalid ms v r met c.args.lost.now.members.items c.in_ok-met.ensures.alike;
    }

pub returns : goal.returns
returns c =
    let ms = c.args.self.now.mappings.now in
    let v = c.args.lost.now.without in
    let r = c.args.reader.now in
    record {
      first =
          subst (λ (x : Option Numbered). IfOk c.first_met.result (λ found. option_map numbered_of found ≡ x))
          (ap (λ (ts : List Trail). first_invalid ms v ts r) c.deref.ensures.value ∙ same_invalid ms v r c.in_ok-met.met.items c.args.lost.now.members.items c.in_ok-met.ensures.alike)
          c.first_met.ensures.first;
    }
