use Rattle.std.proofs.Common.{◌∙◌, ap, List, [], ◌∷◌, map, sym, length}
use Rattle.std.specs.Prelude.{reverse}
use Rattle.std.proofs.lemmas.List.{map-append}
use Rattle.base_types.specs.Contents.{changes_of}
use Rattle.base_types.specs.Listed.{Listed}
use Rattle.base_types.specs.Meanings.{change_of}
use Rattle.base_types.specs.declared.updates.Write.{Write}
use Rattle.def_chase.specs.Repository.{Change}
use Rattle.def_chase.specs.Values.{Fact}
use Rattle.audit_replay.specs.Levels.{descended, raised}
use Rattle.audit_replay.proofs.Descending.{one_level_more, as_many}
use Rattle.set_facts.proofs.Groups.{held_err}
use Rattle.audit_replay.proofs.levels.Levels.rise.Goals as goal

pub returns : goal.returns
returns c =
    let D = c.self.inside.facts in
    let E = c.make_all.new.facts in
    let made = map change_of c.args.writes.now in
    let under = map changes_of c.self.inside.back.items in
    record {
      raised =
          ap (λ (bs : List (Listed Write)). descended E (reverse (map changes_of bs))) c.in_ok-push.ensures.items
          ∙ (ap (λ (l : List (List Change)). descended E (reverse l)) (map-append changes_of c.self.inside.back.items (c.in_ok-back.back ∷ []))
          ∙ (one_level_more D E made under (changes_of c.in_ok-back.back) c.in_ok-back.ensures.made c.in_ok-back.ensures.back
          ∙ ap (λ (Ds : List (List Fact)). raised Ds made) c.self.view_is));
      err = tt;
    }

pub returns-in_err-back-clause-err : goal.returns-in_err-back-clause-err
returns-in_err-back-clause-err c = held_err c.from_residual.result (as_many c.self.inside.facts c.make_all.new.facts (map changes_of c.self.inside.back.items) ∙ ap length c.self.view_is)

pub returns-in_err-push-clause-err : goal.returns-in_err-push-clause-err
returns-in_err-push-clause-err c =
    held_err c.from_residual-in_err-push.result
    (ap (λ (bs : List (Listed Write)). length (descended c.make_all.new.facts (reverse (map changes_of bs)))) c.in_err-push.ensures.items
    ∙ as_many c.self.inside.facts c.make_all.new.facts (map changes_of c.self.inside.back.items)
    ∙ ap length c.self.view_is)
