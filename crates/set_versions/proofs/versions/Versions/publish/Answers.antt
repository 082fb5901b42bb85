use Rattle.std.proofs.Common.{◌≡◌, ap, sym, ◌∙◌, [], map, length, arith}
use Rattle.std.proofs.lemmas.Grind.{common_steps}
use Rattle.std.proofs.lemmas.List.{nil_from_length}
use Rattle.base_types.specs.Meanings.{change_of}
use Rattle.set_versions.specs.Standing.{Kept, known_at}
use Rattle.set_versions.specs.Touches.{published_at}
use Rattle.set_versions.proofs.Standings.{published_stands}
use Rattle.set_versions.proofs.versions.Versions.publish.Goals as goal

pub returns-clause-ok : goal.returns-clause-ok
returns-clause-ok c =
    let ws = map change_of c.args.writes.now in
    published_stands c.args.number ws c.args.self.now c.in_ok-new.new c.in_ok-new.ensures.kept
    (λ t. c.in_ok-new.ensures.known t ∙ ap (λ (v : Kept). published_at c.args.number ws t (known_at v t)) c.in_ok-lend.ensures.same)

pub returns-in-Some-clause-ok : goal.returns-in-Some-clause-ok
returns-in-Some-clause-ok c =
    let ws = map change_of c.args.writes.now in
    published_stands c.args.number ws c.args.self.now c.write.new.self c.in_ok-write.ensures.kept
    (λ t. c.in_ok-write.ensures.known t ∙ ap (λ cs. published_at c.args.number cs t (known_at c.args.self.now t)) (sym c.in-Some.ensures.alone))

pub returns-then-is_empty-clause-ok : goal.returns-then-is_empty-clause-ok
returns-then-is_empty-clause-ok c D before after stood =
    let none : length c.args.writes.now ≡ 0 = grind (arith, common_steps) in
    let nil : map change_of c.args.writes.now ≡ [] = ap (map change_of) (nil_from_length c.args.writes.now none) in
    published_stands c.args.number (map change_of c.args.writes.now) c.args.self.now c.args.self.now stood.kept
    (λ t. ap (λ cs. published_at c.args.number cs t (known_at c.args.self.now t)) (sym nil)) D before after stood
