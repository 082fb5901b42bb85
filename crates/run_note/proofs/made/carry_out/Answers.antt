use Rattle.std.proofs.Common.{◌≡◌, ◌∙◌, ap, refl, sym, not, List, length, drop, map, filter}
use Rattle.std.specs.Option.{option_map, option_copied}
use Rattle.std.proofs.lemmas.List.{length-map}
use Rattle.def_chase.specs.Values.{Fact}
use Rattle.def_chase.specs.Repository.{apply, has}
use Rattle.base_types.specs.Meanings.{change_of, choice_of, fact_of}
use Rattle.def_provenance.specs.Puts.{inserted, deleted}
use Rattle.run_note.specs.Steps.{seen_in}
use Rattle.run_note.proofs.Writing.{changed_by}
use Rattle.run_note.proofs.made.carry_out.Goals as goal

pub returns-clause-changed : goal.returns-clause-changed
returns-clause-changed c =
    let view = c.args.view.now in
    let P = c.args.program.now.attempt in
    let s = c.make.new.program in
    let there : c.make.new.view ≡ view = c.in_ok-make.ensures.same in
    let kept : c.absent.new.view ≡ view = c.absent.ensures.same ∙ there in
    let count : c.len-seen.result ≡ length P.own = c.len-seen.ensures.length ∙ (sym (length-map c.own.result.now.items change_of) ∙ ap length c.own.ensures.own) in
    let written : map change_of c.latest.result.now ≡ drop (length P.own) s.attempt.own = c.latest.ensures.latest ∙ (λ i. drop (count i) (c.own-2.ensures.own i)) in
    let written_too : map change_of c.latest-2.result.now ≡ drop (length P.own) s.attempt.own = c.latest-2.ensures.latest ∙ (λ i. drop (count i) (c.own-4.ensures.own i)) in
    let before : seen_in c.make.new.view ≡ apply view.below P.own = ap seen_in there ∙ ap (apply view.below) c.requires.seen in
    let after : seen_in c.see_all.new.view ≡ apply view.below s.attempt.own = ap seen_in c.in_ok-see_all.ensures.seen ∙ (λ i. apply (kept i).below (c.own-3.ensures.own i)) in
    changed_by c.args.mappings.now c.args.budget view.below P (option_map choice_of (option_copied c.args.choice)) s
    (drop (length P.own) s.attempt.own) s.attempt.own
    (map fact_of c.in_ok-deleted.deleted.items) (map fact_of c.in_ok-fresh.fresh.items) (map fact_of c.in_ok-puts.puts.items)
    c.in_ok-make.ensures.stepped refl refl
    (c.in_ok-deleted.ensures.deleted ∙ ap deleted written_too)
    (c.in_ok-fresh.ensures.absent ∙ (λ i. filter (λ t. not (has (before i) t)) (inserted (written i))))
    (c.in_ok-puts.ensures.present ∙ ap (λ (E : List Fact). filter (has E) (map fact_of c.in_ok-fresh.fresh.items)) after)
