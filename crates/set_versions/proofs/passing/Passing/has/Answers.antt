use Rattle.std.proofs.Common.{◌≡◌, ◌∙◌, ◌++◌, ap, arith, length, map, refl, subst, sym, List, []}
use Rattle.std.specs.Option.{option_copied, option_to_list}
use Rattle.std.specs.Prelude.{IfNone}
use Rattle.base_types.specs.Meanings.{fact_of}
use Rattle.base_types.specs.declared.tuples.Tuple.{Tuple}
use Rattle.def_chase.specs.Repository.{has, IsRepository}
use Rattle.def_chase.specs.Values.{Fact, fact_cmp}
use Rattle.set_versions.specs.Passed.{to_pass}
use Rattle.set_versions.proofs.Passed.{above_passed, has_first, has_not, has_passed, none_after_it, rest_in_order}
use Rattle.set_versions.proofs.passing.Passing.has.Goals as goal

pub loop-self-init : goal.loop-self-init
loop-self-init c = record { ready = c.requires.ready; same = refl; above = λ u e. refl }

pub loop-self-smaller : goal.loop-self-smaller
loop-self-smaller c =
    let rest = c.loop-self.self.rest in
    let is = ap (λ o. length (map (λ e. fact_of e.0) (option_to_list (option_copied o) ++ rest))) c.in-Some.is in
    let step = ap (λ es. length (map (λ e. fact_of e.0) es)) c.next-self.ensures.step in
    omega (arith, is, step)

pub loop-self-preserved : goal.loop-self-preserved
loop-self-preserved c =
    let rest = c.loop-self.self.rest in
    let h = fact_of c.in-Some.entry.now.0 in
    let t = fact_of c.args.tuple.now in
    let P = to_pass c.loop-self.self in
    let Q = map (λ e. fact_of e.0) rest in
    let new = map (λ e. fact_of e.0) (option_to_list (option_copied c.next-self.result) ++ c.next-self.new.self) in
    let is = ap (λ o. map (λ e. fact_of e.0) (option_to_list (option_copied o) ++ rest)) c.in-Some.is in
    let step = ap (λ es. map (λ e. fact_of e.0) es) c.next-self.ensures.step in
    let less = ap (λ (k : Tuple). fact_cmp (fact_of k) t) (sym c.get.ensures) ∙ sym c.cmp.ensures ∙ c.in-Less.is in
    let order = rest_in_order P Q h t is c.loop-self.invariant.ready.order in
    record {
      ready = record { order = subst IsRepository step order; end = none_after_it c.next-self.result rest c.next-self.new.self c.next-self.ensures.step c.next-self.ensures.end };
      same = ap (λ (D : List Fact). has D t) (sym step) ∙ sym (has_passed P Q h t is c.loop-self.invariant.ready.order less) ∙ c.loop-self.invariant.same;
      above = λ u e. ap (λ (D : List Fact). has D u) (sym step) ∙ sym (above_passed P Q h t is c.loop-self.invariant.ready.order less u e) ∙ c.loop-self.invariant.above u e;
    }

pub returns-in-Equal-clause-answer : goal.returns-in-Equal-clause-answer
returns-in-Equal-clause-answer c =
    let rest = c.loop-self.self.rest in
    let t = fact_of c.args.tuple.now in
    let is = ap (λ o. map (λ e. fact_of e.0) (option_to_list (option_copied o) ++ rest)) c.in-Some.is in
    let equal = ap (λ (k : Tuple). fact_cmp (fact_of k) t) (sym c.get.ensures) ∙ sym c.cmp.ensures ∙ c.in-Equal.is in
    has_first (to_pass c.loop-self.self) (map (λ e. fact_of e.0) rest) (fact_of c.in-Some.entry.now.0) t is c.loop-self.invariant.ready.order equal ∙ c.loop-self.invariant.same

pub returns-in-Equal-clause-above : goal.returns-in-Equal-clause-above
returns-in-Equal-clause-above c = c.loop-self.invariant.above

pub returns-in-Equal-clause-ready : goal.returns-in-Equal-clause-ready
returns-in-Equal-clause-ready c = c.loop-self.invariant.ready

pub returns-in-Greater-clause-answer : goal.returns-in-Greater-clause-answer
returns-in-Greater-clause-answer c =
    let rest = c.loop-self.self.rest in
    let t = fact_of c.args.tuple.now in
    let is = ap (λ o. map (λ e. fact_of e.0) (option_to_list (option_copied o) ++ rest)) c.in-Some.is in
    let greater = ap (λ (k : Tuple). fact_cmp (fact_of k) t) (sym c.get.ensures) ∙ sym c.cmp.ensures ∙ c.in-Greater.is in
    has_not (to_pass c.loop-self.self) (map (λ e. fact_of e.0) rest) (fact_of c.in-Some.entry.now.0) t is c.loop-self.invariant.ready.order greater ∙ c.loop-self.invariant.same

pub returns-in-Greater-clause-above : goal.returns-in-Greater-clause-above
returns-in-Greater-clause-above c = c.loop-self.invariant.above

pub returns-in-Greater-clause-ready : goal.returns-in-Greater-clause-ready
returns-in-Greater-clause-ready c = c.loop-self.invariant.ready

pub returns-clause-answer : goal.returns-clause-answer
returns-clause-answer c =
    let rest = c.loop-self.self.rest in
    let t = fact_of c.args.tuple.now in
    let end : rest ≡ [] = subst (λ o. IfNone o (rest ≡ [])) c.in_default.is c.loop-self.invariant.ready.end in
    let none = ap (λ o. map (λ e. fact_of e.0) (option_to_list (option_copied o) ++ rest)) c.in_default.is ∙ ap (λ es. map (λ e. fact_of e.0) es) end in
    sym (ap (λ (D : List Fact). has D t) none) ∙ c.loop-self.invariant.same

pub returns-clause-above : goal.returns-clause-above
returns-clause-above c = c.loop-self.invariant.above

pub returns-clause-ready : goal.returns-clause-ready
returns-clause-ready c = c.loop-self.invariant.ready
