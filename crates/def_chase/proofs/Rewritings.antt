-- Writes that delete tuples and insert their images keep what is carried; deletions stay deletions.
use Rattle.std.proofs.Common.{◌≡◌, ap, refl, sym, ◌∙◌, List, [], ◌∷◌, ◌++◌, map, Bool, true, false, not, ◌||◌, ◌&&◌}
use Rattle.std.specs.List.{list_all}
use Rattle.std.proofs.lemmas.Bool.{false≢true}
use Rattle.def_chase.specs.Values.{Fact, same_fact, under}
use Rattle.def_chase.specs.Repository.{Change, Insert, Delete, has, apply, inserted_after}
use Rattle.def_chase.specs.Violations.{Direction, Forward, Backward}
use Rattle.def_chase.specs.Caused.{is_delete, Carried, Rewriting, Kept, Keeping}
use Rattle.def_chase.proofs.Sets.{has-apply}
use Rattle.def_chase.proofs.Substitutions.{under_same, under_twice, keeps_none, keeps_twice}

or_around : (s h b : Bool) → (h || (s || b)) ≡ ((s || h) || b)
or_around true true b = refl
or_around true false b = refl
or_around false h b = refl

pub inserted_all : (b : Bool) (us : List Fact) (t : Fact) → inserted_after b (map Insert us) t ≡ (has us t || b)
inserted_all b [] t = refl
inserted_all b (u ∷ us) t = inserted_all (same_fact t u || b) us t ∙ or_around (same_fact t u) (has us t) b

not_either : (i b s h : Bool) → (i || ((b && not s) && not h)) ≡ (i || (b && not (s || h)))
not_either i true true h = refl
not_either i true false h = refl
not_either i false s h = refl

pub written : (b : Bool) (from into : List Fact) (t : Fact) → inserted_after b (map Delete from ++ map Insert into) t ≡ (has into t || (b && not (has from t)))
written b [] into t = inserted_all b into t ∙ ap (λ c. has into t || c) (and_yes b)
  where
    and_yes : (b : Bool) → b ≡ (b && true)
    and_yes true = refl
    and_yes false = refl
written b (s ∷ from) into t = written (b && not (same_fact t s)) from into t ∙ not_either (has into t) b (same_fact t s) (has from t)

pub inserted_join : (b : Bool) (ws vs : List Change) (t : Fact) → inserted_after b (ws ++ vs) t ≡ inserted_after (inserted_after b ws t) vs t
inserted_join b [] vs t = refl
inserted_join b (Insert s ∷ ws) vs t = inserted_join (same_fact t s || b) ws vs t
inserted_join b (Delete s ∷ ws) vs t = inserted_join (b && not (same_fact t s)) ws vs t

split : (i e n f : Bool) → (i || (e && not f)) ≡ true → (i || (n && not f)) ≡ false → (e ≡ true) × (n ≡ false) × (f ≡ false)
split true e n f p q = absurd (false≢true (sym q))
split false false n f p q = absurd (false≢true p)
split false true n true p q = absurd (false≢true p)
split false true true false p q = absurd (false≢true (sym q))
split false true false false p q = (refl, refl, refl)

module _ (D : List Fact) (own ws : List Change) (r : Rewriting (apply D own) ws) where
  there_after : (t : Fact) → has (apply D (own ++ ws)) t ≡ (has r.into t || (has (apply D own) t && not (has r.from t)))
  there_after t =
      has-apply D (own ++ ws) t ∙ inserted_join (has D t) own ws t ∙ ap (λ b. inserted_after b ws t) (sym (has-apply D own t))
      ∙ ap (λ vs. inserted_after (has (apply D own) t) vs t) r.are ∙ written (has (apply D own) t) r.from r.into t

  inserted_too : (t : Fact) → inserted_after false (own ++ ws) t ≡ (has r.into t || (inserted_after false own t && not (has r.from t)))
  inserted_too t =
      inserted_join false own ws t ∙ ap (λ vs. inserted_after (inserted_after false own t) vs t) r.are
      ∙ written (inserted_after false own t) r.from r.into t

  image_there : (s : Fact) → has (apply D own) s ≡ true → (b : Bool) → has r.from s ≡ b → has (apply D (own ++ ws)) (under r.by s) ≡ true
  image_there s h true e = there_after (under r.by s) ∙ ap (λ b. b || (has (apply D own) (under r.by s) && not (has r.from (under r.by s)))) (r.images s e)
  image_there s h false e =
      ap (has (apply D (own ++ ws))) (r.others s h e) ∙ there_after s ∙ (λ i. has r.into s || (h i && not (e i))) ∙ or_yes (has r.into s)
    where
      or_yes : (b : Bool) → (b || true) ≡ true
      or_yes true = refl
      or_yes false = refl

  pub carried_on : Carried D own → Carried D (own ++ ws)
  carried_on c =
      record {
        by = λ x. r.by (c.by x);
        constants = keeps_twice c.by r.by c.constants r.constants;
        carries = λ t h. ap (has (apply D (own ++ ws))) (under_twice c.by r.by t) ∙ image_there (under c.by t) (c.carries t h) (has r.from (under c.by t)) refl;
        leaves = λ t h n.
            let p = split (has r.into t) (has (apply D own) t) (inserted_after false own t) (has r.from t) (sym (there_after t) ∙ h) (sym (inserted_too t) ∙ n) in
            under_twice c.by r.by t ∙ ap (under r.by) (c.leaves t p.0 p.1) ∙ r.others t p.0 p.2;
      }

pub carried_first : (D : List Fact) → Carried D []
carried_first D =
    record {
      by = λ x. x;
      constants = keeps_none;
      carries = λ t h. ap (has D) (under_same t) ∙ h;
      leaves = λ t h n. under_same t;
    }

-- Insertions alone rewrite nothing.
pub inserting : (E ts : List Fact) → Rewriting E (map Insert ts)
inserting E ts =
    record {
      by = λ x. x;
      constants = keeps_none;
      from = [];
      into = ts;
      are = refl;
      images = λ t h. absurd (false≢true h);
      others = λ t h n. under_same t;
    }

deletes_join : (ws vs : List Change) → list_all is_delete ws ≡ true → list_all is_delete vs ≡ true → list_all is_delete (ws ++ vs) ≡ true
deletes_join [] vs e f = f
deletes_join (Insert t ∷ ws) vs e f = absurd (false≢true e)
deletes_join (Delete t ∷ ws) vs e f = deletes_join ws vs e f

pub kept_first : (d : Direction) (D : List Fact) → Kept d D []
kept_first Forward D = carried_first D
kept_first Backward D = refl

pub kept_on : (d : Direction) (D : List Fact) (own ws : List Change) → Kept d D own → Keeping d (apply D own) ws → Kept d D (own ++ ws)
kept_on Forward D own ws k r = carried_on D own ws r k
kept_on Backward D own ws k r = deletes_join own ws k r

pub keeping_none : (d : Direction) (E : List Fact) → Keeping d E []
keeping_none Forward E = inserting E []
keeping_none Backward E = refl
