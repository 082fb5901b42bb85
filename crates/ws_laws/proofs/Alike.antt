-- What lines do depends on what stands and on the table of each update alone.
use Rattle.std.proofs.Common.{◌≡◌, ◌∙◌, ap, sym, refl, subst, true, false, Bool, ◌==◌, Option, Some, None, List, [], ◌∷◌, ◌++◌, cond}
use Rattle.std.specs.Prelude.{take}
use Rattle.def_chase.specs.Violations.{Scope}
use Rattle.def_chase.specs.Updates.{Operation}
use Rattle.def_workspace.specs.Lines.{Update, Given, Declared, Line, Says, Answers, Goes, Undoes, Redoes, Forgets, Declares}
use Rattle.def_workspace.specs.Worlds.{World, Waiting, Ran, places_of, taken_of, asks_it, run_update, settled, waiting_at}
use Rattle.def_workspace.specs.States.{Table, Live, after_run, run_in, retried, answered_by, answered_at, gone_at, done_by, done_by_all}
use Rattle.ws_laws.proofs.Growing.{put_table}
use Rattle.ws_laws.proofs.Replaying.{SameTables}

-- The same stands, and each update has the same table.
pub record Twins (l k : Live) : Type 0 where
  pub world : l.world ≡ k.world
  pub tables : SameTables l.tables k.tables

module _ (scope : Operation → Scope) (ds : List Declared) where
  module _ (w : World) (T U : List Table) (same : SameTables T U) where
    abbrev left : Live
    left = record { world = w; tables = T }

    abbrev right : Live
    right = record { world = w; tables = U }

    themselves : Twins left right
    themselves = record { world = refl; tables = same }

    same_run : (u : Update) (gs : List Given) → run_in scope ds left u gs ≡ run_in scope ds right u gs
    same_run u gs = ap (λ ps. run_update scope ds w ps u gs) (same u.number)

    ran : (u : Update) (gs : List Given) → Twins (after_run left u gs (run_in scope ds left u gs)) (after_run right u gs (run_in scope ds right u gs))
    ran u gs =
        record {
          world = ap (settled w u gs) (same_run u gs);
          tables = λ m. put_table T u.number (places_of (run_in scope ds left u gs)) m
              ∙ ((λ i. cond (u.number == m) (places_of (same_run u gs i)) (same m i))
              ∙ sym (put_table U u.number (places_of (run_in scope ds right u gs)) m));
        }

    by_answer : (v : Waiting) (g : Given)
        → Twins (answered_by scope ds left v g (run_in scope ds left v.update v.answers)) (answered_by scope ds right v g (run_in scope ds right v.update v.answers))
    by_answer v g =
        subst (λ r. Twins (answered_by scope ds left v g (run_in scope ds left v.update v.answers)) (answered_by scope ds right v g r)) (same_run v.update v.answers)
        (by (run_in scope ds left v.update v.answers))
      where
        if_asked : (r : Ran) (b : Bool) → Twins (cond b (retried scope ds left v.update (take (taken_of r) v.answers ++ g ∷ [])) left)
            (cond b (retried scope ds right v.update (take (taken_of r) v.answers ++ g ∷ [])) right)
        if_asked r true = ran v.update (take (taken_of r) v.answers ++ g ∷ [])
        if_asked r false = themselves

        by : (r : Ran) → Twins (answered_by scope ds left v g r) (answered_by scope ds right v g r)
        by r = if_asked r (asks_it r g.asked)

    answered : (g : Given) (o : Option Waiting) → Twins (answered_at scope ds left g o) (answered_at scope ds right g o)
    answered g None = themselves
    answered g (Some v) = by_answer v g

    gone : (o : Option Waiting) → Twins (gone_at scope ds left o) (gone_at scope ds right o)
    gone None = themselves
    gone (Some v) =
        subst (λ r. Twins (gone_at scope ds left (Some v)) (retried scope ds right v.update (take (taken_of r) v.answers))) (same_run v.update v.answers)
        (ran v.update (take (taken_of (run_in scope ds left v.update v.answers)) v.answers))

    one : (x : Line) → Twins (done_by scope ds left x) (done_by scope ds right x)
    one (Says u) = ran u []
    one (Answers m g) = answered g (waiting_at w m)
    one (Goes m) = gone (waiting_at w m)
    one (Undoes ms) = themselves
    one (Redoes ms) = themselves
    one (Forgets ms) = themselves
    one (Declares d) = themselves

  pub twins_next : (l k : Live) (x : Line) → Twins l k → Twins (done_by scope ds l x) (done_by scope ds k x)
  twins_next l k x a =
      subst (λ w. Twins (done_by scope ds l x) (done_by scope ds record { world = w; tables = k.tables } x)) a.world (one l.world l.tables k.tables a.tables x)

  pub twins_all : (l k : Live) (xs : List Line) → Twins l k → Twins (done_by_all scope ds l xs) (done_by_all scope ds k xs)
  twins_all l k [] a = a
  twins_all l k (x ∷ xs) a = twins_all (done_by scope ds l x) (done_by scope ds k x) xs (twins_next l k x a)
