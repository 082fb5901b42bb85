-- A worked row: the summary of a drill of one update by seed 7.
use Rattle.std.specs.Prelude.{◌≡◌, [], ◌∷◌, None, codes}
use Rattle.chase_update.specs.Results.{ResultTold}
use Rattle.chase_update.specs.Wishes.{IsDone}
use Rattle.run_drill.specs.Summaries.{summary_text}

-- The update deletes a tuple that is not there.
abbrev pub told : ResultTold
told = record { finishes = record { outcome = IsDone; steps = 2; nulls = 0 } ∷ []; stop = None; repository = [] }

abbrev pub WorkedSummary : Type 0
WorkedSummary =
    summary_text 1 7 told
    ≡ codes "drill count 1 seed 7\ncommitted 1 of 1\ndone 1 spent 0 refused 0\nsteps 2 nulls 0\nrepository 0\n"
