-- The nulls that a mapping in force draws.
use Rattle.std.proofs.Common.{◌≡◌, ◌∙◌, ap, refl, sym, ℕ, zero, suc, List, [], ◌∷◌, map, Option, Some, None, Result, Ok, Err, OnOk}
use Rattle.std.specs.Option.{option_map}
use Rattle.std.specs.List.{slice_get}
use Rattle.base_types.specs.Contents.{facts_of}
use Rattle.chase_repair.specs.Bound.{Bound}
use Rattle.def_chase.specs.Mappings.{Rule, image_under, listed}
use Rattle.def_workspace.specs.Lines.{Source}
use Rattle.def_workspace.specs.Names.{fact_named}
use Rattle.def_workspace.specs.Runs.{Active, Thread, draw_from, drawn_by}
use Rattle.ws_lines.specs.Meanings.{source_of}
use Rattle.ws_lines.specs.declared.answers.Source.{Source as SourceOfProgram}
use Rattle.ws_run.specs.Drawing.{drawn_for}
use Rattle.ws_run.specs.DrawnMeanings.{draw_all}
use Rattle.ws_run.specs.Meanings.{active_of, source_or, setting_of}
use Rattle.ws_run.specs.declared.drawing.Drawn.{Drawn}
use Rattle.ws_run.specs.declared.settings.Setting.{Setting as SettingOfProgram}

-- What follows on success follows from what holds on success.
pub on_ok : {T E P Q : Type 0} (r : Result T E) → (P → Q) → OnOk r P → OnOk r Q
on_ok (Ok x) f h = f h
on_ok (Err x) f h = tt

-- Where there is no value, none is mapped.
pub no_value : {A B : Type 0} (f : A → B) (o : Option A) → ((x : A) → o ≡ Some x → ⊥) → option_map f o ≡ None
no_value f None h = refl
no_value f (Some x) h = absurd (h x refl)

abbrev with_source : Source → Rule → Active
with_source s r = record { source = s; rule = r }

-- Each mapping stands with its source.
pub active_at : (ss : List SourceOfProgram) (rs : List Rule) (n : ℕ) → slice_get (active_of ss rs) n ≡ option_map (with_source (source_or ss n)) (slice_get rs n)
active_at ss [] n = refl
active_at [] (r ∷ rs) zero = refl
active_at [] (r ∷ rs) (suc n) = active_at [] rs n
active_at (s ∷ ss) (r ∷ rs) zero = refl
active_at (s ∷ ss) (r ∷ rs) (suc n) = active_at ss rs n

module _ (s : SettingOfProgram) (seq n k : ℕ) (p : Option Bound) (t : Thread) where
  -- Without a repair in hand nothing gets a name,
  pub no_repair : p ≡ None → t ≡ drawn_for (setting_of s) seq n k p t
  no_repair e = sym (ap (λ (o : Option Bound). drawn_for (setting_of s) seq n k o t) e)

  module _ (b : Bound) (bound : p ≡ Some b) where
    -- nor without its mapping.
    pub no_mapping : slice_get s.in_force.now b.mapping ≡ None → t ≡ drawn_for (setting_of s) seq n k p t
    no_mapping e =
        sym (ap (λ (o : Option Bound). drawn_for (setting_of s) seq n k o t) bound
        ∙ ap (λ (a : Option Active). drawn_by s.number seq n k b.values a t) (active_at s.sources.now.items s.in_force.now b.mapping ∙ ap (option_map (with_source (source_or s.sources.now.items b.mapping))) e))

    -- The mapping's nulls get their names.
    pub mapping_drawn : (r : Rule) (d : Drawn) (w : Thread)
        → slice_get s.in_force.now b.mapping ≡ Some r
        → d.number ≡ s.number → d.op ≡ seq → source_of d.source ≡ source_or s.sources.now.items b.mapping → d.variable ≡ r.universal
        → facts_of d.image ≡ map (fact_named t.names) (image_under (listed b.values) r.left)
        → w ≡ draw_all d n k t → w ≡ drawn_for (setting_of s) seq n k p t
    mapping_drawn r d w there number op source variable image drawn =
        drawn
        ∙ (λ i. draw_from (number i) (op i) (source i) (image i) n (suc k) (variable i) t)
        ∙ sym (ap (λ (a : Option Active). drawn_by s.number seq n k b.values a t) (active_at s.sources.now.items s.in_force.now b.mapping ∙ ap (option_map (with_source (source_or s.sources.now.items b.mapping))) there))
        ∙ sym (ap (λ (o : Option Bound). drawn_for (setting_of s) seq n k o t) bound)
