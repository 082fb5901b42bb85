-- Where no own write is of the relation of the tuples that say which mappings are in force, none puts a mapping in force.
use Rattle.std.proofs.Common.{◌≡◌, ◌∙◌, ap, refl, sym, List, [], ◌∷◌, ◌++◌, Bool, false, ◌||◌, ℕ, map}
use Rattle.std.specs.List.{list_any}
use Rattle.def_chase.specs.Repository.{Change, inserts}
use Rattle.def_chase.specs.Mappings.{force}
use Rattle.def_chase.proofs.Bools.{first_off}
use Rattle.def_chase.proofs.Searches.{any_join}
use Rattle.base_types.specs.declared.updates.Write.{Write}
use Rattle.base_types.specs.Meanings.{change_of}
use Rattle.chase_eval.specs.Watched.{AreForceless, may_enact}
use Rattle.chase_eval.proofs.Settling.{no_force}
use Rattle.chase_eval.proofs.Written.{map_one_more}

pub none_forced : (n : ℕ) (ws : List Change) → list_any may_enact ws ≡ false → list_any (inserts (force n)) ws ≡ false
none_forced n [] h = refl
none_forced n (w ∷ ws) h =
    let p = first_off (may_enact w) (list_any may_enact ws) h in
    λ i. no_force n w p.0 i || none_forced n ws p.1 i

-- The mark is right with a write more, of which the last of the new list is a copy.
pub forceless_on : (a b : Bool) (ws vs : List Write) (w copy : Write) → AreForceless a (map change_of ws) → b ≡ (a || may_enact (change_of w)) → change_of copy ≡ change_of w → vs ≡ ws ++ copy ∷ []
    → AreForceless b (map change_of vs)
forceless_on a b ws vs w copy h e c v off =
    let p = first_off a (may_enact (change_of w)) (sym e ∙ off) in
    let last : may_enact (change_of copy) ≡ false = ap may_enact c ∙ p.1 in
    ap (λ (x : List Write). list_any may_enact (map change_of x)) v ∙ ap (list_any may_enact) (map_one_more ws copy) ∙ any_join may_enact (map change_of ws) (change_of copy ∷ [])
    ∙ (λ i. h p.0 i || (last i || false))
