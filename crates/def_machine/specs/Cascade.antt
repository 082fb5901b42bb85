-- The updates that an event restarts: those in conflict, and those that depend on updates that lose their writes.
use Rattle.std.specs.Prelude.{ℕ, suc, ◌==◌, nat_lt, Bool, not, ◌&&◌, ◌||◌, if◌then◌else◌, List, [], ◌∷◌, ◌++◌, map, Option, None, is_some, option_map, option_to_list}
use Rattle.std.specs.List.{list_any}
use Rattle.def_machine.specs.Machine.{Machine}
use Rattle.def_machine.specs.Updates.{Read, Update, Deps, Precise, Coarse, trail}
use Rattle.def_machine.specs.Reads.{is_valid, first_that, changed_read}
use Rattle.def_machine.specs.Standings.{is_nil}

-- Why an update was restarted. Updates and reads are named by their numbers.
pub data Cause (M : Machine) : Type 0 where
  -- the reader's read had the old answer, and with the writer's new writes it has the new one: reader, read, writer, old, new
  Conflict : ℕ → ℕ → ℕ → M.Reply → M.Reply → Cause M
  -- the reader's read depends on the writes of an update that lost them: reader, read, on
  Depends : ℕ → ℕ → ℕ → Cause M

-- The number of the update that the cause restarts.
abbrev pub reader : {M : Machine} → Cause M → ℕ
reader (Conflict i read writer old new) = i
reader (Depends i read on) = i

-- The numbers of the updates that the causes restart, in order.
abbrev pub readers : {M : Machine} → List (Cause M) → List ℕ
readers cs = map reader cs

-- Update n is neither withdrawn nor committed, if c updates were committed when the event began.
abbrev pub is_live : (M : Machine) → ℕ → ℕ → Update M → Bool
is_live M c n u = nat_lt c n && not u.withdrawn

-- The conflict of update n with the writes that update j just made, if there is one. D is the repository below update n, with
-- these writes, before the event takes any trail away.
abbrev pub conflict_of : (M : Machine) → ℕ → ℕ → M.Repository → ℕ → Update M → Option (Cause M)
conflict_of M c j D n u =
    if is_live M c n u then option_map (λ x. Conflict n x.read j x.old x.new) (changed_read M D u) else None

-- The conflict set: the conflicts of the updates. The first of the list is update n, and D is the repository below it.
abbrev pub conflicts : (M : Machine) → ℕ → ℕ → M.Repository → ℕ → List (Update M) → List (Cause M)
conflicts M c j D n [] = []
conflicts M c j D n (u ∷ us) = option_to_list (conflict_of M c j D n u) ++ conflicts M c j (M.apply D (trail M u)) (suc n) us

-- A member: an update that loses its trail, with the trail that it had.
pub record Member (M : Machine) : Type 0 where
  pub number : ℕ
  pub trail : List M.Write

-- The read mentions the relation of one of the writes.
abbrev pub reads_of : (M : Machine) → Read M → List M.Write → Bool
reads_of M r ws = list_any (λ w. M.mentions r.query (M.touches w)) ws

-- The read depends on the members below its update. D is the repository below the update, without the members' trails. Precise:
-- the read has another value over D. Coarse: it mentions a relation that one of them wrote.
abbrev pub read_depends : (M : Machine) → Deps → M.Operation → M.Repository → List M.Write → List (Member M) → Read M
    → Bool
read_depends M Precise op D own members r = not (is_valid M op D own r)
read_depends M Coarse op D own members r = list_any (λ m. reads_of M r m.trail) members

-- The least member that wrote a relation which the read mentions; 0, which is no update's number, if none did.
abbrev pub writer_for : (M : Machine) → Read M → List (Member M) → ℕ
writer_for M r [] = 0
writer_for M r (m ∷ ms) = if reads_of M r m.trail then m.number else writer_for M r ms

-- The dependence of update n on the members below it, if there is one: by its first read that depends on them.
abbrev pub dependence_of : (M : Machine) → Deps → ℕ → M.Repository → List (Member M) → ℕ → Update M → Option (Cause M)
dependence_of M deps c D members n u =
    if is_live M c n u && not (is_nil members)
    then option_map (λ t. Depends n t.0 (writer_for M t.1 members)) (first_that (read_depends M deps u.operation D (M.own u.state) members) u.log)
    else None

-- The number is in the list.
abbrev pub has_number : List ℕ → ℕ → Bool
has_number ns n = list_any (λ k. k == n) ns

-- The members below the next update: update n joins them if b holds.
abbrev pub with_member : (M : Machine) → Bool → List (Member M) → ℕ → Update M → List (Member M)
with_member M b members n u = if b then members ++ record { number = n; trail = trail M u } ∷ [] else members

-- The repository below the next update, without the trails of members; update n is a member if b holds.
abbrev pub without_member : (M : Machine) → Bool → M.Repository → Update M → M.Repository
without_member M b D u = if b then D else M.apply D (trail M u)

-- The cascade: given the numbers of the first members, a cause for each update that joins them, taken upwards. The first of the
-- list is update n, `members` are the members below it, and D is the repository below it without their trails.
abbrev pub cascade : (M : Machine) → Deps → ℕ → List ℕ → M.Repository → List (Member M) → ℕ → List (Update M)
    → List (Cause M)
cascade M deps c firsts D members n [] = []
cascade M deps c firsts D members n (u ∷ us) =
    let joins = if has_number firsts n then None else dependence_of M deps c D members n u in
    let b = has_number firsts n || is_some joins in
    option_to_list joins ++ cascade M deps c firsts (without_member M b D u) (with_member M b members n u) (suc n) us

-- A restart: the update loses its writes and its log and begins a new attempt, with the answers delivered so far.
abbrev pub begun_again : (M : Machine) → ℕ → Update M → Update M
begun_again M n u =
    record {
      operation = u.operation;
      attempt = suc u.attempt;
      state = M.begin n (suc u.attempt) u.operation;
      log = [];
      withdrawn = u.withdrawn;
      answers = u.answers;
      inbox = u.inbox;
    }

-- The updates, with those of these numbers restarted; the first is update n.
abbrev pub restarted : (M : Machine) → List ℕ → ℕ → List (Update M) → List (Update M)
restarted M ns n [] = []
restarted M ns n (u ∷ us) = (if has_number ns n then begun_again M n u else u) ∷ restarted M ns (suc n) us
