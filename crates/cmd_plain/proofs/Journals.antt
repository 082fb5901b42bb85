-- A journal grows with its commits: where it is too long with some, it is so with more.
use Rattle.std.proofs.Common.{◌≡◌, ℕ, ◌+◌, ◌<◌, ◌≤◌, ap, refl, sym, ◌∙◌, subst, List, [], ◌∷◌, ◌++◌, map, length, length-append, append_assoc, true, arith}
use Rattle.std.proofs.lemmas.Bool.{ltb-true, lt-ltb}
use Rattle.std.specs.Iterator.{Yields}
use Rattle.std.specs.List.{AllByRecursion}
use Rattle.std.specs.Prelude.{Option, None, Some, IfNone, IfSome}
use Rattle.std.specs.Vec.Iter.{into_iter_items, into_iter_steps}
use Rattle.std.specs.declared.vec.IntoIter.{IntoIter}
use Rattle.std.proofs.lemmas.List.{append-nil, map-append}
use Rattle.base_types.specs.Contents.{changes_of}
use Rattle.base_types.specs.Listed.{Listed}
use Rattle.base_types.specs.declared.updates.Write.{Write}
use Rattle.def_chase.specs.Repository.{Change}
use Rattle.def_language.specs.Printing.{printed}
use Rattle.def_language.specs.Sessions.{RelationSchema, SessionData}
use Rattle.base_devices.specs.InMemory.{MemState, bytes_of}
use Rattle.base_roll.specs.Format.{framed, opened, records}
use Rattle.base_roll.proofs.Frames.{length_framed}
use Rattle.run_journal.specs.Format.{IsWrite, commit_text, front, journal_text, logged, texts}
use Rattle.run_journal.specs.Journals.{Hold}
use Rattle.run_laws.specs.Logged.{AreLogged, commits_of}
use Rattle.cmd_plain.specs.Journaled.{IsOneTooMany, is_too_long}

-- one record more
record_more : (relations : List RelationSchema) (n m : ℕ) (commits : List (List Change)) (writes : List Change) → m ≡ n + length commits
    → length (records (texts relations n (commits ++ writes ∷ []))) ≡ length (records (texts relations n commits)) + (5 + length (commit_text relations m writes))
record_more relations n m [] writes e =
    let same : length (commit_text relations n writes) ≡ length (commit_text relations m writes) = ap (λ k. length (commit_text relations k writes)) (omega arith) in
    omega (arith, same, length-append (opened (commit_text relations n writes)) [], length_framed (commit_text relations n writes))
record_more relations n m (c ∷ commits) writes e =
    omega (
      arith,
      record_more relations (n + 1) m commits writes (omega arith),
      length-append (opened (commit_text relations n c)) (records (texts relations (n + 1) (commits ++ writes ∷ []))),
      length-append (opened (commit_text relations n c)) (records (texts relations (n + 1) commits)),
    )

-- one commit more
grown : (s : SessionData) (n : ℕ) (commits : List (List Change)) (writes : List Change) → n ≡ length commits + 1
    → length (journal_text s (commits ++ writes ∷ [])) ≡ length (journal_text s commits) + (5 + length (commit_text s.relations n writes))
grown s n commits writes e =
    omega (
      arith,
      length-append (front s (commits ++ writes ∷ [])) (0 ∷ []),
      length-append (front s commits) (0 ∷ []),
      length-append (framed (printed s)) (records (texts s.relations 1 (commits ++ writes ∷ []))),
      length-append (framed (printed s)) (records (texts s.relations 1 commits)),
      record_more s.relations 1 n commits writes (omega arith),
    )

no_shorter : (s : SessionData) (commits more : List (List Change)) → length (journal_text s commits) ≤ length (journal_text s (commits ++ more))
no_shorter s commits [] = let same : length (journal_text s (commits ++ [])) ≡ length (journal_text s commits) = ap (λ cs. length (journal_text s cs)) (append-nil commits) in omega arith
no_shorter s commits (writes ∷ more) =
    let one : length (journal_text s (commits ++ writes ∷ [])) ≡ length (journal_text s commits) + (5 + length (commit_text s.relations (length commits + 1) writes)) = grown s (length commits + 1) commits writes refl in
    let rest : length (journal_text s (commits ++ writes ∷ [])) ≤ length (journal_text s ((commits ++ writes ∷ []) ++ more)) = no_shorter s (commits ++ writes ∷ []) more in
    let same : length (journal_text s ((commits ++ writes ∷ []) ++ more)) ≡ length (journal_text s (commits ++ writes ∷ more)) = ap (λ cs. length (journal_text s cs)) (append_assoc commits (writes ∷ []) more) in
    omega arith

pub long_on : (s : SessionData) (commits more all : List (List Change)) → commits ++ more ≡ all → is_too_long (journal_text s commits) ≡ true → is_too_long (journal_text s all) ≡ true
long_on s commits more all e h =
    let long : 16777216 < length (journal_text s commits) = ltb-true 16777216 (length (journal_text s commits)) h in
    let less : length (journal_text s commits) ≤ length (journal_text s (commits ++ more)) = no_shorter s commits more in
    ap (λ cs. is_too_long (journal_text s cs)) (sym e) ∙ lt-ltb 16777216 (length (journal_text s (commits ++ more))) (omega arith)

-- the journal on the disk is too long already
pub disk_long : (disk : MemState) (s : SessionData) (writes : List Change) (hold : Hold) (n : ℕ) → n ≡ length (bytes_of disk) → 16777216 < n → IsOneTooMany disk s writes hold
disk_long disk s writes hold n e l commits has =
    long_on s commits (writes ∷ []) (commits ++ writes ∷ []) refl (lt-ltb 16777216 (length (journal_text s commits)) (omega (arith, e, l, ap length has.text)))

-- the commit itself is too long
pub commit_long : (disk : MemState) (s : SessionData) (writes : List Change) (hold : Hold) (n : ℕ) → n ≡ hold.commits + 1 → 16777216 < length (commit_text s.relations n writes) → IsOneTooMany disk s writes hold
commit_long disk s writes hold n e l commits has =
    let count : n ≡ length commits + 1 = e ∙ ap (λ k. k + 1) has.at.count in
    lt-ltb 16777216 (length (journal_text s (commits ++ writes ∷ []))) (omega (arith, l, grown s n commits writes count))

-- ---- trails in turn

-- one trail more
pub made_more : (done : List (Listed Write)) (writes : Listed Write) → commits_of (map changes_of done) ++ logged (changes_of writes) ∷ [] ≡ commits_of (map changes_of (done ++ writes ∷ []))
made_more done writes = sym (ap commits_of (map-append changes_of done (writes ∷ [])) ∙ map-append logged (map changes_of done) (changes_of writes ∷ []))

-- what is logged of each is writes of tuples
pub one_logged : (relations : List RelationSchema) (done rest : List (Listed Write)) (writes : Listed Write) → AreLogged relations (commits_of (map changes_of (done ++ writes ∷ rest))) → AllByRecursion (IsWrite relations) (logged (changes_of writes))
one_logged relations [] rest writes h = h.0
one_logged relations (w ∷ done) rest writes h = one_logged relations done rest writes h.1

-- with one commit too many before the last the journal is too long
pub long_with_all : (s : SessionData) (done rest : List (Listed Write)) (writes : Listed Write) → is_too_long (journal_text s (commits_of (map changes_of done) ++ logged (changes_of writes) ∷ [])) ≡ true
    → is_too_long (journal_text s (commits_of (map changes_of (done ++ writes ∷ rest)))) ≡ true
long_with_all s done rest writes h =
    long_on s (commits_of (map changes_of done) ++ logged (changes_of writes) ∷ []) (commits_of (map changes_of rest)) (commits_of (map changes_of (done ++ writes ∷ rest))) whole h
  where
    whole : (commits_of (map changes_of done) ++ logged (changes_of writes) ∷ []) ++ commits_of (map changes_of rest) ≡ commits_of (map changes_of (done ++ writes ∷ rest))
    whole =
        append_assoc (commits_of (map changes_of done)) (logged (changes_of writes) ∷ []) (commits_of (map changes_of rest))
        ∙ sym (ap commits_of (map-append changes_of done (writes ∷ rest)) ∙ map-append logged (map changes_of done) (map changes_of (writes ∷ rest)))

-- the session itself is too long
pub opening_long : (s : SessionData) → 16777216 < length (printed s) → is_too_long (journal_text s []) ≡ true
opening_long s l =
    lt-ltb 16777216 (length (journal_text s []))
    (omega (arith, l, length-append (front s []) (0 ∷ []), length-append (framed (printed s)) [], length_framed (printed s)))

-- ---- what was found

pub some_of : {T : Type 0} (P : T → Type 0) (found : Option T) (x : T) → found ≡ Some x → IfSome found P → P x
some_of P found x e h = subst (λ f. IfSome f P) e h

pub none_of : {T P : Type 0} (found : Option T) → found ≡ None → IfNone found P → P
none_of {P = P} found e h = subst (λ f. IfNone f P) e h

-- what the iterator of a vector has given is a front of its items
pub taken_front : {X A : Type 0} (s : IntoIter X A) (xs : List X) (t : IntoIter X A) → Yields into_iter_steps s xs t → into_iter_items s ≡ xs ++ into_iter_items t
taken_front s [] t y = ap into_iter_items y
taken_front s (x ∷ xs) t y = y.1.0 ∙ ap (λ ys. x ∷ ys) (taken_front y.0 xs t y.2)
