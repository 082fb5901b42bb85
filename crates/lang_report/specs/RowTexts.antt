-- The texts of the worked rows, and the meaning of a row.
use Rattle.std.specs.Prelude.{◌≡◌, ℕ, List, codes}
use Rattle.def_language.specs.Lines.{begun, lines_from, lines_of}
use Rattle.lang_report.specs.Results.{serial_text}
use Rattle.lang_report.specs.Saved.{saved_text}

-- this is the result text of the session that these bytes spell, with a budget of steps for each update
abbrev pub TellsOf : ℕ → List ℕ → List ℕ → Type 0
TellsOf budget session text = serial_text budget (lines_from 0 0 begun (lines_of session)) ≡ text

-- this is the saved session of the session that these bytes spell
abbrev pub SavesOf : ℕ → List ℕ → List ℕ → Type 0
SavesOf budget session text = saved_text budget (lines_from 0 0 begun (lines_of session)) ≡ text

abbrev pub one_repair_session : List ℕ
one_repair_session = codes "youtopia 1\nrelation A 1\nrelation B 1\nmapping m: A(x) -> B(x)\nupdate a ann insert A(1)\nend\n"

abbrev pub told_of_one_repair : List ℕ
told_of_one_repair = codes "youtopia result 1\nupdate 1 a ann done steps 4 nulls 0\nrepository 2\nA(1)\nB(1)\ncommitted 1 of 1\n"

abbrev pub refused_null_session : List ℕ
refused_null_session = codes "youtopia 1\nrelation A 2\nbase A(2, 1)\nbase A(?0.1, 1)\nupdate a ann replace ?0.9 with 2\nend\n"

abbrev pub told_of_refused_null : List ℕ
told_of_refused_null = codes "youtopia result 1\nupdate 1 a ann refused ?0.9 steps 1 nulls 0\nrepository 2\nA(2, 1)\nA(?0.1, 1)\ncommitted 1 of 1\n"

abbrev pub stuck_missing_session : List ℕ
stuck_missing_session = codes "youtopia 1\nrelation City 2\nrelation Country 2\nrelation Capital 2\nmapping m: City(x, c) -> Country(c, z), Capital(z, c)\nbase Country(\"US\", \"DC\")\nupdate a ann insert City(\"Ithaca\", \"US\")\nend\n"

abbrev pub told_of_stuck_missing : List ℕ
told_of_stuck_missing = codes "youtopia result 1\nstuck 1 a ann missing\nquestion positive m Country(\"US\", ?1.1)\ncandidate Country(\"US\", \"DC\")\nrepository 1\nCountry(\"US\", \"DC\")\ncommitted 0 of 1\n"

abbrev pub negative_frontier_misfit_session : List ℕ
negative_frontier_misfit_session = codes "youtopia 1\nrelation A 1\nrelation B 1\nrelation C 1\nmapping m: A(x), B(x) -> C(x)\nbase A(1)\nbase B(1)\nbase C(1)\nupdate a ann delete C(1)\nanswer a delete C(1)\nend\n"

abbrev pub told_of_negative_frontier_misfit : List ℕ
told_of_negative_frontier_misfit = codes "youtopia result 1\nstuck 1 a ann misfit\nquestion negative m\ncandidate A(1)\ncandidate B(1)\nrepository 3\nA(1)\nB(1)\nC(1)\ncommitted 0 of 1\n"

abbrev pub adds_a_mapping : List ℕ
adds_a_mapping = codes "youtopia 2\nrelation A 1\nrelation B 1\nbase A(1)\nupdate a ann mapping m: A(x) -> B(x)\nupdate b bob insert A(2)\nend\n"

abbrev pub told_of_added_mapping : List ℕ
told_of_added_mapping = codes "youtopia result 1\nupdate 1 a ann done steps 4 nulls 0\nupdate 2 b bob done steps 4 nulls 0\nrepository 4\nA(1)\nA(2)\nB(1)\nB(2)\ncommitted 2 of 2\n"

abbrev pub told_of_added_mapping_spent : List ℕ
told_of_added_mapping_spent = codes "youtopia result 1\nupdate 1 a ann spent steps 2 nulls 0\nupdate 2 b bob done steps 2 nulls 0\nrepository 2\nA(1)\nA(2)\ncommitted 2 of 2\n"

abbrev pub two_cities : List ℕ
two_cities = codes "youtopia 1\nrelation City 2\nrelation Country 2\nmapping m: City(x, c) -> Country(c, z)\nupdate a ann insert City(\"Ithaca\", \"US\")\nend\n"

abbrev pub saved_of_fresh_null : List ℕ
saved_of_fresh_null = codes "youtopia 2\nrelation City 2\nrelation Country 2\nmapping m: City(x, c) -> Country(c, z)\nbase City(\"Ithaca\", \"US\")\nbase Country(\"US\", ?0.1)\nend\n"

abbrev pub saved_of_added_mapping : List ℕ
saved_of_added_mapping = codes "youtopia 2\nrelation A 1\nrelation B 1\nmapping m: A(x) -> B(x)\nbase A(1)\nbase A(2)\nbase B(1)\nbase B(2)\nend\n"

abbrev pub saved_of_added_mapping_spent : List ℕ
saved_of_added_mapping_spent = codes "youtopia 2\nrelation A 1\nrelation B 1\nbase A(1)\nbase A(2)\nend\n"
