-- What is said of a file that isn't added up.
use Rattle.std.specs.Prelude.{ℕ, List, [], ◌∷◌, ◌++◌, codes, decimal, slice_index_or}
use Rattle.view_sum.specs.declared.fault.BadPart.{BadPart}
use Rattle.view_sum.specs.declared.fault.Member.{Member}
use Rattle.view_sum.specs.declared.fault.Member.TheVariants.{Crashes, Seed, Grouped, Schedule, Task}
use Rattle.view_sum.specs.declared.fault.Reason.{Reason}
use Rattle.view_sum.specs.declared.fault.Reason.TheVariants.{Malformed, NotOfSample, OtherRoom, OtherCount, Unended, TooMany, OtherRooms, OtherPlan, Overlap, Gap}

abbrev pub plan_words : Member → List ℕ
plan_words Crashes = codes "another `--crashes` than"
plan_words Seed = codes "another `--seed` than"
plan_words Grouped = codes "`--group` in one of two: this file and"
plan_words Schedule = codes "`--brief` in one of two: this file and"
plan_words Task = codes "a task in one of two: this file and"

-- what is wrong, up to a number or the other file's name
abbrev pub fault_words : Reason → List ℕ
fault_words Malformed = codes "not JSON"
fault_words NotOfSample = codes "not as `bgview sample --json` writes an outcome or a room"
fault_words OtherRoom = codes "another room than the outcomes before it"
fault_words (OtherCount listed) = codes "the room has another number of outcomes than come before it:"
fault_words Unended = codes "the file ends before the line of its last room"
fault_words TooMany = codes "more schedules than a number of 32 bits counts"
fault_words OtherRooms = codes "other rooms than"
fault_words (OtherPlan member) = plan_words member
fault_words (Overlap expected) = codes "schedules of a file before it: the next one has the number"
fault_words (Gap expected) = codes "schedules are missing: the next one has the number"

-- the number, or the other file's name
abbrev pub subject_words : List ℕ → Reason → List ℕ
subject_words other (OtherCount listed) = 32 ∷ decimal listed
subject_words other (Overlap expected) = 32 ∷ decimal expected
subject_words other (Gap expected) = 32 ∷ decimal expected
subject_words other OtherRooms = 32 ∷ other
subject_words other (OtherPlan member) = 32 ∷ other
subject_words other _ = []

-- what helps
abbrev pub hint_words : Reason → List ℕ
hint_words Malformed = codes "each file is what `bgview sample --json` wrote"
hint_words NotOfSample = codes "each file is what `bgview sample --json` wrote, without `--top`, `--outcome` and `--keeps`"
hint_words OtherRoom = codes "the outcomes of a room come right before its own line"
hint_words (OtherCount listed) = codes "sample the parts without `--top`, and show fewer outcomes by `bgview sum --top`"
hint_words Unended = codes "perhaps the sample was not written to its end"
hint_words TooMany = codes "the schedules of a seed have the numbers 0 to 4294967295"
hint_words OtherRooms = codes "each file has a part of the schedules of the same rooms"
hint_words (OtherPlan member) = codes "the parts of a sample differ only in `--from` and `--schedules`"
hint_words (Overlap expected) = codes "give each schedule to one file: `bgview sample --from K` begins with the number K"
hint_words (Gap expected) = codes "`bgview sample --from K` begins with the number K, and a file for those is not here"

-- the name of a file by its number
abbrev pub name_of : List (List ℕ) → ℕ → List ℕ
name_of names file = slice_index_or names file []

-- the file, the line, what is wrong with it, and what helps
abbrev pub refusal_text : List (List ℕ) → BadPart → List ℕ
refusal_text names bad =
    ((codes "    " ++ name_of names bad.file) ++ (codes ", line" ++ ((32 ∷ decimal bad.line) ++ codes ": ")))
    ++ ((fault_words bad.reason ++ (subject_words (name_of names bad.other) bad.reason ++ codes "\n")) ++ (codes "    " ++ (hint_words bad.reason ++ codes "\n")))
