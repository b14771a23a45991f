-- What steps do, in letters and in words.
use Rattle.std.specs.Prelude.{ℕ, ◌==◌, Bool, true, false, List, [], ◌∷◌, codes}
use Rattle.run_columns.specs.declared.mark.StepKind.{StepKind}
use Rattle.run_columns.specs.declared.mark.StepKind.TheVariants.{StoreWrite, CountWrite, Snapshot, Propose, Enter, Look, Stand, Withdraw, Ask, LoadView, LoadValue, Decide}

-- each once, in the order in which a turn has them
abbrev pub all_kinds : List StepKind
all_kinds =
    StoreWrite ∷ CountWrite ∷ Snapshot ∷ Propose ∷ Enter ∷ Look ∷ Stand ∷ Withdraw ∷ Ask ∷ LoadView ∷ LoadValue ∷ Decide ∷ []

-- the place of each among them
abbrev pub number_of : StepKind → ℕ
number_of StoreWrite = 0
number_of CountWrite = 1
number_of Snapshot = 2
number_of Propose = 3
number_of Enter = 4
number_of Look = 5
number_of Stand = 6
number_of Withdraw = 7
number_of Ask = 8
number_of LoadView = 9
number_of LoadValue = 10
number_of Decide = 11

abbrev pub is_same : StepKind → StepKind → Bool
is_same one other = number_of one == number_of other

-- the letter on a step's square
unfoldable pub letter_of : StepKind → List ℕ
letter_of StoreWrite = codes "W"
letter_of CountWrite = codes "+"
letter_of Snapshot = codes "S"
letter_of Propose = codes "V"
letter_of Enter = codes "1"
letter_of Look = codes "?"
letter_of Stand = codes "2"
letter_of Withdraw = codes "0"
letter_of Ask = codes "A"
letter_of LoadView = codes "G"
letter_of LoadValue = codes "r"
letter_of Decide = codes "D"

-- what the letter stands for
unfoldable pub meaning_of : StepKind → List ℕ
meaning_of StoreWrite = codes "store a write"
meaning_of CountWrite = codes "count it"
meaning_of Snapshot = codes "snapshot"
meaning_of Propose = codes "propose it"
meaning_of Enter = codes "enter"
meaning_of Look = codes "look"
meaning_of Stand = codes "leave, it stands"
meaning_of Withdraw = codes "leave, too late"
meaning_of Ask = codes "ask"
meaning_of LoadView = codes "get the view"
meaning_of LoadValue = codes "read a value"
meaning_of Decide = codes "store decision"

-- what a simulator does, up to the words that say for which process
unfoldable pub verb_of : StepKind → List ℕ
verb_of StoreWrite = codes " stores the write of "
verb_of CountWrite = codes " counts the write of "
verb_of Snapshot = codes " takes a snapshot for "
verb_of Propose = codes " proposes its snapshot for "
verb_of Enter = codes " enters the agreement on "
verb_of Look = codes " looks who is in the agreement on "
verb_of Stand = codes " keeps its proposal and leaves the agreement on "
verb_of Withdraw = codes " withdraws its proposal and leaves the agreement on "
verb_of Ask = codes " asks what was agreed on for "
verb_of LoadView = codes " loads the chosen proposal for "
verb_of LoadValue = codes " loads a value for "
verb_of Decide = codes " stores the decision of "

-- whether a step changes the agreement or decides
abbrev pub is_marked : StepKind → Bool
is_marked StoreWrite = false
is_marked CountWrite = false
is_marked Snapshot = false
is_marked Propose = false
is_marked Enter = true
is_marked Look = false
is_marked Stand = true
is_marked Withdraw = true
is_marked Ask = false
is_marked LoadView = false
is_marked LoadValue = false
is_marked Decide = true
