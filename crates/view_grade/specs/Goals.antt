-- Goals, and how they are read from their words.
use Rattle.std.specs.Prelude.{ℕ, zero, suc, ◌+◌, Bool, true, false, List, [], ◌∷◌, ◌++◌, length, Option, Some, None, Result, Ok, Err, if◌then◌else◌, codes, decimal}
use Rattle.std.specs.Str.{bytes_eq}
use Rattle.std.specs.Option.{option_map}
use Rattle.room_spec.specs.Texts.{fields_of}
use Rattle.script_play.specs.Script.{number_within}
use Rattle.view_grade.specs.declared.goal.Fact.{Fact}
use Rattle.view_grade.specs.declared.goal.Fact.TheVariants.{Decided, Spent, Held, Going, Input, Crashed, SimulatorDecided, History}
use Rattle.view_grade.specs.declared.goal.Joint.{Joint}
use Rattle.view_grade.specs.declared.goal.Joint.TheVariants.{And, Or}
use Rattle.view_grade.specs.declared.goal.Claim.{Claim}
use Rattle.view_grade.specs.declared.goal.GoalFault.{GoalFault}
use Rattle.view_grade.specs.declared.goal.GoalFault.TheVariants.{NoClaim, NoJoint}

-- ---- the words of a goal

abbrev pub joint_word : Joint → List ℕ
joint_word And = codes "and"
joint_word Or = codes "or"

-- an input: a value, or none yet
abbrev pub input_word : Option ℕ → List ℕ
input_word None = codes "none"
input_word (Some value) = decimal value

abbrev pub fact_words : Fact → List (List ℕ)
fact_words (Decided process value) = codes "decided" ∷ decimal process ∷ decimal value ∷ []
fact_words (Spent process) = codes "spent" ∷ decimal process ∷ []
fact_words (Held process) = codes "held" ∷ decimal process ∷ []
fact_words (Going process) = codes "going" ∷ decimal process ∷ []
fact_words (Input process input) = codes "input" ∷ decimal process ∷ input_word input ∷ []
fact_words (Crashed simulator) = codes "crashed" ∷ decimal simulator ∷ []
fact_words (SimulatorDecided simulator value) = codes "simulator" ∷ decimal simulator ∷ codes "decided" ∷ decimal value ∷ []
fact_words (History events) = codes "history" ∷ decimal events ∷ []

abbrev pub claim_words : Claim → List (List ℕ)
claim_words claim = if claim.negated then codes "not" ∷ fact_words claim.fact else fact_words claim.fact

-- ---- reading

-- a fact about one number
abbrev pub about : (ℕ → Fact) → Option ℕ → List (List ℕ) → Option (Fact × List (List ℕ))
about fact None rest = None
about fact (Some number) rest = Some (fact number, rest)

abbrev pub decided_value : Option ℕ → Option ℕ → List (List ℕ) → Option (Fact × List (List ℕ))
decided_value None value rest = None
decided_value (Some process) None rest = None
decided_value (Some process) (Some value) rest = Some (Decided process value, rest)

abbrev pub decided_fact : Option ℕ → List (List ℕ) → Option (Fact × List (List ℕ))
decided_fact process [] = None
decided_fact process (value ∷ rest) = decided_value process (number_within 0 4294967295 value) rest

-- the input that a word says: a value, or `none`
abbrev pub input_in : List ℕ → Option (Option ℕ)
input_in word = if bytes_eq word (codes "none") then Some None else option_map (λ value. Some value) (number_within 0 4294967295 word)

abbrev pub input_value : Option ℕ → Option (Option ℕ) → List (List ℕ) → Option (Fact × List (List ℕ))
input_value None input rest = None
input_value (Some process) None rest = None
input_value (Some process) (Some input) rest = Some (Input process input, rest)

abbrev pub input_fact : Option ℕ → List (List ℕ) → Option (Fact × List (List ℕ))
input_fact process [] = None
input_fact process (word ∷ rest) = input_value process (input_in word) rest

abbrev pub simulator_value : Option ℕ → Option ℕ → List (List ℕ) → Option (Fact × List (List ℕ))
simulator_value None value rest = None
simulator_value (Some simulator) None rest = None
simulator_value (Some simulator) (Some value) rest = Some (SimulatorDecided simulator value, rest)

-- after `simulator` and its number comes `decided`
abbrev pub simulator_fact : Option ℕ → List (List ℕ) → Option (Fact × List (List ℕ))
simulator_fact simulator [] = None
simulator_fact simulator (word ∷ []) = None
simulator_fact simulator (word ∷ value ∷ rest) = if bytes_eq word (codes "decided") then simulator_value simulator (number_within 0 4294967295 value) rest else None

-- the fact of this word and number, with the words after it
abbrev pub fact_of : List ℕ → List ℕ → List (List ℕ) → Option (Fact × List (List ℕ))
fact_of word number rest =
    if bytes_eq word (codes "decided") then decided_fact (number_within 0 255 number) rest
    else if bytes_eq word (codes "simulator") then simulator_fact (number_within 0 255 number) rest
    else if bytes_eq word (codes "input") then input_fact (number_within 0 255 number) rest
    else if bytes_eq word (codes "spent") then about Spent (number_within 0 255 number) rest
    else if bytes_eq word (codes "held") then about Held (number_within 0 255 number) rest
    else if bytes_eq word (codes "going") then about Going (number_within 0 255 number) rest
    else if bytes_eq word (codes "crashed") then about Crashed (number_within 0 255 number) rest
    else if bytes_eq word (codes "history") then about History (number_within 0 4294967295 number) rest
    else None

-- the fact with which the words begin, and the words after it
abbrev pub fact_in : List (List ℕ) → Option (Fact × List (List ℕ))
fact_in [] = None
fact_in (word ∷ []) = None
fact_in (word ∷ number ∷ rest) = fact_of word number rest

abbrev pub claim_with : Joint → Bool → Option (Fact × List (List ℕ)) → Option (Claim × List (List ℕ))
claim_with joint negated None = None
claim_with joint negated (Some (fact, rest)) = Some (record { joint = joint; negated = negated; fact = fact }, rest)

-- the claim with which the words begin, and the words after it
abbrev pub claim_in : Joint → List (List ℕ) → Option (Claim × List (List ℕ))
claim_in joint [] = None
claim_in joint (word ∷ rest) = if bytes_eq word (codes "not") then claim_with joint true (fact_in rest) else claim_with joint false (fact_in (word ∷ rest))

abbrev pub joint_of : List ℕ → Option Joint
joint_of word = if bytes_eq word (codes "and") then Some And else if bytes_eq word (codes "or") then Some Or else None

abbrev pub before_more : Claim → Result (List Claim) GoalFault → Result (List Claim) GoalFault
before_more claim (Ok claims) = Ok (claim ∷ claims)
before_more claim (Err fault) = Err fault

-- what the words after a joint say, or the fault if there is none after the claim of this number
abbrev pub after_joint : (Joint → List (List ℕ) → Result (List Claim) GoalFault) → ℕ → Option Joint → List (List ℕ) → Result (List Claim) GoalFault
after_joint more number None words = Err (NoJoint number)
after_joint more number (Some joint) words = more joint words

abbrev pub after_claim : (Joint → List (List ℕ) → Result (List Claim) GoalFault) → ℕ → Option (Claim × List (List ℕ)) → Result (List Claim) GoalFault
after_claim more number None = Err (NoClaim number)
after_claim more number (Some (claim, [])) = Ok (claim ∷ [])
after_claim more number (Some (claim, word ∷ words)) = before_more claim (after_joint more number (joint_of word) words)

-- the claims that these words say, of which the first has this number, or the first fault; in at most this many claims
unfoldable pub goal_from : ℕ → ℕ → Joint → List (List ℕ) → Result (List Claim) GoalFault
goal_from zero number joint words = Err (NoClaim number)
goal_from (suc most) number joint words = after_claim (goal_from most (number + 1)) number (claim_in joint words)

-- the goal that a text says, with one space between its words, or its first fault; it has no more claims than bytes
abbrev pub goal_in : List ℕ → Result (List Claim) GoalFault
goal_in text = goal_from (suc (length text)) 1 Or (fields_of text)

-- the forms that a goal may have, for people
abbrev pub goal_forms : List ℕ
goal_forms =
    codes "    a goal is, for example, `held 0 and not decided 1 3 or crashed 0`\n"
    ++ (codes "    expected in a claim: `decided J V`, `spent J`, `held J`, `going J`, `input J V`, `input J none`, `crashed I`, `simulator I decided V` or `history E`, or one of these after `not`\n"
    ++ codes "    between two words is one space\n")
