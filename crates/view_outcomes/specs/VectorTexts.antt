-- What is written of a room whose task is judged with many vectors of inputs.
use Rattle.std.specs.Prelude.{ℕ, Bool, true, false, List, ◌∷◌, ◌++◌, codes, decimal}
use Rattle.io_text.specs.Numbers.{numbers_text}
use Rattle.input_vectors.specs.Lines.{vector_words, vectors_line}
use Rattle.transcript.specs.declared.event.Event.{Event}
use Rattle.run_search.specs.declared.judging.Judgement.{Judgement}
use Rattle.run_search.specs.declared.judging.Judgement.TheVariants.{Kept, Broken}
use Rattle.view_outcomes.specs.Texts.{advice, transcript_text, unfinished_line}

abbrev pub kept_words : ℕ → List ℕ
kept_words nodes = codes " task holds in every run:" ++ ((32 ∷ decimal nodes) ++ codes " nodes searched\n")

-- a run that breaks the task follows, unless it is left out; its block has the vector on its line of inputs
abbrev pub broken_words : Bool → List ℕ → List ℕ → List Event → List ℕ
broken_words true name block events = codes " task broken\n"
broken_words false name block events = codes " task broken by this run:\n" ++ transcript_text name block events

abbrev pub verdict_words : Bool → List ℕ → List ℕ → Judgement → List ℕ
verdict_words brief name block (Kept nodes) = kept_words nodes
verdict_words brief name block (Broken events) = broken_words brief name block events.items

-- what a vector is judged to be
abbrev pub vector_text : Bool → List ℕ → List ℕ → List ℕ → Judgement → List ℕ
vector_text brief name inputs block judgement = vector_words name inputs ++ verdict_words brief name block judgement

-- no run that was searched breaks the task
abbrev pub vector_unjudged_line : List ℕ → List ℕ → ℕ → List ℕ
vector_unjudged_line name inputs limit = vector_words name inputs ++ (codes " task holds so far, " ++ unfinished_line limit advice)

-- for how many of how many vectors each run keeps the task
abbrev pub kept_in_runs : List ℕ → ℕ → ℕ → List ℕ
kept_in_runs name kept count = vectors_line name (codes " task holds in every run for") kept count

-- what is said of a reduction from these inputs begins so
abbrev pub agreed_line : List ℕ → List ℕ → List ℕ
agreed_line name inputs = (name ++ codes " from the inputs") ++ (numbers_text inputs ++ codes ":\n")
