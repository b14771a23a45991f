-- A task of one's own that is in a file.
use Rattle.std.specs.Prelude.{ℕ, ◌==◌, List, Option, Some, map, if◌then◌else◌}
use Rattle.std.specs.Borrow.{Bor}
use Rattle.bgview.specs.declared.request.OfInput.{OfInput}
use Rattle.bgview.specs.declared.request.OfInput.TheVariants.{Live, Whole}
use Rattle.bgview.specs.declared.request.Request.{Request}
use Rattle.bgview.specs.declared.request.Request.TheVariants.{Why, Trace, Draw, Page, Transcript, Grade, Sample, Outcomes, Open, Lint}

-- what ends a line of the file is a semicolon in the text of a task
abbrev pub ended_by_semicolon : ℕ → ℕ
ended_by_semicolon byte = if byte == 10 then 59 else byte

abbrev pub task_text : List ℕ → List ℕ
task_text file = map ended_by_semicolon file

-- the same request with this task of one's own
abbrev pub request_by : Option (Bor (List ℕ)) → Request → Request
request_by keeps (Why explaining) = Why (record explaining { keeps = keeps })
request_by keeps (Trace json) = Trace json
request_by keeps (Draw style) = Draw style
request_by keeps (Page paging) = Page (record paging { keeps = keeps })
request_by keeps Transcript = Transcript
request_by keeps (Grade grading) = Grade (record grading { keeps = keeps })
request_by keeps (Sample sampling) = Sample (record sampling { keeps = keeps })
request_by keeps (Outcomes searching) = Outcomes (record searching { keeps = keeps })
request_by keeps (Open searching) = Open (record searching { keeps = keeps })
request_by keeps (Lint json) = Lint json

abbrev pub judged_by : Bor (List ℕ) → OfInput → OfInput
judged_by task Live = Live
judged_by task (Whole request) = Whole (request_by (Some task) request)
