-- The lines of reports.
use Rattle.std.specs.Prelude.{◌≡◌, ℕ, List, ◌++◌, length, map, slice_index_or, codes, decimal}
use Rattle.std.specs.List.{concat, flat_map, range_with_len}
use Rattle.io_text.specs.Numbers.{numbers_text}
use Rattle.transcript.specs.declared.event.Event.{Event}
use Rattle.transcript.specs.Grammar.{event_line}
use Rattle.ws_history.specs.declared.states.ProcessState.{ProcessState}
use Rattle.ws_history.specs.declared.states.ProcessState.TheVariants.{Decided, Spent, Held, Going}
use Rattle.ws_history.specs.declared.states.Report.{Report as ReportData}

abbrev pub state_text : ProcessState → List ℕ
state_text (Decided value) = codes "decided " ++ decimal value
state_text Spent = codes "spent"
state_text (Held sim) = codes "held " ++ decimal sim
state_text Going = codes "going"

abbrev pub process_line : List ℕ → ℕ → ProcessState → List ℕ
process_line name process state = name ++ (codes " process " ++ (decimal process ++ (codes " " ++ (state_text state ++ codes "\n"))))

abbrev pub process_lines : List ℕ → List ProcessState → List ℕ
process_lines name states = concat (map (λ process. process_line name process (slice_index_or states process Going)) (range_with_len 0 (length states)))

abbrev pub event_lines : List ℕ → List Event → List ℕ
event_lines name events = flat_map (λ event. event_line name event ++ codes "\n") events

abbrev pub report_text : List ℕ → ReportData → List ℕ
report_text name report =
    (name ++ codes " report\n")
    ++ (process_lines name report.states.items
    ++ ((name ++ (codes " crashed" ++ (numbers_text report.crashed.items ++ codes "\n")))
    ++ ((name ++ (codes " history " ++ (decimal (length report.history) ++ codes "\n"))) ++ (event_lines name report.history ++ (name ++ codes " end\n")))))

-- the name, the lines of these events under it, and the number of the events
pub record KeepsLines (own text : List ℕ) (count : ℕ) (name : List ℕ) (events : List Event) : Type 0 where
  pub own_is : own ≡ name
  pub lines : text ≡ event_lines name events
  pub count_is : count ≡ length events
