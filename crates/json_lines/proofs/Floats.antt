-- No number in these values has a fraction.
use Rattle.std.proofs.Common.{◌≡◌, Bool, true, false, ◌||◌, List, [], ◌∷◌, ℕ, Option, Some, None, map, refl, ap, ◌∙◌}
use Rattle.std.specs.Prelude.{if◌then◌else◌}
use Rattle.std.specs.Str.{is_utf8}
use Rattle.serde_json.specs.Data.{Data, null, string}
use Rattle.serde_json.specs.View.{items_of}
use Rattle.serde_json.specs.Written.{has_float, items_have_float}
use Rattle.transcript.specs.declared.event.Event.{Event}
use Rattle.transcript.specs.declared.event.Event.TheVariants.{Write, Snap, Decide}
use Rattle.ws_history.specs.declared.states.ProcessState.{ProcessState}
use Rattle.ws_history.specs.declared.states.ProcessState.TheVariants.{Decided, Spent, Held, Going}
use Rattle.json_lines.specs.Values.{entry_data, event_data, events_data, number_data, numbers_data, process_data, processes_data, row_data, text_data}

pub both : (a b : Bool) → a ≡ false → b ≡ false → (a || b) ≡ false
both a b first rest = ap (λ (x : Bool). x || b) first ∙ rest

-- in a list of values with none
pub items_are : {A : Type 0} (data_of : A → Data) → ((one : A) → has_float (data_of one) ≡ false) → (all : List A) → items_have_float (items_of (map data_of all)) ≡ false
items_are data_of each [] = refl
items_are data_of each (one ∷ all) = both (has_float (data_of one)) (items_have_float (items_of (map data_of all))) (each one) (items_are data_of each all)

text_by : (is : Bool) (bytes : List ℕ) → has_float (if is then string bytes else null) ≡ false
text_by true bytes = refl
text_by false bytes = refl

pub text_is : (bytes : List ℕ) → has_float (text_data bytes) ≡ false
text_is bytes = text_by (is_utf8 bytes) bytes

process_is : (state : ProcessState) → has_float (process_data state) ≡ false
process_is (Decided v) = refl
process_is (Held i) = refl
process_is Spent = refl
process_is Going = refl

pub processes_are : (states : List ProcessState) → has_float (processes_data states) ≡ false
processes_are states = items_are process_data process_is states

entry_is : (entry : Option ℕ) → has_float (entry_data entry) ≡ false
entry_is None = refl
entry_is (Some v) = refl

pub row_is : (row : List (Option ℕ)) → has_float (row_data row) ≡ false
row_is row = items_are entry_data entry_is row

pub event_is : (event : Event) → has_float (event_data event) ≡ false
event_is (Write p v) = refl
event_is (Snap p row) = both (has_float (row_data row.items)) false (row_is row.items) refl
event_is (Decide p v) = refl

pub events_are : (events : List Event) → has_float (events_data events) ≡ false
events_are events = items_are event_data event_is events

pub numbers_are : (numbers : List ℕ) → has_float (numbers_data numbers) ≡ false
numbers_are numbers = items_are number_data (λ n. refl) numbers
