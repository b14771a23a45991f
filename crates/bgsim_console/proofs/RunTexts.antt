-- The reports of rooms that were run.
use Rattle.std.proofs.Common.{◌≡◌, ◌∙◌, ◌==◌, ◌<◌, ◌⊎◌, List, [], ◌∷◌, ◌++◌, length, ℕ, zero, suc, Result, Ok, Err, refl, sym, ap, ap₂, subst, inl, inr, arith}
use Rattle.std.specs.Prelude.{◌↔◌}
use Rattle.std.proofs.lemmas.Bool.{cases_lt}
use Rattle.std.proofs.lemmas.List.{append_assoc, append-nil}
use Rattle.std.specs.List.{flat_map}
use Rattle.room_core.specs.Calls.{Settle}
use Rattle.room_core.proofs.CallerLemmasOnSpecs.{same_spec}
use Rattle.room_spec.specs.Rooms.{RoomSpec}
use Rattle.scheduler.specs.Results.{AddsRoomRuns, AreRoomRuns, IsRoomRun}
use Rattle.scheduler.specs.declared.rooms.RoomResult.{RoomResult}
use Rattle.scheduler.specs.declared.rooms.RunFault.{RunFault}
use Rattle.scheduler.specs.declared.rooms.RunFault.TheVariants.{Workers}
use Rattle.room_files.specs.Blocks.{Setup}
use Rattle.room_files.specs.Verdicts.{outcome_if}
use Rattle.room_files.specs.declared.outcome.Outcome.{Outcome}
use Rattle.report_text.specs.ReportTexts.{report_text}
use Rattle.bgsim_console.specs.Run.{AddsReports, AreWorkers, IsRunText, report_texts}

-- what was run is a room of the spec
pub own_spec : (spec : RoomSpec) (result : RoomResult) → IsRoomRun spec result → result.core.spec ≡ spec
own_spec spec result run = ap (λ core. core.spec) run.settled ∙ same_spec run.ended Settle ∙ run.same

abbrev pub own_text : RoomResult → List ℕ
own_text result = report_text result.core.spec.name result.report

-- each report stands under its room's own name
pub own_texts : (specs : List RoomSpec) (results : List RoomResult) → AreRoomRuns specs results → flat_map own_text results ≡ report_texts specs results
own_texts [] [] runs = refl
own_texts [] (result ∷ results) runs = absurd runs
own_texts (spec ∷ specs) [] runs = absurd runs
own_texts (spec ∷ specs) (result ∷ results) runs =
    ap₂ (λ (one others : List ℕ). one ++ others) (ap (λ (s : RoomSpec). report_text s.name result.report) (own_spec spec result runs.0)) (own_texts specs results runs.1)

in_range : (workers : ℕ) → ((workers ≡ 0) ⊎ (16 < workers) → ⊥) → AreWorkers workers
in_range zero other = absurd (other (inl refl))
in_range (suc more) other = (
  omega arith,
  elim (cases_lt 16 (suc more)) [
    | inl over ↦ absurd (other (inr over))
    | inr within ↦ within
  ],
)

pub good_workers : {A : Type 0} (workers : ℕ) (result : Result A RunFault) (value : A) → result ≡ Ok value → ((result ≡ Err Workers) ↔ ((workers ≡ 0) ⊎ (16 < workers))) → AreWorkers workers
good_workers workers result value is when = in_range workers (λ bad. let fault : result ≡ Err Workers = when.1 bad in absurd cc)

-- ---- parts

runs_append : (specs more : List RoomSpec) (results others : List RoomResult) → AreRoomRuns specs results → AreRoomRuns more others → AreRoomRuns (specs ++ more) (results ++ others)
runs_append [] more [] others runs later = later
runs_append [] more (result ∷ results) others runs later = absurd runs
runs_append (spec ∷ specs) more [] others runs later = absurd runs
runs_append (spec ∷ specs) more (result ∷ results) others runs later = (runs.0, runs_append specs more results others runs.1 later)

-- all but these last specs have been run: these are the reports of the others
pub record IsRunUpTo (all left : List RoomSpec) (reports : List ℕ) : Type 0 where
  pub done : List RoomSpec
  pub split : all ≡ done ++ left
  pub results : List RoomResult
  pub runs : AreRoomRuns done results
  pub reports_are : reports ≡ flat_map own_text results

abbrev none_run : (all : List RoomSpec) → IsRunUpTo all all []
none_run all = record { done = []; split = refl; results = []; runs = tt; reports_are = refl }

-- what one call of the scheduler added
next_run : (all left part rest : List RoomSpec) (before after : List ℕ) → IsRunUpTo all left before → left ≡ part ++ rest → AddsRoomRuns part (λ results. before ≡ flat_map own_text results) (λ results. after ≡ flat_map own_text results) → IsRunUpTo all rest after
next_run all left part rest before after so_far split added = record {
  done = so_far.done ++ part;
  split = so_far.split ∙ ap (λ (list : List RoomSpec). so_far.done ++ list) split ∙ sym (append_assoc so_far.done part rest);
  results = so_far.results ++ added.0;
  runs = runs_append so_far.done part so_far.results added.0 so_far.runs added.1;
  reports_are = added.2 so_far.results so_far.reports_are;
}

last_run : (all left : List RoomSpec) (reports : List ℕ) → IsRunUpTo all left reports → length left ≡ 0 → AddsReports all [] reports
last_run all [] reports so_far none =
    let is : so_far.done ≡ all = sym (so_far.split ∙ append-nil so_far.done) in
    subst (λ (list : List RoomSpec). AddsReports list [] reports) is (record { results = so_far.results; each_room = so_far.runs; behind = so_far.reports_are ∙ own_texts so_far.done so_far.results so_far.runs })
last_run all (spec ∷ specs) reports so_far none = absurd cc

-- the rooms of the first part are open, and none has run
pub first_open : (all part rest opened : List RoomSpec) (before : List ℕ) → all ≡ part ++ rest → opened ≡ part → before ≡ [] → IsRunUpTo all (opened ++ rest) before
first_open all part rest opened before split are empty =
    subst (IsRunUpTo all (opened ++ rest)) (sym empty) (subst (λ (list : List RoomSpec). IsRunUpTo all list []) (split ∙ ap (λ (list : List RoomSpec). list ++ rest) (sym are)) (none_run all))

-- the rooms that were open have run, and those of the next part are open
pub next_open : (all left part rest opened next : List RoomSpec) (before after : List ℕ) → IsRunUpTo all (opened ++ left) before → left ≡ part ++ rest → next ≡ part → AddsRoomRuns opened (λ results. before ≡ flat_map own_text results) (λ results. after ≡ flat_map own_text results) → IsRunUpTo all (next ++ rest) after
next_open all left part rest opened next before after so_far split are added =
    subst (λ (list : List RoomSpec). IsRunUpTo all list after) (split ∙ ap (λ (list : List RoomSpec). list ++ rest) (sym are)) (next_run all (opened ++ left) opened left before after so_far refl added)

-- the rooms of the last part have run
pub last_open : (all left opened : List RoomSpec) (before after : List ℕ) → IsRunUpTo all (opened ++ left) before → length left ≡ 0 → AddsRoomRuns opened (λ results. before ≡ flat_map own_text results) (λ results. after ≡ flat_map own_text results) → AddsReports all [] after
last_open all left opened before after so_far none added = last_run all left after (next_run all (opened ++ left) opened left before after so_far refl added) none

-- reports after a text
pub adds_after : (specs : List RoomSpec) (before reports after : List ℕ) → AddsReports specs [] reports → after ≡ before ++ reports → AddsReports specs before after
adds_after specs before reports after are after_is = record { results = are.results; each_room = are.each_room; behind = after_is ∙ ap (λ (text : List ℕ). before ++ text) are.behind }

-- ---- the whole

-- the reports of what was run, behind the lines of the refused blocks
pub is_run_text : (rooms : List RoomSpec) (refused : List ℕ) (line : ℕ) (said all : Setup) (specs : List RoomSpec) (start output : List ℕ) (outcome : Outcome)
    → record { rooms = rooms; refused = refused; line = line } ≡ said → said ≡ all → specs ≡ rooms → start ≡ refused → AddsReports specs start output → outcome ≡ outcome_if (length refused == 0) → IsRunText all outcome output
is_run_text rooms refused line said all specs start output outcome said_is all_is specs_is start_is adds outcome_is =
    let rooms_are : rooms ≡ all.rooms = ap (λ (s : Setup). s.rooms) (said_is ∙ all_is) in
    let refused_are : refused ≡ all.refused = ap (λ (s : Setup). s.refused) (said_is ∙ all_is) in
    let own : AddsReports all.rooms start output = subst (λ (list : List RoomSpec). AddsReports list start output) (specs_is ∙ rooms_are) adds in
    record {
      results = own.results;
      each_room = own.each_room;
      output_is = own.behind ∙ ap (λ (text : List ℕ). text ++ report_texts all.rooms own.results) (start_is ∙ refused_are);
      outcome_is = outcome_is ∙ ap (λ (text : List ℕ). outcome_if (length text == 0)) refused_are;
    }
