-- What is said of rooms, one behind the other.
use Rattle.std.proofs.Common.{◌≡◌, ◌∙◌, ℕ, suc, ◌+◌, ◌≤◌, Bool, true, false, ◌&&◌, ◌==◌, List, [], ◌∷◌, ◌++◌, length, map, take, Option, Some, None, refl, sym, ap, subst, arith}
use Rattle.std.specs.Prelude.{slice_get, Result, Ok, Err, IsOk}
use Rattle.std.specs.List.{All, AllByRecursion, flat_map, list_all}
use Rattle.std.proofs.lemmas.Grind.{flat_map-append}
use Rattle.std.proofs.lemmas.List.{append-nil, append_assoc, map_push, take_all}
use Rattle.std.proofs.lemmas.List.Elements.{All-from_recursion, All-nil, All-push, recursion_from_All}
use Rattle.std.proofs.lemmas.List.Folds.{list_all-append}
use Rattle.std.proofs.lemmas.Option.{slice_get_within, get_or_from_slice_get}
use Rattle.std.proofs.Math.Seq.{take-suc}
use Rattle.room_spec.specs.Rooms.{RoomSpec, is_reduction}
use Rattle.transcript.specs.Reductions.{IsFirstBreakOf, IsRunOf}
use Rattle.transcript.specs.declared.event.Event.{Event}
use Rattle.transcript.specs.Runs.{IsFirstBreak, IsRun}
use Rattle.history_checker.specs.Verdicts.{FedEvent, IsTaskAnswer, events_of, fed_to}
use Rattle.history_checker.specs.declared.reason.Reason.{Reason}
use Rattle.history_checker.specs.declared.verdict.Verdict.TheVariants.{Run, Broken}
use Rattle.room_files.specs.Blocks.{Setup}
use Rattle.room_files.specs.Faults.{FaultAt}
use Rattle.room_files.specs.Inputs.{later_events, fed_from}
use Rattle.room_files.specs.Lines.{text_lines}
use Rattle.room_files.specs.Verdicts.{IsJustified, Judged, is_well, outcome_if}
use Rattle.room_files.specs.declared.outcome.Outcome.{Outcome}
use Rattle.fault_text.specs.Refusals.{refusal_line}
use Rattle.view_why.specs.Reported.{IsBreakFor, IsLineBreak, IsReported, IsRunBy, IsRunIn, ReportedRoom, lines_of}
use Rattle.view_why.specs.Verdicts.{IsJustifiedIn, IsTaskAnswerIn, IsVerdictBy, IsVerdictIn}
use Rattle.view_why.specs.Why.{AreOrdinary, Explained, IsExplained, IsExplanation, IsReasonIn, IsRoomSaid, explained_lines, refusals_shown, reported_of, verdict_of}
use Rattle.fault_text.specs.declared.refusals.RefusedBlock.{RefusedBlock}
use Rattle.view_why.specs.declared.reported.LineBreak.{LineBreak}
use Rattle.view_why.proofs.Owning.{judged_as_is}
use Rattle.view_why.proofs.Reporting.{IsFedOn, fed_at}

run_by : (spec : RoomSpec) (fed : List FedEvent) (events : List Event) (reduction : Bool) → events ≡ events_of fed → IsRunBy reduction spec events → IsVerdictBy reduction spec fed Run
run_by spec fed events false is run = subst (IsRun spec) is run
run_by spec fed events true is run = subst (IsRunOf spec) is run

broken_by : (reported : ReportedRoom) (fed : List FedEvent) (broken : LineBreak) (reason : Option Reason) → IsReported fed reported → IsFedOn fed broken.at broken.line → IsBreakFor reported.spec reported.events broken.at reason → IsVerdictIn reported.spec fed (Broken broken.line)
broken_by reported fed broken None is on first =
    subst (λ (reduction : Bool). IsVerdictBy reduction reported.spec fed (Broken broken.line)) (sym first.0)
    (record { place = broken.at; first = subst (λ (events : List Event). IsFirstBreakOf reported.spec events broken.at) is.0 first.1; one = on.one; there = on.there; line_is = on.line_is })
broken_by reported fed broken (Some reason) is on first =
    subst (λ (reduction : Bool). IsVerdictBy reduction reported.spec fed (Broken broken.line)) (sym first.0)
    (record { place = broken.at; first = subst (λ (events : List Event). IsFirstBreak reported.spec events broken.at) is.0 first.1.first; one = on.one; there = on.there; line_is = on.line_is })

-- the verdict of a room's break
pub is_verdict : (reported : ReportedRoom) (fed : List FedEvent) (reason : Result (Unit {0}) LineBreak) → IsReported fed reported → (IsOk reason → IsRunIn reported.spec reported.events) → ((broken : LineBreak) → reason ≡ Err broken → IsLineBreak reported broken)
    → IsVerdictIn reported.spec fed (verdict_of reason)
is_verdict reported fed (Ok run) is runs breaks = run_by reported.spec fed reported.events (is_reduction reported.spec) is.0 (runs refl)
is_verdict reported fed (Err broken) is runs breaks =
    let breaks_there = breaks broken refl in
    let on = fed_at fed broken.at broken.line (subst (λ (lines : List ℕ). slice_get lines broken.at ≡ Some broken.line) is.1 breaks_there.line) in
    broken_by reported fed broken broken.reason is on breaks_there.first

-- what is reported of a room, by what was fed
pub reported_is : (reported : ReportedRoom) (fed : List FedEvent) → IsReported fed reported → reported ≡ record { spec = reported.spec; events = events_of fed; lines = lines_of fed }
reported_is reported fed is =
    ap (λ (events : List Event). record { spec = reported.spec; events = events; lines = reported.lines }) is.0
    ∙ ap (λ (lines : List ℕ). record { spec = reported.spec; events = events_of fed; lines = lines }) is.1

-- ---- one room behind the other

-- what is said of the first rooms stands behind what is said of the refused blocks
abbrev pub SoFar : Bool → List RoomSpec → List ℕ → List ℕ → List FedEvent → ℕ → List ℕ → Bool → Type 0
SoFar json rooms start refused fed count output well =
    (all : List Explained)
    × (map (λ one. one.judged.room) all ≡ take count rooms)
    × All (IsExplained json fed) all
    × (output ≡ start ++ flat_map (explained_lines json) all)
    × (well ≡ ((length refused == 0) && list_all (λ one. is_well one.verdict one.task) (map (λ one. one.judged) all)))

and_true : (b : Bool) → b ≡ (b && true)
and_true true = refl
and_true false = refl

and_assoc : (a b c : Bool) → ((a && b) && c) ≡ (a && (b && c))
and_assoc true b c = refl
and_assoc false b c = refl

pub none_yet : (json : Bool) (rooms : List RoomSpec) (start refused : List ℕ) (fed : List FedEvent) (well : Bool) → well ≡ (length refused == 0) → SoFar json rooms start refused fed 0 start well
none_yet json rooms start refused fed well is = ([], refl, All-nil (IsExplained json fed), sym (append-nil start), is ∙ and_true (length refused == 0))

well_more : (all : List Explained) (one : Explained) → (list_all (λ (o : Judged). is_well o.verdict o.task) (map (λ (o : Explained). o.judged) all) && is_well one.judged.verdict one.judged.task)
    ≡ list_all (λ (o : Judged). is_well o.verdict o.task) (map (λ (o : Explained). o.judged) (all ++ one ∷ []))
well_more all one =
    let test = λ (o : Judged). is_well o.verdict o.task in
    let judged = map (λ (o : Explained). o.judged) all in
    ap (λ w. list_all test judged && w) (and_true (test one.judged)) ∙ sym (list_all-append test judged (one.judged ∷ [])) ∙ ap (list_all test) (sym (map_push (λ (o : Explained). o.judged) all one))

pub one_more : (json : Bool) (rooms : List RoomSpec) (start refused : List ℕ) (fed : List FedEvent) (count : ℕ) (output : List ℕ) (well : Bool) (room : RoomSpec) (output_now : List ℕ) (well_now : Bool)
    → SoFar json rooms start refused fed count output well → slice_get rooms count ≡ Some room → IsRoomSaid json room (fed_to room.name fed) output output_now well_now → SoFar json rooms start refused fed (count + 1) output_now (well && well_now)
one_more json rooms start refused fed count output well room output_now well_now so_far there said =
    let all = so_far.0 in
    let one = said.one in
    let within = slice_get_within rooms count room there in
    let plus : count + 1 ≡ suc count = omega arith in
    let next : take (count + 1) rooms ≡ take count rooms ++ room ∷ [] = ap (λ n. take n rooms) plus ∙ take-suc rooms count room within ∙ ap (λ r. take count rooms ++ r ∷ []) (get_or_from_slice_get rooms count room room there) in
    let P : RoomSpec → Type 0 = λ (r : RoomSpec). (IsVerdictIn r (fed_to r.name fed) one.judged.verdict × IsTaskAnswerIn r (fed_to r.name fed) one.judged.task) × IsReasonIn json (reported_of r fed) one.judged.verdict one.judged.task one.notes in
    let explained : IsExplained json fed one = subst P (sym said.room) ((said.verdict, said.task), said.because) in (
      all ++ one ∷ [],
      map_push (λ (o : Explained). o.judged.room) all one ∙ ap (λ rs. rs ++ one.judged.room ∷ []) so_far.1 ∙ ap (λ r. take count rooms ++ r ∷ []) said.room ∙ sym next,
      All-push (IsExplained json fed) all one so_far.2 explained,
      said.written ∙ ap (λ o. o ++ explained_lines json one) so_far.3 ∙ append_assoc start (flat_map (explained_lines json) all) (explained_lines json one)
          ∙ ap (λ o. start ++ (flat_map (explained_lines json) all ++ o)) (sym (append-nil (explained_lines json one))) ∙ ap (λ o. start ++ o) (sym (flat_map-append (explained_lines json) all (one ∷ []))),
      ap (λ w. well && w) said.well_is ∙ ap (λ w. w && is_well one.judged.verdict one.judged.task) so_far.4
          ∙ and_assoc (length refused == 0) (list_all (λ (o : Judged). is_well o.verdict o.task) (map (λ (o : Explained). o.judged) all)) (is_well one.judged.verdict one.judged.task)
          ∙ ap (λ w. (length refused == 0) && w) (well_more all one),
    )

rooms_judged : (all : List Explained) → map (λ (one : Judged). one.room) (map (λ (one : Explained). one.judged) all) ≡ map (λ (one : Explained). one.judged.room) all
rooms_judged [] = refl
rooms_judged (one ∷ all) = ap (λ rooms. one.judged.room ∷ rooms) (rooms_judged all)

-- the verdicts on an ordinary room are those of `check`
ordinary_justified : (fed : List FedEvent) (one : Judged) → is_reduction one.room ≡ false → IsJustifiedIn fed one → IsJustified fed one
ordinary_justified fed one ordinary is = (
  subst (λ (reduction : Bool). IsVerdictBy reduction one.room (fed_to one.room.name fed) one.verdict) ordinary is.0,
  subst (λ (spec : RoomSpec). IsTaskAnswer spec (fed_to one.room.name fed) one.task) (judged_as_is one.room ordinary) is.1,
)

justified_each : (json : Bool) (fed : List FedEvent) (all : List Explained) → AllByRecursion (λ (room : RoomSpec). is_reduction room ≡ false) (map (λ (one : Explained). one.judged.room) all) → AllByRecursion (IsExplained json fed) all
    → AllByRecursion (IsJustified fed) (map (λ (one : Explained). one.judged) all)
justified_each json fed [] ordinary each = tt
justified_each json fed (one ∷ all) ordinary each = (ordinary_justified fed one.judged ordinary.0 each.0.0, justified_each json fed all ordinary.1 each.1)

all_justified : (json : Bool) (fed : List FedEvent) (all : List Explained) → AreOrdinary (map (λ (one : Explained). one.judged.room) all) → All (IsExplained json fed) all → All (IsJustified fed) (map (λ (one : Explained). one.judged) all)
all_justified json fed all ordinary each =
    let is_ordinary = λ (room : RoomSpec). is_reduction room ≡ false in
    All-from_recursion (IsJustified fed) (map (λ (one : Explained). one.judged) all)
    (justified_each json fed all (recursion_from_All is_ordinary (map (λ (one : Explained). one.judged.room) all) ordinary) (recursion_from_All (IsExplained json fed) all each))

pub all_said : (json : Bool) (input : List ℕ) (refusals : List RefusedBlock) (rooms : List RoomSpec) (fed : List FedEvent) (count : ℕ) (output : List ℕ) (well : Bool) (outcome : Outcome) → length rooms ≤ count → outcome ≡ outcome_if well → SoFar json rooms (refusals_shown json input refusals) (flat_map refusal_line refusals) fed count output well
    → IsExplanation json input rooms (flat_map refusal_line refusals) fed outcome output
all_said json input refusals rooms fed count output well outcome all_of outcome_is so_far = record {
  refusals = refusals;
  refused_are = refl;
  all = so_far.0;
  each_room = so_far.1 ∙ take_all count rooms all_of;
  explained = so_far.2;
  output_is = so_far.3;
  outcome_is = outcome_is ∙ ap outcome_if so_far.4;
  checked = λ ordinary. record {
    all = map (λ (one : Explained). one.judged) so_far.0;
    each_room = rooms_judged so_far.0 ∙ so_far.1 ∙ take_all count rooms all_of;
    justified = all_justified json fed so_far.0 (subst AreOrdinary (sym (so_far.1 ∙ take_all count rooms all_of)) ordinary) so_far.2;
    output_is = refl;
    outcome_is = outcome_is ∙ ap outcome_if so_far.4;
  };
}

-- what an input says whose blocks and events were read
pub says : (read : Result (Setup × List ℕ) FaultAt) (setup : Setup) (transcript : List ℕ) (fed : List FedEvent) → read ≡ Ok (setup, transcript) → fed_from setup.rooms [] setup.line (text_lines transcript) ≡ Ok fed
    → later_events read ≡ Ok (setup, fed)
says read setup transcript fed is fed_is = rw (is, fed_is) refl
