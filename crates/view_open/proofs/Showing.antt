-- What is shown and noted of a command.
use Rattle.std.proofs.Common.{◌≡◌, ◌∙◌, ◌++◌, ◌∷◌, ◌&&◌, ℕ, Bool, true, false, List, [], refl, sym, subst, ap, append_assoc, if◌then◌else◌}
use Rattle.std.specs.Prelude.{Option, None, Some, Result, Ok, Err, OnOk, IfSome}
use Rattle.json_lines.specs.Lines.{json_line}
use Rattle.room_spec.specs.Rooms.{RoomSpec}
use Rattle.run_search.specs.Outcomes.{Ends}
use Rattle.room_core.specs.Calls.{RoomState}
use Rattle.room_search.specs.declared.beginning.Act.{Act}
use Rattle.service_core.specs.Rooms.{Entries}
use Rattle.view_open.specs.Json.{open_data}
use Rattle.view_open.specs.Logs.{Noted, acts_after, acts_of, known_before, known_if, known_of}
use Rattle.view_open.specs.Open.{IsFoundOpen, crashes_for, is_complete, known_in}
use Rattle.view_open.specs.Pasts.{AreOf, KeepOthers, acts_kept, known_kept, past_at}
use Rattle.view_open.specs.Texts.{open_notes}
use Rattle.view_open.specs.Watched.{Does, IsNoted, IsPlain, IsSearched, SoFar, Writes, open_shown, plain_shown}
use Rattle.view_open.specs.declared.log.Past.{Past}
use Rattle.view_open.specs.declared.log.Pasts.{Pasts}
use Rattle.view_open.specs.declared.log.What.{What}
use Rattle.view_open.specs.declared.plan.OpenPlan.{OpenPlan}
use Rattle.view_open.specs.declared.searching.Found.{Found}
use Rattle.view_open.specs.declared.watcher.Watcher.{Watcher}
use Rattle.view_open.proofs.Noting.{noted, others_stay}

-- a text in two parts, one after the other
pub in_two : {X E : Type 0} (r : Result X E) (start one other between now : List ℕ) → between ≡ start ++ one → OnOk r (now ≡ between ++ other) → OnOk r (now ≡ start ++ (one ++ other))
in_two (Ok x) start one other between now first second = second ∙ ap (λ (t : List ℕ). t ++ other) first ∙ append_assoc start one other
in_two (Err e) start one other between now first second = tt

-- if this text was written and nothing else has changed, the same holds of an equal text
pub written_as : {X E : Type 0} (r : Result X E) (old new : Watcher) (written text : List ℕ) → written ≡ text → new.plan ≡ old.plan → new.pasts ≡ old.pasts → new.well ≡ old.well → OnOk r (new.output ≡ old.output ++ written) → OnOk r (Writes old text new)
written_as (Ok x) old new written text same plan pasts well output = record { plan = plan; pasts = pasts; well = well; output = output ∙ ap (λ (t : List ℕ). old.output ++ t) same }
written_as (Err e) old new written text same plan pasts well output = tt

-- what is written as JSON
pub json_shown : (plan : OpenPlan) (spec : RoomSpec) (words name : List ℕ) (crashes : ℕ) (known : List Ends) (found : Option Found) → plan.json ≡ true → name ≡ spec.name → crashes ≡ crashes_for spec plan.crashes
    → json_line (open_data words name crashes plan.nodes known found) ≡ open_shown plan spec words known found
json_shown plan spec words name crashes known found is_json named crashes_are =
    ap (λ (n : List ℕ). json_line (open_data words n crashes plan.nodes known found)) named ∙ ap (λ (c : ℕ). json_line (open_data words spec.name c plan.nodes known found)) crashes_are
    ∙ ap (λ (b : Bool). if b then json_line (open_data words spec.name (crashes_for spec plan.crashes) plan.nodes known found) else words ++ open_notes plan.nodes known found) (sym is_json)

-- and what is written as text
pub text_shown : (plan : OpenPlan) (spec : RoomSpec) (words : List ℕ) (known : List Ends) (found : Option Found) → plan.json ≡ false → words ++ open_notes plan.nodes known found ≡ open_shown plan spec words known found
text_shown plan spec words known found is_text =
    ap (λ (b : Bool). if b then json_line (open_data words spec.name (crashes_for spec plan.crashes) plan.nodes known found) else words ++ open_notes plan.nodes known found) (sym is_text)

-- no room was changed, and these words were written
pub plain_as : {X E : Type 0} (r : Result X E) (old new : Watcher) (written words : List ℕ) → written ≡ words → OnOk r (Writes old (plain_shown old.plan.json written) new) → OnOk r (Does (λ so_far next. IsPlain so_far words next) old new)
plain_as (Ok x) old new written words same writes = λ so_far keeps.
    let text = plain_shown so_far.plan.json words in
    let text_is : plain_shown old.plan.json written ≡ text = ap (λ (t : List ℕ). plain_shown old.plan.json t) same ∙ ap (λ (p : OpenPlan). plain_shown p.json words) keeps.plan in
    let next : SoFar = record { plan = so_far.plan; log = so_far.log; output = so_far.output ++ text; well = so_far.well } in (
      next,
      record {
        plan = writes.plan ∙ keeps.plan;
        pasts = subst (λ (p : Pasts). AreOf p.rooms.entries so_far.log) (sym writes.pasts) keeps.pasts;
        output = writes.output ∙ ap (λ (t : List ℕ). t ++ plain_shown old.plan.json written) keeps.output ∙ ap (λ (t : List ℕ). so_far.output ++ t) text_is;
        well = writes.well ∙ keeps.well;
      },
      record { plan = refl; log = refl; well = refl; output = refl },
    )
plain_as (Err e) old new written words same writes = tt

pub plain_at : {X E : Type 0} (r : Result X E) (old new : Watcher) (written words : List ℕ) → written ≡ words → OnOk r (Writes old (plain_shown old.plan.json written) new) → OnOk r (Entries → Does (λ so_far next. IsPlain so_far words next) old new)
plain_at {X} {E} (Ok x) old new written words same writes = let goes = plain_as {X = X} {E = E} (Ok x) old new written words same writes in λ rooms. goes
plain_at (Err e) old new written words same writes = tt

-- ---- what comes of a command to a room

abbrev NotesOf : {X E : Type 0} → Result X E → Watcher → List ℕ → List ℕ → Option What → Option RoomState → Watcher → Type 0
NotesOf r old name words what room new = OnOk r (Does (λ so_far next. IsNoted so_far name words what room next) old new)

pub not_changed : {X E : Type 0} (r : Result X E) (old new : Watcher) (name words : List ℕ) (what : Option What) (room : Option RoomState) → what ≡ None → OnOk r (Writes old (plain_shown old.plan.json words) new) → NotesOf r old name words what room new
not_changed r old new name words what room none writes = subst (λ (w : Option What). NotesOf r old name words w room new) (sym none) (plain_as r old new words words refl writes)

pub no_room : {X E : Type 0} (r : Result X E) (old new : Watcher) (name words : List ℕ) (what : Option What) (did : What) (room : Option RoomState) → what ≡ Some did → room ≡ None → OnOk r (Writes old (plain_shown old.plan.json words) new) → NotesOf r old name words what room new
no_room r old new name words what did room is none writes =
    subst (λ (w : Option What). NotesOf r old name words w room new) (sym is) (subst (λ (o : Option RoomState). NotesOf r old name words (Some did) o new) (sym none) (plain_as r old new words words refl writes))

pub in_room : {X E : Type 0} (r : Result X E) (old new : Watcher) (name words : List ℕ) (what : Option What) (did : What) (room : Option RoomState) (state : RoomState) → what ≡ Some did → room ≡ Some state
    → OnOk r (Does (λ so_far next. IsSearched so_far name words did state.spec next) old new) → NotesOf r old name words what room new
in_room r old new name words what did room state is there goes = subst (λ (w : Option What). NotesOf r old name words w room new) (sym is) (subst (λ (o : Option RoomState). NotesOf r old name words (Some did) o new) (sym there) goes)

-- a room was searched: what was found is written, judged and noted
pub searched : {X E : Type 0} (r : Result X E) (old taken shown judged new : Watcher) (name words : List ℕ) (what : What) (spec : RoomSpec) (found : Option Found) (acts : List Act) (known : List Ends) (past : Past)
    → taken.plan ≡ old.plan → taken.output ≡ old.output → taken.well ≡ old.well → KeepOthers old.pasts.rooms.entries name taken.pasts.rooms.entries
    → acts ≡ acts_after (acts_kept (past_at old.pasts.rooms.entries name)) what → known ≡ known_before (known_kept (past_at old.pasts.rooms.entries name)) what
    → IfSome found (IsFoundOpen taken.plan spec acts) → Writes taken (open_shown taken.plan spec words known found) shown
    → judged.plan ≡ shown.plan → judged.pasts ≡ shown.pasts → judged.output ≡ shown.output → judged.well ≡ (shown.well && is_complete found)
    → past.acts.items ≡ acts → past.known.items ≡ known_if known (known_in found)
    → new.plan ≡ judged.plan → new.output ≡ judged.output → new.well ≡ judged.well
    → OnOk r (past_at new.pasts.rooms.entries name ≡ Some past) → OnOk r (KeepOthers judged.pasts.rooms.entries name new.pasts.rooms.entries)
    → OnOk r (Does (λ so_far next. IsSearched so_far name words what spec next) old new)
searched (Ok x) old taken shown judged new name words what spec found acts known past taken_plan taken_output taken_well taken_others acts_are known_are is_found writes judged_plan judged_pasts judged_output judged_well past_acts past_known plan output well own others =
    λ so_far keeps.
    let P : OpenPlan → List Act → Type 0 = λ plan all. IfSome found (IsFoundOpen plan spec all) in
    let note : Noted = record { name = name; what = what; known = known_in found } in
    let before = known_before (known_of name so_far.log) what in
    let text = open_shown so_far.plan spec words before found in
    let old_plan : taken.plan ≡ so_far.plan = taken_plan ∙ keeps.plan in
    let acts_so : acts ≡ acts_after (acts_of name so_far.log) what = acts_are ∙ ap (λ (all : List Act). acts_after all what) (keeps.pasts.acts name) in
    let known_so : known ≡ before = known_are ∙ ap (λ (all : List Ends). known_before all what) (keeps.pasts.known name) in
    let text_is : open_shown taken.plan spec words known found ≡ text = ap (λ (p : OpenPlan). open_shown p spec words known found) old_plan ∙ ap (λ (k : List Ends). open_shown so_far.plan spec words k found) known_so in
    let kept = subst (λ (p : Pasts). KeepOthers old.pasts.rooms.entries name p.rooms.entries) (sym (judged_pasts ∙ writes.pasts)) taken_others in
    let next : SoFar = record { plan = so_far.plan; log = so_far.log ++ note ∷ []; output = so_far.output ++ text; well = so_far.well && is_complete found } in (
      next,
      record {
        plan = plan ∙ judged_plan ∙ writes.plan ∙ old_plan;
        pasts =
            noted old.pasts.rooms.entries new.pasts.rooms.entries so_far.log note past keeps.pasts own (past_acts ∙ acts_are) (past_known ∙ ap (λ (k : List Ends). known_if k (known_in found)) known_are)
            (others_stay old.pasts.rooms.entries judged.pasts.rooms.entries new.pasts.rooms.entries name kept others);
        output = output ∙ judged_output ∙ writes.output ∙ ap (λ (t : List ℕ). t ++ open_shown taken.plan spec words known found) (taken_output ∙ keeps.output) ∙ ap (λ (t : List ℕ). so_far.output ++ t) text_is;
        well = well ∙ judged_well ∙ ap (λ (b : Bool). b && is_complete found) (writes.well ∙ taken_well ∙ keeps.well);
      },
      record {
        found = found;
        is_found = subst (P so_far.plan) acts_so (subst (λ (p : OpenPlan). P p acts) old_plan is_found);
        plan = refl;
        note = note;
        is_note = record { of = refl; what_is = refl; known = refl };
        log = refl;
        well = refl;
        output = refl;
      },
    )
searched (Err e) old taken shown judged new name words what spec found acts known past taken_plan taken_output taken_well taken_others acts_are known_are is_found writes judged_plan judged_pasts judged_output judged_well past_acts past_known plan output well own others = tt
