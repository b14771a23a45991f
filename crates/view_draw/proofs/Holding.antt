-- Each process that a report says is held is seen to be held in the picture.
use Rattle.std.proofs.Common.{◌≡◌, ◌∙◌, ◌⊎◌, inl, inr, ℕ, zero, suc, ◌+◌, ◌<◌, ◌≤◌, ◌&&◌, Bool, true, false, cond, List, [], ◌∷◌, ◌++◌, Option, Some, None, ap, get_or, is_none, length, map, refl, subst, sym, arith, true≢false}
use Rattle.std.specs.Prelude.{⊤}
use Rattle.std.specs.List.{AllByRecursion, range_with_len}
use Rattle.std.specs.Str.{bytes_eq}
use Rattle.std.proofs.lemmas.Bool.{and_parts}
use Rattle.std.proofs.lemmas.Slice.Eq.{bytes_eq-Decides}
use Rattle.room_spec.specs.Rooms.{IsWithinLimits, processes}
use Rattle.room_core.specs.Calls.{RoomState, configuration_of}
use Rattle.room_core.specs.Fields.{Fields}
use Rattle.room_core.specs.Reading.{AreFieldsOf}
use Rattle.ws_history.specs.Reports.{report_of, state_of}
use Rattle.ws_history.specs.declared.states.ProcessState.{ProcessState}
use Rattle.ws_history.specs.declared.states.ProcessState.TheVariants.{Going, Held}
use Rattle.ws_history.specs.declared.states.Report.{Report as ReportData}
use Rattle.service_core.specs.Replies.{OpenRoom}
use Rattle.service_core.specs.Rooms.{Entries, IsStateOf, room_at}
use Rattle.simulator_lanes.specs.Panels.{Panel, states_in}
use Rattle.simulator_lanes.specs.Unsafe.{IsHatchedAt}
use Rattle.simulator_lanes.proofs.CallerLemmas.{hatched_to_the_end}
use Rattle.run_columns.specs.declared.mark.Mark.{Mark}
use Rattle.view_draw.specs.Drawn.{AreFinished, HasComeTo, IsPlace, IsReportAt, changed_at, finished, is_of, noted, with_report}
use Rattle.view_draw.specs.Held.{IsSeenHolding, ShowsHeld}
use Rattle.view_draw.proofs.Entering.{HasEntered}
use Rattle.view_draw.proofs.Indexing.{apart, finished_there, more_marks}
use Rattle.view_draw.proofs.Lives.{IsLife, fields_of, held_entered, interleaved}
use Rattle.view_draw.proofs.Places.{place_aside, place_gone, place_pushed}

-- ---- one room

-- the panel of an open room has what happened in it
pub record IsPanelOf (core : RoomState) (panel : Panel) : Type 0 where
  pub spec : core.spec ≡ panel.head.spec
  pub limits : IsWithinLimits core.spec
  pub life : IsLife panel.marks (configuration_of core)

pub fields_behind : (core : RoomState) (panel : Panel) → IsPanelOf core panel → (fields : Fields) × AreFieldsOf core fields
fields_behind core panel is = fields_of core (interleaved panel.marks (configuration_of core) is.life)

seen_holding : (marks : List Mark) (process simulator : ℕ) → HasEntered simulator process true marks → IsSeenHolding marks process simulator
seen_holding marks process simulator has = record {
  before = has.before;
  entry = has.entry;
  since = has.since;
  marks_are = has.marks_are;
  enters = has.enters;
  by = has.by;
  on = has.on;
  stays = has.stays;
  crashes = has.crashes refl;
  hatched = λ grid place few from to.
      subst (λ (all : List Mark). IsHatchedAt grid all simulator place) (sym has.marks_are)
      (hatched_to_the_end grid simulator has.before has.since has.entry has.enters has.by has.stays
      (subst (λ (all : List Mark). length all ≤ 400) has.marks_are few) place from (subst (λ (all : List Mark). place < length all) has.marks_are to));
}

state_there : (f : ℕ → ProcessState) (a n j i : ℕ) → get_or (map f (range_with_len a n)) j Going ≡ Held i → f (a + j) ≡ Held i
state_there f a zero j i is = absurd cc
state_there f a (suc n) zero i is = let here : a ≡ a + zero = omega arith in subst (λ (k : ℕ). f k ≡ Held i) here is
state_there f a (suc n) (suc j) i is = let there : a + 1 + j ≡ a + suc j = omega arith in subst (λ (k : ℕ). f k ≡ Held i) there (state_there f (a + 1) n j i is)

report_shown : (core : RoomState) (panel : Panel) (report : ReportData) (fields : Fields) → IsPanelOf core panel → AreFieldsOf core fields → report ≡ report_of core.spec fields → ShowsHeld (with_report report panel)
report_shown core panel report fields is are same process simulator held =
    let states : report.states.items ≡ map (state_of core.spec fields) (range_with_len 0 (processes core.spec)) = ap (λ (r : ReportData). r.states.items) same in
    let at = state_there (state_of core.spec fields) 0 (processes core.spec) process simulator (subst (λ (all : List ProcessState). get_or all process Going ≡ Held simulator) states held) in
    let here : 0 + process ≡ process = omega arith in
    seen_holding panel.marks process simulator (held_entered core fields panel.marks is.limits are is.life process simulator (subst (λ (j : ℕ). state_of core.spec fields j ≡ Held simulator) here at))

pub holds_shown : (rooms : Entries) (name : List ℕ) (core : RoomState) (panel : Panel) (report : ReportData) → room_at rooms name ≡ Some core → IsPanelOf core panel → IsReportAt rooms name report → ShowsHeld (with_report report panel)
holds_shown rooms name core panel report there is reported =
    let some = fields_behind core panel is in
    let room : OpenRoom = record { spec = core.spec; fields = some.0 } in
    let reply = (reported (Some room) (subst (λ (r : Option RoomState). IsStateOf r (Some room)) (sym there) (record { spec = refl; fields = some.1 }))).0 in
    let same : report ≡ report_of core.spec some.0 = cc in
    report_shown core panel report some.0 is some.1 same

-- a room that has no report yet has no states
pub open_shows : (panel : Panel) → panel.report ≡ None → ShowsHeld panel
open_shows panel none process simulator held =
    absurd (let wrong : Going ≡ Held simulator = subst (λ (report : Option ReportData). get_or (states_in report) process Going ≡ Held simulator) none held in cc)

-- ---- the panels of a name

-- exactly one panel is of the room that is open under this name
abbrev pub OneOf : RoomState → List ℕ → List Panel → Type 0
OneOf core name [] = ⊥
OneOf core name (panel ∷ panels) = ((is_of name panel ≡ true) × IsPanelOf core panel × IsPlace None (is_of name) panels) ⊎ ((is_of name panel ≡ false) × OneOf core name panels)

abbrev pub Stands : Option RoomState → List ℕ → List Panel → Type 0
Stands None name panels = IsPlace None (is_of name) panels
Stands (Some core) name panels = OneOf core name panels

pub its_panel : (core : RoomState) (name : List ℕ) (panels : List Panel) → OneOf core name panels → (panel : Panel) × IsPanelOf core panel
its_panel core name [] one = absurd one
its_panel core name (panel ∷ panels) (inl here) = (panel, here.1)
its_panel core name (panel ∷ panels) (inr later) = its_panel core name panels later.1

its_place : (core : RoomState) (name : List ℕ) (panels : List Panel) → OneOf core name panels → (place : ℕ) × IsPlace (Some place) (is_of name) panels
its_place core name [] one = absurd one
its_place core name (panel ∷ panels) (inl here) = (zero, (here.0, here.2))
its_place core name (panel ∷ panels) (inr later) = let rest = its_place core name panels later.1 in (suc rest.0, (later.0, rest.1))

-- ---- a panel more

one_pushed : (core : RoomState) (name : List ℕ) (panels : List Panel) (panel : Panel) → is_of name panel ≡ false → OneOf core name panels → OneOf core name (panels ++ panel ∷ [])
one_pushed core name [] panel other one = absurd one
one_pushed core name (first ∷ panels) panel other (inl here) = inl (here.0, here.1, place_pushed (is_of name) panels panel None other here.2)
one_pushed core name (first ∷ panels) panel other (inr later) = inr (later.0, one_pushed core name panels panel other later.1)

pub stands_pushed : (room : Option RoomState) (name : List ℕ) (panels : List Panel) (panel : Panel) → is_of name panel ≡ false → Stands room name panels → Stands room name (panels ++ panel ∷ [])
stands_pushed None name panels panel other stands = place_pushed (is_of name) panels panel None other stands
stands_pushed (Some core) name panels panel other stands = one_pushed core name panels panel other stands

pub one_first : (core : RoomState) (name : List ℕ) (panels : List Panel) (panel : Panel) → is_of name panel ≡ true → IsPanelOf core panel → IsPlace None (is_of name) panels → OneOf core name (panels ++ panel ∷ [])
one_first core name [] panel own is none = inl (own, is, tt)
one_first core name (first ∷ panels) panel own is none = inr (none.0, one_first core name panels panel own is none.1)

pub all_pushed : (panels : List Panel) (panel : Panel) → AllByRecursion ShowsHeld panels → ShowsHeld panel → AllByRecursion ShowsHeld (panels ++ panel ∷ [])
all_pushed [] panel all shows = (shows, tt)
all_pushed (first ∷ panels) panel all shows = (all.0, all_pushed panels panel all.1 shows)

-- ---- marks more

same_of : (other : List ℕ) (marks : List Mark) (panel : Panel) (b : Bool) → is_of other (cond b (more_marks marks panel) panel) ≡ is_of other panel
same_of other marks panel true = refl
same_of other marks panel false = refl

none_noted : (name other : List ℕ) (marks : List Mark) (panels : List Panel) → IsPlace None (is_of other) panels → IsPlace None (is_of other) (noted name marks panels)
none_noted name other marks [] none = tt
none_noted name other marks (panel ∷ panels) none = (same_of other marks panel (is_of name panel) ∙ none.0, none_noted name other marks panels none.1)

-- from one room to another, with these marks more
abbrev pub Leads : List Mark → Option RoomState → Option RoomState → Type 0
Leads marks None None = ⊤
Leads marks (Some core) (Some later) = (panel : Panel) → IsPanelOf core panel → IsPanelOf later (more_marks marks panel)
Leads marks None (Some later) = ⊥
Leads marks (Some core) None = ⊥

one_noted : (core later : RoomState) (name : List ℕ) (marks : List Mark) → ((panel : Panel) → IsPanelOf core panel → IsPanelOf later (more_marks marks panel)) → (panels : List Panel) → OneOf core name panels → OneOf later name (noted name marks panels)
one_noted core later name marks leads [] one = absurd one
one_noted core later name marks leads (panel ∷ panels) (inl here) =
    inl (
      same_of name marks panel (is_of name panel) ∙ here.0,
      subst (λ (b : Bool). IsPanelOf later (cond b (more_marks marks panel) panel)) (sym here.0) (leads panel here.1),
      none_noted name name marks panels here.2,
    )
one_noted core later name marks leads (panel ∷ panels) (inr later_one) = inr (same_of name marks panel (is_of name panel) ∙ later_one.0, one_noted core later name marks leads panels later_one.1)

pub noted_leads : (name : List ℕ) (marks : List Mark) (room later : Option RoomState) (panels : List Panel) → Leads marks room later → Stands room name panels → Stands later name (noted name marks panels)
noted_leads name marks None None panels leads stands = none_noted name name marks panels stands
noted_leads name marks (Some core) (Some later) panels leads stands = one_noted core later name marks leads panels stands
noted_leads name marks None (Some later) panels leads stands = absurd leads
noted_leads name marks (Some core) None panels leads stands = absurd leads

-- those of another name
one_aside : (core : RoomState) (name other : List ℕ) (marks : List Mark) → bytes_eq other name ≡ false → (panels : List Panel) → OneOf core other panels → OneOf core other (noted name marks panels)
one_aside core name other marks differs [] one = absurd one
one_aside core name other marks differs (panel ∷ panels) (inl here) =
    inl (
      same_of other marks panel (is_of name panel) ∙ here.0,
      subst (λ (b : Bool). IsPanelOf core (cond b (more_marks marks panel) panel)) (sym (apart other name differs panel here.0)) here.1,
      none_noted name other marks panels here.2,
    )
one_aside core name other marks differs (panel ∷ panels) (inr later) = inr (same_of other marks panel (is_of name panel) ∙ later.0, one_aside core name other marks differs panels later.1)

pub noted_aside : (name other : List ℕ) (marks : List Mark) (room : Option RoomState) (panels : List Panel) → bytes_eq other name ≡ false → Stands room other panels → Stands room other (noted name marks panels)
noted_aside name other marks None panels differs stands = none_noted name other marks panels stands
noted_aside name other marks (Some core) panels differs stands = one_aside core name other marks differs panels stands

none_is : {A : Type 0} (o : Option A) → is_none o ≡ true → o ≡ None
none_is None is = refl
none_is (Some x) is = absurd cc

pub all_noted : (name : List ℕ) (marks : List Mark) (panels : List Panel) → AllByRecursion ShowsHeld panels → AllByRecursion ShowsHeld (noted name marks panels)
all_noted name marks [] all = tt
all_noted name marks (panel ∷ panels) all = (by (is_of name panel) refl, all_noted name marks panels all.1)
  where
    by : (b : Bool) → is_of name panel ≡ b → ShowsHeld (cond b (more_marks marks panel) panel)
    by true own = open_shows (more_marks marks panel) (none_is panel.report (and_parts (is_none panel.report) (bytes_eq panel.head.spec.name name) own).0)
    by false other = all.0

-- ---- a room is closed

one_left : (core : RoomState) (name other : List ℕ) (report : ReportData) → bytes_eq name other ≡ false → (panels : List Panel) (place : ℕ) → IsPlace (Some place) (is_of name) panels → OneOf core other panels
    → OneOf core other (changed_at (with_report report) place panels)
one_left core name other report differs [] place here one = absurd here
one_left core name other report differs (panel ∷ panels) zero here (inl own) = absurd (true≢false (sym own.0 ∙ apart name other differs panel here.0))
one_left core name other report differs (panel ∷ panels) zero here (inr later) = inr (refl, later.1)
one_left core name other report differs (panel ∷ panels) (suc place) here (inl own) =
    inl (own.0, own.1, place_aside (is_of other) (is_of name) (with_report report) (λ p. refl) (apart name other differs) panels place None here.1 own.2)
one_left core name other report differs (panel ∷ panels) (suc place) here (inr later) = inr (later.0, one_left core name other report differs panels place here.1 later.1)

all_closed : (core : RoomState) (name : List ℕ) (report : ReportData) → ((panel : Panel) → IsPanelOf core panel → ShowsHeld (with_report report panel)) → (panels : List Panel) (place : ℕ) → IsPlace (Some place) (is_of name) panels
    → OneOf core name panels → AllByRecursion ShowsHeld panels → AllByRecursion ShowsHeld (changed_at (with_report report) place panels)
all_closed core name report shows [] place here one all = absurd here
all_closed core name report shows (panel ∷ panels) zero here (inl own) all = (shows panel own.1, all.1)
all_closed core name report shows (panel ∷ panels) zero here (inr later) all = absurd (true≢false (sym here.0 ∙ later.0))
all_closed core name report shows (panel ∷ panels) (suc place) here (inl own) all = absurd (true≢false (sym own.0 ∙ here.0))
all_closed core name report shows (panel ∷ panels) (suc place) here (inr later) all = (all.0, all_closed core name report shows panels place here.1 later.1 all.1)

-- what is left of the panels when the room of a name is closed
module _ (core : RoomState) (name : List ℕ) (report : ReportData) (panels : List Panel) (one : OneOf core name panels) where
  abbrev place_there : (place : ℕ) × IsPlace (Some place) (is_of name) panels
  place_there = its_place core name panels one

  closed_is : changed_at (with_report report) place_there.0 panels ≡ finished name report panels
  closed_is = sym (finished_there name report panels (Some place_there.0) place_there.1)

  pub none_closed : IsPlace None (is_of name) (finished name report panels)
  none_closed = subst (IsPlace None (is_of name)) closed_is (place_gone (is_of name) (with_report report) (λ panel. refl) panels place_there.0 place_there.1)

  pub others_left : (other : List ℕ) (room : Option RoomState) → bytes_eq name other ≡ false → Stands room other panels → Stands room other (finished name report panels)
  others_left other None differs stands =
      subst (IsPlace None (is_of other)) closed_is (place_aside (is_of other) (is_of name) (with_report report) (λ panel. refl) (apart name other differs) panels place_there.0 None place_there.1 stands)
  others_left other (Some room) differs stands = subst (OneOf room other) closed_is (one_left room name other report differs panels place_there.0 place_there.1 stands)

  pub all_left : ((panel : Panel) → IsPanelOf core panel → ShowsHeld (with_report report panel)) → AllByRecursion ShowsHeld panels → AllByRecursion ShowsHeld (finished name report panels)
  all_left shows all = subst (AllByRecursion ShowsHeld) closed_is (all_closed core name report shows panels place_there.0 place_there.1 one all)

-- ---- the end of a script

-- at most one panel of a list is of the room that is open under a name
abbrev AtMost : Option RoomState → List ℕ → List Panel → Type 0
AtMost None name panels = IsPlace None (is_of name) panels
AtMost (Some core) name panels = IsPlace None (is_of name) panels ⊎ OneOf core name panels

at_most : (room : Option RoomState) (name : List ℕ) (panels : List Panel) → Stands room name panels → AtMost room name panels
at_most None name panels stands = stands
at_most (Some core) name panels stands = inr stands

fewer : (room : Option RoomState) (name : List ℕ) (panel : Panel) (panels : List Panel) → AtMost room name (panel ∷ panels) → AtMost room name panels
fewer None name panel panels most = most.1
fewer (Some core) name panel panels (inl none) = inl none.1
fewer (Some core) name panel panels (inr (inl here)) = inl here.2
fewer (Some core) name panel panels (inr (inr later)) = inr later.1

first_is : (room : Option RoomState) (name : List ℕ) (panel : Panel) (panels : List Panel) → is_of name panel ≡ true → AtMost room name (panel ∷ panels) → (core : RoomState) × (room ≡ Some core) × IsPanelOf core panel
first_is None name panel panels own most = absurd (true≢false (sym own ∙ most.0))
first_is (Some core) name panel panels own (inl none) = absurd (true≢false (sym own ∙ none.0))
first_is (Some core) name panel panels own (inr (inl here)) = (core, refl, here.1)
first_is (Some core) name panel panels own (inr (inr later)) = absurd (true≢false (sym own ∙ later.0))

same_shows : (before after : Panel) → after.marks ≡ before.marks → after.report ≡ before.report → ShowsHeld before → ShowsHeld after
same_shows before after marks report shows process simulator held =
    subst (λ (all : List Mark). IsSeenHolding all process simulator) (sym marks)
    (shows process simulator (subst (λ (r : Option ReportData). get_or (states_in r) process Going ≡ Held simulator) report held))

pub own_name : (panel : Panel) → panel.report ≡ None → is_of panel.head.spec.name panel ≡ true
own_name panel none =
    ap (λ (r : Option ReportData). is_none r && bytes_eq panel.head.spec.name panel.head.spec.name) none
    ∙ (bytes_eq-Decides panel.head.spec.name panel.head.spec.name).1 refl

module _ (rooms left : Entries) (same : (name : List ℕ) → room_at left name ≡ room_at rooms name) where
  finished_by : (before after : Panel) (panels : List Panel) (known report : Option ReportData) → before.report ≡ known → after.report ≡ report → after.marks ≡ before.marks → ShowsHeld before
      → AtMost (room_at rooms before.head.spec.name) before.head.spec.name (before ∷ panels) → HasComeTo left before.head.spec.name known report → ShowsHeld after
  finished_by before after panels (Some known) report was is marks shows most come = same_shows before after marks (is ∙ come ∙ sym was) shows
  finished_by before after panels None None was is marks shows most come = open_shows after is
  finished_by before after panels None (Some report) was is marks shows most come =
      let name = before.head.spec.name in
      let own = first_is (room_at rooms name) name before panels (own_name before was) most in
      same_shows (with_report report before) after marks is (holds_shown left name own.0 before report (same name ∙ own.1) own.2 come)

  all_finished : (panels at_end : List Panel) → ((name : List ℕ) → AtMost (room_at rooms name) name panels) → AllByRecursion ShowsHeld panels → AreFinished left panels at_end → AllByRecursion ShowsHeld at_end
  all_finished [] [] most all are = tt
  all_finished [] (after ∷ afters) most all are = absurd are
  all_finished (before ∷ panels) [] most all are = absurd are
  all_finished (before ∷ panels) (after ∷ afters) most all are = (
    finished_by before after panels before.report after.report refl refl are.0.marks all.0 (most before.head.spec.name) are.0.report,
    all_finished panels afters (λ name. fewer (room_at rooms name) name before panels (most name)) all.1 are.1,
  )

  pub shown_at_end : (panels at_end : List Panel) → ((name : List ℕ) → Stands (room_at rooms name) name panels) → AllByRecursion ShowsHeld panels → AreFinished left panels at_end → AllByRecursion ShowsHeld at_end
  shown_at_end panels at_end stands all are = all_finished panels at_end (λ name. at_most (room_at rooms name) name panels (stands name)) all are
