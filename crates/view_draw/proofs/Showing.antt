-- The panels follow their rooms over a script, and show who holds whom.
use Rattle.std.proofs.Common.{◌≡◌, ◌≢◌, ◌∙◌, inl, inr, ℕ, zero, suc, Bool, true, false, cond, leb, ltb, List, [], ◌∷◌, ◌++◌, Option, Some, None, ap, refl, subst, sym, true≢false}
use Rattle.std.specs.List.{AllByRecursion}
use Rattle.std.specs.Str.{bytes_eq}
use Rattle.std.proofs.lemmas.Bool.{cases_Bool, false_from_ne_true, leb-false, lt-ltb}
use Rattle.std.proofs.lemmas.List.{append-nil}
use Rattle.std.proofs.lemmas.Slice.Eq.{bytes_eq-Decides}
use Rattle.simulator.specs.declared.sweep.Ready.{Ready}
use Rattle.simulator.specs.declared.sweep.Ready.TheVariants as ready
use Rattle.room_spec.specs.Rooms.{RoomSpec, IsWithinLimits}
use Rattle.room_core.specs.Calls.{RoomState, Crash as CrashCall, Crashing, Settle as SettleCall, Step as StepCall, configuration_of, crash_reply, has_crashed as has_crashed_there, marked, opening_state, ready_at, reply_when, room_after_crash, room_after_settle, room_after_step, room_when, step_reply}
use Rattle.room_core.specs.Fields.{Fields, crash_reply_in}
use Rattle.room_core.specs.Observing.{Follow, TakenStep, is_stepped, steps_of_steps}
use Rattle.room_core.specs.Reading.{AreFieldsOf}
use Rattle.room_core.specs.declared.reply.CrashReply.{CrashReply}
use Rattle.room_core.specs.declared.reply.CrashReply.TheVariants as crash_replies
use Rattle.room_core.specs.declared.reply.StepReply.{StepReply}
use Rattle.room_core.specs.declared.reply.StepReply.TheVariants.{Stepped, Idle, OutOfTurns, Crashed, NoSimulator}
use Rattle.room_core.proofs.CallerLemmas.{calls_in_fields, opening_data, settling_follows, woken_data}
use Rattle.room_core.proofs.CallerLemmasOnSpecs.{same_spec}
use Rattle.service_core.specs.declared.command.Command.{Command}
use Rattle.service_core.specs.declared.command.Command.TheVariants as commands
use Rattle.service_core.specs.declared.reply.Reply.{Reply}
use Rattle.service_core.specs.declared.reply.Reply.TheVariants as replies
use Rattle.service_core.specs.declared.reply.Refusal.{Refusal}
use Rattle.service_core.specs.declared.reply.Refusal.TheVariants as refusals
use Rattle.service_core.specs.Replies.{OpenRoom, name_in, reply_in, reply_to}
use Rattle.service_core.specs.Rooms.{Applies, Entries, IsRefusal, IsStateOf, core_after, room_at, room_stepped, steps_of}
use Rattle.script_play.proofs.CallerLemmas.{holds_along}
use Rattle.script_play.specs.Following.{AreFollowed, Leaves}
use Rattle.script_play.specs.Play.{Done, Faulty, Replied, Unread, refusal_in}
use Rattle.simulator_lanes.specs.Panels.{Panel}
use Rattle.run_columns.specs.declared.mark.Mark.{Mark}
use Rattle.view_draw.specs.Drawn.{AreFinished, DrawsClosing, DrawsCommand, DrawsOpening, DrawsSteps, DrawsStepsUnless, IsDrawnBy, crash_marks, finished, fresh, is_of, noted}
use Rattle.view_draw.specs.Held.{ShowsHeld}
use Rattle.view_draw.specs.Seen.{AreMarks}
use Rattle.view_draw.proofs.Holding.{IsPanelOf, Leads, OneOf, Stands, all_left, all_noted, all_pushed, fields_behind, holds_shown, its_panel, none_closed, noted_aside, noted_leads, one_first, open_shows, others_left, own_name, shown_at_end, stands_pushed}
use Rattle.view_draw.proofs.Indexing.{apart, more_marks, same_name}
use Rattle.view_draw.proofs.Lives.{IsLife, crashes, lives_on, opens}

-- ---- calls for steps

rest_by : (room : RoomState) (i : ℕ) (absent crashed : Bool) (answer : Ready) → is_stepped (cond absent NoSimulator (cond crashed Crashed (reply_when answer))) ≡ false
    → configuration_of (cond absent room (cond crashed room (room_when answer room i))) ≡ configuration_of room
rest_by room i true crashed answer none = refl
rest_by room i false true answer none = refl
rest_by room i false false ready.Step none = absurd cc
rest_by room i false false ready.Idle none = woken_data room i
rest_by room i false false ready.OutOfTurns none = refl

stepped_is : (reply : StepReply) → is_stepped reply ≡ true → reply ≡ Stepped
stepped_is Stepped is = refl
stepped_is Idle is = absurd cc
stepped_is OutOfTurns is = absurd cc
stepped_is Crashed is = absurd cc
stepped_is NoSimulator is = absurd cc

steps_lead : (room : RoomState) (i count : ℕ) → Follow (configuration_of room) (steps_of_steps room i count) (configuration_of (room_stepped room i count))
steps_lead room i zero = refl
steps_lead room i (suc count) = by (is_stepped (step_reply room i)) refl (steps_lead (room_after_step room i) i count)
  where
    by : (b : Bool) → is_stepped (step_reply room i) ≡ b → Follow (configuration_of (room_after_step room i)) (steps_of_steps (room_after_step room i) i count) (configuration_of (room_stepped (room_after_step room i) i count))
        → Follow (configuration_of room) (cond b ((record { room = room; simulator = i }) ∷ steps_of_steps (room_after_step room i) i count) []) (configuration_of (cond b (room_stepped (room_after_step room i) i count) (room_after_step room i)))
    by true is rest = (refl, stepped_is (step_reply room i) is, rest)
    by false is rest = sym (rest_by room i (leb room.spec.simulators i) (has_crashed_there room i) (ready_at room i) is)

spec_stepped : (room : RoomState) (i count : ℕ) → (room_stepped room i count).spec ≡ room.spec
spec_stepped room i zero = refl
spec_stepped room i (suc count) = by (is_stepped (step_reply room i)) (spec_stepped (room_after_step room i) i count)
  where
    by : (b : Bool) → (room_stepped (room_after_step room i) i count).spec ≡ (room_after_step room i).spec → (cond b (room_stepped (room_after_step room i) i count) (room_after_step room i)).spec ≡ room.spec
    by true later = later ∙ same_spec room (StepCall i)
    by false later = same_spec room (StepCall i)

-- ---- one room

-- it goes on by these steps
steps_on : (core later : RoomState) (taken : List TakenStep) (marks : List Mark) → later.spec ≡ core.spec → AreMarks taken marks → Follow (configuration_of core) taken (configuration_of later)
    → (panel : Panel) → IsPanelOf core panel → IsPanelOf later (more_marks marks panel)
steps_on core later taken marks same are follow panel is = record {
  spec = same ∙ is.spec;
  limits = subst IsWithinLimits (sym same) is.limits;
  life = lives_on taken marks panel.marks (configuration_of core) (configuration_of later) is.limits are follow is.life;
}

leads_by_steps : (name : List ℕ) (sim count : ℕ) (marks : List Mark) (room : Option RoomState) → AreMarks (steps_of room (commands.Step name sim count)) marks → Leads marks room (core_after room (commands.Step name sim count))
leads_by_steps name sim count marks None are = tt
leads_by_steps name sim count marks (Some core) are = steps_on core (room_stepped core sim count) (steps_of_steps core sim count) marks (spec_stepped core sim count) are (steps_lead core sim count)

leads_by_settling : (name : List ℕ) (marks : List Mark) (room : Option RoomState) → AreMarks (steps_of room (commands.Settle name)) marks → Leads marks room (core_after room (commands.Settle name))
leads_by_settling name marks None are = tt
leads_by_settling name marks (Some core) are = steps_on core (room_after_settle core) (steps_of (Some core) (commands.Settle name)) marks (same_spec core SettleCall) are (settling_follows core)

nothing_more : (core : RoomState) (panel : Panel) → IsPanelOf core panel → IsPanelOf core (more_marks [] panel)
nothing_more core panel is = record {
  spec = is.spec;
  limits = is.limits;
  life = subst (λ (marks : List Mark). IsLife marks (configuration_of core)) (sym (append-nil panel.marks)) is.life;
}

abbrev crash_reply_by : RoomState → ℕ → Bool → Bool → Bool → Reply
crash_reply_by core sim below absent crashed = cond below (replies.Crash (cond absent crash_replies.NoSimulator (cond crashed crash_replies.AlreadyCrashed crash_replies.Crashed))) (replies.Refused refusals.NoSimulator)

-- the answer to a crash is the same in the fields
same_crash : (core : RoomState) (fields : Fields) (sim : ℕ) → IsWithinLimits core.spec → AreFieldsOf core fields → crash_reply_in core.spec fields sim ≡ crash_reply core sim
same_crash core fields sim limits are =
    let both : Crashing (crash_reply_in core.spec fields sim) ∷ [] ≡ Crashing (crash_reply core sim) ∷ [] = (calls_in_fields core fields (CrashCall sim ∷ []) limits are).0 in
    cc

-- a crash is drawn if the simulator did crash
crash_on : (core : RoomState) (sim : ℕ) (below absent crashed : Bool) → ltb sim core.spec.simulators ≡ below → leb core.spec.simulators sim ≡ absent → has_crashed_there core sim ≡ crashed → (panel : Panel) → IsPanelOf core panel
    → IsPanelOf (cond absent core (cond crashed core (marked core sim))) (more_marks (crash_marks sim (crash_reply_by core sim below absent crashed)) panel)
crash_on core sim true true crashed less there is panel known = nothing_more core panel known
crash_on core sim false true crashed less there is panel known = nothing_more core panel known
crash_on core sim true false true less there is panel known = nothing_more core panel known
crash_on core sim false false true less there is panel known = nothing_more core panel known
crash_on core sim false false false less there is panel known =
    absurd (true≢false (sym (lt-ltb sim core.spec.simulators (leb-false core.spec.simulators sim there)) ∙ less))
crash_on core sim true false false less there is panel known = record {
  spec = known.spec;
  limits = known.limits;
  life = crashes panel.marks (configuration_of core) sim known.life (record { below = leb-false core.spec.simulators sim there; alive = is });
}

-- ---- all rooms

pub record DoFollow (rooms : Entries) (panels : List Panel) : Type 0 where
  pub stands : (name : List ℕ) → Stands (room_at rooms name) name panels
  pub shows : AllByRecursion ShowsHeld panels

same_rooms : (rooms after : Entries) (panels : List Panel) → ((name : List ℕ) → room_at after name ≡ room_at rooms name) → DoFollow rooms panels → DoFollow after panels
same_rooms rooms after panels same follow = record {
  stands = λ name. subst (λ (room : Option RoomState). Stands room name panels) (sym (same name)) (follow.stands name);
  shows = follow.shows;
}

differs_back : (a b : List ℕ) → bytes_eq a b ≡ false → bytes_eq b a ≡ false
differs_back a b differs = false_from_ne_true (bytes_eq b a) (λ is. true≢false (sym ((bytes_eq-Decides a b).1 (sym (same_name b a is))) ∙ differs))

-- by a name, what is said of the room of a name
by_name : (P : List ℕ → Type 0) (name : List ℕ) → P name → ((other : List ℕ) → bytes_eq other name ≡ false → P other) → (other : List ℕ) → P other
by_name P name own others other = elim (cases_Bool (bytes_eq other name)) [
  | inl is ↦ subst P (sym (same_name other name is)) own
  | inr differs ↦ others other differs
]

data Answered (reply : Reply) : Type 0 where
  refused : (refusal : Refusal) → reply ≡ replies.Refused refusal → Answered reply
  granted : reply ≢ replies.Refused refusals.OutOfMemory → refusal_in reply ≡ None → Answered reply

answered : (reply : Reply) → Answered reply
answered replies.Begun = granted (λ is. absurd cc) refl
answered (replies.Steps taken last) = granted (λ is. absurd cc) refl
answered (replies.Crash reply) = granted (λ is. absurd cc) refl
answered replies.Settled = granted (λ is. absurd cc) refl
answered (replies.Report report) = granted (λ is. absurd cc) refl
answered replies.Closed = granted (λ is. absurd cc) refl
answered (replies.Refused refusal) = refused refusal refl

-- a reply is that of an open room to a command
record IsAsked (command : Command) (reply : Reply) (core : RoomState) : Type 0 where
  fields : Fields
  are : AreFieldsOf core fields
  is : reply ≡ reply_in (record { spec = core.spec; fields = fields }) command

module _ (rooms after : Entries) (panels panels_after : List Panel) (command : Command) (reply : Reply) (applies : Applies rooms command reply after) (follow : DoFollow rooms panels) where
  abbrev here : Option RoomState
  here = room_at rooms (name_in command)

  nothing_changes : (refusal : Refusal) → reply ≡ replies.Refused refusal → panels_after ≡ panels → DoFollow after panels_after
  nothing_changes refusal is same =
      subst (DoFollow after) (sym same) (same_rooms rooms after panels (applies.refused (subst IsRefusal (sym is) tt)) follow)

  -- these marks more
  goes_on : (marks : List Mark) → reply ≢ replies.Refused refusals.OutOfMemory → Leads marks here (core_after here command) → panels_after ≡ noted (name_in command) marks panels → DoFollow after panels_after
  goes_on marks given leads same = subst (DoFollow after) (sym same) (record {
    stands = by_name (λ name. Stands (room_at after name) name (noted (name_in command) marks panels)) (name_in command)
        (subst (λ (room : Option RoomState). Stands room (name_in command) (noted (name_in command) marks panels)) (sym (applies.room given)) (noted_leads (name_in command) marks here (core_after here command) panels leads (follow.stands (name_in command))))
        (λ name differs. subst (λ (room : Option RoomState). Stands room name (noted (name_in command) marks panels)) (sym (applies.others name differs)) (noted_aside (name_in command) name marks (room_at rooms name) panels differs (follow.stands name)));
    shows = all_noted (name_in command) marks panels follow.shows;
  })

  -- it was asked of no room
  to_none : reply ≢ replies.Refused refusals.OutOfMemory → here ≡ None → reply ≡ reply_to None command
  to_none given none = (applies.answer given None (subst (λ (room : Option RoomState). IsStateOf room None) (sym none) tt)).0

  -- or of one
  to_panel : (core : RoomState) (panel : Panel) → reply ≢ replies.Refused refusals.OutOfMemory → here ≡ Some core → IsPanelOf core panel → IsAsked command reply core
  to_panel core panel given there is =
      let some = fields_behind core panel is in
      let room : OpenRoom = record { spec = core.spec; fields = some.0 } in
      record {
        fields = some.0;
        are = some.1;
        is = (applies.answer given (Some room) (subst (λ (r : Option RoomState). IsStateOf r (Some room)) (sym there) (record { spec = refl; fields = some.1 }))).0;
      }

  to_one : (core : RoomState) → reply ≢ replies.Refused refusals.OutOfMemory → here ≡ Some core → IsAsked command reply core
  to_one core given there =
      let panel = its_panel core (name_in command) panels (subst (λ (room : Option RoomState). Stands room (name_in command) panels) there (follow.stands (name_in command))) in
      to_panel core panel.0 given there panel.1

-- ---- each command

unless : (rooms after : Entries) (panels panels_after : List Panel) (command : Command) (reply : Reply) → Applies rooms command reply after → DoFollow rooms panels
    → ((marks : List Mark) → AreMarks (steps_of (room_at rooms (name_in command)) command) marks → Leads marks (room_at rooms (name_in command)) (core_after (room_at rooms (name_in command)) command))
    → DrawsStepsUnless (refusal_in reply) rooms (name_in command) command panels panels_after → DoFollow after panels_after
unless rooms after panels panels_after command reply applies follow leads draws = by (answered reply)
  where
    by : Answered reply → DoFollow after panels_after
    by (refused refusal is) =
        nothing_changes rooms after panels panels_after command reply applies follow refusal is (subst (λ (r : Option Refusal). DrawsStepsUnless r rooms (name_in command) command panels panels_after) (ap refusal_in is) draws)
    by (granted given none) =
        let drawn : DrawsSteps rooms (name_in command) command panels panels_after = subst (λ (r : Option Refusal). DrawsStepsUnless r rooms (name_in command) command panels panels_after) none draws in
        goes_on rooms after panels panels_after command reply applies follow drawn.marks given (leads drawn.marks drawn.are_marks) drawn.drawn

opened : (rooms after : Entries) (panels panels_after : List Panel) (spec : RoomSpec) (reply : Reply) → Applies rooms (commands.Begin spec) reply after → DoFollow rooms panels → DrawsOpening spec reply panels panels_after → DoFollow after panels_after
opened rooms after panels panels_after spec reply applies follow draws = by (answered reply) (room_at rooms spec.name) refl
  where
    begun : reply ≢ replies.Refused refusals.OutOfMemory → room_at rooms spec.name ≡ None → DrawsOpening spec replies.Begun panels panels_after → DoFollow after panels_after
    begun given none (block, head, is_block, is_head, limits, added) =
        let own : is_of spec.name (fresh head) ≡ true = subst (λ (s : RoomSpec). is_of s.name (fresh head) ≡ true) is_head.same_spec (own_name (fresh head) refl) in
        let panel : IsPanelOf (opening_state spec) (fresh head) = record { spec = sym is_head.same_spec; limits = limits; life = subst (IsLife []) (sym (opening_data spec)) (opens spec) } in
        let there : room_at after spec.name ≡ Some (opening_state spec) = applies.room given ∙ ap (λ (room : Option RoomState). core_after room (commands.Begin spec)) none in
        subst (DoFollow after) (sym added) (record {
          stands = by_name (λ name. Stands (room_at after name) name (panels ++ fresh head ∷ [])) spec.name
              (subst (λ (room : Option RoomState). Stands room spec.name (panels ++ fresh head ∷ [])) (sym there)
              (one_first (opening_state spec) spec.name panels (fresh head) own panel (subst (λ (room : Option RoomState). Stands room spec.name panels) none (follow.stands spec.name))))
              (λ name differs. subst (λ (room : Option RoomState). Stands room name (panels ++ fresh head ∷ [])) (sym (applies.others name differs))
              (stands_pushed (room_at rooms name) name panels (fresh head) (apart spec.name name (differs_back name spec.name differs) (fresh head) own) (follow.stands name)));
          shows = all_pushed panels (fresh head) follow.shows (open_shows (fresh head) refl);
        })

    by : Answered reply → (room : Option RoomState) → room_at rooms spec.name ≡ room → DoFollow after panels_after
    by (refused refusal is) room there =
        nothing_changes rooms after panels panels_after (commands.Begin spec) reply applies follow refusal is (subst (λ (r : Reply). DrawsOpening spec r panels panels_after) is draws)
    by (granted given none) None there =
        begun given there (subst (λ (r : Reply). DrawsOpening spec r panels panels_after) (to_none rooms after panels panels_after (commands.Begin spec) reply applies follow given there) draws)
    by (granted given none) (Some core) there =
        let asked = to_one rooms after panels panels_after (commands.Begin spec) reply applies follow core given there in
        let taken : refusal_in reply ≡ Some refusals.NameTaken = ap refusal_in asked.is in
        absurd (let wrong : Some refusals.NameTaken ≡ None = sym taken ∙ none in cc)

crashed : (rooms after : Entries) (panels panels_after : List Panel) (name : List ℕ) (sim : ℕ) (reply : Reply) → Applies rooms (commands.Crash name sim) reply after → DoFollow rooms panels → panels_after ≡ noted name (crash_marks sim reply) panels
    → DoFollow after panels_after
crashed rooms after panels panels_after name sim reply applies follow draws = by (answered reply)
  where
    leads : reply ≢ replies.Refused refusals.OutOfMemory → (room : Option RoomState) → room_at rooms name ≡ room → Leads (crash_marks sim reply) room (core_after room (commands.Crash name sim))
    leads given None there = tt
    leads given (Some core) there = λ panel is.
        let asked = to_panel rooms after panels panels_after (commands.Crash name sim) reply applies follow core panel given there is in
        let same : reply ≡ crash_reply_by core sim (ltb sim core.spec.simulators) (leb core.spec.simulators sim) (has_crashed_there core sim) =
        asked.is ∙ ap (λ (answer : CrashReply). cond (ltb sim core.spec.simulators) (replies.Crash answer) (replies.Refused refusals.NoSimulator)) (same_crash core asked.fields sim is.limits asked.are) in
        subst (λ (r : Reply). IsPanelOf (room_after_crash core sim) (more_marks (crash_marks sim r) panel)) (sym same)
        (crash_on core sim (ltb sim core.spec.simulators) (leb core.spec.simulators sim) (has_crashed_there core sim) refl refl refl panel is)

    none_leads : (room : Option RoomState) → Leads [] room room
    none_leads None = tt
    none_leads (Some core) = nothing_more core

    by : Answered reply → DoFollow after panels_after
    by (granted given none) = goes_on rooms after panels panels_after (commands.Crash name sim) reply applies follow (crash_marks sim reply) given (leads given (room_at rooms name) refl) draws
    by (refused refusal is) =
        let same = applies.refused (subst IsRefusal (sym is) tt) in
        let none : crash_marks sim reply ≡ [] = ap (crash_marks sim) is in
        subst (DoFollow after) (sym (draws ∙ ap (λ (marks : List Mark). noted name marks panels) none)) (same_rooms rooms after (noted name [] panels) same (record {
          stands = by_name (λ n. Stands (room_at rooms n) n (noted name [] panels)) name
              (noted_leads name [] (room_at rooms name) (room_at rooms name) panels (none_leads (room_at rooms name)) (follow.stands name))
              (λ n differs. noted_aside name n [] (room_at rooms n) panels differs (follow.stands n));
          shows = all_noted name [] panels follow.shows;
        }))

reported : (rooms after : Entries) (panels panels_after : List Panel) (name : List ℕ) (reply : Reply) → Applies rooms (commands.Report name) reply after → DoFollow rooms panels → panels_after ≡ panels → DoFollow after panels_after
reported rooms after panels panels_after name reply applies follow draws = by (answered reply)
  where
    stays : (room : Option RoomState) → core_after room (commands.Report name) ≡ room
    stays None = refl
    stays (Some core) = refl

    by : Answered reply → DoFollow after panels_after
    by (refused refusal is) = nothing_changes rooms after panels panels_after (commands.Report name) reply applies follow refusal is draws
    by (granted given none) = subst (DoFollow after) (sym draws)
        (same_rooms rooms after panels (by_name (λ n. room_at after n ≡ room_at rooms n) name (applies.room given ∙ stays (room_at rooms name)) applies.others) follow)

closed : (rooms after : Entries) (panels panels_after : List Panel) (name : List ℕ) (reply : Reply) → Applies rooms (commands.Close name) reply after → DoFollow rooms panels → DrawsClosing rooms name reply panels panels_after → DoFollow after panels_after
closed rooms after panels panels_after name reply applies follow draws = by (answered reply) (room_at rooms name) refl
  where
    ends : (core : RoomState) → reply ≢ replies.Refused refusals.OutOfMemory → room_at rooms name ≡ Some core → DrawsClosing rooms name replies.Closed panels panels_after → DoFollow after panels_after
    ends core given there (report, known, drawn) =
        let one : OneOf core name panels = subst (λ (room : Option RoomState). Stands room name panels) there (follow.stands name) in
        let gone : room_at after name ≡ None = applies.room given ∙ ap (λ (room : Option RoomState). core_after room (commands.Close name)) there in
        subst (DoFollow after) (sym drawn) (record {
          stands = by_name (λ n. Stands (room_at after n) n (finished name report panels)) name
              (subst (λ (room : Option RoomState). Stands room name (finished name report panels)) (sym gone) (none_closed core name report panels one))
              (λ n differs. subst (λ (room : Option RoomState). Stands room n (finished name report panels)) (sym (applies.others n differs)) (others_left core name report panels one n (room_at rooms n) (differs_back n name differs) (follow.stands n)));
          shows = all_left core name report panels one (λ panel is. holds_shown rooms name core panel report there is known) follow.shows;
        })

    by : Answered reply → (room : Option RoomState) → room_at rooms name ≡ room → DoFollow after panels_after
    by (refused refusal is) room there =
        nothing_changes rooms after panels panels_after (commands.Close name) reply applies follow refusal is (subst (λ (r : Reply). DrawsClosing rooms name r panels panels_after) is draws)
    by (granted given none) None there =
        let no_room : refusal_in reply ≡ Some refusals.NoRoom = ap refusal_in (to_none rooms after panels panels_after (commands.Close name) reply applies follow given there) in
        absurd (let wrong : Some refusals.NoRoom ≡ None = sym no_room ∙ none in cc)
    by (granted given none) (Some core) there =
        ends core given there (subst (λ (r : Reply). DrawsClosing rooms name r panels panels_after) (to_one rooms after panels panels_after (commands.Close name) reply applies follow core given there).is draws)

-- ---- a script

command_follows : (rooms after : Entries) (panels panels_after : List Panel) (command : Command) (reply : Reply) → Applies rooms command reply after → DoFollow rooms panels → DrawsCommand rooms command reply panels panels_after → DoFollow after panels_after
command_follows rooms after panels panels_after (commands.Begin spec) reply applies follow draws = opened rooms after panels panels_after spec reply applies follow draws
command_follows rooms after panels panels_after (commands.Step name sim count) reply applies follow draws =
    unless rooms after panels panels_after (commands.Step name sim count) reply applies follow (λ marks are. leads_by_steps name sim count marks (room_at rooms name) are) draws
command_follows rooms after panels panels_after (commands.Settle name) reply applies follow draws =
    unless rooms after panels panels_after (commands.Settle name) reply applies follow (λ marks are. leads_by_settling name marks (room_at rooms name) are) draws
command_follows rooms after panels panels_after (commands.Crash name sim) reply applies follow draws = crashed rooms after panels panels_after name sim reply applies follow draws
command_follows rooms after panels panels_after (commands.Report name) reply applies follow draws = reported rooms after panels panels_after name reply applies follow draws
command_follows rooms after panels panels_after (commands.Close name) reply applies follow draws = closed rooms after panels panels_after name reply applies follow draws

done_follows : (rooms : Entries) (panels : List Panel) (done : Done) (after : Entries) (panels_after : List Panel) → DoFollow rooms panels → Leaves rooms done after → IsDrawnBy panels rooms done after panels_after → DoFollow after panels_after
done_follows rooms panels (Replied command reply) after panels_after follow applies draws = command_follows rooms after panels panels_after command reply applies follow draws
done_follows rooms panels (Faulty line fault) after panels_after follow same draws = subst (DoFollow after) (sym draws) (subst (λ (r : Entries). DoFollow r panels) (sym same) follow)
done_follows rooms panels (Unread line) after panels_after follow same draws = subst (DoFollow after) (sym draws) (subst (λ (r : Entries). DoFollow r panels) (sym same) follow)

-- each process that is held by a report is seen to be held
pub held_shown : (all : List Done) (rooms left : Entries) (panels at_end : List Panel) → AreFollowed IsDrawnBy [] [] all rooms panels → ((name : List ℕ) → room_at left name ≡ room_at rooms name) → AreFinished left panels at_end → AllByRecursion ShowsHeld at_end
held_shown all rooms left panels at_end drawn same are =
    let follow = holds_along IsDrawnBy (λ all rooms panels. DoFollow rooms panels) (λ all rooms one done after other. done_follows rooms one done after other) [] [] [] all rooms panels (record { stands = λ name. tt; shows = tt }) drawn in
    shown_at_end rooms left same panels at_end follow.stands follow.shows are
