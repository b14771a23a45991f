-- The script of an outcome leads to it.
use Rattle.std.proofs.Common.{◌≡◌, ◌∙◌, ℕ, suc, ◌≤◌, ◌||◌, Bool, true, false, not, cond, List, [], ◌∷◌, ◌++◌, length, map, None, Result, Ok, Err, refl, sym, ap, ap₂, subst, arith}
use Rattle.std.specs.Prelude.{IsOk, codes, ⊤}
use Rattle.std.specs.declared.alloc.AllocError.{AllocError}
use Rattle.std.specs.Fmt.{decimal}
use Rattle.std.specs.List.{AllByRecursion, flat_map, list_any}
use Rattle.std.specs.Str.{bytes_eq}
use Rattle.std.proofs.lemmas.Bool.{ltb-true}
use Rattle.std.proofs.lemmas.List.{append-nil, append_assoc}
use Rattle.std.proofs.lemmas.Slice.Eq.{bytes_eq-Decides}
use Rattle.room_files.specs.Kinds.{block_of}
use Rattle.room_files.specs.declared.kinds.Kinds.TheVariants.{All}
use Rattle.room_spec.specs.Names.{is_name}
use Rattle.room_spec.specs.Rooms.{IsWithinLimits, RoomSpec}
use Rattle.room_spec.specs.declared.fault.SpecFault.{SpecFault}
use Rattle.room_core.specs.Calls.{RoomState, opening_state}
use Rattle.ws_history.specs.declared.states.ProcessState.{ProcessState}
use Rattle.ws_history.specs.declared.states.Report.{Report as ReportData}
use Rattle.service_core.specs.declared.command.Command.{Command}
use Rattle.service_core.specs.declared.command.Command.TheVariants as commands
use Rattle.service_core.specs.declared.reply.Reply.{Reply}
use Rattle.service_core.specs.declared.reply.Reply.TheVariants as replies
use Rattle.service_core.specs.Replies.{name_in, part, replies_from}
use Rattle.service_core.specs.Runs.{granted, is_want, replies_of, without_wants}
use Rattle.room_files.specs.declared.outcome.Outcome.{Outcome}
use Rattle.room_files.specs.Faults.{FaultAt}
use Rattle.room_files.specs.Verdicts.{outcome_if}
use Rattle.script_play.specs.Play.{AreDone, Done, Faulty, Replied, Unread, commands_of, done_text, ending_if, ran_out_of_memory, is_refused, replies_in}
use Rattle.script_play.specs.Script.{Ask, Entry, Open, script_says}
use Rattle.view_sample.specs.Leads.{LeadsTo, reply_to_stretch}
use Rattle.room_sample.specs.Schedules.{IsOutcome, IsSchedule, MayCome, longest, room_after_stretch}
use Rattle.room_files.specs.BlockLists.{whole_block}
use Rattle.room_files.specs.declared.kinds.Kinds.{Kinds}
use Rattle.view_sample.specs.Texts.{script_text, stretch_line}
use Rattle.room_sample.specs.declared.stretch.Stretch.{Stretch}
use Rattle.room_sample.specs.declared.stretch.Stretch.TheVariants.{Steps, Crash}
use Rattle.view_sample.proofs.Following.{command_of, commands_for, has_simulator, replies_for, replies_to_script, same_spec_after, simulator_of}
use Rattle.view_sample.proofs.ScriptLines.{IsWritten, line_decimal, line_joined, line_name, line_of, lines_for, lines_more, opened_read}
use Rattle.view_sample.proofs.WholeBlocks.{whole_says}

-- ---- what was done, as commands with their replies

abbrev paired : List Command → List Reply → List Done
paired [] replies = []
paired (command ∷ commands) [] = []
paired (command ∷ commands) (reply ∷ replies) = Replied command reply ∷ paired commands replies

-- the commands were done, each with a reply, and none lacked memory
record AreReplied (commands : List Command) (all : List Done) : Type 0 where
  pub commands_are : commands_of all ≡ commands
  pub all_are : all ≡ paired commands (replies_in all)
  pub count : length (replies_in all) ≡ length commands
  pub no_want : list_any is_want (replies_in all) ≡ false

one_false : (a b : Bool) → (a || b) ≡ false → (a ≡ false) × (b ≡ false)
one_false true b is = absurd cc
one_false false b is = (refl, is)

one_more : (command : Command) (reply : Reply) (commands : List Command) (all : List Done) → is_want reply ≡ false → AreReplied commands all → AreReplied (command ∷ commands) (Replied command reply ∷ all)
one_more command reply commands all granted are = record {
  commands_are = ap (λ (l : List Command). command ∷ l) are.commands_are;
  all_are = ap (λ (l : List Done). Replied command reply ∷ l) are.all_are;
  count = ap suc are.count;
  no_want = ap₂ (λ (a b : Bool). a || b) granted are.no_want;
}

replied : (kinds : Kinds) (commands : List Command) (all : List Done) → AreDone kinds (map Ask commands) all → list_any ran_out_of_memory all ≡ false → AreReplied commands all
replied kinds [] [] are none = record { commands_are = refl; all_are = refl; count = refl; no_want = refl }
replied kinds [] (done ∷ all) are none = absurd are
replied kinds (command ∷ commands) [] are none = absurd are
replied kinds (command ∷ commands) (Replied asked reply ∷ all) are none =
    let parts = one_false (is_want reply) (list_any ran_out_of_memory all) none in
    subst (λ (c : Command). AreReplied (c ∷ commands) (Replied asked reply ∷ all)) are.0 (one_more asked reply commands all parts.0 (replied kinds commands all are.1 parts.1))
replied kinds (command ∷ commands) (Faulty line fault ∷ all) are none = absurd are.0
replied kinds (command ∷ commands) (Unread line ∷ all) are none = absurd are.0

same_read : (kinds : Kinds) (block : List ℕ) (one other : RoomSpec × ℕ) → block_of kinds block ≡ Ok one → block_of kinds block ≡ Ok other → one ≡ other
same_read kinds block one other is says = cc

begun_by : (kinds : Kinds) (spec other : RoomSpec) (block : List ℕ) (len n : ℕ) → block_of kinds block ≡ Ok (spec, n) → block_of kinds block ≡ Ok (other, len) → other ≡ spec
begun_by kinds spec other block len n is says = sym (ap (λ (one : RoomSpec × ℕ). one.0) (same_read kinds block (spec, n) (other, len) is says))

no_fault : (kinds : Kinds) (spec : RoomSpec) (block : List ℕ) (n : ℕ) (fault : SpecFault) → block_of kinds block ≡ Ok (spec, n) → block_of kinds block ≡ Err fault → ⊥
no_fault kinds spec block n fault is says = cc

opened : (kinds : Kinds) (spec : RoomSpec) (number n : ℕ) (block : List ℕ) (asked : List Command) (all : List Done) → block_of kinds block ≡ Ok (spec, n) → AreDone kinds (Open number block ∷ map Ask asked) all → list_any ran_out_of_memory all ≡ false → AreReplied (commands.Begin spec ∷ asked) all
opened kinds spec number n block asked [] is are none = absurd are
opened kinds spec number n block asked (Replied command reply ∷ all) is are none =
    let parts = one_false (is_want reply) (list_any ran_out_of_memory all) none in
    let begun : command ≡ commands.Begin spec = are.0.3 ∙ ap commands.Begin (begun_by kinds spec are.0.0 block are.0.1 n is are.0.2) in
    subst (λ (c : Command). AreReplied (c ∷ asked) (Replied command reply ∷ all)) begun (one_more command reply asked all parts.0 (replied kinds asked all are.1 parts.1))
opened kinds spec number n block asked (Faulty line fault ∷ all) is are none = absurd (no_fault kinds spec block n fault is are.0.1)
opened kinds spec number n block asked (Unread line ∷ all) is are none = absurd cc

-- ---- the replies to commands of one name

abbrev IsNamed : List ℕ → Command → Type 0
IsNamed name command = name_in command ≡ name

own : (name : List ℕ) (commands : List Command) (all : List Reply) → length all ≡ length commands → AllByRecursion (IsNamed name) commands → list_any is_want all ≡ false → (without_wants (replies_of name commands all) ≡ all) × (part name (granted commands all) ≡ commands)
own name [] [] same named none = (refl, refl)
own name [] (reply ∷ all) same named none = absurd (omega (arith, same))
own name (command ∷ commands) [] same named none = absurd (omega (arith, same))
own name (command ∷ commands) (reply ∷ all) same named none =
    let parts = one_false (is_want reply) (list_any is_want all) none in
    let later = own name commands all (omega (arith, same)) named.1 parts.1 in
    let is : bytes_eq name (name_in command) ≡ true = (bytes_eq-Decides name (name_in command)).1 (sym named.0) in (
      ap (λ (b : Bool). without_wants (cond b (reply ∷ replies_of name commands all) (replies_of name commands all))) is
          ∙ ap (λ (b : Bool). cond (not b) (reply ∷ without_wants (replies_of name commands all)) (without_wants (replies_of name commands all))) parts.0
          ∙ ap (λ (l : List Reply). reply ∷ l) later.0,
      ap (λ (b : Bool). part name (cond b (granted commands all) (command ∷ granted commands all))) parts.0
          ∙ ap (λ (b : Bool). cond b (command ∷ part name (granted commands all)) (part name (granted commands all))) is
          ∙ ap (λ (l : List Command). command ∷ l) later.1,
    )

named_for : (name : List ℕ) (schedule : List Stretch) → AllByRecursion (IsNamed name) (commands_for name schedule)
named_for name [] = (refl, (refl, tt))
named_for name (Steps i count ∷ schedule) = (refl, named_for name schedule)
named_for name (Crash i ∷ schedule) = (refl, named_for name schedule)

-- ---- the text of the replies

-- no reply is a refusal, and these are the lines
record AreWell (name : List ℕ) (schedule : List Stretch) (report : ReportData) : Type 0 where
  pub text : flat_map done_text (paired (commands_for name schedule) (replies_for schedule report)) ≡ flat_map (reply_to_stretch name) schedule ++ (done_text (Replied (commands.Settle name) replies.Settled) ++ done_text (Replied (commands.Report name) (replies.Report report)))
  pub none : list_any is_refused (paired (commands_for name schedule) (replies_for schedule report)) ≡ false

well : (name : List ℕ) (schedule : List Stretch) (report : ReportData) → AreWell name schedule report
well name [] report = record { text = ap (λ (t : List ℕ). done_text (Replied (commands.Settle name) replies.Settled) ++ t) (append-nil (done_text (Replied (commands.Report name) (replies.Report report)))); none = refl }
well name (Steps i count ∷ schedule) report =
    let later = well name schedule report in
    record { text = ap (λ (t : List ℕ). reply_to_stretch name (Steps i count) ++ t) later.text ∙ sym (append_assoc (reply_to_stretch name (Steps i count)) (flat_map (reply_to_stretch name) schedule) _); none = later.none }
well name (Crash i ∷ schedule) report =
    let later = well name schedule report in
    record { text = ap (λ (t : List ℕ). reply_to_stretch name (Crash i) ++ t) later.text ∙ sym (append_assoc (reply_to_stretch name (Crash i)) (flat_map (reply_to_stretch name) schedule) _); none = later.none }

-- ---- the end

fine : (lacking refused : Bool) (outcome : Outcome) → ◌≡◌ {A = Result Outcome AllocError} (Ok outcome) (ending_if lacking refused) → (lacking ≡ false) × (outcome ≡ outcome_if (not refused))
fine true refused outcome is = absurd cc
fine false refused outcome is = (refl, cc)

same_entries : (one other : List Entry) → ◌≡◌ {A = Result (List Entry) FaultAt} (Ok one) (Ok other) → one ≡ other
same_entries one other is = cc

-- ---- what the script asks for

-- a stretch has some steps, and few
abbrev HasCount : Stretch → Type 0
HasCount (Steps simulator count) = (1 ≤ count) × (count ≤ longest)
HasCount (Crash simulator) = ⊤

one_written : (name : List ℕ) (stretch : Stretch) → is_name name ≡ true → simulator_of stretch ≤ 255 → HasCount stretch → IsWritten (command_of name stretch)
one_written name (Steps i count) named small counts = record {
  asks = record { text = refl; room = named; numbers = (small, counts.0, omega (arith, counts.1)) };
  line = line_joined (codes "step") (name ++ 32 ∷ (decimal i ++ 32 ∷ decimal count)) refl (line_joined name (decimal i ++ 32 ∷ decimal count) (line_name name named) (line_joined (decimal i) (decimal count) (line_decimal i (omega (arith, small))) (line_decimal count (omega (arith, counts.1)))));
  closed = refl;
}
one_written name (Crash i) named small counts = record {
  asks = record { text = refl; room = named; numbers = small };
  line = line_joined (codes "crash") (name ++ 32 ∷ decimal i) refl (line_joined name (decimal i) (line_name name named) (line_decimal i (omega (arith, small))));
  closed = refl;
}

steps_in : (room : RoomState) (stretch : Stretch) → MayCome room stretch → HasCount stretch
steps_in room (Steps i count) may = (may.0, may.1)
steps_in room (Crash i) may = tt

line_is : (name : List ℕ) (stretch : Stretch) → stretch_line name stretch ≡ line_of (command_of name stretch) ++ 10 ∷ []
line_is name (Steps i count) =
    sym (ap (λ (t : List ℕ). codes "step " ++ t) (append_assoc name (32 ∷ (decimal i ++ 32 ∷ decimal count)) (10 ∷ []) ∙ ap (λ (t : List ℕ). name ++ 32 ∷ t) (append_assoc (decimal i) (32 ∷ decimal count) (10 ∷ []))))
line_is name (Crash i) = sym (ap (λ (t : List ℕ). codes "crash " ++ t) (append_assoc name (32 ∷ decimal i) (10 ∷ [])))

-- each command of the schedule has a line that is read
written_for : (spec : RoomSpec) (room : RoomState) (schedule : List Stretch) → IsWithinLimits spec → room.spec ≡ spec → IsSchedule room schedule → AllByRecursion IsWritten (commands_for spec.name schedule)
written_for spec room [] limits same is =
    let name = line_name spec.name limits.name in (
      record { asks = record { text = refl; room = limits.name; numbers = tt }; line = line_joined (codes "settle") spec.name refl name; closed = refl },
      (record { asks = record { text = refl; room = limits.name; numbers = tt }; line = line_joined (codes "report") spec.name refl name; closed = refl }, tt),
    )
written_for spec room (stretch ∷ schedule) limits same is = (
  one_written spec.name stretch limits.name (let below = ltb-true (simulator_of stretch) room.spec.simulators (has_simulator room stretch is.0) in let count = ap (λ (s : RoomSpec). s.simulators) same in omega (arith, below, count, limits.shape.m_range.1)) (steps_in room stretch is.0),
  written_for spec (room_after_stretch room stretch) schedule limits (same_spec_after room stretch ∙ same) is.1,
)

-- the script's lines behind its block
lines_are : (name : List ℕ) (schedule : List Stretch)
    → flat_map (stretch_line name) schedule ++ ((codes "settle " ++ (name ++ codes "\n")) ++ (codes "report " ++ (name ++ codes "\n"))) ≡ lines_for (commands_for name schedule)
lines_are name [] =
    let report = codes "report " ++ (name ++ codes "\n") in
    ap (λ (t : List ℕ). codes "settle " ++ t) (append_assoc name (codes "\n") report)
    ∙ sym (lines_more (commands.Settle name) (commands.Report name ∷ []) ∙ ap (λ (t : List ℕ). (codes "settle" ++ 32 ∷ name) ++ 10 ∷ t) (lines_more (commands.Report name) []))
lines_are name (stretch ∷ schedule) =
    let last = (codes "settle " ++ (name ++ codes "\n")) ++ (codes "report " ++ (name ++ codes "\n")) in
    append_assoc (stretch_line name stretch) (flat_map (stretch_line name) schedule) last
    ∙ ap₂ (λ (line rest : List ℕ). line ++ rest) (line_is name stretch) (lines_are name schedule)
    ∙ append_assoc (line_of (command_of name stretch)) (10 ∷ []) (lines_for (commands_for name schedule))
    ∙ sym (lines_more (command_of name stretch) (commands_for name schedule))

-- ---- the law

pub leads : (spec : RoomSpec) (crashes : ℕ) (block : List ℕ) (schedule : List Stretch) (states : List ProcessState) → IsWithinLimits spec → block_of All block ≡ Ok (spec, length block) → IsOutcome spec crashes schedule states
    → LeadsTo block spec.name schedule states (script_text spec.name block schedule)
leads spec crashes block schedule states limits says is =
    let name = spec.name in
    let whole = whole_says spec block says in
    let asked = commands_for name schedule in
    let comes = replies_to_script spec crashes schedule states limits is in
    let script = script_text name block schedule in
    let read : script_says script ≡ Ok (Open 2 (whole_block block) ∷ map Ask asked) =
    ap (λ (t : List ℕ). script_says (codes "open\n" ++ (whole_block block ++ t))) (lines_are name schedule) ∙ opened_read spec block (whole_block block) asked whole (written_for spec (opening_state spec) schedule limits refl is.may_come) in
    record {
      valid = subst (λ (r : Result (List Entry) FaultAt). IsOk r) (sym read) refl;
      report = comes.report;
      states_are = comes.states_are;
      played = λ kinds outcome output read_by play.
          let text = play.2 in
          let all = text.all in
          let end = fine (list_any ran_out_of_memory all) (list_any is_refused all) outcome text.ending_is in
          let entries : play.0 ≡ Open 2 (whole_block block) ∷ map Ask asked = same_entries _ _ (sym play.1 ∙ read) in
          let did = opened kinds spec 2 (length (whole_block block)) (whole_block block) asked all (whole.says kinds read_by) (subst (λ (e : List Entry). AreDone kinds e all) entries text.each_entry) end.0 in
          let ours = own name (commands.Begin spec ∷ asked) (replies_in all) did.count (refl, named_for name schedule) did.no_want in
          let alone = subst (λ (c : List Command). without_wants (replies_of name c (replies_in all)) ≡ replies_from None (part name (granted c (replies_in all)))) did.commands_are (text.replies.alone name) in
          let replies_are : replies_in all ≡ replies.Begun ∷ replies_for schedule comes.report = sym ours.0 ∙ alone ∙ ap (replies_from None) ours.1 ∙ comes.replies_are in
          let all_are : all ≡ paired (commands.Begin spec ∷ asked) (replies.Begun ∷ replies_for schedule comes.report) = did.all_are ∙ ap (paired (commands.Begin spec ∷ asked)) replies_are in
          let fit = well name schedule comes.report in (
            end.1 ∙ ap (λ (d : List Done). outcome_if (not (list_any is_refused d))) all_are ∙ ap (λ (b : Bool). outcome_if (not b)) fit.none,
            text.output_is ∙ ap (flat_map done_text) all_are ∙ ap (λ (t : List ℕ). done_text (Replied (commands.Begin spec) replies.Begun) ++ t) fit.text,
          );
    }
