-- What an open room answers, and what it is afterwards.
use Rattle.std.proofs.Common.{◌≡◌, refl, ℕ, Bool, true, false, cond, ltb, List, sym, ap, ◌∙◌, subst}
use Rattle.room_spec.specs.Rooms.{RoomSpec}
use Rattle.room_core.specs.declared.reply.StepReply.{StepReply}
use Rattle.room_core.specs.declared.reply.CrashReply.{CrashReply}
use Rattle.room_core.specs.Calls.{RoomState}
use Rattle.room_core.specs.Fields.{Fields, crash_reply_in, fields_after_crash, fields_after_settle}
use Rattle.room_core.specs.Reading.{AreFieldsOf}
use Rattle.ws_history.specs.Reports.{report_of}
use Rattle.ws_history.specs.declared.states.Report.{Report as ReportData}
use Rattle.service_core.specs.declared.command.Command.TheVariants as commands
use Rattle.service_core.specs.declared.reply.Reply.TheVariants.{Steps, Crash, Settled, Report, Refused}
use Rattle.service_core.specs.declared.reply.Refusal.TheVariants.{NoSimulator}
use Rattle.service_core.specs.Replies.{OpenRoom, stepped_reply, stepping, with_fields}
use Rattle.service_core.specs.Rooms.{Answers, IsOpenAs, IsSteppedTo}

same_count : (core : RoomState) (state : OpenRoom) (sim : ℕ) (b : Bool) → IsOpenAs core state → ltb sim core.spec.simulators ≡ b → ltb sim state.spec.simulators ≡ b
same_count core state sim b is there = ap (λ (s : RoomSpec). ltb sim s.simulators) (sym is.spec) ∙ there

pub no_step : (core : RoomState) (state : OpenRoom) (name : List ℕ) (sim count : ℕ) → IsOpenAs core state → ltb sim core.spec.simulators ≡ false → Answers state (commands.Step name sim count) (Refused NoSimulator) core
no_step core state name sim count is past =
    let no = same_count core state sim false is past in (
      sym (ap (λ (b : Bool). cond b (stepped_reply (stepping state.spec state.fields sim count)) (Refused NoSimulator)) no),
      subst (IsOpenAs core) (sym (ap (λ (b : Bool). cond b (with_fields state (stepping state.spec state.fields sim count).fields) state) no)) is,
    )

pub no_crash : (core : RoomState) (state : OpenRoom) (name : List ℕ) (sim : ℕ) → IsOpenAs core state → ltb sim core.spec.simulators ≡ false → Answers state (commands.Crash name sim) (Refused NoSimulator) core
no_crash core state name sim is past =
    let no = same_count core state sim false is past in (
      sym (ap (λ (b : Bool). cond b (Crash (crash_reply_in state.spec state.fields sim)) (Refused NoSimulator)) no),
      subst (IsOpenAs core) (sym (ap (λ (b : Bool). cond b (with_fields state (fields_after_crash state.spec state.fields sim)) state) no)) is,
    )

pub step_answers : (core after : RoomState) (state : OpenRoom) (name : List ℕ) (sim count : ℕ) (reply : ℕ × StepReply) → IsOpenAs core state → ltb sim core.spec.simulators ≡ true → after.spec ≡ core.spec
    → IsSteppedTo (stepping core.spec state.fields sim count) reply after → Answers state (commands.Step name sim count) (Steps reply.0 reply.1) after
step_answers core after state name sim count reply is below same stepped =
    let yes = same_count core state sim true is below in
    let stepped' = subst (λ (s : RoomSpec). IsSteppedTo (stepping s state.fields sim count) reply after) is.spec stepped in
    let all = stepping state.spec state.fields sim count in (
      (λ p. Steps (stepped'.taken p) (stepped'.last p)) ∙ sym (ap (λ (b : Bool). cond b (stepped_reply all) (Refused NoSimulator)) yes),
      subst (IsOpenAs after) (sym (ap (λ (b : Bool). cond b (with_fields state all.fields) state) yes)) (record { spec = same ∙ is.spec; fields = stepped'.fields }),
    )

pub crash_answers : (core after : RoomState) (state : OpenRoom) (name : List ℕ) (sim : ℕ) (reply : CrashReply) → IsOpenAs core state → ltb sim core.spec.simulators ≡ true → after.spec ≡ core.spec
    → (reply ≡ crash_reply_in core.spec state.fields sim) × AreFieldsOf after (fields_after_crash core.spec state.fields sim) → Answers state (commands.Crash name sim) (Crash reply) after
crash_answers core after state name sim reply is below same crashed =
    let yes = same_count core state sim true is below in
    let crashed' = subst (λ (s : RoomSpec). (reply ≡ crash_reply_in s state.fields sim) × AreFieldsOf after (fields_after_crash s state.fields sim)) is.spec crashed in (
      ap Crash crashed'.0 ∙ sym (ap (λ (b : Bool). cond b (Crash (crash_reply_in state.spec state.fields sim)) (Refused NoSimulator)) yes),
      subst (IsOpenAs after) (sym (ap (λ (b : Bool). cond b (with_fields state (fields_after_crash state.spec state.fields sim)) state) yes)) (record { spec = same ∙ is.spec; fields = crashed'.1 }),
    )

pub settle_answers : (core after : RoomState) (state : OpenRoom) (name : List ℕ) → IsOpenAs core state → after.spec ≡ core.spec → AreFieldsOf after (fields_after_settle core.spec state.fields) → Answers state (commands.Settle name) Settled after
settle_answers core after state name is same are =
    (refl, record { spec = same ∙ is.spec; fields = subst (λ (s : RoomSpec). AreFieldsOf after (fields_after_settle s state.fields)) is.spec are })

pub report_answers : (core : RoomState) (state : OpenRoom) (name : List ℕ) (report : ReportData) → IsOpenAs core state → ((fields : Fields) → AreFieldsOf core fields → report ≡ report_of core.spec fields)
    → Answers state (commands.Report name) (Report report) core
report_answers core state name report is says = (ap Report (says state.fields is.fields ∙ ap (λ (s : RoomSpec). report_of s state.fields) is.spec), is)
