-- A service that has been given a list of commands.
use Rattle.std.proofs.Common.{◌≡◌, ◌≢◌, ℕ, ◌<◌, ◌≤◌, ◌||◌, Bool, true, false, not, cond, List, [], ◌∷◌, ◌++◌, length, Option, Some, None, inl, inr, refl, sym, ap, ap₂, ◌∙◌, subst, arith}
use Rattle.std.specs.Prelude.{slice_get}
use Rattle.std.specs.List.{list_any}
use Rattle.std.specs.Str.{bytes_eq}
use Rattle.std.proofs.lemmas.Bool.{cases_Bool, cases_lt}
use Rattle.std.proofs.lemmas.List.{append-nil, take-append-le, take_all, length-append}
use Rattle.std.proofs.lemmas.List.Elements.{filter-append}
use Rattle.std.proofs.lemmas.Option.{slice_get_within}
use Rattle.transcript.proofs.CallerLemmas.{slice_get-append, slice_get-push}
use Rattle.room_core.specs.Calls.{RoomState}
use Rattle.ws_history.specs.declared.states.Report.{Report as ReportData}
use Rattle.service_core.specs.declared.command.Command.{Command}
use Rattle.service_core.specs.declared.command.Command.TheVariants as commands
use Rattle.service_core.specs.declared.reply.Reply.{Reply}
use Rattle.service_core.specs.declared.reply.Reply.TheVariants as replies
use Rattle.service_core.specs.declared.reply.Refusal.TheVariants as refusals
use Rattle.service_core.specs.Replies.{OpenRoom, name_in, part, replies_from, reply_to, room_after, room_after_all}
use Rattle.service_core.specs.Rooms.{Applies, Entries, IsRefusal, IsReportOf, IsStateOf, IsWant, room_at}
use Rattle.ws_history.specs.Reports.{IsTrueReport}
use Rattle.service_core.specs.Runs.{AreTrueReports, AreWants, HasNoWant, MayWant, granted, is_want, replies_of, room_then, without_wants}
use Rattle.service_core.proofs.Lookups.{same_name}

-- ---- one command more

pub replies_from-push : (room : Option OpenRoom) (commands : List Command) (command : Command) → replies_from room (commands ++ command ∷ []) ≡ replies_from room commands ++ reply_to (room_after_all room commands) command ∷ []
replies_from-push room [] command = refl
replies_from-push room (first ∷ commands) command = ap (λ (l : List Reply). reply_to room first ∷ l) (replies_from-push (room_after room first) commands command)

pub room_after_all-push : (room : Option OpenRoom) (commands : List Command) (command : Command) → room_after_all room (commands ++ command ∷ []) ≡ room_after (room_after_all room commands) command
room_after_all-push room [] command = refl
room_after_all-push room (first ∷ commands) command = room_after_all-push (room_after room first) commands command

if_named : (b : Bool) (reply : Reply) (one other : List Reply) → cond b (reply ∷ one ++ other) (one ++ other) ≡ cond b (reply ∷ one) one ++ other
if_named true reply one other = refl
if_named false reply one other = refl

pub replies_of-push : (name : List ℕ) (commands : List Command) (all : List Reply) (command : Command) (reply : Reply) → length all ≡ length commands
    → replies_of name (commands ++ command ∷ []) (all ++ reply ∷ []) ≡ replies_of name commands all ++ cond (bytes_eq name (name_in command)) (reply ∷ []) []
replies_of-push name [] [] command reply same = refl
replies_of-push name [] (r ∷ all) command reply same = absurd (omega (arith, same))
replies_of-push name (c ∷ commands) [] command reply same = absurd (omega (arith, same))
replies_of-push name (c ∷ commands) (r ∷ all) command reply same =
    ap (λ (l : List Reply). cond (bytes_eq name (name_in c)) (r ∷ l) l) (replies_of-push name commands all command reply (omega (arith, same)))
    ∙ if_named (bytes_eq name (name_in c)) r (replies_of name commands all) (cond (bytes_eq name (name_in command)) (reply ∷ []) [])

if_granted : (b : Bool) (command : Command) (one other : List Command) → cond b (one ++ other) (command ∷ one ++ other) ≡ cond b one (command ∷ one) ++ other
if_granted true command one other = refl
if_granted false command one other = refl

pub granted-push : (commands : List Command) (all : List Reply) (command : Command) (reply : Reply) → length all ≡ length commands
    → granted (commands ++ command ∷ []) (all ++ reply ∷ []) ≡ granted commands all ++ cond (is_want reply) [] (command ∷ [])
granted-push [] [] command reply same = refl
granted-push [] (r ∷ all) command reply same = absurd (omega (arith, same))
granted-push (c ∷ commands) [] command reply same = absurd (omega (arith, same))
granted-push (c ∷ commands) (r ∷ all) command reply same =
    ap (λ (l : List Command). cond (is_want r) l (c ∷ l)) (granted-push commands all command reply (omega (arith, same)))
    ∙ if_granted (is_want r) c (granted commands all) (cond (is_want reply) [] (command ∷ []))

-- ---- where no memory was refused

one_false : (a b : Bool) → (a || b) ≡ false → (a ≡ false) × (b ≡ false)
one_false true b is = absurd cc
one_false false b is = (refl, is)

pub all_granted : (commands : List Command) (all : List Reply) → length all ≡ length commands → HasNoWant all → granted commands all ≡ commands
all_granted [] all same none = refl
all_granted (c ∷ commands) [] same none = absurd (omega (arith, same))
all_granted (c ∷ commands) (r ∷ all) same none =
    let parts = one_false (is_want r) (list_any is_want all) none in
    ap (λ (b : Bool). cond b (granted commands all) (c ∷ granted commands all)) parts.0 ∙ ap (λ (l : List Command). c ∷ l) (all_granted commands all (omega (arith, same)) parts.1)

one_kept : (b : Bool) (r : Reply) (rest : List Reply) → is_want r ≡ false → without_wants rest ≡ rest → without_wants (cond b (r ∷ rest) rest) ≡ cond b (r ∷ rest) rest
one_kept true r rest granted same = ap (λ (b : Bool). cond (not b) (r ∷ without_wants rest) (without_wants rest)) granted ∙ ap (λ (l : List Reply). r ∷ l) same
one_kept false r rest granted same = same

pub none_left_out : (name : List ℕ) (commands : List Command) (all : List Reply) → HasNoWant all → without_wants (replies_of name commands all) ≡ replies_of name commands all
none_left_out name [] all none = refl
none_left_out name (c ∷ commands) [] none = refl
none_left_out name (c ∷ commands) (r ∷ all) none =
    let parts = one_false (is_want r) (list_any is_want all) none in
    one_kept (bytes_eq name (name_in c)) r (replies_of name commands all) parts.0 (none_left_out name commands all parts.1)

-- ---- the list so far

pub record Ran (commands : List Command) (all : List Reply) (entries : Entries) : Type 0 where
  pub long : length all ≡ length commands
  pub rooms : (name : List ℕ) → IsStateOf (room_at entries name) (room_after_all None (part name (granted commands all)))
  pub answers : (name : List ℕ) → without_wants (replies_of name commands all) ≡ replies_from None (part name (granted commands all))
  pub reports : AreTrueReports commands all
  pub wants : AreWants commands all

pub begins : (entries : Entries) → entries ≡ [] → Ran [] [] entries
begins entries none = record {
  long = refl;
  rooms = λ name. subst (λ (all : Entries). IsStateOf (room_at all name) None) (sym none) tt;
  answers = λ name. refl;
  reports = λ time command report at reply. absurd cc;
  wants = λ time command at reply. absurd cc;
}

want_is : (reply : Reply) → is_want reply ≡ true → reply ≡ replies.Refused refusals.OutOfMemory
want_is replies.Begun is = absurd cc
want_is (replies.Steps taken last) is = absurd cc
want_is (replies.Crash reply) is = absurd cc
want_is replies.Settled is = absurd cc
want_is (replies.Report report) is = absurd cc
want_is replies.Closed is = absurd cc
want_is (replies.Refused refusals.NoRoom) is = absurd cc
want_is (replies.Refused refusals.NameTaken) is = absurd cc
want_is (replies.Refused refusals.NoSimulator) is = absurd cc
want_is (replies.Refused refusals.OutOfMemory) is = refl

no_want : (reply : Reply) → is_want reply ≡ false → reply ≢ replies.Refused refusals.OutOfMemory
no_want reply other is = absurd (let wrong : is_want reply ≡ true = ap is_want is in cc)

may_want : (core : Option RoomState) (room : Option OpenRoom) (command : Command) → IsStateOf core room → IsWant core command → MayWant room command
may_want None None (commands.Begin spec) is want = tt
may_want None None (commands.Step name sim count) is want = absurd want
may_want None None (commands.Crash name sim) is want = absurd want
may_want None None (commands.Settle name) is want = absurd want
may_want None None (commands.Report name) is want = absurd want
may_want None None (commands.Close name) is want = absurd want
may_want (Some core) (Some room) (commands.Begin spec) is want = absurd want
may_want (Some core) (Some room) (commands.Step name sim count) is want = absurd want
may_want (Some core) (Some room) (commands.Crash name sim) is want = absurd want
may_want (Some core) (Some room) (commands.Settle name) is want = absurd want
may_want (Some core) (Some room) (commands.Report name) is want = tt
may_want (Some core) (Some room) (commands.Close name) is want = absurd want
may_want None (Some room) command is want = absurd is
may_want (Some core) None command is want = absurd is

some_same : {A : Type 0} (a b : A) → Some a ≡ Some b → a ≡ b
some_same a b is = cc

module _ (commands : List Command) (all : List Reply) (command : Command) (reply : Reply) (before after : Entries) (ran : Ran commands all before) (applies : Applies before command reply after) where
  -- the room of a name before the command
  abbrev room_of : List ℕ → Option OpenRoom
  room_of name = room_after_all None (part name (granted commands all))

  part_more : (name : List ℕ) (b : Bool) → bytes_eq name (name_in command) ≡ b → part name (granted commands all ++ command ∷ []) ≡ part name (granted commands all) ++ cond b (command ∷ []) []
  part_more name b is = filter-append (λ c. bytes_eq name (name_in c)) (granted commands all) (command ∷ []) ∙ ap (λ (b : Bool). part name (granted commands all) ++ cond b (command ∷ []) []) is

  -- what is said of a name, where the command was granted, and where it was not
  abbrev Said : List ℕ → List Command → Type 0
  Said name given = IsStateOf (room_at after name) (room_after_all None (part name given)) × (without_wants (replies_of name (commands ++ command ∷ []) (all ++ reply ∷ [])) ≡ replies_from None (part name given))

  kept_replies : (name : List ℕ) (b w : Bool) → bytes_eq name (name_in command) ≡ b → is_want reply ≡ w
      → without_wants (replies_of name (commands ++ command ∷ []) (all ++ reply ∷ [])) ≡ replies_from None (part name (granted commands all)) ++ cond b (cond w [] (reply ∷ [])) []
  kept_replies name b w named want =
      ap without_wants (replies_of-push name commands all command reply ran.long)
      ∙ filter-append (λ r. not (is_want r)) (replies_of name commands all) (cond (bytes_eq name (name_in command)) (reply ∷ []) [])
      ∙ ap₂ (λ (one other : List Reply). one ++ other) (ran.answers name) (by b w named want)
    where
      by : (b w : Bool) → bytes_eq name (name_in command) ≡ b → is_want reply ≡ w → without_wants (cond (bytes_eq name (name_in command)) (reply ∷ []) []) ≡ cond b (cond w [] (reply ∷ [])) []
      by true true named want = ap (λ (b : Bool). without_wants (cond b (reply ∷ []) [])) named ∙ ap (λ (b : Bool). cond (not b) (reply ∷ []) []) want
      by true false named want = ap (λ (b : Bool). without_wants (cond b (reply ∷ []) [])) named ∙ ap (λ (b : Bool). cond (not b) (reply ∷ []) []) want
      by false w named want = ap (λ (b : Bool). without_wants (cond b (reply ∷ []) [])) named

  refused_one : (name : List ℕ) → is_want reply ≡ true → Said name (granted commands all)
  refused_one name want =
      let same = applies.refused (subst (λ (r : Reply). IsRefusal r) (sym (want_is reply want)) tt) name in (
        subst (λ (core : Option RoomState). IsStateOf core (room_of name)) (sym same) (ran.rooms name),
        elim (cases_Bool (bytes_eq name (name_in command))) [
          | inl named ↦ kept_replies name true true named want ∙ append-nil _
          | inr other ↦ kept_replies name false true other want ∙ append-nil _
        ],
      )

  granted_own : (name : List ℕ) → is_want reply ≡ false → bytes_eq name (name_in command) ≡ true → Said name (granted commands all ++ command ∷ [])
  granted_own name want named =
      let key = same_name name (name_in command) named in
      let at = applies.answer (no_want reply want) (room_of name) (subst (λ (n : List ℕ). IsStateOf (room_at before n) (room_of name)) key (ran.rooms name)) in
      subst (λ (given : List Command). IsStateOf (room_at after name) (room_after_all None given) × (without_wants (replies_of name (commands ++ command ∷ []) (all ++ reply ∷ [])) ≡ replies_from None given)) (sym (part_more name true named)) (
        subst (IsStateOf (room_at after name)) (sym (room_after_all-push None (part name (granted commands all)) command))
            (subst (λ (n : List ℕ). IsStateOf (room_at after n) (room_after (room_of name) command)) (sym key) at.1),
        kept_replies name true false named want ∙ ap (λ (r : Reply). replies_from None (part name (granted commands all)) ++ r ∷ []) at.0 ∙ sym (replies_from-push None (part name (granted commands all)) command),
      )

  granted_other : (name : List ℕ) → is_want reply ≡ false → bytes_eq name (name_in command) ≡ false → Said name (granted commands all ++ command ∷ [])
  granted_other name want other =
      subst (λ (given : List Command). IsStateOf (room_at after name) (room_after_all None given) × (without_wants (replies_of name (commands ++ command ∷ []) (all ++ reply ∷ [])) ≡ replies_from None given)) (sym (part_more name false other ∙ append-nil _)) (
        subst (λ (core : Option RoomState). IsStateOf core (room_of name)) (sym (applies.others name other)) (ran.rooms name),
        kept_replies name false false other want ∙ append-nil _,
      )

  said : (name : List ℕ) → Said name (granted (commands ++ command ∷ []) (all ++ reply ∷ []))
  said name = subst (Said name) (sym (granted-push commands all command reply ran.long)) (by (is_want reply) refl)
    where
      by : (w : Bool) → is_want reply ≡ w → Said name (granted commands all ++ cond w [] (command ∷ []))
      by true want = subst (Said name) (sym (append-nil (granted commands all))) (refused_one name want)
      by false want = elim (cases_Bool (bytes_eq name (name_in command))) [ inl named ↦ granted_own name want named | inr other ↦ granted_other name want other ]

  -- the room of a name at an earlier time, and at this one
  then_as_now : (time : ℕ) (name : List ℕ) → time ≤ length commands → room_then (commands ++ command ∷ []) (all ++ reply ∷ []) time name ≡ room_then commands all time name
  then_as_now time name early =
      ap₂ (λ (cs : List Command) (rs : List Reply). room_after_all None (part name (granted cs rs))) (take-append-le time commands (command ∷ []) early)
      (take-append-le time all (reply ∷ []) (omega (arith, ran.long, early)))

  now_all : (name : List ℕ) → room_then commands all (length commands) name ≡ room_of name
  now_all name = ap₂ (λ (cs : List Command) (rs : List Reply). room_after_all None (part name (granted cs rs))) (take_all (length commands) commands (omega arith)) (take_all (length commands) all (omega (arith, ran.long)))

  last_time : (time : ℕ) (one : Command) → slice_get (commands ++ command ∷ []) time ≡ Some one → length commands ≤ time → time ≡ length commands
  last_time time one at late =
      let within = slice_get_within (commands ++ command ∷ []) time one at in
      let long = length-append commands (command ∷ []) in
      omega (arith, within, long)

  -- what holds at each earlier time and at the last holds of all
  module _ (P : ℕ → Command → Reply → Type 0)
      (earlier : (time : ℕ) (one : Command) (answer : Reply) → time < length commands → slice_get commands time ≡ Some one → slice_get all time ≡ Some answer → P time one answer) (last : P (length commands) command reply) where
    at_each : (time : ℕ) (one : Command) (answer : Reply) → slice_get (commands ++ command ∷ []) time ≡ Some one → slice_get (all ++ reply ∷ []) time ≡ Some answer → P time one answer
    at_each time one answer at replied = elim (cases_lt time (length commands)) [
      | inl early ↦ earlier time one answer early (sym (slice_get-append commands (command ∷ []) time early) ∙ at) (sym (slice_get-append all (reply ∷ []) time (omega (arith, ran.long, early))) ∙ replied)
      | inr late ↦
          let is = last_time time one at (omega arith) in
          let same_command : command ≡ one = some_same command one (sym (slice_get-push commands command) ∙ ap (slice_get (commands ++ command ∷ [])) (sym is) ∙ at) in
          let same_reply : reply ≡ answer = some_same reply answer (sym (slice_get-push all reply) ∙ ap (slice_get (all ++ reply ∷ [])) (ran.long ∙ sym is) ∙ replied) in
          subst (λ (t : ℕ). P t one answer) (sym is) (subst (λ (c : Command). P (length commands) c answer) same_command (subst (λ (r : Reply). P (length commands) command r) same_reply last))
    ]

  abbrev now : List ℕ → Option OpenRoom
  now name = room_then (commands ++ command ∷ []) (all ++ reply ∷ []) (length commands) name

  now_is : (name : List ℕ) → now name ≡ room_of name
  now_is name = then_as_now (length commands) name (omega arith) ∙ now_all name

  own_state : IsStateOf (room_at before (name_in command)) (now (name_in command))
  own_state = subst (IsStateOf (room_at before (name_in command))) (sym (now_is (name_in command))) (ran.rooms (name_in command))

  abbrev ReportThen : ℕ → Command → Reply → Type 0
  ReportThen time one answer = (report : ReportData) → answer ≡ replies.Report report
      → (room : OpenRoom) × (room_then (commands ++ command ∷ []) (all ++ reply ∷ []) time (name_in one) ≡ Some room) × IsTrueReport room.spec room.fields report

  abbrev WantThen : ℕ → Command → Reply → Type 0
  WantThen time one answer = answer ≡ replies.Refused refusals.OutOfMemory → MayWant (room_then (commands ++ command ∷ []) (all ++ reply ∷ []) time (name_in one)) one

  open_now : (room : Option OpenRoom) (report : ReportData) → IsReportOf room report → (one : OpenRoom) × (room ≡ Some one) × IsTrueReport one.spec one.fields report
  open_now (Some room) report is = (room, refl, is)
  open_now None report is = absurd is

  pub goes_on : Ran (commands ++ command ∷ []) (all ++ reply ∷ []) after
  goes_on = record {
    long = let a = length-append all (reply ∷ []) in let b = length-append commands (command ∷ []) in omega (arith, a, b, ran.long);
    rooms = λ name. (said name).0;
    answers = λ name. (said name).1;
    reports = λ time one report at replied. at_each ReportThen
        (λ t c r early at replied report is.
        let found = ran.reports t c report at (replied ∙ ap Some is) in
        (found.0, then_as_now t (name_in c) (omega arith) ∙ found.1, found.2))
        (λ report is. open_now (now (name_in command)) report (applies.report report is (now (name_in command)) own_state))
        time one (replies.Report report) at replied report refl;
    wants = λ time one at replied. at_each WantThen
        (λ t c r early at replied is. subst (λ (room : Option OpenRoom). MayWant room c) (sym (then_as_now t (name_in c) (omega arith))) (ran.wants t c at (replied ∙ ap Some is)))
        (λ is. may_want (room_at before (name_in command)) (now (name_in command)) command own_state (applies.want is))
        time one (replies.Refused refusals.OutOfMemory) at replied refl;
  }

-- where no memory was refused, each name's replies are those to its part alone
pub alone : (commands : List Command) (all : List Reply) → length all ≡ length commands → ((name : List ℕ) → without_wants (replies_of name commands all) ≡ replies_from None (part name (granted commands all)))
    → HasNoWant all → (name : List ℕ) → replies_of name commands all ≡ replies_from None (part name commands)
alone commands all long answers none name =
    sym (none_left_out name commands all none) ∙ answers name ∙ ap (λ (given : List Command). replies_from None (part name given)) (all_granted commands all long none)
