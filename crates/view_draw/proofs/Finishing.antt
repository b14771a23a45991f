-- Panels that are finished one by one.
use Rattle.std.proofs.Common.{◌≡◌, ◌∙◌, ℕ, zero, suc, ◌+◌, ◌<◌, ◌≤◌, List, [], ◌∷◌, Option, Some, None, length, take, drop, get_or, set, ap, subst, arith, sym, refl, true, is_none}
use Rattle.room_core.specs.Calls.{RoomState}
use Rattle.room_core.specs.Fields.{Fields}
use Rattle.room_core.specs.Reading.{AreFieldsOf}
use Rattle.ws_history.specs.Reports.{IsTrueReport, report_of}
use Rattle.ws_history.specs.declared.states.Report.{Report as ReportData}
use Rattle.service_core.specs.Replies.{OpenRoom, reply_to}
use Rattle.service_core.specs.declared.reply.Reply.TheVariants.{Report}
use Rattle.service_core.specs.declared.command.Command.TheVariants as commands
use Rattle.service_core.specs.Rooms.{Entries, IsReportOf, IsStateOf, room_at}
use Rattle.simulator_lanes.specs.Panels.{Panel}
use Rattle.view_draw.specs.Drawn.{AreFinished, HasComeTo, IsFinished, IsReportAt}

-- the first of a list are finished, and those behind them are as they were
pub record IsFinishedUpTo (rooms : Entries) (before : List Panel) (i : ℕ) (now : List Panel) : Type 0 where
  pub front : AreFinished rooms (take i before) (take i now)
  pub rest : drop i now ≡ drop i before

head_is : {A : Type 0} (x y : A) (xs ys : List A) → x ∷ xs ≡ y ∷ ys → x ≡ y
head_is x y xs ys is = ap (λ l. get_or l 0 x) is

tail_is : {A : Type 0} (x y : A) (xs ys : List A) → x ∷ xs ≡ y ∷ ys → xs ≡ ys
tail_is x y xs ys is = ap (λ l. drop 1 l) is

one_more_at : (rooms : Entries) (before now : List Panel) (i : ℕ) (x y : Panel) → i < length before → IsFinishedUpTo rooms before i now → x ≡ get_or now i x
    → IsFinished rooms x y → IsFinishedUpTo rooms before (suc i) (set now i y)
one_more_at rooms [] now i x y within so_far is finished = absurd (omega arith)
one_more_at rooms (b ∷ before) [] zero x y within so_far is finished = absurd (grind arith)
one_more_at rooms (b ∷ before) [] (suc i) x y within so_far is finished = absurd so_far.front
one_more_at rooms (b ∷ before) (n ∷ now) zero x y within so_far is finished =
    let same : x ≡ b = is ∙ head_is n b now before so_far.rest in
    record {
      front = (subst (λ p. IsFinished rooms p y) same finished, _);
      rest = tail_is n b now before so_far.rest;
    }
one_more_at rooms (b ∷ before) (n ∷ now) (suc i) x y within so_far is finished =
    let later : IsFinishedUpTo rooms before (suc i) (set now i y) =
    one_more_at rooms before now i x y (omega arith) (record { front = so_far.front.1; rest = so_far.rest }) is finished
    in record { front = (so_far.front.0, later.front); rest = later.rest }

pub one_more : (rooms : Entries) (before now : List Panel) (i : ℕ) (x y : Panel) → i < length before → IsFinishedUpTo rooms before i now → x ≡ get_or now i x
    → IsFinished rooms x y → IsFinishedUpTo rooms before (i + 1) (set now i y)
one_more rooms before now i x y within so_far is finished =
    subst (λ (k : ℕ). IsFinishedUpTo rooms before k (set now i y)) (omega arith) (one_more_at rooms before now i x y within so_far is finished)

-- the report of the room of a name
report_of_state : (core : RoomState) (report : ReportData) (name : List ℕ) → ((fields : Fields) → AreFieldsOf core fields → report ≡ report_of core.spec fields) → ((fields : Fields) → AreFieldsOf core fields → IsTrueReport core.spec fields report)
    → (room : Option OpenRoom) → IsStateOf (Some core) room → (Report report ≡ reply_to room (commands.Report name)) × IsReportOf room report
report_of_state core report name same truth None is = absurd is
report_of_state core report name same truth (Some room) is =
    (ap Report (subst (λ s. report ≡ report_of s room.fields) is.spec (same room.fields is.fields)), subst (λ s. IsTrueReport s room.fields report) is.spec (truth room.fields is.fields))

pub report_at : (rooms : Entries) (name : List ℕ) (core : RoomState) (report : ReportData) → room_at rooms name ≡ Some core
    → ((fields : Fields) → AreFieldsOf core fields → report ≡ report_of core.spec fields) → ((fields : Fields) → AreFieldsOf core fields → IsTrueReport core.spec fields report) → IsReportAt rooms name report
report_at rooms name core report there same truth room is =
    report_of_state core report name same truth room (subst (λ (state : Option RoomState). IsStateOf state room) there is)

pub all_finished : (rooms : Entries) (before now : List Panel) (i : ℕ) → length before ≤ i → IsFinishedUpTo rooms before i now → AreFinished rooms before now
all_finished rooms [] [] i long so_far = tt
all_finished rooms [] (n ∷ now) zero long so_far = absurd (grind (arith, so_far.rest))
all_finished rooms [] (n ∷ now) (suc i) long so_far = absurd so_far.front
all_finished rooms (b ∷ before) now zero long so_far = absurd (omega arith)
all_finished rooms (b ∷ before) [] (suc i) long so_far = absurd so_far.front
all_finished rooms (b ∷ before) (n ∷ now) (suc i) long so_far =
    (so_far.front.0, all_finished rooms before now i (omega arith) (record { front = so_far.front.1; rest = so_far.rest }))

none_is : {A : Type 0} (o : Option A) → is_none o ≡ true → o ≡ None
none_is None is = refl
none_is (Some x) is = absurd (grind (arith, is))

pub finished_here : (rooms : Entries) (before after : Panel) (core : RoomState) (report : ReportData) → is_none before.report ≡ true
    → room_at rooms before.head.spec.name ≡ Some core → ((fields : Fields) → AreFieldsOf core fields → report ≡ report_of core.spec fields)
    → ((fields : Fields) → AreFieldsOf core fields → IsTrueReport core.spec fields report)
    → after ≡ record before { report = Some report } → IsFinished rooms before after
finished_here rooms before after core report opened there same truth is = record {
  head = ap (λ (p : Panel). p.head) is;
  marks = ap (λ (p : Panel). p.marks) is;
  report =
      let reported : HasComeTo rooms before.head.spec.name None (Some report) = report_at rooms before.head.spec.name core report there same truth in
      subst (λ (r : Option ReportData). HasComeTo rooms before.head.spec.name r after.report) (sym (none_is before.report opened))
      (subst (λ (r : Option ReportData). HasComeTo rooms before.head.spec.name None r) (sym (ap (λ (p : Panel). p.report) is)) reported);
}
