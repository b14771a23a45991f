-- Histories that are judged command by command.
use Rattle.std.proofs.Common.{◌≡◌, ◌∙◌, ℕ, zero, suc, ◌+◌, ◌<◌, ◌==◌, Bool, true, false, List, [], ◌∷◌, ◌++◌, length, map, Option, Some, None, Result, Ok, Err, refl, sym, ap, ap₂, subst, arith}
use Rattle.std.specs.Prelude.{IfNone, IfOk, IfSome, if◌then◌else◌}
use Rattle.std.specs.Result.{OnOk}
use Rattle.std.specs.List.{concat, range_with_len}
use Rattle.std.specs.declared.alloc.AllocError.{AllocError}
use Rattle.std.proofs.Math.Dec.{eqb-suc-zero}
use Rattle.std.proofs.lemmas.List.{append-nil, append_assoc}
use Rattle.std.proofs.lemmas.List.Folds.{concat-append}
use Rattle.std.proofs.lemmas.List.FromFn.{map-range_with_len_more}
use Rattle.protocol_lang.specs.Trees.{Tree}
use Rattle.room_spec.specs.Rooms.{RoomSpec}
use Rattle.room_spec.specs.Texts.{first_line, later_lines}
use Rattle.transcript.specs.declared.event.Event.{Event}
use Rattle.decision_tasks.specs.Tasks.{IsFirstBroken, KeepsDecisions}
use Rattle.decision_tasks.specs.declared.history.Moment.{Moment}
use Rattle.room_core.specs.Calls.{RoomState}
use Rattle.service_core.specs.Replies.{name_in}
use Rattle.service_core.specs.Rooms.{Entries, room_at}
use Rattle.service_core.specs.declared.command.Command.{Command}
use Rattle.service_core.specs.declared.reply.Reply.{Reply}
use Rattle.room_files.specs.declared.outcome.Outcome.{Outcome}
use Rattle.room_files.specs.declared.kinds.Kinds.TheVariants.{All}
use Rattle.script_play.specs.Following.{AreFollowed, IsAsked, IsPlay}
use Rattle.script_play.specs.Play.{Done, Replied}
use Rattle.script_play.specs.Script.{text_after}
use Rattle.script_play.specs.declared.following.Asked.{Asked}
use Rattle.view_grade.specs.Grades.{graded_ending, is_move_for, one_more, reported_in}
use Rattle.view_grade.specs.Keeping.{Found, IsFoundUnless, IsJudged, IsJudgedIf, IsKeptBy, IsKeptGrade, IsKeptTo, Kept, found_at, is_kept_reached, kept_shown, line_at, line_from, next_number, nothing_kept}
use Rattle.view_grade.specs.declared.goal.Claim.{Claim}
use Rattle.view_grade.proofs.Keeping.{command_graded}

-- ---- a room

pub kept_to : (lines : List Tree) (spec of : RoomSpec) (events : List Event) (found : Option Moment) → of ≡ spec → IfNone found (KeepsDecisions lines of events) → IfSome found (IsFirstBroken lines of events) → IsKeptTo lines spec events found
kept_to lines spec of events None is none some = subst (λ (s : RoomSpec). KeepsDecisions lines s events) is none
kept_to lines spec of events (Some moment) is none some = subst (λ (s : RoomSpec). IsFirstBroken lines s events moment) is some

pub judged_there : {E : Type 0} (lines : List Tree) (here : Option RoomState) (room : RoomState) (result : Result (Option Moment) E) → here ≡ Some room → IfOk result (IsJudged lines room) → IfOk result (IsJudgedIf lines here)
judged_there lines here room (Ok found) is judged = subst (λ (r : Option RoomState). IsJudgedIf lines r found) (sym is) judged
judged_there lines here room (Err refused) is judged = tt

pub none_there : (lines : List Tree) (here : Option RoomState) → here ≡ None → IsJudgedIf lines here None
none_there lines here is = subst (λ (r : Option RoomState). IsJudgedIf lines r None) (sym is) refl

-- ---- what is found

pub found_is : (line at : ℕ) (name of : List ℕ) (moment : Moment) → line ≡ at → name ≡ of → Some (record { line = line; room = name; moment = moment }) ≡ found_at at of (Some moment)
found_is line at name of moment same_line same_name = ap₂ (λ (l : ℕ) (n : List ℕ). found_at l n (Some moment)) same_line same_name

-- ---- a command

-- the one that follows, which was ready as it was first, has noted the command, and judged the room
pub command_kept : (lines ready_lines : List Tree) (script ready_script : List ℕ) (asked : Asked) (first ready now : Kept) (rooms left : Entries) (command : Command) (reply : Reply) → IsAsked asked command
    → ready_lines ≡ lines → ready_script ≡ script → ready.graded.last ≡ first.graded.last → ready.graded.moves ≡ first.graded.moves → ready.watched.entries ≡ first.watched.entries → ready.watched.found ≡ first.watched.found
    → now.graded.last ≡ reported_in (room_at left asked.name.now) ready.graded.last reply → now.graded.moves ≡ (if is_move_for asked.order then one_more ready.graded.moves else ready.graded.moves)
    → now.watched.entries ≡ one_more ready.watched.entries → IsFoundUnless ready.watched.found ready_lines (line_at ready_script ready.watched.entries) asked.name.now (room_at left asked.name.now) now.watched.found
    → IsKeptBy lines script first rooms (Replied command reply) left now
command_kept lines ready_lines script ready_script asked first ready now rooms left command reply is same_lines same_script last moves entries broken last_is moves_are entries_are found = (
  command_graded asked first.graded ready.graded now.graded rooms left command reply is last moves last_is moves_are,
  (
    entries_are ∙ ap one_more entries,
    subst (λ (l : List Tree). IsFoundUnless first.watched.found l (line_at script first.watched.entries) (name_in command) (room_at left (name_in command)) now.watched.found) same_lines
        (subst (λ (s : List ℕ). IsFoundUnless first.watched.found ready_lines (line_at s first.watched.entries) (name_in command) (room_at left (name_in command)) now.watched.found) same_script
        (subst (λ (e : ℕ). IsFoundUnless first.watched.found ready_lines (line_at ready_script e) (name_in command) (room_at left (name_in command)) now.watched.found) entries
        (subst (λ (b : Option Found). IsFoundUnless b ready_lines (line_at ready_script ready.watched.entries) (name_in command) (room_at left (name_in command)) now.watched.found) broken
        (subst (λ (n : List ℕ). IsFoundUnless ready.watched.found ready_lines (line_at ready_script ready.watched.entries) n (room_at left n) now.watched.found) is.name found)))),
  ),
)

pub on_both : {X E : Type 0} (result : Result X E) (one other both : Type 0) → (one → other → both) → OnOk result one → OnOk result other → OnOk result both
on_both (Ok x) one other both makes a b = makes a b
on_both (Err e) one other both makes a b = tt

-- ---- a script

-- the task and the script stay as they were
kept_along : {F : Type 0} (lines_of : F → List Tree) (script_of : F → List ℕ) (view : F → Kept) (lines : List Tree) (script : List ℕ) (rooms : Entries) (first : F) (all : List Done) (after : Entries) (last : F) → lines_of first ≡ lines → script_of first ≡ script
    → AreFollowed (λ old before done now new. (lines_of new ≡ lines_of old) × (script_of new ≡ script_of old) × IsKeptBy (lines_of old) (script_of old) (view old) before done now (view new)) rooms first all after last
    → AreFollowed (IsKeptBy lines script) rooms (view first) all after (view last)
kept_along lines_of script_of view lines script rooms first [] after last same_lines same_script is = (is.0, ap view is.1)
kept_along lines_of script_of view lines script rooms first (done ∷ all) after last same_lines same_script is = (
  is.0,
  view is.1,
  is.2,
  subst (λ (l : List Tree). IsKeptBy l script (view first) rooms done is.0 (view is.1)) same_lines (subst (λ (s : List ℕ). IsKeptBy (lines_of first) s (view first) rooms done is.0 (view is.1)) same_script is.3.2),
  kept_along lines_of script_of view lines script is.0 is.1 all after last (is.3.0 ∙ same_lines) (is.3.1 ∙ same_script) is.4,
)

pub script_kept : {F : Type 0} (lines_of : F → List Tree) (script_of : F → List ℕ) (view : F → Kept) (json : Bool) (claims : List Claim) (most : Option ℕ) (lines : List Tree) (script : List ℕ) (first : F) (rooms : Entries) (last : F) (ending now : Result Outcome AllocError) (output : List ℕ)
    → lines_of first ≡ lines → script_of first ≡ script → view first ≡ nothing_kept
    → IsPlay (λ old before done left new. (lines_of new ≡ lines_of old) × (script_of new ≡ script_of old) × IsKeptBy (lines_of old) (script_of old) (view old) before done left (view new)) All script first rooms last ending
    → output ≡ kept_shown json claims most (view last).graded (view last).watched.found → now ≡ graded_ending ending (is_kept_reached claims most (view last).graded (view last).watched.found) → IsKeptGrade json claims most lines script now output
script_kept lines_of script_of view json claims most lines script first rooms last ending now output same_lines same_script none is output_is ending_is = record {
  entries = is.entries;
  asked = is.asked;
  all = is.all;
  each_entry = is.each_entry;
  replies = is.replies;
  rooms = rooms;
  kept = view last;
  followed = subst (λ (k : Kept). AreFollowed (IsKeptBy lines script) [] k is.all rooms (view last)) none (kept_along lines_of script_of view lines script [] first is.all rooms last same_lines same_script is.followed);
  output_is = output_is;
  ending_is = ending_is ∙ ap (λ (e : Result Outcome AllocError). graded_ending e (is_kept_reached claims most (view last).graded (view last).watched.found)) is.ending_is;
}

-- ---- lines

line_next : (left number : ℕ) (text : List ℕ) → 0 < length text → line_from (suc left) number text ≡ line_from left (next_number number (first_line text) (later_lines text)) (text_after (first_line text) (later_lines text))
unfolding line_from
line_next left number [] long = absurd (omega (arith, long))
line_next left number (byte ∷ bytes) long = refl

pub line_more : (left before number : ℕ) (text : List ℕ) → left ≡ before + 1 → 0 < length text
    → line_from left number text ≡ line_from before (next_number number (first_line text) (later_lines text)) (text_after (first_line text) (later_lines text))
line_more left before number text is long =
    let same : left ≡ suc before = omega (arith, is) in
    ap (λ (n : ℕ). line_from n number text) same ∙ line_next before number text long

pub line_stop : (left number : ℕ) (text : List ℕ) → left ≡ 0 → line_from left number text ≡ number
unfolding line_from
line_stop zero number text is = refl
line_stop (suc left) number text is = absurd (omega (arith, is))

pub line_end : (left number : ℕ) (text : List ℕ) → length text ≡ 0 → line_from left number text ≡ number
unfolding line_from
line_end zero number text is = refl
line_end (suc left) number [] is = refl
line_end (suc left) number (byte ∷ bytes) is = absurd (omega (arith, is))

pub some_left : (is_empty : Bool) (text : List ℕ) → is_empty ≡ (length text == 0) → is_empty ≡ false → 0 < length text
some_left is_empty [] is isnt = absurd cc
some_left is_empty (byte ∷ bytes) is isnt = omega arith

pub none_left : (is_empty : Bool) (text : List ℕ) → is_empty ≡ (length text == 0) → is_empty ≡ true → length text ≡ 0
none_left is_empty [] is so = refl
none_left is_empty (byte ∷ bytes) is so = let other = eqb-suc-zero (length bytes) in absurd cc

-- ---- texts

texts_to : (text : ℕ → List ℕ) (i : ℕ) → concat (map text (range_with_len 0 (i + 1))) ≡ concat (map text (range_with_len 0 i)) ++ text i
texts_to text i =
    ap concat (map-range_with_len_more text 0 i i (omega arith)) ∙ concat-append (map text (range_with_len 0 i)) (text i ∷ []) ∙ ap (λ t. concat (map text (range_with_len 0 i)) ++ t) (append-nil (text i))

-- one text more after those of the first numbers
pub number_more : (text : ℕ → List ℕ) (start before after one : List ℕ) (i : ℕ) → before ≡ start ++ concat (map text (range_with_len 0 i)) → after ≡ before ++ one → one ≡ text i
    → after ≡ start ++ concat (map text (range_with_len 0 (i + 1)))
number_more text start before after one i so_far more is =
    more ∙ ap (λ t. before ++ t) is ∙ ap (λ b. b ++ text i) so_far ∙ append_assoc start (concat (map text (range_with_len 0 i))) (text i) ∙ ap (λ t. start ++ t) (sym (texts_to text i))
