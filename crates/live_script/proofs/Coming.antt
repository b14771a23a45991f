-- What becomes of a script that is fed, entry by entry.
use Rattle.std.proofs.Common.{◌≡◌, ◌∙◌, ℕ, ◌||◌, Bool, true, false, List, [], ◌∷◌, ◌++◌, refl, sym, ap, ap₂, subst}
use Rattle.std.specs.List.{flat_map, list_any}
use Rattle.std.proofs.lemmas.Grind.{flat_map-append}
use Rattle.std.proofs.lemmas.List.{append-nil}
use Rattle.service_core.specs.Rooms.{Entries}
use Rattle.script_play.proofs.CallerLemmas.{run_none, run_on}
use Rattle.script_play.specs.Play.{Done, HasRun, commands_of, ending_if, ending_with, replies_in}
use Rattle.live_script.specs.Entries.{Piece, line_after}
use Rattle.live_script.specs.Answers.{Answer, Did, Malformed, Crowded, AreAnswers, AreLive, IsAnswer, LeavesRooms, all_done, done_by, is_out_of_memory, has_refused, open_by}
use Rattle.live_script.specs.Sessions.{HasCome, IsAnsweredBy, IsNew, line_after_all, open_after_all}
use Rattle.live_script.specs.declared.live.Live.{Live}

-- ---- the answers

answers-push : (opened number : ℕ) (pieces : List Piece) (answers : List Answer) (piece : Piece) (answer : Answer) → AreAnswers opened number pieces answers
    → IsAnswer (open_after_all opened answers) (line_after_all number pieces) piece answer → AreAnswers opened number (pieces ++ piece ∷ []) (answers ++ answer ∷ [])
answers-push opened number [] [] piece answer none is = (is, tt)
answers-push opened number [] (one ∷ answers) piece answer so_far is = absurd so_far
answers-push opened number (first ∷ pieces) [] piece answer so_far is = absurd so_far
answers-push opened number (first ∷ pieces) (one ∷ answers) piece answer so_far is = (so_far.0, answers-push (open_by opened one) (line_after number first) pieces answers piece answer so_far.1 is)

lines-push : (number : ℕ) (pieces : List Piece) (piece : Piece) → line_after_all number (pieces ++ piece ∷ []) ≡ line_after (line_after_all number pieces) piece
lines-push number [] piece = refl
lines-push number (first ∷ pieces) piece = lines-push (line_after number first) pieces piece

open-push : (opened : ℕ) (answers : List Answer) (answer : Answer) → open_after_all opened (answers ++ answer ∷ []) ≡ open_by (open_after_all opened answers) answer
open-push opened [] answer = refl
open-push opened (first ∷ answers) answer = open-push (open_by opened first) answers answer

-- ---- the end

any-push : (test : Answer → Bool) (answers : List Answer) (answer : Answer) → list_any test (answers ++ answer ∷ []) ≡ (list_any test answers || test answer)
any-push test [] answer = or_no (test answer)
  where
    or_no : (b : Bool) → (b || false) ≡ b
    or_no true = refl
    or_no false = refl
any-push test (first ∷ answers) answer = ap (λ b. test first || b) (any-push test answers answer) ∙ or_assoc (test first) (list_any test answers) (test answer)
  where
    or_assoc : (a b c : Bool) → (a || (b || c)) ≡ ((a || b) || c)
    or_assoc true b c = refl
    or_assoc false b c = refl

ending-push : (answers : List Answer) (answer : Answer)
    → ending_with (is_out_of_memory answer) (has_refused answer) (ending_if (list_any is_out_of_memory answers) (list_any has_refused answers)) ≡ ending_if (list_any is_out_of_memory (answers ++ answer ∷ [])) (list_any has_refused (answers ++ answer ∷ []))
ending-push answers answer =
    by (list_any is_out_of_memory answers) (list_any has_refused answers) (is_out_of_memory answer) (has_refused answer)
    ∙ ap₂ ending_if (sym (any-push is_out_of_memory answers answer)) (sym (any-push has_refused answers answer))
  where
    by : (lacking refused lacks refuses : Bool) → ending_with lacks refuses (ending_if lacking refused) ≡ ending_if (lacking || lacks) (refused || refuses)
    by true refused true refuses = refl
    by false refused true refuses = refl
    by true refused false true = refl
    by true refused false false = refl
    by false true false true = refl
    by false false false true = refl
    by false true false false = refl
    by false false false false = refl

-- ---- the rooms

abbrev RanAll : List Done → Entries → Type 0
RanAll all rooms = HasRun (commands_of all) (replies_in all) rooms

done-push : (answers : List Answer) (answer : Answer) → all_done (answers ++ answer ∷ []) ≡ all_done answers ++ done_by answer
done-push answers answer = flat_map-append done_by answers (answer ∷ []) ∙ ap (λ (l : List Done). all_done answers ++ l) (append-nil (done_by answer))

same-push : (answers : List Answer) (answer : Answer) (rooms after : Entries) → done_by answer ≡ [] → RanAll (all_done answers) rooms → after ≡ rooms → RanAll (all_done (answers ++ answer ∷ [])) after
same-push answers answer rooms after none ran same =
    subst (λ (all : List Done). RanAll all after) (sym (done-push answers answer ∙ ap (λ (l : List Done). all_done answers ++ l) none ∙ append-nil (all_done answers)))
    (subst (λ (e : Entries). RanAll (all_done answers) e) (sym same) ran)

rooms-push : (answers : List Answer) (answer : Answer) (rooms after : Entries) → RanAll (all_done answers) rooms → LeavesRooms rooms answer after → RanAll (all_done (answers ++ answer ∷ [])) after
rooms-push answers (Did done) rooms after ran leaves =
    subst (λ (all : List Done). RanAll all after) (sym (done-push answers (Did done))) (run_on (all_done answers) rooms done after ran leaves)
rooms-push answers (Malformed line fault) rooms after ran same = same-push answers (Malformed line fault) rooms after refl ran same
rooms-push answers (Crowded line) rooms after ran same = same-push answers (Crowded line) rooms after refl ran same

-- ---- the script

pub none_come : (live : Live) → IsNew live → HasCome [] [] live
none_come live new = record {
  each = tt;
  ran = run_none live.service new.none;
  open_is = new.open_is;
  line_is = new.line_is;
  ending_is = new.ending_is;
}

pub one_comes : (pieces : List Piece) (answers : List Answer) (piece : Piece) (answer : Answer) (live after : Live) → HasCome pieces answers live → IsAnsweredBy piece answer live after
    → HasCome (pieces ++ piece ∷ []) (answers ++ answer ∷ []) after
one_comes pieces answers piece answer live after come answered = record {
  each = answers-push 0 1 pieces answers piece answer come.each
      (subst (λ (opened : ℕ). IsAnswer opened (line_after_all 1 pieces) piece answer) come.open_is (subst (λ (number : ℕ). IsAnswer live.opened number piece answer) come.line_is answered.is));
  ran = rooms-push answers answer live.service after.service come.ran answered.leaves;
  open_is = answered.open_is ∙ ap (λ (opened : ℕ). open_by opened answer) come.open_is ∙ sym (open-push 0 answers answer);
  line_is = answered.line_is ∙ ap (λ (number : ℕ). line_after number piece) come.line_is ∙ sym (lines-push 1 pieces piece);
  ending_is = answered.ends ∙ ap (ending_with (is_out_of_memory answer) (has_refused answer)) come.ending_is ∙ ending-push answers answer;
}

pub live_of : (pieces : List Piece) (answers : List Answer) (live : Live) → HasCome pieces answers live → AreLive pieces answers
live_of pieces answers live come = record { each = come.each; replies = come.ran.answers }

pub none_live : AreLive [] []
none_live = record { each = tt; replies = (run_none [] refl).answers }
