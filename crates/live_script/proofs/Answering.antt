-- One entry more is answered.
use Rattle.std.proofs.Common.{◌≡◌, ℕ, ◌+◌, ◌<◌, ◌≤◌, List, ◌++◌, length, min, Some, None, Result, Ok, Err, refl, ap, subst}
use Rattle.std.specs.Prelude.{codes, decimal}
use Rattle.std.specs.Result.{OnOk}
use Rattle.service_core.specs.declared.command.Command.{Command}
use Rattle.service_core.specs.declared.reply.Reply.{Reply}
use Rattle.room_files.specs.Faults.{text_code}
use Rattle.room_files.specs.declared.fault.TextFault.TheVariants.{NoCommand}
use Rattle.room_files.specs.Lines.{text_lines}
use Rattle.room_files.specs.declared.kinds.Kinds.TheVariants.{All}
use Rattle.script_play.specs.Script.{Entry, Ask, Open, asked, command_in}
use Rattle.script_play.specs.Play.{Done, IsDone, Replied}
use Rattle.live_script.specs.Entries.{Piece, Line, Block, asked_by, line_after}
use Rattle.live_script.specs.Answers.{Did, Malformed, Crowded, HasSpace, most_rooms, remark}
use Rattle.live_script.specs.Sessions.{IsAnsweredBy, IsRefused, IsTaken}
use Rattle.live_script.specs.declared.live.Live.{Live}
use Rattle.live_script.specs.declared.live.TheConstants.{MAX_LINE_NUMBER}

-- the script has gone on after an entry
abbrev Passes : Piece → Live → Live → Type 0
Passes piece before passed = passed ≡ record before { line = line_after before.line piece }

pub done_answered : (piece : Piece) (done : Done) (entry : Entry) (before passed after : Live) → Passes piece before passed → HasSpace before.opened piece → asked_by before.line piece ≡ Ok entry → IsDone All entry done
    → IsTaken done passed after → IsAnsweredBy piece (Did done) before after
done_answered piece done entry before passed after passes space asks is taken =
    let now : IsTaken done (record before { line = line_after before.line piece }) after = subst (λ (l : Live). IsTaken done l after) passes taken in
    record { is = (space, entry, asks, is); leaves = now.leaves; says = now.says; open_is = now.open_is; line_is = now.line_is; ends = now.ends }

pub command_answered : (line : List ℕ) (command : Command) (before passed after : Live) (reply : Reply) → Passes (Line line) before passed → command_in line ≡ Some command
    → IsTaken (Replied command reply) passed after → IsAnsweredBy (Line line) (Did (Replied command reply)) before after
command_answered line command before passed after reply passes is taken =
    done_answered (Line line) (Replied command reply) (Ask command) before passed after passes tt (ap (asked before.line) is) refl taken

pub malformed_answered : (line : List ℕ) (number : ℕ) (before passed after : Live) → Passes (Line line) before passed → command_in line ≡ None → number ≡ before.line
    → IsRefused (remark number (codes ": fault " ++ decimal (text_code NoCommand))) passed after → IsAnsweredBy (Line line) (Malformed before.line NoCommand) before after
malformed_answered line number before passed after passes none is refused =
    let here : IsRefused (remark before.line (codes ": fault " ++ decimal (text_code NoCommand))) passed after = subst (λ (n : ℕ). IsRefused (remark n (codes ": fault " ++ decimal (text_code NoCommand))) passed after) is refused in
    let now : IsRefused (remark before.line (codes ": fault " ++ decimal (text_code NoCommand))) (record before { line = line_after before.line (Line line) }) after =
    subst (λ (l : Live). IsRefused (remark before.line (codes ": fault " ++ decimal (text_code NoCommand))) l after) passes here in
    record { is = ap (asked before.line) none; leaves = now.rooms; says = now.says; open_is = now.open_is; line_is = now.line_is; ends = now.ends }

pub crowded_answered : (block : List ℕ) (number : ℕ) (before passed after : Live) → Passes (Block block) before passed → most_rooms ≤ before.opened → number ≡ before.line
    → IsRefused (remark number (codes ": too many rooms")) passed after → IsAnsweredBy (Block block) (Crowded before.line) before after
crowded_answered block number before passed after passes full is refused =
    let here : IsRefused (remark before.line (codes ": too many rooms")) passed after = subst (λ (n : ℕ). IsRefused (remark n (codes ": too many rooms")) passed after) is refused in
    let now : IsRefused (remark before.line (codes ": too many rooms")) (record before { line = line_after before.line (Block block) }) after = subst (λ (l : Live). IsRefused (remark before.line (codes ": too many rooms")) l after) passes here in
    record { is = (refl, full); leaves = now.rooms; says = now.says; open_is = now.open_is; line_is = now.line_is; ends = now.ends }

pub opened_answered : (block : List ℕ) (number : ℕ) (done : Done) (before passed after : Live) → Passes (Block block) before passed → before.opened < most_rooms → number ≡ before.line
    → IsDone All (Open (number + 1) block) done → IsTaken done passed after → IsAnsweredBy (Block block) (Did done) before after
opened_answered block number done before passed after passes space at is taken =
    done_answered (Block block) done (Open (before.line + 1) block) before passed after passes space refl (subst (λ (n : ℕ). IsDone All (Open (n + 1) block) done) at is) taken

pub passes_block : (block : List ℕ) (count : ℕ) (before passed : Live) → count ≡ length (text_lines block) → passed ≡ record before { line = min (before.line + (1 + count)) MAX_LINE_NUMBER } → Passes (Block block) before passed
passes_block block count before passed is passes = subst (λ (n : ℕ). passed ≡ record before { line = min (before.line + (1 + n)) MAX_LINE_NUMBER }) is passes

pub where_ok : {X E : Type 0} (r : Result X E) (P Q : Type 0) → (P → Q) → OnOk r P → OnOk r Q
where_ok (Ok x) P Q step holds = step holds
where_ok (Err e) P Q step holds = tt
