-- The lines of commands, read as they were written.
use Rattle.std.proofs.Common.{◌≡◌, ◌∙◌, ℕ, zero, suc, ◌+◌, ◌<◌, ◌≤◌, Bool, true, false, not, List, [], ◌∷◌, ◌++◌, length, map, drop, take, Some, Result, Ok, refl, sym, ap, ap₂, arith, add-one}
use Rattle.std.specs.Prelude.{codes}
use Rattle.std.specs.Fmt.{decimal}
use Rattle.std.specs.List.{AllByRecursion, join_with_byte, list_all, position_or_len}
use Rattle.std.proofs.lemmas.Bool.{and_parts, eqb-true, not-true}
use Rattle.std.proofs.lemmas.List.{append-nil, length-append, take_at}
use Rattle.std.proofs.lemmas.List.Folds.{list_all-append}
use Rattle.std.proofs.Math.Seq.{drop-append_seam}
use Rattle.protocol_lang.specs.Numbers.{is_digit}
use Rattle.protocol_lang.proofs.CallerLemmas.{digits_of-decimal}
use Rattle.room_spec.specs.Grammar.{is_line, text_of}
use Rattle.room_spec.specs.Names.{is_name, is_name_byte}
use Rattle.room_spec.specs.Rooms.{RoomSpec}
use Rattle.room_spec.specs.Texts.{first_line, is_line_end, later_lines}
use Rattle.room_spec.proofs.CallerLemmas.{before_cut, text_of-cons}
use Rattle.service_core.specs.declared.command.Command.{Command}
use Rattle.room_files.specs.Blocks.{block_extent}
use Rattle.room_files.specs.Faults.{FaultAt}
use Rattle.room_files.specs.Lines.{text_lines}
use Rattle.script_play.specs.Script.{Ask, Entry, IsCommandLine, Open, and_then, block_after, command_fields, command_in, entry_at, is_open, script_from, script_says, text_after}
use Rattle.script_play.proofs.CallerLemmas.{read_again}
use Rattle.view_sample.proofs.WholeBlocks.{IsWhole}

-- ---- lines

position_of : (line rest : List ℕ) → is_line line ≡ true → position_or_len is_line_end (line ++ 10 ∷ rest) ≡ length line
position_of [] rest whole = refl
position_of (byte ∷ line) rest whole =
    let parts = and_parts (not (is_line_end byte)) (is_line line) whole in
    rw (not-true (is_line_end byte) parts.0, position_of line rest parts.1) (omega arith)

drop_past : (line : List ℕ) (byte : ℕ) (rest : List ℕ) → drop (length line + 1) (line ++ byte ∷ rest) ≡ rest
drop_past [] byte rest = refl
drop_past (first ∷ line) byte rest = rw add-one (rw add-one at (drop_past line byte rest))

later_of : (line rest : List ℕ) → is_line line ≡ true → later_lines (line ++ 10 ∷ rest) ≡ rest
later_of line rest whole = rw (position_of line rest whole) (drop_past line 10 rest)

-- bytes that pass a test which a line end doesn't pass are a line
pub line_by : (test : ℕ → Bool) → test 10 ≡ false → (bytes : List ℕ) → list_all test bytes ≡ true → is_line bytes ≡ true
line_by test fails [] all = refl
line_by test fails (byte ∷ bytes) all =
    let parts = and_parts (test byte) (list_all test bytes) all in
    rw (no_end (is_line_end byte) refl parts.0, line_by test fails bytes parts.1) refl
  where
    no_end : (b : Bool) → is_line_end byte ≡ b → test byte ≡ true → is_line_end byte ≡ false
    no_end true is passed = absurd (let same : true ≡ false = sym passed ∙ ap test (eqb-true byte 10 is) ∙ fails in cc)
    no_end false is passed = is

line_and : (one other : List ℕ) → is_line one ≡ true → is_line other ≡ true → is_line (one ++ other) ≡ true
line_and one other first second = list_all-append (λ byte. not (is_line_end byte)) one other ∙ rw (first, second) refl

pub line_name : (name : List ℕ) → is_name name ≡ true → is_line name ≡ true
line_name name is = line_by is_name_byte refl name (and_parts _ (list_all is_name_byte name) is).1

pub line_decimal : (number : ℕ) → number ≤ 65535 → is_line (decimal number) ≡ true
line_decimal number small = line_by is_digit refl (decimal number) (digits_of-decimal number (omega (arith, small)))

-- two fields with a space between them
pub line_joined : (one other : List ℕ) → is_line one ≡ true → is_line other ≡ true → is_line (one ++ 32 ∷ other) ≡ true
line_joined one other first second = line_and one (32 ∷ other) first second

-- ---- commands

abbrev pub line_of : Command → List ℕ
line_of command = join_with_byte 32 (command_fields command)

-- a line for each command
abbrev pub lines_for : List Command → List ℕ
lines_for commands = text_of (map line_of commands)

pub lines_more : (command : Command) (commands : List Command) → lines_for (command ∷ commands) ≡ line_of command ++ 10 ∷ lines_for commands
lines_more command commands =
    sym (append-nil (lines_for (command ∷ commands))) ∙ text_of-cons (line_of command) (map line_of commands) [] ∙ ap (λ (t : List ℕ). line_of command ++ 10 ∷ t) (append-nil (lines_for commands))

-- the line of the command is one that is read
pub record IsWritten (command : Command) : Type 0 where
  pub asks : IsCommandLine (line_of command) command
  pub line : is_line (line_of command) ≡ true
  pub closed : is_open (line_of command) ≡ false

entry_of : (number : ℕ) (line rest : List ℕ) (command : Command) → is_open line ≡ false → command_in line ≡ Some command → entry_at number line (block_after line rest) ≡ Ok (Ask command)
entry_of number line rest command closed is = rw (closed, is) refl

lines_none : (line rest : List ℕ) → is_open line ≡ false → length (text_lines (block_after line rest)) ≡ 0
lines_none line rest closed = rw closed refl

rest_of : (line rest : List ℕ) → is_open line ≡ false → text_after line rest ≡ rest
rest_of line rest closed = rw closed refl

-- what is read at a line that asks for a command
next_read : (most number : ℕ) (text line rest : List ℕ) (command : Command) → 0 < length text → first_line text ≡ line → later_lines text ≡ rest → is_open line ≡ false → command_in line ≡ Some command → script_from (suc most) number text ≡ and_then (Ok (Ask command)) (script_from most (number + 1) rest)
unfolding script_from
next_read most number [] line rest command some first later closed is = absurd (omega (arith, some))
next_read most number (byte ∷ bytes) line rest command some first later closed is =
    let read : List ℕ → List ℕ → Result (List Entry) FaultAt = λ l r. and_then (entry_at number l (block_after l r)) (script_from most (number + 1 + length (text_lines (block_after l r))) (text_after l r)) in
    let count : number + 1 + length (text_lines (block_after line rest)) ≡ number + 1 = let none = lines_none line rest closed in omega (arith, none) in
    ap₂ read first later
    ∙ ap (λ (entry : Result Entry FaultAt). and_then entry (script_from most (number + 1 + length (text_lines (block_after line rest))) (text_after line rest))) (entry_of number line rest command closed is)
    ∙ ap₂ (λ (n : ℕ) (t : List ℕ). and_then (Ok (Ask command)) (script_from most n t)) count (rest_of line rest closed)

-- all commands are read
pub all_read : (commands : List Command) → AllByRecursion IsWritten commands → (most number : ℕ) (text : List ℕ) → text ≡ lines_for commands → length text ≤ most → script_from most number text ≡ Ok (map Ask commands)
unfolding script_from
all_read [] written zero number text is within = refl
all_read [] written (suc most) number text is within = ap (script_from (suc most) number) is
all_read (command ∷ commands) written zero number text is within =
    absurd (let long = ap length (is ∙ lines_more command commands) in omega (arith, within, long, length-append (line_of command) (10 ∷ lines_for commands)))
all_read (command ∷ commands) written (suc most) number text is within =
    let line = line_of command in
    let rest = lines_for commands in
    let parts : text ≡ line ++ 10 ∷ rest = is ∙ lines_more command commands in
    let long = ap length parts in
    let count = length-append line (10 ∷ rest) in
    let one = written.0 in
    next_read most number text line rest command (omega (arith, long, count)) (ap first_line parts ∙ before_cut is_line_end line 10 rest one.line refl) (ap later_lines parts ∙ later_of line rest one.line)
    one.closed (read_again line (command_in line) refl command one.asks)
    ∙ ap (and_then (Ok (Ask command))) (all_read commands written.1 most (number + 1) rest refl (omega (arith, within, long, count)))

-- ---- a script that opens one room

pub opened_read : (spec : RoomSpec) (block whole : List ℕ) (commands : List Command) → IsWhole spec block whole → AllByRecursion IsWritten commands
    → script_says (codes "open\n" ++ (whole ++ lines_for commands)) ≡ Ok (Open 2 whole ∷ map Ask commands)
unfolding script_from
opened_read spec block whole commands is written =
    let rest = lines_for commands in
    let text = whole ++ rest in
    let most = length (codes "pen\n" ++ text) in
    let read : List ℕ → List ℕ → Result (List Entry) FaultAt = λ l r. and_then (entry_at 1 l (block_after l r)) (script_from most (1 + 1 + length (text_lines (block_after l r))) (text_after l r)) in
    let front : take (block_extent text) text ≡ whole = ap (λ (n : ℕ). take n text) (is.extent rest) ∙ take_at whole rest (length whole) refl in
    let behind : drop (block_extent text) text ≡ rest = ap (λ (n : ℕ). drop n text) (is.extent rest) ∙ drop-append_seam whole rest in
    ap₂ read (before_cut is_line_end (codes "open") 10 text refl refl) (later_of (codes "open") text refl)
    ∙ ap₂ (λ (b r : List ℕ). and_then (Ok (Open 2 b)) (script_from most (1 + 1 + length (text_lines b)) r)) front behind
    ∙ ap (and_then (Ok (Open 2 whole))) (all_read commands written most (1 + 1 + length (text_lines whole)) rest refl (omega (arith, length-append whole rest)))
