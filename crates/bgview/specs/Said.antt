-- What the program says on standard error at its end.
use Rattle.std.specs.Prelude.{ℕ, List, [], ◌++◌, Option, Some, None, Result, Ok, Err, codes, decimal}
use Rattle.protocol_lang.specs.Faults.{sentence_of}
use Rattle.decision_tasks.specs.declared.task.LineFault.{LineFault}
use Rattle.program_io.specs.Errors.{Errors, IsSaid, fault_line, place_words}
use Rattle.io_text.specs.declared.fault.DeviceFault.TheVariants.{Read, Write, TooLong, Memory}
use Rattle.room_files.specs.Faults.{text_code}
use Rattle.room_files.specs.declared.outcome.Outcome.{Outcome}
use Rattle.room_files.specs.declared.outcome.Outcome.TheVariants.{AllWell, SomeRefused}
use Rattle.view_grade.specs.Grades.{fault_text}
use Rattle.input_vectors.specs.Values.{values_fault_text}
use Rattle.bgview_command_line.specs.declared.words.Mode.{Mode}
use Rattle.bgview_command_line.specs.declared.words.Mode.TheVariants.{Draw, Transcript}
use Rattle.bgview.specs.Unread.{unread_note}
use Rattle.bgview.specs.declared.ended.Ended.{Ended}
use Rattle.bgview.specs.declared.fault.OptionFault.TheVariants.{Alone, Both, Goal, Inputs, Keeps, Open, OpenTask, Rooms, Second, TwoTasks}
use Rattle.bgview.specs.declared.fault.ViewFault.{ViewFault}
use Rattle.bgview.specs.declared.fault.ViewFault.TheVariants.{BadInput, BadOption, BadPart, Device, Incomplete}
use Rattle.bgview.specs.declared.unread.Unread.{Unread}

-- where in a line of a task of one's own its fault is, and the fault
abbrev pub line_reason_text : LineFault → List ℕ
line_reason_text fault = (decimal fault.at ++ codes ": ") ++ sentence_of fault.fault

abbrev pub line_place_text : LineFault → List ℕ
line_place_text fault = (decimal fault.line ++ codes " of --keeps, byte ") ++ line_reason_text fault

-- which line of a task of one's own is no condition, where, and why
abbrev pub line_fault_text : LineFault → List ℕ
line_fault_text fault = codes "line " ++ line_place_text fault

-- at which line a file can't be added up with the others
abbrev pub part_words : ℕ → List ℕ
part_words line = codes "line " ++ (decimal line ++ codes ": no part of the sum")

abbrev pub fault_words : ViewFault → List ℕ
fault_words (Device Read) = codes "read failed"
fault_words (Device Write) = codes "write failed"
fault_words (Device TooLong) = codes "input too long"
fault_words (Device Memory) = codes "out of memory"
fault_words Incomplete = codes "out of memory"
fault_words (BadInput line fault) = place_words line (text_code fault)
fault_words (BadPart bad) = part_words bad.line
fault_words (BadOption (Goal fault)) = fault_text fault
fault_words (BadOption (Inputs fault)) = values_fault_text fault
fault_words (BadOption (Keeps fault)) = line_fault_text fault
fault_words (BadOption Both) = codes "--inputs and --keeps can't be given together"
fault_words (BadOption TwoTasks) = codes "--keeps and --keeps-file can't be given together"
fault_words (BadOption Alone) = codes "--outcome can't be given together with --task, --inputs or --keeps"
fault_words (BadOption Rooms) = codes "--rooms can't be given together with --top, --outcome, --task, --inputs or --keeps"
fault_words (BadOption Open) = codes "--open can't be given together with --rooms, --brief, --top, --outcome, --task, --inputs or --keeps"
fault_words (BadOption Second) = codes "--keeps and --open can't be given together with a second file"
fault_words (BadOption OpenTask) = codes "--open and --keeps can't be given together"

-- the file that was not read, and why
abbrev pub unread_text : Option Unread → List ℕ
unread_text None = []
unread_text (Some file) = unread_note file.path.now file.kind

-- after a script of which a command was refused, if the mode shows no replies and nothing else is noted
abbrev pub refused_note : Mode → Outcome → List ℕ → List ℕ
refused_note Draw SomeRefused [] = codes "    a command was refused: `bgview trace` shows which, and why\n"
refused_note Transcript SomeRefused [] = codes "    a command was refused: `bgview trace` shows which, and why\n"
refused_note _ _ _ = []

abbrev pub IsEndOf : Mode → Result Outcome ViewFault → Option Unread → List ℕ → Errors → Type 0
IsEndOf mode (Ok outcome) unread notes errors = IsSaid errors (notes ++ refused_note mode outcome notes)
IsEndOf mode (Err fault) unread notes errors = IsSaid errors (fault_line (codes "bgview: ") (fault_words fault) ++ (notes ++ unread_text unread))

-- What is said at the end: the fault, if one ended the answer, then the notes on the inputs, then which file was not read, or that a command
-- was refused.
abbrev pub IsEndSaid : Mode → Ended → List ℕ → Errors → Type 0
IsEndSaid mode ended notes errors = IsEndOf mode ended.result ended.unread notes errors
