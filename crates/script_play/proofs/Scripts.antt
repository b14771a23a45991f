-- Scripts, entry by entry.
use Rattle.std.proofs.Common.{◌≡◌, ◌∙◌, ℕ, zero, suc, ◌+◌, ◌<◌, ◌≤◌, Bool, true, false, cond, List, [], ◌∷◌, ◌++◌, length, Option, Some, None, Result, Ok, Err, refl, sym, ap, ap₂, subst, arith}
use Rattle.std.specs.Prelude.{IsOk, is_some}
use Rattle.std.specs.List.{slice_split, onto_first}
use Rattle.std.proofs.lemmas.List.{append-nil, append_assoc}
use Rattle.room_spec.specs.Texts.{first_line, later_lines}
use Rattle.service_core.specs.declared.command.Command.{Command}
use Rattle.room_files.specs.Blocks.{IsFaultOr}
use Rattle.room_files.specs.Faults.{FaultAt}
use Rattle.room_files.specs.Lines.{text_lines}
use Rattle.room_files.specs.declared.fault.InputFault.{InputFault}
use Rattle.room_files.specs.declared.fault.InputFault.TheVariants.{BadInput, Memory}
use Rattle.room_files.specs.declared.fault.TextFault.TheVariants.{NoCommand}
use Rattle.script_play.specs.declared.entries.Entry.{Entry as First}
use Rattle.script_play.specs.declared.entries.Entry.TheVariants as first
use Rattle.script_play.specs.Script.{Entry, Ask, Open, StandsFirst, and_then, asked, asks_at, block_after, command_in, command_to, entry_at, entry_lines, is_asking, is_open, script_from, text_after}

-- no command has three fields behind the name
pub no_command : (is_cut : ℕ → Bool) (word name sim count rest : List ℕ) → ◌≡◌ {A = Option Command} None (command_to word name (sim ∷ count ∷ slice_split is_cut rest))
no_command is_cut word name sim count [] = refl
no_command is_cut word name sim count (byte ∷ bytes) = elim (is_cut byte) as (λ b. ◌≡◌ {A = Option Command} None (command_to word name (sim ∷ count ∷ cond b ([] ∷ slice_split is_cut bytes) (onto_first byte (slice_split is_cut bytes))))) [
  | true ↦ refl
  | false ↦ elim (slice_split is_cut bytes) as (λ parts. ◌≡◌ {A = Option Command} None (command_to word name (sim ∷ count ∷ onto_first byte parts))) [ [] ↦ refl | ◌∷◌ part parts ↦ refl ]
]

-- ---- entries

-- the entries before, and those that are read behind them
abbrev pub behind : List Entry → Result (List Entry) FaultAt → Result (List Entry) FaultAt
behind before (Ok later) = Ok (before ++ later)
behind before (Err fault) = Err fault

pub behind_none : (read : Result (List Entry) FaultAt) → read ≡ behind [] read
behind_none (Ok later) = refl
behind_none (Err fault) = refl

behind_one : (before : List Entry) (entry : Entry) (read : Result (List Entry) FaultAt) → behind before (and_then (Ok entry) read) ≡ behind (before ++ entry ∷ []) read
behind_one before entry (Ok later) = ap Ok (sym (append_assoc before (entry ∷ []) later))
behind_one before entry (Err fault) = refl

-- what stands first is what the definition of a script reads there

opened : (open_it : Bool) (number : ℕ) (line at block : List ℕ) → open_it ≡ true → block ≡ at → cond open_it (Ok (Open (number + 1) at)) (asked number (command_in line)) ≡ Ok (Open (number + 1) block)
opened true number line at block opens is = ap (λ (b : List ℕ). Ok (Open (number + 1) b)) (sym is)
opened false number line at block opens is = absurd cc

other : (open_it : Bool) (number : ℕ) (text line at : List ℕ) → open_it ≡ false → line ≡ text → cond open_it (Ok (Open (number + 1) at)) (asked number (command_in text)) ≡ asked number (command_in line)
other true number text line at opens is = absurd cc
other false number text line at opens is = ap (λ (l : List ℕ). asked number (command_in l)) (sym is)

first_asked : (number : ℕ) (text : List ℕ) (first : First) → StandsFirst text first → entry_at number (first_line text) (block_after (first_line text) (later_lines text)) ≡ asks_at number first
first_asked number text (first.Block block) stands = opened (is_open (first_line text)) number (first_line text) (block_after (first_line text) (later_lines text)) block.now stands.0 stands.1
first_asked number text (first.Line line) stands = other (is_open (first_line text)) number (first_line text) line.now (block_after (first_line text) (later_lines text)) stands.0 stands.1

no_block : (open_it : Bool) (block : List ℕ) → open_it ≡ false → cond open_it block [] ≡ []
no_block true block opens = absurd cc
no_block false block opens = refl

first_lines : (number : ℕ) (text : List ℕ) (first : First) → StandsFirst text first → number + 1 + length (text_lines (block_after (first_line text) (later_lines text))) ≡ number + entry_lines first
first_lines number text (first.Block block) stands = let many = ap (λ (b : List ℕ). length (text_lines b)) stands.1 in omega (arith, many)
first_lines number text (first.Line line) stands =
    let none : length (text_lines (block_after (first_line text) (later_lines text))) ≡ 0 = ap (λ (b : List ℕ). length (text_lines b)) (no_block (is_open (first_line text)) _ stands.0) in
    omega (arith, none)

-- what is left behind one entry more
pub step_script : (most number lines : ℕ) (text later : List ℕ) (first : First) (entry : Entry) (before : List Entry) (whole : Result (List Entry) FaultAt) → length text ≤ most → 0 < length text
    → StandsFirst text first → later ≡ text_after (first_line text) (later_lines text) → length later < length text → lines ≡ entry_lines first → asks_at number first ≡ Ok entry → whole ≡ behind before (script_from most number text)
    → (fewer : ℕ) × (length later ≤ fewer) × (whole ≡ behind (before ++ entry ∷ []) (script_from fewer (number + lines) later))
unfolding script_from
step_script most number lines [] later first entry before whole within some stands later_is shorter lines_is asks is = absurd (omega arith)
step_script zero number lines (byte ∷ bytes) later first entry before whole within some stands later_is shorter lines_is asks is = absurd (omega arith)
step_script (suc fewer) number lines (byte ∷ bytes) later first entry before whole within some stands later_is shorter lines_is asks is =
    let text = byte ∷ bytes in
    let at = block_after (first_line text) (later_lines text) in
    let same = first_asked number text first stands ∙ asks in (
      fewer,
      omega (arith, shorter, within),
      is ∙ ap (λ r. behind before (and_then r (script_from fewer (number + 1 + length (text_lines at)) (text_after (first_line text) (later_lines text))))) same
          ∙ behind_one before entry (script_from fewer (number + 1 + length (text_lines at)) (text_after (first_line text) (later_lines text)))
          ∙ ap₂ (λ n rest. behind (before ++ entry ∷ []) (script_from fewer n rest)) (first_lines number text first stands ∙ ap (λ (n : ℕ). number + n) (sym lines_is)) (sym later_is),
    )

-- a line that asks for nothing
pub bad_entry : (most number : ℕ) (text : List ℕ) (first : First) (before : List Entry) (whole : Result (List Entry) FaultAt) (fault : FaultAt) → length text ≤ most → 0 < length text → StandsFirst text first
    → asks_at number first ≡ Err fault → whole ≡ behind before (script_from most number text) → whole ≡ Err fault
unfolding script_from
bad_entry most number [] first before whole fault within some stands asks is = absurd (omega arith)
bad_entry zero number (byte ∷ bytes) first before whole fault within some stands asks is = absurd (omega arith)
bad_entry (suc fewer) number (byte ∷ bytes) first before whole fault within some stands asks is =
    let text = byte ∷ bytes in
    let at = block_after (first_line text) (later_lines text) in
    let same = first_asked number text first stands ∙ asks in
    is ∙ ap (λ r. behind before (and_then r (script_from fewer (number + 1 + length (text_lines at)) (text_after (first_line text) (later_lines text))))) same

-- nothing is left
pub script_ends : (most number : ℕ) (text : List ℕ) (before : List Entry) (whole : Result (List Entry) FaultAt) → text ≡ [] → whole ≡ behind before (script_from most number text) → whole ≡ Ok before
unfolding script_from
script_ends zero number text before whole empty is = is ∙ ap Ok (append-nil before)
script_ends (suc most) number text before whole empty is = is ∙ ap (λ t. behind before (script_from (suc most) number t)) empty ∙ ap Ok (append-nil before)

-- ---- what stands first

asked_command : (number : ℕ) (command : Option Command) → is_some command ≡ true → (entry : Entry) × (asked number command ≡ Ok entry)
asked_command number None good = absurd cc
asked_command number (Some command) good = (Ask command, refl)

asked_nothing : (number : ℕ) (command : Option Command) → is_some command ≡ false → asked number command ≡ Err (number, NoCommand)
asked_nothing number None bad = refl
asked_nothing number (Some command) bad = absurd cc

pub good_entry : (number : ℕ) (first : First) → is_asking first ≡ true → (entry : Entry) × (asks_at number first ≡ Ok entry)
good_entry number (first.Block block) good = (Open (number + 1) block.now, refl)
good_entry number (first.Line line) good = asked_command number (command_in line.now) good

pub bad_line : (number : ℕ) (first : First) → is_asking first ≡ false → asks_at number first ≡ Err (number, NoCommand)
bad_line number (first.Block block) bad = absurd cc
bad_line number (first.Line line) bad = asked_nothing number (command_in line.now) bad

-- what ends the lines that are left ends the script
pub fault_after : (before : List Entry) (read whole : Result (List Entry) FaultAt) (fault : InputFault) → whole ≡ behind before read → IsFaultOr (IsOk read) read fault → IsFaultOr (IsOk whole) whole fault
fault_after before read whole fault is says = subst (λ (w : Result (List Entry) FaultAt). IsFaultOr (IsOk w) w fault) (sym is) (by read fault says)
  where
    by : (read : Result (List Entry) FaultAt) (fault : InputFault) → IsFaultOr (IsOk read) read fault → IsFaultOr (IsOk (behind before read)) (behind before read) fault
    by (Ok later) (BadInput line fault) says = absurd cc
    by (Err first) (BadInput line fault) says = says
    by (Ok later) Memory says = refl
    by (Err first) Memory says = absurd cc
