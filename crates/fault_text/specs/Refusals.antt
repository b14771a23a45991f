-- What is said of the blocks that are refused.
use Rattle.std.specs.Prelude.{ℕ, List, [], ◌∷◌, ◌++◌, take, drop, nat_eq, codes, decimal, if◌then◌else◌}
use Rattle.std.specs.List.{flat_map, starts_with}
use Rattle.std.specs.Str.{bytes_eq}
use Rattle.room_files.specs.Blocks.{refused_line, why_text}
use Rattle.room_files.specs.declared.fault.BlockFault.{BlockFault}
use Rattle.room_files.specs.declared.fault.BlockFault.TheVariants as blocks
use Rattle.fault_text.specs.Blocks.{block_fault, line_fault}
use Rattle.fault_text.specs.Lines.{from_line, line_at}
use Rattle.fault_text.specs.declared.refusals.RefusedBlock.{RefusedBlock}
use Rattle.fault_text.specs.declared.refusals.TheConstants.{ENOUGH, IS_REFUSED, THE_BLOCK}

-- how many lines and blocks of an input are explained
abbrev pub most_explained : ℕ
most_explained = 100

-- what is said of the fault, if the block may be valid but for its name
abbrev pub why_said : ℕ → List ℕ → BlockFault → List ℕ
why_said first text (blocks.Spec fault) = block_fault first text fault
why_said first text blocks.NameTaken = line_fault first text 2 blocks.NameTaken

-- the line that `check` writes of a refused block
abbrev pub refusal_line : RefusedBlock → List ℕ
refusal_line refusal = refused_line refusal.line (why_text refusal.fault)

-- the same with what is said of the block, with which this text begins
abbrev pub said_refusal : List ℕ → RefusedBlock → List ℕ
said_refusal text refusal = refusal_line refusal ++ why_said refusal.line text refusal.fault

abbrev pub all_said : List ℕ → List RefusedBlock → List ℕ
all_said input refusals = flat_map (λ refusal. said_refusal (from_line refusal.line input) refusal) refusals

-- there are more
abbrev pub enough_if : List RefusedBlock → List ℕ
enough_if [] = []
enough_if (refusal ∷ others) = ENOUGH.now

-- what is said of all refused blocks of an input: the first are explained, and of each further one there is only the line
unfoldable pub said_refusals : List ℕ → List RefusedBlock → List ℕ
said_refusals input refusals = all_said input (take most_explained refusals) ++ (enough_if (drop most_explained refusals) ++ flat_map refusal_line (drop most_explained refusals))

-- the same only as lines for people, of the first
unfoldable pub noted_refusal : List ℕ → RefusedBlock → List ℕ
noted_refusal text refusal = codes "    " ++ said_refusal text refusal

abbrev pub all_noted : List ℕ → List RefusedBlock → List ℕ
all_noted input refusals = flat_map (λ refusal. noted_refusal (from_line refusal.line input) refusal) refusals

unfoldable pub noted_refusals : List ℕ → List RefusedBlock → List ℕ
noted_refusals input refusals = all_noted input (take most_explained refusals) ++ enough_if (drop most_explained refusals)

-- ---- rooms that there are not, since their blocks are refused

abbrev pub after_room : List ℕ → List ℕ
after_room line = if starts_with nat_eq line (codes "room ") then drop 5 line else []

-- what a block's second line has after the word `room`, or nothing if that isn't its word
abbrev pub name_in : List ℕ → List ℕ
name_in text = after_room (line_at 2 text)

abbrev pub named_line : List ℕ → ℕ → List ℕ
named_line name line = THE_BLOCK.now ++ (name ++ (IS_REFUSED.now ++ ((32 ∷ decimal line) ++ codes "\n")))

-- the block with this first line is refused, if it says this name
abbrev pub named_if : List ℕ → List ℕ → ℕ → List ℕ
named_if name text line = if bytes_eq (name_in text) name then named_line name line else []

abbrev pub all_named : List ℕ → List ℕ → List RefusedBlock → List ℕ
all_named input name refusals = flat_map (λ refusal. named_if name (from_line refusal.line input) refusal.line) refusals

-- the blocks of a room of this name that are refused, of those that are explained
abbrev pub named_refusals : List ℕ → List ℕ → List RefusedBlock → List ℕ
named_refusals input name refusals = all_named input name (take most_explained refusals)
