-- A block with other inputs on its third line says the room with these inputs.
use Rattle.std.proofs.Common.{◌≡◌, ◌∙◌, ℕ, ◌+◌, ◌*◌, ◌≤◌, Bool, true, not, List, [], ◌∷◌, ◌++◌, length, drop, map, codes, decimal, refl, sym, ap, subst, arith, inl, inr, add-one}
use Rattle.std.specs.List.{join_with_byte, list_all, position_or_len}
use Rattle.std.proofs.lemmas.Bool.{and_from, and_parts, leb-true, not-true}
use Rattle.std.proofs.lemmas.Bool.Decides.{nat_tests}
use Rattle.std.proofs.lemmas.List.{append-nil, append_assoc, length-append, take_all}
use Rattle.std.proofs.lemmas.List.Concat.{flat_map-cons}
use Rattle.std.proofs.lemmas.List.Folds.{list_all-append}
use Rattle.io_text.specs.Numbers.{numbers_text}
use Rattle.protocol_lang.specs.Numbers.{greatest, is_digit}
use Rattle.protocol_lang.proofs.CallerLemmas.{decimal_digits}
use Rattle.room_spec.specs.Grammar.{IsBlock, IsInFront, block_text, crash_line, head_lines, is_line, line_end, task_lines, text_of, version_text}
use Rattle.room_spec.specs.Names.{is_name, is_name_byte}
use Rattle.room_spec.specs.Rooms.{IsShape, IsWithinLimits, RoomSpec, bits_of, is_value, most_bits, processes, with_inputs}
use Rattle.room_spec.specs.Texts.{first_line, is_line_end, later_lines}
use Rattle.room_spec.specs.declared.version.Version.{Version}
use Rattle.room_spec.specs.declared.version.Version.TheVariants.{One, Two}
use Rattle.room_spec.proofs.CallerLemmas.{before_cut, text_of-cons}
use Rattle.run_blocks.specs.Blocks.{block_with, inputs_line}

-- ---- the lines before the third

no_end_in_name : (byte : ℕ) → is_name_byte byte ≡ true → not (is_line_end byte) ≡ true
no_end_in_name byte is = grind (arith, nat_tests)

-- a text whose bytes all pass a test that no line end passes
pub each_is_line : (p : ℕ → Bool) → ((byte : ℕ) → p byte ≡ true → not (is_line_end byte) ≡ true) → (text : List ℕ) → list_all p text ≡ true → is_line text ≡ true
each_is_line p step [] all = refl
each_is_line p step (byte ∷ text) all =
    let parts = and_parts (p byte) (list_all p text) all in
    and_from (not (is_line_end byte)) (is_line text) (step byte parts.0) (each_is_line p step text parts.1)

pub room_is_line : (name : List ℕ) → is_name name ≡ true → is_line (codes "room " ++ name) ≡ true
room_is_line name is = each_is_line is_name_byte no_end_in_name name (and_parts _ (list_all is_name_byte name) is).1

pub no_end_in_digit : (byte : ℕ) → is_digit byte ≡ true → not (is_line_end byte) ≡ true
no_end_in_digit byte is = grind (arith, nat_tests)

numbers_are_line : (numbers : List ℕ) → list_all is_value numbers ≡ true → is_line (numbers_text numbers) ≡ true
numbers_are_line [] all = refl
numbers_are_line (number ∷ numbers) all =
    let parts = and_parts (is_value number) (list_all is_value numbers) all in
    let digits : is_line (decimal number) ≡ true = each_is_line is_digit no_end_in_digit (decimal number) (decimal_digits number (omega (arith, leb-true number greatest parts.0))) in
    ap is_line (flat_map-cons (λ (n : ℕ). 32 ∷ decimal n) number numbers)
    ∙ list_all-append (λ (byte : ℕ). not (is_line_end byte)) (32 ∷ decimal number) (numbers_text numbers)
    ∙ and_from (is_line (decimal number)) (is_line (numbers_text numbers)) digits (numbers_are_line numbers parts.1)

pub inputs_are_line : (inputs : List ℕ) → list_all is_value inputs ≡ true → is_line (inputs_line inputs) ≡ true
inputs_are_line inputs all = numbers_are_line inputs all

version_is_line : (version : Version) → is_line (version_text version) ≡ true
version_is_line One = refl
version_is_line Two = refl

-- ---- what comes after a line

cut_place : (line rest : List ℕ) → is_line line ≡ true → position_or_len is_line_end (line ++ 10 ∷ rest) ≡ length line
cut_place [] rest is = refl
cut_place (byte ∷ line) rest is =
    let parts = and_parts (not (is_line_end byte)) (is_line line) is in
    rw (not-true (is_line_end byte) parts.0, cut_place line rest parts.1) (omega arith)

past_line : (line rest : List ℕ) → drop (length line + 1) (line ++ 10 ∷ rest) ≡ rest
past_line [] rest = refl
past_line (byte ∷ line) rest = rw add-one (rw add-one at (past_line line rest))

pub later_is : (line rest : List ℕ) → is_line line ≡ true → later_lines (line ++ 10 ∷ rest) ≡ rest
later_is line rest is = rw (cut_place line rest is) (past_line line rest)

pub first_is : (line rest : List ℕ) → is_line line ≡ true → first_line (line ++ 10 ∷ rest) ≡ line
first_is line rest is = before_cut is_line_end line 10 rest is refl

-- ---- the line of the inputs

pub inputs_are : (word : List ℕ) (inputs : List ℕ) → join_with_byte 32 (word ∷ map decimal inputs) ≡ word ++ numbers_text inputs
inputs_are word [] = sym (append-nil word)
inputs_are word (input ∷ inputs) =
    ap (λ (t : List ℕ). word ++ (32 ∷ t)) (inputs_are (decimal input) inputs)
    ∙ ap (λ (t : List ℕ). word ++ t) (sym (flat_map-cons (λ (number : ℕ). 32 ∷ decimal number) input inputs))

-- ---- the block as these lines

-- the lines after that of the inputs
abbrev pub rest_lines : RoomSpec → List (List ℕ)
rest_lines room =
    (codes "simulators " ++ decimal room.simulators)
    ∷ (codes "rounds " ++ decimal room.rounds)
    ∷ (codes "turns " ++ decimal room.turns)
    ∷ (task_lines room.task ++ (map crash_line room.fuses ++ codes "protocol" ∷ []))

-- three lines, and what follows them
abbrev pub three_lines : List ℕ → List ℕ → List ℕ → List ℕ → List ℕ
three_lines version name inputs rest = version ++ 10 ∷ (name ++ 10 ∷ (inputs ++ 10 ∷ rest))

abbrev pub rest_of : RoomSpec → List ℕ → List ℕ → List ℕ
rest_of room text tail = text_of (rest_lines room) ++ ((text ++ codes "end") ++ tail)

-- a room's block, and the bytes after it
pub block_is : (room : RoomSpec) (text tail : List ℕ) → block_text room text ++ tail ≡ three_lines (version_text room.version) (codes "room " ++ room.name) (inputs_line room.inputs) (rest_of room text tail)
block_is room text tail =
    let version = version_text room.version in
    let name = codes "room " ++ room.name in
    let joined = join_with_byte 32 (codes "inputs" ∷ map decimal room.inputs) in
    append_assoc (text_of (head_lines room)) (text ++ codes "end") tail
    ∙ text_of-cons version (name ∷ joined ∷ rest_lines room) ((text ++ codes "end") ++ tail)
    ∙ ap (λ (t : List ℕ). version ++ 10 ∷ t) (text_of-cons name (joined ∷ rest_lines room) ((text ++ codes "end") ++ tail))
    ∙ ap (λ (t : List ℕ). version ++ 10 ∷ (name ++ 10 ∷ t)) (text_of-cons joined (rest_lines room) ((text ++ codes "end") ++ tail))
    ∙ ap (λ (line : List ℕ). three_lines version name line (rest_of room text tail)) (inputs_are (codes "inputs") room.inputs)

pub ends_so : (a b : List ℕ) → (a ++ line_end) ++ b ≡ a ++ 10 ∷ b
ends_so a b = append_assoc a line_end b

with_is : (version name inputs other rest : List ℕ) → is_line version ≡ true → is_line name ≡ true → is_line inputs ≡ true → (all : List ℕ) → inputs_line all ≡ other
    → block_with (three_lines version name inputs rest) all ≡ three_lines version name other rest
with_is version name inputs other rest first second third all is =
    let block = three_lines version name inputs rest in
    let after_version : later_lines block ≡ name ++ 10 ∷ (inputs ++ 10 ∷ rest) = later_is version (name ++ 10 ∷ (inputs ++ 10 ∷ rest)) first in
    let after_name : later_lines (later_lines block) ≡ inputs ++ 10 ∷ rest = ap later_lines after_version ∙ later_is name (inputs ++ 10 ∷ rest) second in
    let after_inputs : later_lines (later_lines (later_lines block)) ≡ rest = ap later_lines after_name ∙ later_is inputs rest third in
    ends_so (first_line block) _
    ∙ ap (λ (t : List ℕ). first_line block ++ 10 ∷ t) (ends_so (first_line (later_lines block)) _)
    ∙ ap (λ (t : List ℕ). first_line block ++ 10 ∷ (first_line (later_lines block) ++ 10 ∷ t)) (ends_so (inputs_line all) _)
    ∙ ap (λ (t : List ℕ). first_line block ++ 10 ∷ (first_line (later_lines block) ++ 10 ∷ (inputs_line all ++ 10 ∷ t))) after_inputs
    ∙ ap (λ (line : List ℕ). first_line block ++ 10 ∷ (first_line (later_lines block) ++ 10 ∷ (line ++ 10 ∷ rest))) is
    ∙ ap (λ (line : List ℕ). line ++ 10 ∷ (first_line (later_lines block) ++ 10 ∷ (other ++ 10 ∷ rest))) (first_is version (name ++ 10 ∷ (inputs ++ 10 ∷ rest)) first)
    ∙ ap (λ (line : List ℕ). version ++ 10 ∷ (line ++ 10 ∷ (other ++ 10 ∷ rest))) (ap first_line after_version ∙ first_is name (inputs ++ 10 ∷ rest) second)

-- ---- the room

pub limits_with : (room : RoomSpec) (inputs : List ℕ) → IsWithinLimits room → length inputs ≡ processes room → list_all is_value inputs ≡ true → IsWithinLimits (with_inputs room inputs)
limits_with room inputs is same small = record {
  name = is.name;
  shape = subst (λ (n : ℕ). IsShape n room.simulators (bits_of room.rounds) room.rounds) (sym same) is.shape;
  width = subst (λ (n : ℕ). room.simulators * n * bits_of room.rounds ≤ most_bits room.version) (sym same) is.width;
  turns = is.turns;
  task = is.task;
  fuses = is.fuses;
  values = small;
  own = tt;
  numerals = is.numerals;
}

with_tail : (room : RoomSpec) (inputs text tail block : List ℕ) → IsWithinLimits room → block ≡ block_text room text ++ tail → block_with block inputs ≡ block_text (with_inputs room inputs) text ++ tail
with_tail room inputs text tail block is same =
    ap (λ (b : List ℕ). block_with b inputs) (same ∙ block_is room text tail)
    ∙ with_is (version_text room.version) (codes "room " ++ room.name) (inputs_line room.inputs) (inputs_line inputs) (rest_of room text tail)
    (version_is_line room.version) (room_is_line room.name is.name) (inputs_are_line room.inputs is.values) inputs refl
    ∙ sym (block_is (with_inputs room inputs) text tail)

ended_front : (bytes : List ℕ) → IsInFront bytes (bytes ++ line_end) (length (bytes ++ line_end))
ended_front bytes = inl (length-append bytes line_end, take_all (length (bytes ++ line_end)) (bytes ++ line_end) (omega arith))

bare_front : (bytes : List ℕ) → IsInFront bytes bytes (length bytes)
bare_front bytes = inr (refl, refl)

-- what changes the text of a block in this way changes the block
pub front_as : (old new : List ℕ) (changed : List ℕ → List ℕ) → ((tail block : List ℕ) → block ≡ old ++ tail → changed block ≡ new ++ tail) → (block : List ℕ) → IsInFront old block (length block) → IsInFront new (changed block) (length (changed block))
front_as old new changed same block front = elim front [
  | inl ended ↦
      let whole : block ≡ old ++ line_end = sym (take_all (length block) block (omega arith)) ∙ ended.1 in
      subst (λ (b : List ℕ). IsInFront new b (length b)) (sym (same line_end block whole)) (ended_front new)
  | inr bare ↦
      let whole : block ≡ old ++ [] = bare.1 ∙ sym (append-nil old) in
      subst (λ (b : List ℕ). IsInFront new b (length b)) (sym (same [] block whole ∙ append-nil new)) (bare_front new)
]

-- the block with other inputs says the room with these inputs, and in all else the same
pub says_with : (block : List ℕ) (room : RoomSpec) (inputs : List ℕ) → IsBlock block room (length block) → length inputs ≡ processes room → list_all is_value inputs ≡ true
    → IsBlock (block_with block inputs) (with_inputs room inputs) (length (block_with block inputs))
says_with block room inputs is same small = record {
  limits = limits_with room inputs is.limits same small;
  ordinary = refl;
  fuses = is.fuses;
  lines = is.lines;
  no_end = is.no_end;
  protocol = is.protocol;
  bytes = front_as (block_text room (text_of is.lines)) (block_text (with_inputs room inputs) (text_of is.lines)) (λ (b : List ℕ). block_with b inputs)
      (λ tail b. with_tail room inputs (text_of is.lines) tail b is.limits) block is.bytes;
}
