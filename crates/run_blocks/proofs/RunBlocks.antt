-- The block of a run of a reduction says the ordinary room whose processes have the inputs of the run.
use Rattle.std.proofs.Common.{◌≡◌, ◌∙◌, ℕ, ◌≤◌, true, List, [], ◌∷◌, ◌++◌, length, codes, decimal, drop, refl, sym, ap, inl, inr, arith}
use Rattle.std.specs.List.{list_all}
use Rattle.std.proofs.lemmas.List.{append-nil, append_assoc, take-append-drop}
use Rattle.protocol_lang.specs.Numbers.{is_digit}
use Rattle.protocol_lang.proofs.CallerLemmas.{decimal_digits}
use Rattle.room_spec.specs.Grammar.{IsBlock, IsReductionBlock, block_text, is_line, line_end, lines_from_rounds, reduction_lines, reduction_text, text_of, values_line, version_text}
use Rattle.room_spec.specs.Rooms.{AreOwn, IsWithinLimits, RoomSpec, has_own, is_reduction, is_value, processes, with_inputs}
use Rattle.room_spec.specs.Texts.{first_line, later_lines}
use Rattle.room_spec.specs.declared.version.Version.{Version}
use Rattle.room_spec.specs.declared.version.Version.TheVariants.{Two}
use Rattle.room_spec.proofs.CallerLemmas.{text_of-cons}
use Rattle.run_blocks.specs.Blocks.{inputs_line, run_block}
use Rattle.run_blocks.proofs.OtherInputs.{block_is, each_is_line, ends_so, first_is, front_as, inputs_are, inputs_are_line, later_is, limits_with, no_end_in_digit, room_is_line, three_lines}

-- ---- the simulators' own inputs

own_parts : (own : List ℕ) (version : Version) (inputs : List ℕ) (simulators : ℕ) → AreOwn own version inputs simulators → has_own own ≡ true → (version ≡ Two) × (list_all is_value own ≡ true)
own_parts [] version inputs simulators are some = absurd cc
own_parts (own ∷ others) version inputs simulators are some = (are.0, are.3)

count_is_line : (count : ℕ) → count ≤ 16 → is_line (codes "processes " ++ decimal count) ≡ true
count_is_line count few = each_is_line is_digit no_end_in_digit (decimal count) (decimal_digits count (omega arith))

-- ---- the block as its lines

-- four lines, and what follows them
abbrev four_lines : List ℕ → List ℕ → List ℕ → List ℕ → List ℕ → List ℕ
four_lines kind name inputs count rest = three_lines kind name inputs (count ++ 10 ∷ rest)

-- what follows the fourth line
abbrev later_of : RoomSpec → List ℕ → List ℕ → List ℕ
later_of room text tail = text_of (lines_from_rounds room) ++ ((text ++ codes "end") ++ tail)

reduction_is : (room : RoomSpec) (text tail : List ℕ) → reduction_text room text ++ tail ≡ four_lines (codes "reduction 1") (codes "room " ++ room.name) (inputs_line room.own) (codes "processes " ++ decimal (processes room)) (later_of room text tail)
reduction_is room text tail =
    let kind = codes "reduction 1" in
    let name = codes "room " ++ room.name in
    let own = values_line room.own in
    let count = codes "processes " ++ decimal (processes room) in
    let end = (text ++ codes "end") ++ tail in
    append_assoc (text_of (reduction_lines room)) (text ++ codes "end") tail
    ∙ text_of-cons kind (name ∷ own ∷ count ∷ lines_from_rounds room) end
    ∙ ap (λ (t : List ℕ). kind ++ 10 ∷ t) (text_of-cons name (own ∷ count ∷ lines_from_rounds room) end)
    ∙ ap (λ (t : List ℕ). kind ++ 10 ∷ (name ++ 10 ∷ t)) (text_of-cons own (count ∷ lines_from_rounds room) end)
    ∙ ap (λ (t : List ℕ). kind ++ 10 ∷ (name ++ 10 ∷ (own ++ 10 ∷ t))) (text_of-cons count (lines_from_rounds room) end)
    ∙ ap (λ (line : List ℕ). four_lines kind name line count (later_of room text tail)) (inputs_are (codes "inputs") room.own)

ordinary_is : (room : RoomSpec) (text tail : List ℕ) → block_text room text ++ tail ≡ four_lines (version_text room.version) (codes "room " ++ room.name) (inputs_line room.inputs) (codes "simulators " ++ decimal room.simulators) (later_of room text tail)
ordinary_is room text tail =
    block_is room text tail
    ∙ ap (λ (t : List ℕ). three_lines (version_text room.version) (codes "room " ++ room.name) (inputs_line room.inputs) t)
    (text_of-cons (codes "simulators " ++ decimal room.simulators) (lines_from_rounds room) ((text ++ codes "end") ++ tail))

run_is : (kind name own count rest : List ℕ) → is_line kind ≡ true → is_line name ≡ true → is_line own ≡ true → is_line count ≡ true → (simulators : ℕ) (inputs : List ℕ)
    → run_block (four_lines kind name own count rest) simulators inputs ≡ four_lines (codes "bgsim 2") name (inputs_line inputs) (codes "simulators " ++ decimal simulators) rest
run_is kind name own count rest first second third fourth simulators inputs =
    let block = four_lines kind name own count rest in
    let sims = codes "simulators " ++ decimal simulators in
    let after_kind : later_lines block ≡ name ++ 10 ∷ (own ++ 10 ∷ (count ++ 10 ∷ rest)) = later_is kind (name ++ 10 ∷ (own ++ 10 ∷ (count ++ 10 ∷ rest))) first in
    let after_name : later_lines (later_lines block) ≡ own ++ 10 ∷ (count ++ 10 ∷ rest) = ap later_lines after_kind ∙ later_is name (own ++ 10 ∷ (count ++ 10 ∷ rest)) second in
    let after_own : later_lines (later_lines (later_lines block)) ≡ count ++ 10 ∷ rest = ap later_lines after_name ∙ later_is own (count ++ 10 ∷ rest) third in
    let after_count : later_lines (later_lines (later_lines (later_lines block))) ≡ rest = ap later_lines after_own ∙ later_is count rest fourth in
    let own_name : first_line (later_lines block) ≡ name = ap first_line after_kind ∙ first_is name (own ++ 10 ∷ (count ++ 10 ∷ rest)) second in
    ends_so (codes "bgsim 2") _
    ∙ ap (λ (t : List ℕ). codes "bgsim 2" ++ 10 ∷ t)
    (ends_so (first_line (later_lines block)) _
    ∙ ap (λ (line : List ℕ). line ++ 10 ∷ ((inputs_line inputs ++ 10 ∷ []) ++ ((sims ++ 10 ∷ []) ++ later_lines (later_lines (later_lines (later_lines block)))))) own_name
    ∙ ap (λ (t : List ℕ). name ++ 10 ∷ t)
    (ends_so (inputs_line inputs) _ ∙ ap (λ (t : List ℕ). inputs_line inputs ++ 10 ∷ t) (ends_so sims _ ∙ ap (λ (t : List ℕ). sims ++ 10 ∷ t) after_count)))

-- ---- the room

run_tail : (room : RoomSpec) (inputs text tail block : List ℕ) → IsWithinLimits room → is_reduction room ≡ true → block ≡ reduction_text room text ++ tail → run_block block room.simulators inputs ≡ block_text (with_inputs room inputs) text ++ tail
run_tail room inputs text tail block is reduction same =
    let own = own_parts room.own room.version room.inputs room.simulators is.own reduction in
    let name = codes "room " ++ room.name in
    let sims = codes "simulators " ++ decimal room.simulators in
    ap (λ (b : List ℕ). run_block b room.simulators inputs) (same ∙ reduction_is room text tail)
    ∙ run_is (codes "reduction 1") name (inputs_line room.own) (codes "processes " ++ decimal (processes room)) (later_of room text tail)
    refl (room_is_line room.name is.name) (inputs_are_line room.own own.1) (count_is_line (processes room) is.shape.n_range.1) room.simulators inputs
    ∙ ap (λ (version : Version). four_lines (version_text version) name (inputs_line inputs) sims (later_of room text tail)) (sym own.0)
    ∙ sym (ordinary_is (with_inputs room inputs) text tail)

-- the block of a run says the room of the run
pub says_run : (block : List ℕ) (room : RoomSpec) (inputs : List ℕ) → IsReductionBlock block room (length block) → length inputs ≡ processes room → list_all is_value inputs ≡ true
    → IsBlock (run_block block room.simulators inputs) (with_inputs room inputs) (length (run_block block room.simulators inputs))
says_run block room inputs is same small = record {
  limits = limits_with room inputs is.limits same small;
  ordinary = refl;
  fuses = is.fuses;
  lines = is.lines;
  no_end = is.no_end;
  protocol = is.protocol;
  bytes = front_as (reduction_text room (text_of is.lines)) (block_text (with_inputs room inputs) (text_of is.lines)) (λ (b : List ℕ). run_block b room.simulators inputs)
      (λ tail b. run_tail room inputs (text_of is.lines) tail b is.limits is.reduction) block is.bytes;
}

-- ---- its first line

pub first_of_reduction : (block : List ℕ) (room : RoomSpec) (len : ℕ) → IsReductionBlock block room len → first_line block ≡ codes "reduction 1"
first_of_reduction block room len is =
    let text = text_of is.lines in
    let begins : (tail b : List ℕ) → b ≡ reduction_text room text ++ tail → first_line b ≡ codes "reduction 1" =
    λ tail b whole. ap first_line (whole ∙ reduction_is room text tail) ∙ first_is (codes "reduction 1") ((codes "room " ++ room.name) ++ 10 ∷ (inputs_line room.own ++ 10 ∷ ((codes "processes " ++ decimal (processes room)) ++ 10 ∷ later_of room text tail))) refl in
    elim is.bytes [
      | inl ended ↦
          begins (line_end ++ drop len block) block (sym (take-append-drop len block) ∙ ap (λ (front : List ℕ). front ++ drop len block) ended.1 ∙ append_assoc (reduction_text room text) line_end (drop len block))
      | inr bare ↦ begins [] block (bare.1 ∙ sym (append-nil (reduction_text room text)))
    ]

-- ---- how it is written

pub pieces_are : (t first second third fourth last kind name inputs simulators later : List ℕ) → t ≡ [] → first ≡ t ++ kind → second ≡ first ++ name → third ≡ second ++ inputs → fourth ≡ third ++ simulators → last ≡ fourth ++ later
    → last ≡ kind ++ (name ++ (inputs ++ (simulators ++ later)))
pieces_are t first second third fourth last kind name inputs simulators later none one two three four five =
    five
    ∙ ap (λ (l : List ℕ). l ++ later) (four ∙ ap (λ (l : List ℕ). l ++ simulators) (three ∙ ap (λ (l : List ℕ). l ++ inputs) (two ∙ ap (λ (l : List ℕ). l ++ name) (one ∙ ap (λ (l : List ℕ). l ++ kind) none))))
    ∙ append_assoc (((kind ++ name) ++ inputs)) simulators later
    ∙ append_assoc (kind ++ name) inputs (simulators ++ later)
    ∙ append_assoc kind name (inputs ++ (simulators ++ later))
