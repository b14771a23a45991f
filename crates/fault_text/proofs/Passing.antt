-- Lines that are passed one by one.
use Rattle.std.proofs.Common.{◌≡◌, ◌∙◌, ℕ, zero, suc, ◌+◌, ◌-◌, ◌<◌, ◌≤◌, ◌==◌, false, List, [], ◌∷◌, ◌++◌, length, codes, decimal, refl, sym, ap, subst, arith}
use Rattle.std.specs.Prelude.{Result, Ok, Err, OnOk}
use Rattle.std.proofs.Math.Dec.{eqb-suc-zero}
use Rattle.std.proofs.lemmas.Fmt.{decimal_digit, decimal_step}
use Rattle.std.proofs.lemmas.List.{append_assoc}
use Rattle.std.specs.List.{count_by, flat_map}
use Rattle.std.proofs.lemmas.List.Splits.{length-slice_split}
use Rattle.room_spec.specs.Texts.{is_line_end, later_lines, lines_of}
use Rattle.room_files.specs.Blocks.{refused_line, why_text}
use Rattle.room_files.specs.declared.fault.BlockFault.{BlockFault}
use Rattle.room_files.specs.declared.fault.BlockFault.TheVariants.{NameTaken}
use Rattle.fault_text.specs.Lines.{lines_after, last_of}
use Rattle.fault_text.specs.Refusals.{refusal_line}
use Rattle.fault_text.specs.declared.refusals.RefusedBlock.{RefusedBlock}

one_left : (count at : ℕ) → at < count → count - at ≡ suc (count - (at + 1))
one_left count at within = omega (arith, within)

none_left : (count at : ℕ) → count ≤ at → count - at ≡ 0
none_left count at all = omega (arith, all)

-- ---- so many lines

pub none_passed : (text : List ℕ) → text ≡ lines_after 0 text
unfolding lines_after
none_passed text = refl

pub passed_one : (count at : ℕ) (rest text : List ℕ) → at < count → lines_after (count - at) rest ≡ lines_after count text → lines_after (count - (at + 1)) (later_lines rest) ≡ lines_after count text
unfolding lines_after
passed_one count at rest text within so_far = ap (λ n. lines_after n rest) (sym (one_left count at within)) ∙ so_far

pub passed_all : (count at : ℕ) (rest text : List ℕ) → count ≤ at → lines_after (count - at) rest ≡ lines_after count text → rest ≡ lines_after count text
unfolding lines_after
passed_all count at rest text all so_far = ap (λ n. lines_after n rest) (sym (none_left count at all)) ∙ so_far

passed_some : (some more : ℕ) (text : List ℕ) → lines_after more (lines_after some text) ≡ lines_after (some + more) text
unfolding lines_after
passed_some zero more text = ap (λ n. lines_after n text) (let e : more ≡ zero + more = omega arith in e)
passed_some (suc some) more text = passed_some some more (later_lines text) ∙ ap (λ n. lines_after n text) (let e : suc (some + more) ≡ suc some + more = omega arith in e)

pub passed_more : (passed lines : ℕ) (rest input : List ℕ) → passed ≤ lines → rest ≡ lines_after passed input → lines_after (lines - passed) rest ≡ lines_after lines input
passed_more passed lines rest input within is = ap (lines_after (lines - passed)) is ∙ passed_some passed (lines - passed) input ∙ ap (λ n. lines_after n input) (omega (arith, within))

-- ---- refused blocks

not_empty : (byte : ℕ) (bytes : List ℕ) → (length (byte ∷ bytes) == 0) ≡ false
not_empty byte bytes = eqb-suc-zero (length bytes)

pub none_refused : (all : List RefusedBlock) → (length all == 0) ≡ (length (flat_map refusal_line all) == 0)
none_refused [] = refl
none_refused (refusal ∷ all) = eqb-suc-zero (length all) ∙ sym (not_empty 108 (codes "ine " ++ ((decimal refusal.line ++ (codes " refused " ++ (why_text refusal.fault ++ codes "\n"))) ++ flat_map refusal_line all)))

taken_code : decimal 41 ≡ codes "41"
taken_code = decimal_step 41 (omega arith) (omega arith) ∙ ap (λ digits. digits ++ 49 ∷ []) (decimal_digit 4 (omega arith))

-- a block whose room's name is taken
pub taken_line : {T E : Type 0} (result : Result T E) (output last : List ℕ) (refusal : RefusedBlock) (code : ℕ) → refusal.fault ≡ NameTaken → code ≡ 41
    → OnOk result (last ≡ output ++ refused_line refusal.line (decimal code)) → OnOk result (last ≡ output ++ refusal_line refusal)
taken_line (Err fault) output last refusal code is same last_is = tt
taken_line (Ok done) output last refusal code is same last_is =
    subst (λ (fault : BlockFault). last ≡ output ++ refused_line refusal.line (why_text fault)) (sym is)
    (last_is ∙ ap (λ n. output ++ refused_line refusal.line (decimal n)) same ∙ ap (λ d. output ++ refused_line refusal.line d) taken_code)

-- ---- one text after another

pub both_said : {T E : Type 0} (result : Result T E) (old middle new first second said : List ℕ) → middle ≡ old ++ first → second ≡ said → OnOk result (new ≡ middle ++ second) → OnOk result (new ≡ old ++ (first ++ said))
both_said (Err fault) old middle new first second said middle_is same is = tt
both_said (Ok done) old middle new first second said middle_is same is =
    is ∙ ap (λ t. t ++ second) middle_is ∙ append_assoc old first second ∙ ap (λ t. old ++ (first ++ t)) same

-- ---- the last line

last_behind : (line : List ℕ) (n : ℕ) (lines : List (List ℕ)) → length lines ≡ n + 1 → last_of (line ∷ lines) ≡ last_of lines
last_behind line n [] some = absurd (omega (arith, some))
last_behind line n (next ∷ lines) some = refl

-- it is among the lines behind the first
pub last_passed : (line later rest text : List ℕ) → lines_of rest ≡ line ∷ lines_of later → last_of (lines_of rest) ≡ last_of (lines_of text) → last_of (lines_of later) ≡ last_of (lines_of text)
last_passed line later rest text pieces so_far =
    sym (last_behind line (count_by is_line_end later) (lines_of later) (length-slice_split is_line_end later)) ∙ ap last_of (sym pieces) ∙ so_far
