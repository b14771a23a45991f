-- The entry at the front of a text is answered.
use Rattle.std.proofs.Common.{◌≡◌, ◌∙◌, ℕ, suc, ◌+◌, ◌≤◌, ◌||◌, Bool, true, false, not, cond, List, [], ◌∷◌, ◌++◌, length, take, Some, refl, sym, ap, ap₂, arith, inl, inr}
use Rattle.std.specs.Prelude.{codes, ◌&&◌, is_some}
use Rattle.std.specs.List.{before_first, list_any, onto_first}
use Rattle.std.proofs.lemmas.Bool.{cases_Bool}
use Rattle.std.proofs.lemmas.List.{append_assoc, length-append, take_at}
use Rattle.std.proofs.lemmas.List.Splits.{slice_split-cons_no, slice_split-cons_yes}
use Rattle.std.proofs.lemmas.Slice.Eq.{bytes_eq-Decides}
use Rattle.room_spec.specs.Grammar.{is_line}
use Rattle.room_spec.specs.Texts.{first_line, is_line_end, later_lines, lines_of}
use Rattle.script_play.specs.Script.{is_open}
use Rattle.live_script.specs.Entries.{Line, Block, is_unfinished, whole_block}
use Rattle.live_script.specs.Answers.{Answer}
use Rattle.live_script.specs.Sessions.{IsAnsweredBy, IsTakenFrom}
use Rattle.live_script.specs.declared.live.Live.{Live}
use Rattle.live_script.proofs.Cutting.{is_line-first, line_cut}

-- ---- no line end

some_lines : (text : List ℕ) → lines_of text ≡ [] → ⊥
some_lines [] is = cc
some_lines (byte ∷ bytes) is =
    elim (cases_Bool (is_line_end byte)) [
      | inl ends ↦ cut_some (lines_of bytes) (sym (slice_split-cons_yes is_line_end byte bytes ends) ∙ is)
      | inr stays ↦ onto_some (lines_of bytes) (sym (slice_split-cons_no is_line_end byte bytes stays) ∙ is)
    ]
  where
    cut_some : (pieces : List (List ℕ)) → ([] ∷ pieces) ≡ [] → ⊥
    cut_some pieces e = cc

    onto_some : (pieces : List (List ℕ)) → onto_first byte pieces ≡ [] → ⊥
    onto_some [] e = cc
    onto_some (piece ∷ pieces) e = cc

pub no_line_end : (text line : List ℕ) → lines_of text ≡ line ∷ [] → list_any is_line_end text ≡ false
no_line_end [] line is = refl
no_line_end (byte ∷ bytes) line is =
    elim (cases_Bool (is_line_end byte)) [
      | inl ends ↦ absurd (some_lines bytes (nothing_more (lines_of bytes) (sym (slice_split-cons_yes is_line_end byte bytes ends) ∙ is)))
      | inr stays ↦ let one = one_more (lines_of bytes) (some_lines bytes) (sym (slice_split-cons_no is_line_end byte bytes stays) ∙ is) in
          ap₂ (λ (a b : Bool). a || b) stays (no_line_end bytes one.0 one.1)
    ]
  where
    nothing_more : (pieces : List (List ℕ)) → ([] ∷ pieces) ≡ line ∷ [] → pieces ≡ []
    nothing_more pieces e = cc

    one_more : (pieces : List (List ℕ)) → (pieces ≡ [] → ⊥) → onto_first byte pieces ≡ line ∷ [] → (piece : List ℕ) × (pieces ≡ piece ∷ [])
    one_more [] some e = absurd (some refl)
    one_more (piece ∷ []) some e = (piece, refl)
    one_more (piece ∷ next ∷ pieces) some e = absurd cc

-- no entry is whole
pub unfinished_line : (text line : List ℕ) → lines_of text ≡ line ∷ [] → is_unfinished text ≡ true
unfinished_line text line is = ap (λ (has : Bool). cond has (is_open (first_line text) && not (is_some (whole_block (later_lines text)))) true) (no_line_end text line is)

-- ---- a whole entry

pub not_so : (b : Bool) → not b ≡ true → b ≡ false
not_so true so = absurd cc
not_so false so = refl

pub line_taken : (text line later : List ℕ) (answer : Answer) (before after : Live) → line ≡ before_first is_line_end text → lines_of text ≡ line ∷ lines_of later → length line + 1 + length later ≡ length text → is_open line ≡ false
    → IsAnsweredBy (Line line) answer before after → IsTakenFrom text (length line + 1) before after
line_taken text line later answer before after first pieces long other answered = record {
  piece = Line line;
  answer = answer;
  whole = (ap is_line first ∙ is_line-first text, other);
  bytes = ap (take (length line + 1)) (parts ∙ sym (append_assoc line (codes "\n") later)) ∙ take_at (line ++ codes "\n") later (length line + 1) (omega (arith, length-append line (codes "\n")));
  some = omega arith;
  within = omega (arith, long);
  answered = answered;
}
  where
    parts : text ≡ line ++ 10 ∷ later
    parts = line_cut text line later (lines_of later) refl pieces long

pub block_taken : (text line later block : List ℕ) (answer : Answer) (before after : Live) → lines_of text ≡ line ∷ lines_of later → length line + 1 + length later ≡ length text → is_open line ≡ true
    → whole_block block ≡ Some (length block) → block ≡ take (length block) later → length block ≤ length later → IsAnsweredBy (Block block) answer before after → IsTakenFrom text (length block + 5) before after
block_taken text line later block answer before after pieces long opens whole front within answered = record {
  piece = Block block;
  answer = answer;
  whole = whole;
  bytes = ap (λ (n : ℕ). take n text) count ∙ ap (take (suc (suc (suc (suc (suc (length block))))))) parts ∙ ap (λ (t : List ℕ). codes "open\n" ++ t) (sym front);
  some = omega arith;
  within = omega (arith, long, within, ap length line_is);
  answered = answered;
}
  where
    line_is : line ≡ codes "open"
    line_is = (bytes_eq-Decides line (codes "open")).0 opens

    parts : text ≡ codes "open\n" ++ later
    parts = line_cut text line later (lines_of later) refl pieces long ∙ ap (λ (l : List ℕ). l ++ 10 ∷ later) line_is

    count : length block + 5 ≡ suc (suc (suc (suc (suc (length block)))))
    count = omega arith
