-- A block ends at the first line `end`, and only there.
use Rattle.std.proofs.Common.{◌≡◌, ◌≢◌, ℕ, ◌+◌, ◌<◌, min, true, false, zero, suc, List, [], ◌∷◌, ◌++◌, length, drop, get_or, Option, Some, None, refl, sym, ap, ◌∙◌, subst, arith, All, inl, inr}
use Rattle.std.specs.Prelude.{codes, not, ◌&&◌}
use Rattle.std.specs.List.{join_with_byte}
use Rattle.std.specs.Option.{option_map}
use Rattle.std.proofs.lemmas.Bool.{and_parts, and_from, not-true, cases_Bool, false≢true}
use Rattle.std.proofs.lemmas.List.{append_assoc, append-nil, length-append, take_at, take-append-drop}
use Rattle.std.proofs.lemmas.List.Splits.{join_with_byte-slice_split}
use Rattle.std.proofs.lemmas.Slice.Eq.{bytes_eq-Decides}
use Rattle.room_spec.specs.Texts.{is_line_end, lines_of, pieces_of}
use Rattle.room_spec.specs.Blocks.{is_end, body_len, block_len}
use Rattle.room_spec.specs.Grammar.{line_end, is_line, text_of, IsInFront, are_before_end, EndsAt}
use Rattle.room_spec.proofs.Blocks.{extent_before_end, ends_here, ends_later}
use Rattle.room_spec.proofs.Lines.{are_lines, text_of-cons, lines_of-text_of, pieces_pass, pieces_cut}

-- what stands behind a line: nothing, or a line end and the rest
abbrev pub with_line_end : Option (List ℕ) → List ℕ
with_line_end None = []
with_line_end (Some rest) = 10 ∷ rest

-- ---- bytes in front of an input

pub front_from : (bytes input : List ℕ) (later : Option (List ℕ)) → input ≡ bytes ++ with_line_end later → IsInFront bytes input (min (length bytes + 1) (length input))
front_from bytes input None is =
    let whole : input ≡ bytes = is ∙ append-nil bytes in
    inr (omega (arith, ap length whole), whole)
front_from bytes input (Some rest) is =
    let long : min (length bytes + 1) (length input) ≡ length bytes + 1 = omega (arith, ap length is, length-append bytes (10 ∷ rest)) in
    let regrouped : bytes ++ 10 ∷ rest ≡ (bytes ++ line_end) ++ rest = sym (append_assoc bytes line_end rest) in
    inl (long, rw (long, is, regrouped) (take_at (bytes ++ line_end) rest (length bytes + 1) (length-append bytes line_end)))

pub front_to : (bytes input : List ℕ) (len : ℕ) → IsInFront bytes input len → (later : Option (List ℕ)) × (input ≡ bytes ++ with_line_end later) × (len ≡ min (length bytes + 1) (length input))
front_to bytes input len (inl front) =
    let parts : input ≡ bytes ++ 10 ∷ drop len input = sym (take-append-drop len input) ∙ ap (λ (t : List ℕ). t ++ drop len input) front.1 ∙ append_assoc bytes line_end (drop len input) in
    (Some (drop len input), parts, omega (arith, front.0, ap length parts, length-append bytes (10 ∷ drop len input)))
front_to bytes input len (inr whole) = (None, whole.1 ∙ sym (append-nil bytes), omega (arith, whole.0, ap length whole.1))

-- ---- the first line `end`

end_line : (line : List ℕ) → is_end line ≡ true → line ≡ codes "end"
end_line line is = (bytes_eq-Decides line (codes "end")).0 is

not_end_line : (line : List ℕ) → is_end line ≡ false → line ≢ codes "end"
not_end_line line is = λ e. absurd (false≢true (sym is ∙ (bytes_eq-Decides line (codes "end")).1 e))

-- the first line `end` of a text stands behind `body` bytes
pub record HasEnd (text : List ℕ) (body : ℕ) : Type 0 where
  pub lines : List (List ℕ)
  pub no_end : are_before_end lines ≡ true
  pub later : Option (List ℕ)
  pub parts : text ≡ text_of lines ++ (codes "end" ++ with_line_end later)
  pub extent : body ≡ length (text_of lines)

pub line_before : (line : List ℕ) (lines : List (List ℕ)) → is_line line ≡ true → is_end line ≡ false → are_before_end lines ≡ true → are_before_end (line ∷ lines) ≡ true
line_before line lines whole is all = rw (whole, is) all

length-text_of : (line : List ℕ) (lines : List (List ℕ)) → length (text_of (line ∷ lines)) ≡ length line + 1 + length (text_of lines)
length-text_of line lines = omega (arith, length-append {A = ℕ})

end_more : (line text : List ℕ) (body : ℕ) → is_line line ≡ true → is_end line ≡ false → HasEnd text body → HasEnd (line ++ 10 ∷ text) (length line + 1 + body)
end_more line text body whole is end = record {
  lines = line ∷ end.lines;
  no_end = line_before line end.lines whole is end.no_end;
  later = end.later;
  parts = ap (λ (t : List ℕ). line ++ 10 ∷ t) end.parts ∙ sym (text_of-cons line end.lines (codes "end" ++ with_line_end end.later));
  extent = ap (λ n. length line + 1 + n) end.extent ∙ sym (length-text_of line end.lines);
}

end_first : (line : List ℕ) (later : Option (List ℕ)) (body : ℕ) → is_end line ≡ true → Some 0 ≡ Some body → HasEnd (line ++ with_line_end later) body
end_first line later body is found = record {
  lines = [];
  no_end = refl;
  later = later;
  parts = ap (λ (l : List ℕ). l ++ with_line_end later) (end_line line is);
  extent = sym (cc);
}

some_later : (found : Option ℕ) (n body : ℕ) → option_map (λ m. n + m) found ≡ Some body → (m : ℕ) × (found ≡ Some m) × (n + m ≡ body)
some_later None n body h = absurd cc
some_later (Some m) n body h = (m, refl, cc)

end_in : (lines : List (List ℕ)) (body : ℕ) → are_lines lines ≡ true → extent_before_end lines ≡ Some body → HasEnd (join_with_byte 10 lines) body
end_in [] body all found = absurd cc
end_in (line ∷ []) body all found =
    elim (cases_Bool (is_end line)) [
      | inl is ↦ subst (λ (t : List ℕ). HasEnd t body) (append-nil line) (end_first line None body is (sym (ends_here line [] is) ∙ found))
      | inr is ↦ absurd (let h : None ≡ Some body = sym (ends_later line [] is) ∙ found in cc)
    ]
end_in (line ∷ next ∷ lines) body all found =
    let parts = and_parts (is_line line) (are_lines (next ∷ lines)) all in
    elim (cases_Bool (is_end line)) [
      | inl is ↦ end_first line (Some (join_with_byte 10 (next ∷ lines))) body is (sym (ends_here line (next ∷ lines) is) ∙ found)
      | inr is ↦
          let more = some_later (extent_before_end (next ∷ lines)) (length line + 1) body (sym (ends_later line (next ∷ lines) is) ∙ found) in
          subst (λ (n : ℕ). HasEnd (line ++ 10 ∷ join_with_byte 10 (next ∷ lines)) n) more.2 (end_more line (join_with_byte 10 (next ∷ lines)) more.0 parts.0 is (end_in (next ∷ lines) more.0 parts.1 more.1))
    ]

pub end_found : (text : List ℕ) (body : ℕ) → body_len text ≡ Some body → HasEnd text body
unfolding body_len
end_found text body found = subst (λ (t : List ℕ). HasEnd t body) (join_with_byte-slice_split 10 text) (end_in (lines_of text) body (pieces_pass is_line_end text) found)

-- ---- and back

pub before_line : (line : List ℕ) (lines : List (List ℕ)) → are_before_end (line ∷ lines) ≡ true → (is_line line ≡ true) × (is_end line ≡ false) × (are_before_end lines ≡ true)
before_line line lines all =
    let parts = and_parts (is_line line && not (is_end line)) (are_before_end lines) all in
    let tests = and_parts (is_line line) (not (is_end line)) parts.0 in
    (tests.0, not-true (is_end line) tests.1, parts.1)

pub are_lines-before_end : (lines : List (List ℕ)) → are_before_end lines ≡ true → are_lines lines ≡ true
are_lines-before_end [] all = refl
are_lines-before_end (line ∷ lines) all = let parts = before_line line lines all in and_from (is_line line) (are_lines lines) parts.0 (are_lines-before_end lines parts.2)

extent_to_end : (lines tail : List (List ℕ)) → are_before_end lines ≡ true → extent_before_end (lines ++ codes "end" ∷ tail) ≡ Some (length (text_of lines))
extent_to_end [] tail all = ends_here (codes "end") tail refl
extent_to_end (line ∷ lines) tail all =
    let parts = before_line line lines all in
    ends_later line (lines ++ codes "end" ∷ tail) parts.1 ∙ ap (option_map (λ n. length line + 1 + n)) (extent_to_end lines tail parts.2) ∙ ap Some (sym (length-text_of line lines))

end_pieces : (later : Option (List ℕ)) → lines_of (codes "end" ++ with_line_end later) ≡ codes "end" ∷ pieces_of is_line_end later
end_pieces None = refl
end_pieces (Some rest) = pieces_cut is_line_end (codes "end") 10 rest refl refl

pub lines_to_end : (lines : List (List ℕ)) (later : Option (List ℕ)) → are_before_end lines ≡ true → lines_of (text_of lines ++ (codes "end" ++ with_line_end later)) ≡ lines ++ codes "end" ∷ pieces_of is_line_end later
lines_to_end lines later all = lines_of-text_of lines _ (are_lines-before_end lines all) ∙ ap (λ (more : List (List ℕ)). lines ++ more) (end_pieces later)

pub end_at : (lines : List (List ℕ)) (later : Option (List ℕ)) → are_before_end lines ≡ true → body_len (text_of lines ++ (codes "end" ++ with_line_end later)) ≡ Some (length (text_of lines))
unfolding body_len
end_at lines later all = rw (lines_to_end lines later all) (extent_to_end lines (pieces_of is_line_end later) all)

-- ---- the clauses of `block_len`

ends : (text : List ℕ) (body : ℕ) → HasEnd text body → EndsAt text (min (body + 4) (length text))
ends text body end =
    let whole : text ≡ (text_of end.lines ++ codes "end") ++ with_line_end end.later = end.parts ∙ sym (append_assoc (text_of end.lines) (codes "end") (with_line_end end.later)) in
    let len : length (text_of end.lines ++ codes "end") + 1 ≡ body + 4 = omega (arith, end.extent, length-append (text_of end.lines) (codes "end")) in
    record {
      lines = end.lines;
      no_end = end.no_end;
      bytes = subst (λ n. IsInFront (text_of end.lines ++ codes "end") text (min n (length text))) len (front_from (text_of end.lines ++ codes "end") text end.later whole);
    }

pub block_ends : (text : List ℕ) (body : ℕ) → Some body ≡ body_len text → EndsAt text (min (body + 4) (length text))
block_ends text body is = ends text body (end_found text body (sym is))

pub block_only : (text : List ℕ) (found : Option ℕ) → found ≡ block_len text → (len : ℕ) → EndsAt text len → found ≡ Some len
block_only text found is = λ len end.
    let front = front_to (text_of end.lines ++ codes "end") text len end.bytes in
    let whole : text ≡ text_of end.lines ++ (codes "end" ++ with_line_end front.0) = front.1 ∙ append_assoc (text_of end.lines) (codes "end") (with_line_end front.0) in
    let body : body_len text ≡ Some (length (text_of end.lines)) = ap body_len whole ∙ end_at end.lines front.0 end.no_end in
    let len_is : min (length (text_of end.lines) + 4) (length text) ≡ len = omega (arith, front.2, length-append (text_of end.lines) (codes "end")) in
    is ∙ rw body (ap Some len_is)

none_later : (found : Option ℕ) (n : ℕ) → option_map (λ m. n + m) found ≡ None → found ≡ None
none_later None n h = refl
none_later (Some m) n h = absurd cc

nowhere_on : (line : List ℕ) (lines : List (List ℕ)) → extent_before_end (line ∷ lines) ≡ None → (is_end line ≡ false) × (extent_before_end lines ≡ None)
nowhere_on line lines none =
    elim (cases_Bool (is_end line)) [
      | inl is ↦ absurd (let h : Some 0 ≡ None = sym (ends_here line lines is) ∙ none in cc)
      | inr is ↦ (is, none_later (extent_before_end lines) (length line + 1) (sym (ends_later line lines is) ∙ none))
    ]

nowhere : (lines : List (List ℕ)) → extent_before_end lines ≡ None → (k : ℕ) (d : List ℕ) → k < length lines → get_or lines k d ≢ codes "end"
nowhere [] none k d lt = absurd (omega arith)
nowhere (line ∷ lines) none zero d lt = not_end_line line (nowhere_on line lines none).0
nowhere (line ∷ lines) none (suc k) d lt = nowhere lines (nowhere_on line lines none).1 k d (omega arith)

pub block_nowhere : (text : List ℕ) → None ≡ body_len text → All (λ line. line ≢ codes "end") (lines_of text)
unfolding body_len
block_nowhere text is = nowhere (lines_of text) (sym is)
