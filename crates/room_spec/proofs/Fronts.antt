-- The block at the front of a text, by itself.
use Rattle.std.proofs.Common.{All, ◌≡◌, ◌≢◌, ◌∙◌, ℕ, suc, ◌+◌, ◌≤◌, true, List, [], ◌∷◌, ◌++◌, min, length, take, Option, Some, None, Result, Ok, Err, refl, sym, ap, subst, arith, inl, inr}
use Rattle.std.specs.Prelude.{codes}
use Rattle.std.specs.List.{position}
use Rattle.std.specs.Option.{option_map}
use Rattle.std.proofs.lemmas.List.{append_assoc, length-append, length-take-le, take_all, take_at, take-take}
use Rattle.room_spec.specs.Texts.{is_line_end, lines_of, pieces_of}
use Rattle.protocol_lang.specs.Results.{◌>>=◌}
use Rattle.room_spec.specs.Blocks.{body_len, block_len, is_end, before_end, reduction_in, reduction_text_in, GivesOrMemory, IsEnded, MayLackAtBy, MayLackBy, OrMemory}
use Rattle.room_spec.specs.Grammar.{EndsAt, are_before_end, line_end, text_of}
use Rattle.room_spec.specs.Rooms.{RoomSpec}
use Rattle.room_spec.specs.declared.fault.SpecFault.{SpecFault}
use Rattle.room_spec.proofs.Blocks.{position_first, position_later}
use Rattle.room_spec.proofs.Ends.{before_line, block_ends, block_nowhere, end_at, end_found, lines_to_end, with_line_end}
use Rattle.room_spec.proofs.Memory.{refused_on}

-- ---- where it ends

-- what of the rest belongs to the block: its line end
abbrev own_end : Option (List ℕ) → Option (List ℕ)
own_end None = None
own_end (Some rest) = Some []

pub end_place : (lines tail : List (List ℕ)) → are_before_end lines ≡ true → position is_end (lines ++ codes "end" ∷ tail) ≡ Some (length lines)
end_place [] tail all = position_first is_end (codes "end") tail refl
end_place (line ∷ lines) tail all =
    let parts = before_line line lines all in
    position_later is_end line (lines ++ codes "end" ∷ tail) parts.1 ∙ ap (option_map suc) (end_place lines tail parts.2)

-- the block's bytes
block_is : (lines : List (List ℕ)) (later : Option (List ℕ)) (len : ℕ) → len ≡ min (length (text_of lines) + 4) (length (text_of lines ++ (codes "end" ++ with_line_end later)))
    → take len (text_of lines ++ (codes "end" ++ with_line_end later)) ≡ text_of lines ++ (codes "end" ++ with_line_end (own_end later))
block_is lines None len is =
    take_all len (text_of lines ++ (codes "end" ++ [])) (omega (arith, is, length-append (text_of lines) (codes "end" ++ [])))
block_is lines (Some more) len is =
    let parts : text_of lines ++ (codes "end" ++ 10 ∷ more) ≡ (text_of lines ++ (codes "end" ++ line_end)) ++ more = sym (append_assoc (text_of lines) (codes "end" ++ line_end) more) in
    let long = length-append (text_of lines) (codes "end" ++ line_end) in
    let all = length-append (text_of lines) (codes "end" ++ 10 ∷ more) in
    ap (take len) parts ∙ take_at (text_of lines ++ (codes "end" ++ line_end)) more len (omega (arith, is, long, all))

-- the place of the line `end` is the same in the block and in the text
same_end : (text : List ℕ) (body len : ℕ) → Some body ≡ body_len text → len ≡ min (body + 4) (length text)
    → (body_len (take len text) ≡ Some body) × (position is_end (lines_of (take len text)) ≡ position is_end (lines_of text))
same_end text body len found len_is =
    let end = end_found text body (sym found) in
    let whole : text ≡ text_of end.lines ++ (codes "end" ++ with_line_end end.later) = end.parts in
    let block : take len text ≡ text_of end.lines ++ (codes "end" ++ with_line_end (own_end end.later)) =
    ap (take len) whole ∙ block_is end.lines end.later len (omega (arith, len_is, end.extent, ap length whole)) in
    let place : (later : Option (List ℕ)) → position is_end (lines_of (text_of end.lines ++ (codes "end" ++ with_line_end later))) ≡ Some (length end.lines) =
    λ later. ap (position is_end) (lines_to_end end.lines later end.no_end) ∙ end_place end.lines (pieces_of is_line_end later) end.no_end in (
      ap body_len block ∙ end_at end.lines (own_end end.later) end.no_end ∙ ap Some (sym end.extent),
      ap (λ (t : List ℕ). position is_end (lines_of t)) block ∙ place (own_end end.later) ∙ sym (place end.later) ∙ sym (ap (λ (t : List ℕ). position is_end (lines_of t)) whole),
    )

pub ended : (text : List ℕ) (body count len : ℕ) → Some body ≡ body_len text → Some count ≡ option_map suc (position is_end (lines_of text)) → body ≤ length text → len ≡ min (body + 4) (length text) → IsEnded (take len text) (take body text) count
ended text body count len found lines within len_is =
    let same = same_end text body len found len_is in
    let own : length (take body text) ≡ body = length-take-le body text within in
    let long : length (take len text) ≡ len = length-take-le len text (omega (arith, len_is)) in
    record {
      body_is = same.0 ∙ ap Some (sym own);
      bytes = sym (ap (λ (n : ℕ). take n (take len text)) own ∙ take-take body len text (omega (arith, within, len_is)));
      whole = ap (option_map (λ (n : ℕ). min (n + 4) (length (take len text)))) same.0 ∙ ap Some (omega (arith, long, len_is));
      lines_are = ap (option_map suc) same.1 ∙ sym lines;
    }

pub front_len : (text : List ℕ) (body len : ℕ) → Some body ≡ body_len text → len ≡ min (body + 4) (length text) → block_len text ≡ Some len
front_len text body len found is = rw (← found) (ap Some (sym is))

pub some_body : (text : List ℕ) (found : Option ℕ) (len : ℕ) → option_map (λ body. min (body + 4) (length text)) found ≡ Some len → (body : ℕ) × (found ≡ Some body) × (len ≡ min (body + 4) (length text))
some_body text None len is = absurd cc
some_body text (Some body) len is = (body, refl, cc)

pub len_ends : (text : List ℕ) (len : ℕ) → block_len text ≡ Some len → EndsAt text len
len_ends text len is =
    let found = some_body text (body_len text) len is in
    subst (EndsAt text) (sym found.2) (block_ends text found.0 (sym found.1))

no_body : (text : List ℕ) (found : Option ℕ) → option_map (λ body. min (body + 4) (length text)) found ≡ None → found ≡ None
no_body text None is = refl
no_body text (Some body) is = absurd cc

pub nowhere_in : (text : List ℕ) → block_len text ≡ None → All (λ line. line ≢ codes "end") (lines_of text)
nowhere_in text is = block_nowhere text (sym (no_body text (body_len text) is))

-- ---- what it says

lines_read : (reader : List ℕ → Result RoomSpec SpecFault) (text : List ℕ) (body : Option ℕ) (before : List ℕ) → body ≡ Some (length before) → before ≡ take (length before) text → option_map (λ n. min (n + 4) (length text)) body ≡ Some (length text)
    → before_end reader text body ≡ (reader before >>= λ room. Ok (room, length text))
lines_read reader text None before is front whole = absurd cc
lines_read reader text (Some body) before is front whole =
    let same : body ≡ length before = cc in
    let len : min (body + 4) (length text) ≡ length text = cc in
    rw (len, same, ← front) refl

gives : (lacks also : Type 0) (result : Result RoomSpec SpecFault) (wanted : Result RoomSpec SpecFault) (len : ℕ) → (lacks → also) → OrMemory lacks result wanted → GivesOrMemory {Y = RoomSpec × ℕ} also (λ room. (room, len)) result (wanted >>= λ room. Ok (room, len))
gives lacks also (Ok room) wanted len more (inl is) = rw (← is) refl
gives lacks also (Ok room) wanted len more (inr is) = absurd (let never = is.0 in cc)
gives lacks also (Err fault) wanted len more found = refused_on lacks also fault wanted (λ room. (room, len)) more found

pub block_says : (reader : List ℕ → Result RoomSpec SpecFault) (text_in : List ℕ → Result (List ℕ) SpecFault) (text body : List ℕ) (lines : ℕ) (result : Result RoomSpec SpecFault) → IsEnded text body lines → OrMemory (MayLackBy text_in body) result (reader body) → GivesOrMemory {Y = RoomSpec × ℕ} (MayLackAtBy text_in text) (λ room. (room, length text)) result (before_end reader text (body_len text))
block_says reader text_in text body lines result ended found = rw (lines_read reader text (body_len text) body ended.body_is ended.bytes ended.whole) (gives (MayLackBy text_in body) (MayLackAtBy text_in text) result (reader body) (length text) (λ lacks. record { body = length body; ends = ended.body_is; lines = subst (MayLackBy text_in) ended.bytes lacks }) found)

pub reduction_says : (text body : List ℕ) (lines : ℕ) (result : Result RoomSpec SpecFault) → IsEnded text body lines → OrMemory (MayLackBy reduction_text_in body) result (reduction_in body) → GivesOrMemory {Y = RoomSpec × ℕ} (MayLackAtBy reduction_text_in text) (λ room. (room, length text)) result (before_end reduction_in text (body_len text))
reduction_says text body lines result ended found = block_says reduction_in reduction_text_in text body lines result ended found

body_within : (text : List ℕ) (body : ℕ) → body_len text ≡ Some body → body ≤ length text
body_within text body found =
    let end = end_found text body found in
    omega (arith, end.extent, ap length end.parts, length-append (text_of end.lines) (codes "end" ++ with_line_end end.later))

same_says : (reader : List ℕ → Result RoomSpec SpecFault) (text block : List ℕ) (body : ℕ) (of_block of_text : Option ℕ) → of_block ≡ Some body → of_text ≡ Some body → take body block ≡ take body text → min (body + 4) (length block) ≡ min (body + 4) (length text)
    → before_end reader block of_block ≡ before_end reader text of_text
same_says reader text block body of_block of_text ends found before long = rw (ends, found, before, long) refl

-- a text says what the block at its front says
pub front_says : (reader : List ℕ → Result RoomSpec SpecFault) (text block : List ℕ) → block_len text ≡ Some (length block) → block ≡ take (length block) text → before_end reader block (body_len block) ≡ before_end reader text (body_len text)
front_says reader text block len front =
    let found = some_body text (body_len text) (length block) len in
    let body = found.0 in
    let same = same_end text body (length block) (sym found.1) found.2 in
    let ends : body_len block ≡ Some body = ap body_len front ∙ same.0 in
    let before : take body block ≡ take body text = ap (take body) front ∙ take-take body (length block) text (omega (arith, found.2, body_within text body found.1)) in
    same_says reader text block body (body_len block) (body_len text) ends found.1 before (omega (arith, found.2))

-- what lacks memory in the block at a text's front lacks it in the text
pub front_lacks : (text_in : List ℕ → Result (List ℕ) SpecFault) (text block : List ℕ) → block_len text ≡ Some (length block) → block ≡ take (length block) text → MayLackAtBy text_in block → MayLackAtBy text_in text
front_lacks text_in text block len front lacks =
    let found = some_body text (body_len text) (length block) len in
    let body = found.0 in
    let same = same_end text body (length block) (sym found.1) found.2 in
    let ends : body_len block ≡ Some body = ap body_len front ∙ same.0 in
    let is : lacks.body ≡ body = some_same lacks.body body (sym lacks.ends ∙ ends) in
    let before : take body block ≡ take body text = ap (take body) front ∙ take-take body (length block) text (omega (arith, found.2, body_within text body found.1)) in
    record { body = body; ends = found.1; lines = subst (MayLackBy text_in) (ap (λ (n : ℕ). take n block) is ∙ before) lacks.lines }
  where
    some_same : (a b : ℕ) → Some a ≡ Some b → a ≡ b
    some_same a b e = cc
