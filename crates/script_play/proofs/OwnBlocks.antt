-- The bytes of a block by themselves say what the text says at whose front they are.
use Rattle.std.proofs.Common.{◌≡◌, ◌∙◌, ℕ, ◌+◌, ◌≤◌, true, List, [], ◌∷◌, ◌++◌, min, length, take, Option, Some, None, Result, Ok, Err, refl, sym, ap, subst, arith}
use Rattle.std.specs.Prelude.{codes}
use Rattle.std.proofs.lemmas.List.{append_assoc, length-append, length-take-le, take_all, take_at, take-take}
use Rattle.protocol_lang.specs.Results.{◌>>=◌}
use Rattle.room_spec.specs.Blocks.{before_end, body_len}
use Rattle.room_spec.specs.Grammar.{are_before_end, line_end, text_of}
use Rattle.room_spec.specs.Rooms.{RoomSpec}
use Rattle.room_spec.specs.declared.fault.SpecFault.{SpecFault}
use Rattle.room_spec.specs.Texts.{first_line}
use Rattle.room_spec.proofs.CallerLemmas.{end_at, end_found, with_line_end}
use Rattle.room_files.specs.Kinds.{block_of, reads_reduction, room_in_lines}
use Rattle.room_files.specs.declared.kinds.Kinds.{Kinds}
use Rattle.room_files.specs.declared.kinds.Kinds.TheVariants.{All}
use Rattle.room_files.proofs.CallerLemmas.{all_read, first_of, first_of_end}
use Rattle.std.specs.Str.{bytes_eq}
use Rattle.script_play.specs.Play.{IsBlockOf}

-- what of the rest belongs to the block: its line end
abbrev own_end : Option (List ℕ) → Option (List ℕ)
own_end None = None
own_end (Some rest) = Some []

bytes_are : (lines : List (List ℕ)) (later : Option (List ℕ)) (len : ℕ) → len ≡ min (length (text_of lines) + 4) (length (text_of lines ++ (codes "end" ++ with_line_end later)))
    → take len (text_of lines ++ (codes "end" ++ with_line_end later)) ≡ text_of lines ++ (codes "end" ++ with_line_end (own_end later))
bytes_are lines None len is =
    take_all len (text_of lines ++ (codes "end" ++ [])) (omega (arith, is, length-append (text_of lines) (codes "end" ++ [])))
bytes_are lines (Some more) len is =
    let parts : text_of lines ++ (codes "end" ++ 10 ∷ more) ≡ (text_of lines ++ (codes "end" ++ line_end)) ++ more = sym (append_assoc (text_of lines) (codes "end" ++ line_end) more) in
    let long = length-append (text_of lines) (codes "end" ++ line_end) in
    let all = length-append (text_of lines) (codes "end" ++ 10 ∷ more) in
    ap (take len) parts ∙ take_at (text_of lines ++ (codes "end" ++ line_end)) more len (omega (arith, is, long, all))

own_bytes : (text : List ℕ) (body : ℕ) (found : body_len text ≡ Some body)
    → take (min (body + 4) (length text)) text ≡ text_of (end_found text body found).lines ++ (codes "end" ++ with_line_end (own_end (end_found text body found).later))
own_bytes text body found =
    let end = end_found text body found in
    let len = min (body + 4) (length text) in
    ap (take len) end.parts ∙ bytes_are end.lines end.later len (omega (arith, end.extent, ap length end.parts))

same_end : (text : List ℕ) (body : ℕ) → body_len text ≡ Some body → body_len (take (min (body + 4) (length text)) text) ≡ Some body
same_end text body found =
    let end = end_found text body found in
    ap body_len (own_bytes text body found) ∙ end_at end.lines (own_end end.later) end.no_end ∙ ap Some (sym end.extent)

same_first : (text : List ℕ) (body : ℕ) → body_len text ≡ Some body → first_line (take (min (body + 4) (length text)) text) ≡ first_line text
same_first text body found =
    let end = end_found text body found in
    ap first_line (own_bytes text body found) ∙ by end.lines end.later end.no_end ∙ sym (ap first_line end.parts)
  where
    by : (lines : List (List ℕ)) (later : Option (List ℕ)) → are_before_end lines ≡ true
        → first_line (text_of lines ++ (codes "end" ++ with_line_end (own_end later))) ≡ first_line (text_of lines ++ (codes "end" ++ with_line_end later))
    by [] later all = first_of_end (own_end later) ∙ sym (first_of_end later)
    by (line ∷ lines) later all = first_of line lines (codes "end" ++ with_line_end (own_end later)) all ∙ sym (first_of line lines (codes "end" ++ with_line_end later) all)

body_within : (text : List ℕ) (body : ℕ) → body_len text ≡ Some body → body ≤ length text
body_within text body found =
    let end = end_found text body found in
    omega (arith, end.extent, ap length end.parts, length-append (text_of end.lines) (codes "end" ++ with_line_end end.later))

said : (read : Result RoomSpec SpecFault) (spec : RoomSpec) (len long : ℕ) → (◌>>=◌ {B = RoomSpec × ℕ} read (λ room. Ok (room, long))) ≡ Ok (spec, len) → (read ≡ Ok spec) × (len ≡ long)
said (Ok room) spec len long is =
    let same : ◌≡◌ {A = RoomSpec × ℕ} (room, long) (spec, len) = cc in
    (ap (λ (pair : RoomSpec × ℕ). Ok pair.0) same, sym (ap (λ (pair : RoomSpec × ℕ). pair.1) same))
said (Err fault) spec len long is = absurd cc

module _ (reader : List ℕ → Result RoomSpec SpecFault) where
  -- a text that says a room has a line `end`, and the block ends there
  ended : (text : List ℕ) (found : Option ℕ) (spec : RoomSpec) (len : ℕ) → before_end reader text found ≡ Ok (spec, len)
      → (body : ℕ) × (found ≡ Some body) × (reader (take body text) ≡ Ok spec) × (len ≡ min (body + 4) (length text))
  ended text None spec len is = absurd cc
  ended text (Some body) spec len is =
      let parts = said (reader (take body text)) spec len (min (body + 4) (length text)) is in
      (body, refl, parts.0, parts.1)

  says_again : (block : List ℕ) (found : Option ℕ) (body : ℕ) (spec : RoomSpec) → found ≡ Some body → reader (take body block) ≡ Ok spec → min (body + 4) (length block) ≡ length block
      → before_end reader block found ≡ Ok (spec, length block)
  says_again block found body spec is says long = rw (is, says, long) refl

  within_reader : (text : List ℕ) (spec : RoomSpec) (len : ℕ) → before_end reader text (body_len text) ≡ Ok (spec, len) → len ≤ length text
  within_reader text spec len is = omega (arith, (ended text (body_len text) spec len is).3)

  own_of_reader : (text : List ℕ) (spec : RoomSpec) (len : ℕ) → before_end reader text (body_len text) ≡ Ok (spec, len) → before_end reader (take len text) (body_len (take len text)) ≡ Ok (spec, length (take len text))
  own_of_reader text spec len is =
      let end = ended text (body_len text) spec len is in
      let body = end.0 in
      let within = body_within text body end.1 in
      let long : length (take len text) ≡ len = length-take-le len text (omega (arith, end.3)) in
      let place : body_len (take len text) ≡ Some body = subst (λ (n : ℕ). body_len (take n text) ≡ Some body) (sym end.3) (same_end text body end.1) in
      let front : take body (take len text) ≡ take body text = take-take body len text (omega (arith, end.3, within)) in
      says_again (take len text) (body_len (take len text)) body spec place (ap reader front ∙ end.2) (omega (arith, long, end.3, within))

pub block_within : (kinds : Kinds) (text : List ℕ) (spec : RoomSpec) (len : ℕ) → block_of kinds text ≡ Ok (spec, len) → len ≤ length text
block_within kinds text spec len is = within_reader (room_in_lines (reads_reduction kinds text)) text spec len is

pub own_block : (kinds : Kinds) (text : List ℕ) (spec : RoomSpec) (len : ℕ) → block_of kinds text ≡ Ok (spec, len) → IsBlockOf spec (take len text)
own_block kinds text spec len is =
    let says = all_read kinds text (spec, len) is in
    let reader = room_in_lines (reads_reduction All text) in
    let end = ended reader text (body_len text) spec len says in
    let first : first_line (take len text) ≡ first_line text = subst (λ (n : ℕ). first_line (take n text) ≡ first_line text) (sym end.3) (same_first text end.0 end.1) in
    subst (λ (line : List ℕ). before_end (room_in_lines (bytes_eq line (codes "reduction 1"))) (take len text) (body_len (take len text)) ≡ Ok (spec, length (take len text))) (sym first)
    (own_of_reader reader text spec len says)
