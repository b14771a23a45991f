-- A block that ends with its line end, at the front of a text.
use Rattle.std.proofs.Common.{◌≡◌, ◌∙◌, ℕ, ◌+◌, ◌-◌, ◌≤◌, Bool, true, false, cond, eqb, ◌&&◌, min, List, [], ◌∷◌, ◌++◌, length, take, drop, Option, Some, None, Result, Ok, Err, refl, sym, ap, ap₂, subst, arith}
use Rattle.std.specs.Prelude.{IsOk, codes, nat_eq}
use Rattle.std.specs.Str.{bytes_eq}
use Rattle.std.specs.List.{ends_with}
use Rattle.std.specs.Option.{option_map}
use Rattle.std.proofs.lemmas.List.{append_assoc, length-append, take_at}
use Rattle.std.proofs.Math.Seq.{drop-append_seam}
use Rattle.protocol_lang.specs.Results.{◌>>=◌}
use Rattle.room_spec.specs.Blocks.{before_end, body_len}
use Rattle.room_spec.specs.Grammar.{are_before_end, text_of}
use Rattle.room_spec.specs.Texts.{first_line}
use Rattle.room_spec.specs.Rooms.{RoomSpec}
use Rattle.room_spec.specs.declared.fault.SpecFault.{SpecFault}
use Rattle.room_spec.proofs.CallerLemmas.{end_at, end_found, with_line_end}
use Rattle.room_files.specs.Kinds.{block_of, reads_reduction, room_in_lines}
use Rattle.room_files.specs.declared.kinds.Kinds.{Kinds}
use Rattle.room_files.specs.declared.kinds.Kinds.TheVariants.{Ordinary, All}
use Rattle.room_files.proofs.CallerLemmas.{all_read, first_of, first_of_end}
use Rattle.room_files.specs.Blocks.{block_extent, or_all}
use Rattle.room_files.specs.BlockLists.{whole_block}

-- the text begins with the block and its line end, whatever follows, and says its room, where that block is read
pub record IsWhole (spec : RoomSpec) (block whole : List ℕ) : Type 0 where
  pub extent : (rest : List ℕ) → block_extent (whole ++ rest) ≡ length whole
  pub says : (kinds : Kinds) → IsOk (block_of kinds block) → block_of kinds whole ≡ Ok (spec, length whole)

-- ---- the line `end` with a line end

abbrev ended : List (List ℕ) → List ℕ
ended lines = text_of lines ++ (codes "end" ++ 10 ∷ [])

ended_on : (lines : List (List ℕ)) (rest : List ℕ) → ended lines ++ rest ≡ text_of lines ++ (codes "end" ++ with_line_end (Some rest))
ended_on lines rest = append_assoc (text_of lines) (codes "end" ++ 10 ∷ []) rest

-- a room that is said in a number of bytes
abbrev in_bytes : ℕ → RoomSpec → Result (RoomSpec × ℕ) SpecFault
in_bytes len room = Ok (room, len)

same_pair : (one other : RoomSpec × ℕ) → ◌≡◌ {A = Result (RoomSpec × ℕ) SpecFault} (Ok one) (Ok other) → one ≡ other
same_pair one other is = cc

said : (read : Result RoomSpec SpecFault) (spec : RoomSpec) (len n : ℕ) → (read >>= in_bytes len) ≡ Ok (spec, n) → (read ≡ Ok spec) × (len ≡ n)
said (Ok room) spec len n is =
    let same = same_pair (room, len) (spec, n) is in (ap (λ (one : RoomSpec × ℕ). Ok one.0) same, ap (λ (one : RoomSpec × ℕ). one.1) same)
said (Err fault) spec len n is = absurd cc

-- what a block says, by the bytes before its line `end`
pub record Says (reader : List ℕ → Result RoomSpec SpecFault) (spec : RoomSpec) (block : List ℕ) : Type 0 where
  pub body : ℕ
  pub found : body_len block ≡ Some body
  pub room : reader (take body block) ≡ Ok spec
  pub long : min (body + 4) (length block) ≡ length block

body_says : (reader : List ℕ → Result RoomSpec SpecFault) (spec : RoomSpec) (block : List ℕ) (body : Option ℕ) → body_len block ≡ body → before_end reader block body ≡ Ok (spec, length block) → Says reader spec block
body_says reader spec block None found is = absurd cc
body_says reader spec block (Some body) found is =
    let parts = said (reader (take body block)) spec (min (body + 4) (length block)) (length block) is in
    record { body = body; found = found; room = parts.0; long = parts.1 }

-- ---- the last byte

last_byte : (text : List ℕ) (byte : ℕ) → ends_with nat_eq (text ++ byte ∷ []) (codes "\n") ≡ eqb 10 byte
last_byte text byte =
    let one : length (text ++ byte ∷ []) - 1 ≡ length text = omega (arith, length-append text (byte ∷ [])) in
    let last : drop (length (text ++ byte ∷ []) - 1) (text ++ byte ∷ []) ≡ byte ∷ [] = ap (λ (n : ℕ). drop n (text ++ byte ∷ [])) one ∙ drop-append_seam text (byte ∷ []) in
    rw last (by (eqb 10 byte))
  where
    by : (b : Bool) → (b && true) ≡ b
    by true = refl
    by false = refl

whole_by : (b : Bool) (block whole : List ℕ) → ends_with nat_eq block (codes "\n") ≡ b → cond b block (block ++ codes "\n") ≡ whole → whole_block block ≡ whole
whole_by b block whole ends is = ap (λ (e : Bool). cond e block (block ++ codes "\n")) ends ∙ is

whole_of : (lines : List (List ℕ)) (later : Option (List ℕ)) (block : List ℕ) → block ≡ text_of lines ++ (codes "end" ++ with_line_end later) → length (with_line_end later) ≤ 1 → whole_block block ≡ ended lines
whole_of lines None block is short =
    let last : block ≡ (text_of lines ++ codes "en") ++ 100 ∷ [] = is ∙ sym (append_assoc (text_of lines) (codes "en") (100 ∷ [])) in
    whole_by false block (ended lines) (ap (λ (t : List ℕ). ends_with nat_eq t (codes "\n")) last ∙ last_byte (text_of lines ++ codes "en") 100)
    (ap (λ (t : List ℕ). t ++ codes "\n") is ∙ append_assoc (text_of lines) (codes "end" ++ []) (codes "\n"))
whole_of lines (Some []) block is short =
    let last : block ≡ (text_of lines ++ codes "end") ++ 10 ∷ [] = is ∙ sym (append_assoc (text_of lines) (codes "end") (10 ∷ [])) in
    whole_by true block (ended lines) (ap (λ (t : List ℕ). ends_with nat_eq t (codes "\n")) last ∙ last_byte (text_of lines ++ codes "end") 10) is
whole_of lines (Some (byte ∷ bytes)) block is short = absurd (omega (arith, short))

-- ---- a block

-- a block that is read says the same whatever other kinds are read
kind_reads : (kinds : Kinds) (block : List ℕ) (read : RoomSpec × ℕ) → block_of All block ≡ Ok read → IsOk (block_of kinds block) → block_of kinds block ≡ Ok read
kind_reads kinds block read says is = by (block_of kinds block) refl is
  where
    by : (found : Result (RoomSpec × ℕ) SpecFault) → block_of kinds block ≡ found → IsOk found → block_of kinds block ≡ Ok read
    by (Ok other) found is = found ∙ sym (all_read kinds block other found) ∙ says
    by (Err fault) found is = absurd cc

-- its lines before the line `end`, and the block with a line end
record Parts (block : List ℕ) (body : ℕ) : Type 0 where
  lines : List (List ℕ)
  no_end : are_before_end lines ≡ true
  before : take body block ≡ text_of lines
  whole : whole_block block ≡ ended lines
  first : first_line (ended lines) ≡ first_line block

parts_of : (block : List ℕ) (body : ℕ) → body_len block ≡ Some body → min (body + 4) (length block) ≡ length block → Parts block body
parts_of block body found long =
    let end = end_found block body found in
    let lines = end.lines in
    let all = ap length end.parts in
    let short : length (with_line_end end.later) ≤ 1 =
    omega (arith, long, end.extent, all, length-append (text_of lines) (codes "end" ++ with_line_end end.later), length-append (codes "end") (with_line_end end.later)) in
    record {
      lines = lines;
      no_end = end.no_end;
      before = ap₂ (λ (n : ℕ) (t : List ℕ). take n t) end.extent end.parts ∙ take_at (text_of lines) (codes "end" ++ with_line_end end.later) (length (text_of lines)) refl;
      whole = whole_of lines end.later block end.parts short;
      first = by lines end.later end.no_end ∙ sym (ap first_line end.parts);
    }
  where
    by : (lines : List (List ℕ)) (later : Option (List ℕ)) → are_before_end lines ≡ true → first_line (ended lines) ≡ first_line (text_of lines ++ (codes "end" ++ with_line_end later))
    by [] later all = first_of_end (Some []) ∙ sym (first_of_end later)
    by (line ∷ lines) later all = first_of line lines (codes "end" ++ 10 ∷ []) all ∙ sym (first_of line lines (codes "end" ++ with_line_end later) all)

ended_says : (reader : List ℕ → Result RoomSpec SpecFault) (spec : RoomSpec) (lines : List (List ℕ)) → are_before_end lines ≡ true → reader (text_of lines) ≡ Ok spec → before_end reader (ended lines) (body_len (ended lines)) ≡ Ok (spec, length (ended lines))
ended_says reader spec lines no_end room =
    let count : length (ended lines) ≡ length (text_of lines) + 4 = length-append (text_of lines) (codes "end" ++ 10 ∷ []) in
    let found : body_len (ended lines) ≡ Some (length (text_of lines)) = end_at lines (Some []) no_end in
    let front : take (length (text_of lines)) (ended lines) ≡ text_of lines = take_at (text_of lines) (codes "end" ++ 10 ∷ []) (length (text_of lines)) refl in
    let len : min (length (text_of lines) + 4) (length (ended lines)) ≡ length (ended lines) = omega (arith, count) in
    ap (before_end reader (ended lines)) found
    ∙ ap₂ (λ (t : List ℕ) (n : ℕ). reader t >>= in_bytes n) front len
    ∙ ap (λ (read : Result RoomSpec SpecFault). read >>= in_bytes (length (ended lines))) room

same_reading : (kinds : Kinds) (one other : List ℕ) → first_line one ≡ first_line other → reads_reduction kinds one ≡ reads_reduction kinds other
same_reading Ordinary one other same = refl
same_reading All one other same = ap (λ (line : List ℕ). bytes_eq line (codes "reduction 1")) same

kind_says : (kinds : Kinds) (spec : RoomSpec) (block : List ℕ) → block_of kinds block ≡ Ok (spec, length block) → block_of kinds (whole_block block) ≡ Ok (spec, length (whole_block block))
kind_says kinds spec block is =
    let reader = room_in_lines (reads_reduction kinds block) in
    let says = body_says reader spec block (body_len block) refl is in
    let parts = parts_of block says.body says.found says.long in
    subst (λ (t : List ℕ). block_of kinds t ≡ Ok (spec, length t)) (sym parts.whole)
    (subst (λ (b : Bool). before_end (room_in_lines b) (ended parts.lines) (body_len (ended parts.lines)) ≡ Ok (spec, length (ended parts.lines))) (sym (same_reading kinds (ended parts.lines) block parts.first))
    (ended_says reader spec parts.lines parts.no_end (sym (ap reader parts.before) ∙ says.room)))

pub whole_says : (spec : RoomSpec) (block : List ℕ) → block_of All block ≡ Ok (spec, length block) → IsWhole spec block (whole_block block)
whole_says spec block is =
    let says = body_says (room_in_lines (reads_reduction All block)) spec block (body_len block) refl is in
    let parts = parts_of block says.body says.found says.long in
    let lines = parts.lines in
    let count : length (ended lines) ≡ length (text_of lines) + 4 = length-append (text_of lines) (codes "end" ++ 10 ∷ []) in
    record {
      extent = λ rest. subst (λ (t : List ℕ). block_extent (t ++ rest) ≡ length t) (sym parts.whole)
          (let found : body_len (ended lines ++ rest) ≡ Some (length (text_of lines)) = ap body_len (ended_on lines rest) ∙ end_at lines (Some rest) parts.no_end in
          ap (λ (b : Option ℕ). or_all (ended lines ++ rest) (option_map (λ n. min (n + 4) (length (ended lines ++ rest))) b)) found
          ∙ omega (arith, count, length-append (ended lines) rest));
      says = λ kinds read. kind_says kinds spec block (kind_reads kinds block (spec, length block) is read);
    }
