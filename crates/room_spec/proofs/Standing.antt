-- What it is that a fault is at a line, and a head judged line by line.
use Rattle.std.proofs.Common.{◌≡◌, ◌≢◌, ℕ, ◌-◌, ◌<◌, ◌≤◌, ◌⊎◌, Bool, true, false, suc, List, [], ◌∷◌, ◌++◌, length, take, Some, Result, Ok, Err, refl, sym, ap, ◌∙◌, subst, arith, inl, inr}
use Rattle.std.specs.Prelude.{codes}
use Rattle.std.specs.List.{list_all}
use Rattle.std.proofs.lemmas.Bool.{and_parts, cases_lt}
use Rattle.std.proofs.lemmas.List.{append_assoc, append-nil, length-append}
use Rattle.std.proofs.lemmas.Option.{same_Some}
use Rattle.protocol_lang.specs.Trees.{Named}
use Rattle.protocol_lang.specs.Limits.{HasSmallNumerals}
use Rattle.protocol_lang.specs.Reading.{reading, run, one_token, next_token}
use Rattle.protocol_lang.specs.declared.protocol.Protocol.{Protocol}
use Rattle.protocol_lang.specs.declared.tree.Name.TheVariants as names
use Rattle.protocol_lang.specs.declared.tree.Kind.TheVariants as kinds
use Rattle.protocol_lang.specs.declared.fault.ParseFault.{ParseFault}
use Rattle.room_spec.specs.Rooms.{RoomSpec, IsWithinLimits, has_own, is_reduction, is_value, most_bits}
use Rattle.room_spec.specs.Texts.{first_line, later_lines}
use Rattle.room_spec.specs.Blocks.{reduction_in, room_in}
use Rattle.room_spec.specs.Grammar.{is_line, text_of, are_before_end, behind_protocol, lines_before_text, line_of, IsHead, width_of, Begin, IsReason}
use Rattle.room_spec.specs.declared.fault.SpecFault.{SpecFault}
use Rattle.room_spec.specs.declared.fault.SpecFault.TheVariants.{BadProtocol, TooWide}
use Rattle.room_spec.proofs.Lines.{are_lines, first_line-text_of, later_lines-text_of}
use Rattle.room_spec.proofs.Heads.{inputs_are_values}
use Rattle.room_spec.proofs.Readings.{inputs_range, most_bits_few, head_no_end, room_again, room_too_wide}
use Rattle.room_spec.proofs.Reductions.{lines_again, reduction_no_end, reduction_too_wide}
use Rattle.room_spec.proofs.Locality.{Agree, IsLocalFrom, local_reduction, local_room, err_cases, by_line, agree_lines}

-- ---- no head has the fault's line after those before it

abbrev pub plain : Protocol
plain = record { first = Named names.Input; rules = []; last = record { kind = kinds.Decide; value = Named names.Mine } }

abbrev plain_lines : List (List ℕ)
plain_lines = codes "first input;" ∷ codes "else decide mine;" ∷ []

plain_read : reading (text_of plain_lines) ≡ Ok plain
unfolding reading run one_token next_token
plain_read = refl

plain_small : HasSmallNumerals plain
plain_small = record { first = refl; rules = refl; last = refl }

limits_of : (room : RoomSpec) → IsHead room → width_of room room.rounds ≤ most_bits room.version → HasSmallNumerals room.protocol → IsWithinLimits room
limits_of room head fits small = record {
  name = head.name;
  shape = record { n_range = inputs_range room.inputs head.inputs; m_range = head.simulators; rounds_range = head.rounds; width = refl; memory = most_bits_few room.version (width_of room room.rounds) fits };
  width = fits;
  turns = head.turns;
  task = head.task;
  fuses = head.fuses;
  values = inputs_are_values room.inputs head.inputs;
  own = head.own;
  numerals = small;
}

-- ---- the two kinds of blocks

-- what the lines before the line `end` say
abbrev pub reader : Bool → List ℕ → Result RoomSpec SpecFault
reader false body = room_in body
reader true body = reduction_in body

local_reader : (reduction : Bool) → IsLocalFrom 1 behind_protocol (reader reduction)
local_reader false = local_room
local_reader true = local_reduction

no_own_inputs : (own : List ℕ) → has_own own ≡ false → own ≡ []
no_own_inputs [] none = refl
no_own_inputs (input ∷ inputs) none = absurd cc

reader_again : (reduction : Bool) (room : RoomSpec) (more : List (List ℕ)) → IsWithinLimits room → is_reduction room ≡ reduction → list_all (λ fuse. is_value fuse.1) room.fuses ≡ true → reading (text_of more) ≡ Ok room.protocol → reader reduction (text_of (lines_before_text reduction room ++ more)) ≡ Ok room
reader_again false room more limits kind fuses protocol = room_again room more limits (no_own_inputs room.own kind) fuses protocol
reader_again true room more limits kind fuses protocol = lines_again room more limits kind fuses protocol

reader_too_wide : (reduction : Bool) (room : RoomSpec) (more : List (List ℕ)) → IsHead room → is_reduction room ≡ reduction → most_bits room.version < width_of room room.rounds → reader reduction (text_of (lines_before_text reduction room ++ more)) ≡ Err TooWide
reader_too_wide false room more head kind wide = room_too_wide room more head wide
reader_too_wide true room more head kind wide = reduction_too_wide room more head kind wide

lines_no_end : (reduction : Bool) (room : RoomSpec) (more : List (List ℕ)) → IsHead room → is_reduction room ≡ reduction → are_before_end more ≡ true → are_before_end (lines_before_text reduction room ++ more) ≡ true
lines_no_end false room more head kind all = head_no_end room more head all
lines_no_end true room more head kind all = reduction_no_end room more head kind all

-- the same lines with another protocol
same_lines : (reduction : Bool) (room : RoomSpec) (protocol : Protocol) → lines_before_text reduction (record room { protocol = protocol }) ≡ lines_before_text reduction room
same_lines false room protocol = refl
same_lines true room protocol = refl

take_line : (before : List (List ℕ)) (line : List ℕ) (more : List (List ℕ)) → take (suc (length before)) (before ++ line ∷ more) ≡ before ++ line ∷ []
take_line [] line more = refl
take_line (first ∷ before) line more = ap (λ (l : List (List ℕ)). first ∷ l) (take_line before line more)

too_wide_fits : (before : List (List ℕ)) (line : List ℕ) (most width : ℕ) (fault : SpecFault) → TooWide ≡ fault → line_of fault ≡ Some (suc (length before)) → (5 ≤ length (before ++ line ∷ []) → width ≤ most) → most < width → ⊥
too_wide_fits before line most width fault is number fits wide =
    let five : 5 ≡ suc (length before) = same_Some _ _ (ap line_of is ∙ number) in
    let few = fits (omega (arith, five, length-append before (line ∷ []))) in
    absurd (omega (arith, few, wide))

abbrev with_plain : RoomSpec → RoomSpec
with_plain room = record room { protocol = plain }

same_head : (room : RoomSpec) → IsHead room → IsHead (with_plain room)
same_head room head = record { name = head.name; inputs = head.inputs; simulators = head.simulators; rounds = head.rounds; turns = head.turns; task = head.task; fuses = head.fuses; values = head.values; own = head.own }

module _ (reduction : Bool) where
  wide_or_read : (room : RoomSpec) → is_reduction room ≡ reduction → IsHead room → room.protocol ≡ plain → ((most_bits room.version < width_of room room.rounds) × (reader reduction (text_of (lines_before_text reduction room ++ plain_lines)) ≡ Err TooWide)) ⊎ (reader reduction (text_of (lines_before_text reduction room ++ plain_lines)) ≡ Ok room)
  wide_or_read room kind head is =
      elim (cases_lt (most_bits room.version) (width_of room room.rounds)) [
        | inl wide ↦ inl (wide, reader_too_wide reduction room plain_lines head kind wide)
        | inr fits ↦ inr (reader_again reduction room plain_lines (limits_of room head fits (rw is plain_small)) kind head.values (plain_read ∙ ap Ok (sym is)))
      ]

  -- a block of these lines has the fault at this line, and so has each other with the same lines up to it
  fault_again : (lines others before more rest : List (List ℕ)) (line : List ℕ) (fault : SpecFault) → are_before_end lines ≡ true → are_before_end others ≡ true → reader reduction (text_of lines) ≡ Err fault → lines ++ codes "end" ∷ [] ≡ before ++ line ∷ more → others ++ codes "end" ∷ [] ≡ before ++ line ∷ rest → line_of fault ≡ Some (suc (length before)) → reader reduction (text_of others) ≡ Err fault
  fault_again lines others before more rest line fault all all_others read parts parts_others number =
      let same : take (suc (length before)) (others ++ codes "end" ∷ []) ≡ take (suc (length before)) (lines ++ codes "end" ∷ []) = ap (take (suc (length before))) parts_others ∙ take_line before line rest ∙ sym (take_line before line more) ∙ ap (take (suc (length before))) (sym parts) in
      let agree : Agree (suc (length before)) (text_of lines) (text_of others) = agree_lines (suc (length before)) lines others [] [] all all_others same in
      let local = (local_reader reduction).own (text_of lines) fault (suc (length before)) read number in
      let count : suc (length before) ≡ suc (suc (length before)) - 1 = omega arith in
      local.1 (text_of others) (subst (λ (k : ℕ). Agree k (text_of lines) (text_of others)) count agree)

  pub never_next : (lines before more : List (List ℕ)) (line : List ℕ) (fault : SpecFault) → are_before_end lines ≡ true → reader reduction (text_of lines) ≡ Err fault → lines ++ codes "end" ∷ [] ≡ before ++ line ∷ more → line_of fault ≡ Some (suc (length before)) → Begin reduction (before ++ line ∷ []) → ⊥
  never_next lines before more line fault all read parts number begins =
      let head = same_head begins.room begins.head in
      let own : List (List ℕ) = lines_before_text reduction (with_plain begins.room) in
      let whole : (own ++ plain_lines) ++ codes "end" ∷ [] ≡ before ++ line ∷ (begins.more ++ (plain_lines ++ codes "end" ∷ [])) =
      append_assoc own plain_lines (codes "end" ∷ []) ∙ ap (λ (l : List (List ℕ)). l ++ (plain_lines ++ codes "end" ∷ [])) (same_lines reduction begins.room plain ∙ begins.parts)
      ∙ append_assoc (before ++ line ∷ []) begins.more (plain_lines ++ codes "end" ∷ []) ∙ append_assoc before (line ∷ []) (begins.more ++ (plain_lines ++ codes "end" ∷ [])) in
      let again = fault_again lines (own ++ plain_lines) before more (begins.more ++ (plain_lines ++ codes "end" ∷ [])) line fault all (lines_no_end reduction (with_plain begins.room) plain_lines head begins.kind refl) read parts whole number in
      elim (wide_or_read (with_plain begins.room) begins.kind head refl) [
        | inl (wide, never) ↦ too_wide_fits before line (most_bits begins.room.version) (width_of begins.room begins.room.rounds) fault (let same : Err TooWide ≡ Err fault = sym never ∙ again in cc) number begins.fits wide
        | inr found ↦ absurd (let same : Ok (with_plain begins.room) ≡ Err fault = sym found ∙ again in cc)
      ]

-- ---- line by line

module _ (reduction : Bool) where
  -- what is said of the line after these
  abbrev pub Stands : SpecFault → List (List ℕ) → List ℕ → Type 0
  Stands fault before line = (begins : Begin reduction before) × (line_of fault ≡ Some (suc (length before))) × IsReason reduction fault begins.room before line × (begins.more ≢ [])

  -- these lines begin the head of this room, and aren't all of it
  pub record Starts (so_far : List (List ℕ)) (room : RoomSpec) : Type 0 where
    pub head : IsHead room
    pub kind : is_reduction room ≡ reduction
    pub fits : 5 ≤ length so_far → width_of room room.rounds ≤ most_bits room.version
    pub more : List (List ℕ)
    pub parts : lines_before_text reduction room ≡ so_far ++ more
    pub unfinished : 1 ≤ length more

  some_lines : (lines : List (List ℕ)) → 1 ≤ length lines → lines ≢ []
  some_lines [] some is = absurd (omega (arith, some))
  some_lines (line ∷ lines) some is = absurd (let never : length (line ∷ lines) ≡ 0 = ap length is in omega (arith, some, never))

  pub stands_for : (so_far : List (List ℕ)) (room : RoomSpec) (line : List ℕ) (own fault : SpecFault) → Starts so_far room → own ≡ fault → line_of own ≡ Some (suc (length so_far)) → IsReason reduction own room so_far line → Stands fault so_far line
  stands_for so_far room line own fault starts same number reason =
      let here : Stands own so_far line = (record { room = room; head = starts.head; kind = starts.kind; fits = starts.fits; more = starts.more; parts = starts.parts }, number, reason, some_lines starts.more starts.unfinished) in
      subst (λ (f : SpecFault). Stands f so_far line) same here

  -- one of the lines, or the line `end` after them, has the fault
  pub record HasLine (so_far lines : List (List ℕ)) (fault : SpecFault) : Type 0 where
    pub before : List (List ℕ)
    pub line : List ℕ
    pub more : List (List ℕ)
    pub parts : lines ++ codes "end" ∷ [] ≡ before ++ line ∷ more
    pub says : Stands fault (so_far ++ before) line

  -- the first of the lines end a head, and the others are the text with the protocol's fault
  pub record HasText (so_far lines : List (List ℕ)) (fault : ParseFault) : Type 0 where
    pub room : RoomSpec
    pub head : IsHead room
    pub kind : is_reduction room ≡ reduction
    pub fits : width_of room room.rounds ≤ most_bits room.version
    pub before : List (List ℕ)
    pub more : List (List ℕ)
    pub parts : lines ≡ before ++ more
    pub whole : lines_before_text reduction room ≡ so_far ++ before
    pub read : reading (text_of more) ≡ Err fault

  abbrev pub Has : List (List ℕ) → List (List ℕ) → SpecFault → Type 0
  Has so_far lines fault = HasLine so_far lines fault ⊎ ((own : ParseFault) × (BadProtocol own ≡ fault) × HasText so_far lines own)

  abbrev pub IsFirstFrom : List (List ℕ) → (List ℕ → Result RoomSpec SpecFault) → Type 0
  IsFirstFrom so_far read = (lines : List (List ℕ)) (fault : SpecFault) → are_lines lines ≡ true → read (text_of lines) ≡ Err fault → Has so_far lines fault

  one_later : (so_far lines : List (List ℕ)) (top : List ℕ) (fault : SpecFault) → Has (so_far ++ top ∷ []) lines fault → Has so_far (top ∷ lines) fault
  one_later so_far lines top fault (inl has) = inl (record {
    before = top ∷ has.before;
    line = has.line;
    more = has.more;
    parts = ap (λ (l : List (List ℕ)). top ∷ l) has.parts;
    says = subst (λ (l : List (List ℕ)). Stands fault l has.line) (append_assoc so_far (top ∷ []) has.before) has.says;
  })
  one_later so_far lines top fault (inr (own, is, has)) = inr (
    own,
    is,
    record {
      room = has.room;
      head = has.head;
      kind = has.kind;
      fits = has.fits;
      before = top ∷ has.before;
      more = has.more;
      parts = ap (λ (l : List (List ℕ)). top ∷ l) has.parts;
      whole = has.whole ∙ append_assoc so_far (top ∷ []) has.before;
      read = has.read;
    },
  )

  pub same_first : (so_far : List (List ℕ)) (read same : List ℕ → Result RoomSpec SpecFault) → ((text : List ℕ) → read text ≡ same text) → IsFirstFrom so_far same → IsFirstFrom so_far read
  same_first so_far read same is first = λ lines fault all e. first lines fault all (sym (is (text_of lines)) ∙ e)

  here_has : (so_far more : List (List ℕ)) (line : List ℕ) (lines : List (List ℕ)) (fault : SpecFault) → lines ++ codes "end" ∷ [] ≡ line ∷ more → Stands fault so_far line → Has so_far lines fault
  here_has so_far more line lines fault parts here = inl (record {
    before = [];
    line = line;
    more = more;
    parts = parts;
    says = subst (λ (l : List (List ℕ)). Stands fault l line) (sym (append-nil so_far)) here;
  })

  pub first_by_line : {A : Type 0} (so_far : List (List ℕ)) (refusal : SpecFault) (judge : List ℕ → Result A SpecFault) (next : A → List ℕ → Result RoomSpec SpecFault) → judge [] ≡ Err refusal → judge (codes "end") ≡ Err refusal → ((bytes : List ℕ) (fault : SpecFault) → judge bytes ≡ Err fault → Stands fault so_far bytes) → ((x : A) (bytes : List ℕ) → judge bytes ≡ Ok x → IsFirstFrom (so_far ++ bytes ∷ []) (next x)) → (lines : List (List ℕ)) (fault : SpecFault) → are_lines lines ≡ true → by_line judge next (text_of lines) ≡ Err fault → Has so_far lines fault
  first_by_line so_far refusal judge next empty end refused later [] fault all e =
      elim (err_cases (judge (first_line [])) (λ x. next x (later_lines [])) fault e) [
        | inl here ↦ here_has so_far [] (codes "end") [] fault refl (refused (codes "end") fault (end ∙ sym empty ∙ here))
        | inr (x, judged_ok, there) ↦ absurd (let never : Err refusal ≡ Ok x = sym empty ∙ judged_ok in cc)
      ]
  first_by_line so_far refusal judge next empty end refused later (top ∷ lines) fault all e =
      let parts = and_parts (is_line top) (are_lines lines) all in
      elim (err_cases (judge (first_line (text_of (top ∷ lines)))) (λ x. next x (later_lines (text_of (top ∷ lines)))) fault e) [
        | inl here ↦ here_has so_far (lines ++ codes "end" ∷ []) top (top ∷ lines) fault refl (refused top fault (ap judge (sym (first_line-text_of top lines parts.0)) ∙ here))
        | inr (x, judged_ok, there) ↦ one_later so_far lines top fault (later x top (ap judge (sym (first_line-text_of top lines parts.0)) ∙ judged_ok) lines fault parts.1 (ap (next x) (sym (later_lines-text_of top lines parts.0)) ∙ there))
      ]
