-- A room's own line, after its outcomes.
use Rattle.std.proofs.Common.{◌≡◌, ◌⊎◌, inl, inr, ◌∙◌, ℕ, ◌+◌, ◌==◌, ◌||◌, Bool, true, false, cond, List, [], ◌∷◌, ◌++◌, append_assoc, append-nil, length, map, Some, codes, bytes_eq, string_bytes, true≢false, refl, sym, ap, ap₂, subst, arith}
use Rattle.std.proofs.lemmas.Bool.{eqb-true}
use Rattle.std.proofs.lemmas.Grind.{flat_map-append}
use Rattle.std.proofs.lemmas.List.{map-append}
use Rattle.std.proofs.lemmas.Slice.Eq.{bytes_eq-Decides}
use Rattle.serde_json.specs.Data.{Data}
use Rattle.serde_json.specs.Find.{get}
use Rattle.std.specs.Prelude.{is_some}
use Rattle.json_lines.specs.Lines.{json_line}
use Rattle.room_sample.specs.Shown.{shown_of}
use Rattle.room_sample.specs.declared.examples.Example.{Example}
use Rattle.view_sample.specs.Json.{outcome_lines}
use Rattle.view_sum.specs.Fields.{RoomSaid, room_at}
use Rattle.view_sum.specs.Files.{AreNumbered, lines_in}
use Rattle.view_sum.specs.Reading.{is_none_listed, listed_text}
use Rattle.view_sum.specs.Refusals.{IsOneLine, IsUnreadLine, SaysData, pending_of, sample_by}
use Rattle.view_sum.specs.Samples.{RoomSample, room_data, room_text, sample_of, sample_text}
use Rattle.view_sum.specs.declared.fault.Reason.{Reason}
use Rattle.view_sum.specs.declared.fault.Reason.TheVariants.{NotOfSample, OtherCount}
use Rattle.view_sum.specs.declared.listed.Listed.{Listed}
use Rattle.view_sum.specs.declared.part.Part.{Part}
use Rattle.view_sum.proofs.Cutting.{lines_append, one_in, one_numbered}
use Rattle.view_sum.proofs.LineReading.{no_times_no_outcome, not_this_room}
use Rattle.view_sum.proofs.ListedReading.{room_says}

-- the line isn't that of the room that it says
pub not_room : (listed : Listed) (line : List ℕ) (it : Data) (said : RoomSaid) (part : RoomSample) (b : Bool) (count there : ℕ) (reason : Reason) → SaysData line it → is_some (get (codes "times") it) ≡ false → room_at it ≡ Some said
    → part ≡ sample_by said listed.brief (map shown_of listed.outcomes.items) → b ≡ bytes_eq (json_line (room_data part)) line → b ≡ false → count ≡ said.count → there ≡ length part.outcomes → reason ≡ cond (count == there) NotOfSample (OtherCount there)
    → IsUnreadLine (pending_of listed) line reason
not_room listed line it said part b count there reason says times said_is part_is is differ count_is there_is reason_is =
    subst (IsUnreadLine (pending_of listed) line) (sym reason_is) (by (count == there) refl)
  where
    by : (same : Bool) → (count == there) ≡ same → IsUnreadLine (pending_of listed) line (cond same NotOfSample (OtherCount there))
    by true same = (
      no_times_no_outcome (pending_of listed) line it says times,
      not_this_room (pending_of listed) line it said says said_is (ap (λ (p : RoomSample). bytes_eq (json_line (room_data p)) line) (sym part_is) ∙ sym is ∙ differ),
    )
    by false same = (
      it,
      says,
      count,
      (room_says it said said_is).1 ∙ ap Some (sym count_is),
      (λ equal. true≢false (sym (same_number count there equal) ∙ same)),
      there_is ∙ ap (λ (p : RoomSample). length p.outcomes) part_is,
    )
      where
        same_number : (a c : ℕ) → a ≡ c → (a == c) ≡ true
        same_number a c equal = grind (arith, equal)

-- ---- one room more

pub room_more : (old_parts new_parts : List Part) (part : Part) (listed after : Listed) (said : RoomSaid) (line : List ℕ) → new_parts ≡ old_parts ++ part ∷ [] → sample_of part ≡ sample_by said listed.brief (map shown_of listed.outcomes.items) → said.name ≡ string_bytes listed.name ⊎ (listed.outcomes.items ≡ [])
    → bytes_eq (json_line (room_data (sample_of part))) line ≡ true → after.outcomes.items ≡ []
    → sample_text (map sample_of new_parts) ++ listed_text after ≡ (sample_text (map sample_of old_parts) ++ listed_text listed) ++ line
room_more old_parts new_parts part listed after said line more part_is name_is same none =
    let written : json_line (room_data (sample_of part)) ≡ line = (bytes_eq-Decides (json_line (room_data (sample_of part))) line).0 same in
    let old = sample_text (map sample_of old_parts) in
    let samples : sample_text (map sample_of new_parts) ≡ old ++ room_text (sample_of part) =
    ap (λ (all : List Part). sample_text (map sample_of all)) more ∙ ap sample_text (map-append sample_of old_parts (part ∷ [])) ∙ flat_map-append room_text (map sample_of old_parts) (sample_of part ∷ []) ∙ ap (λ (t : List ℕ). old ++ t) (append-nil (room_text (sample_of part))) in
    let last : listed_text after ≡ [] = ap (λ items. outcome_lines (string_bytes after.name) after.brief (map shown_of items)) none in
    let room : room_text (sample_of part) ≡ listed_text listed ++ line =
    ap₂ (λ (s : RoomSample) (l : List ℕ). outcome_lines s.name s.how.brief s.outcomes ++ l) part_is written ∙ ap (λ (t : List ℕ). t ++ line) (listed_same name_is) in
    ap₂ (λ (a b : List ℕ). a ++ b) samples last ∙ append-nil (old ++ room_text (sample_of part)) ∙ ap (λ (t : List ℕ). old ++ t) room ∙ sym (append_assoc old (listed_text listed) line)
  where
    listed_same : said.name ≡ string_bytes listed.name ⊎ (listed.outcomes.items ≡ []) → outcome_lines said.name listed.brief (map shown_of listed.outcomes.items) ≡ listed_text listed
    listed_same (inl named) = ap (λ (n : List ℕ). outcome_lines n listed.brief (map shown_of listed.outcomes.items)) named
    listed_same (inr empty) = ap (λ items. outcome_lines said.name listed.brief (map shown_of items)) empty ∙ sym (ap (λ items. outcome_lines (string_bytes listed.name) listed.brief (map shown_of items)) empty)

-- its line has this number
pub room_numbered : (old_parts new_parts : List Part) (part : Part) (number : ℕ) (so_far line : List ℕ) → new_parts ≡ old_parts ++ part ∷ [] → part.line ≡ number → AreNumbered [] (map sample_of old_parts) (map (λ p. p.line) old_parts) → number ≡ lines_in so_far + 1 → IsOneLine line
    → sample_text (map sample_of new_parts) ≡ so_far ++ line → AreNumbered [] (map sample_of new_parts) (map (λ p. p.line) new_parts)
room_numbered old_parts new_parts part number so_far line more line_is are number_is one text =
    let all : lines_in (so_far ++ line) ≡ lines_in so_far + lines_in line = lines_append so_far line in
    let end = one_in line one in
    let old = sample_text (map sample_of old_parts) in
    let samples : sample_text (map sample_of new_parts) ≡ old ++ room_text (sample_of part) =
    ap (λ (all : List Part). sample_text (map sample_of all)) more ∙ ap sample_text (map-append sample_of old_parts (part ∷ [])) ∙ flat_map-append room_text (map sample_of old_parts) (sample_of part ∷ []) ∙ ap (λ (t : List ℕ). old ++ t) (append-nil (room_text (sample_of part))) in
    let here : part.line ≡ lines_in (old ++ room_text (sample_of part)) = let whole = ap lines_in (sym samples ∙ text) in omega (arith, whole, line_is, number_is, all, end) in
    subst (λ (parts : List Part). AreNumbered [] (map sample_of parts) (map (λ p. p.line) parts)) (sym more)
    (subst (λ (lines : List ℕ). AreNumbered [] (map sample_of (old_parts ++ part ∷ [])) lines) (sym (map-append (λ (p : Part). p.line) old_parts (part ∷ [])))
    (subst (λ (samples : List RoomSample). AreNumbered [] samples (map (λ p. p.line) old_parts ++ part.line ∷ [])) (sym (map-append sample_of old_parts (part ∷ [])))
    (one_numbered [] (map sample_of old_parts) (map (λ p. p.line) old_parts) (sample_of part) part.line are here)))

either_true : (a b : Bool) → (a || b) ≡ true → (a ≡ true) ⊎ (b ≡ true)
either_true true b is = inl refl
either_true false b is = inr is

none_there : (items : List Example) → (length items == 0) ≡ true → items ≡ []
none_there [] is = refl
none_there (one ∷ items) is = absurd (let zero_is = eqb-true (length (one ∷ items)) 0 is in omega (arith, zero_is))

pub of_room : (listed : Listed) (name : List ℕ) (b : Bool) → b ≡ (is_none_listed listed || bytes_eq (string_bytes listed.name) name) → b ≡ true → (name ≡ string_bytes listed.name) ⊎ (listed.outcomes.items ≡ [])
of_room listed name b is may = elim (either_true (is_none_listed listed) (bytes_eq (string_bytes listed.name) name) (sym is ∙ may)) [
  | inl none ↦ inr (none_there listed.outcomes.items none)
  | inr same ↦ inl (sym ((bytes_eq-Decides (string_bytes listed.name) name).0 same))
]

-- no outcome is left
pub text_alone : (samples : List RoomSample) (after : Listed) (whole : List ℕ) → after.outcomes.items ≡ [] → sample_text samples ++ listed_text after ≡ whole → sample_text samples ≡ whole
text_alone samples after whole none is =
    let last : listed_text after ≡ [] = ap (λ items. outcome_lines (string_bytes after.name) after.brief (map shown_of items)) none in
    sym (append-nil (sample_text samples)) ∙ ap (λ (t : List ℕ). sample_text samples ++ t) (sym last) ∙ is
