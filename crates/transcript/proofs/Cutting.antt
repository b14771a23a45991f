-- A line and its parts.
use Rattle.std.proofs.Common.{All, ◌≡◌, ◌≤◌, ◌<◌, ◌+◌, ◌*◌, ◌^◌, ◌∙◌, ℕ, suc, Bool, true, false, cond, List, [], ◌∷◌, ◌++◌, length, Some, Result, Ok, Err, refl, sym, ap, subst, arith}
use Rattle.std.specs.List.{join_with_byte}
use Rattle.std.specs.Str.{bytes_eq}
use Rattle.std.proofs.Math.Nat.{pow-suc, pow-le-pow_right}
use Rattle.std.specs.Fmt.{decimal}
use Rattle.std.proofs.lemmas.Bool.{false_from_ne_true, le-leb, le-ltb}
use Rattle.room_spec.specs.Names.{is_name}
use Rattle.room_spec.specs.Texts.{is_space, fields_of}
use Rattle.transcript.specs.declared.event.Event.{Event}
use Rattle.transcript.specs.declared.fault.LineFault.{LineFault}
use Rattle.transcript.specs.declared.fault.LineFault.TheVariants.{BadName, BadWord}
use Rattle.transcript.specs.declared.word.EventWord.{EventWord}
use Rattle.transcript.specs.declared.word.EventWord.TheVariants as words
use Rattle.transcript.specs.Lines.{event_in, line_in, line_said, LineParts, IsCutInto, IsStray, word_text, number_in, value_in}
use Rattle.std.proofs.lemmas.List.Splits.{slice_split_none, join_with_byte-slice_split, length-slice_split}
use Rattle.std.proofs.lemmas.Slice.Eq.{bytes_eq-Decides}
use Rattle.protocol_lang.specs.Numbers.{greatest, is_digit, number_of}
use Rattle.transcript.proofs.Fields.{no_space_in}
use Rattle.protocol_lang.proofs.CallerLemmas.{digits_of-decimal}
use Rattle.transcript.proofs.Events.{number_again, number_found}
use Rattle.transcript.proofs.Rows.{has_pieces}

-- what a line says is what its parts say
pub cut_says : (line : List ℕ) (parts : LineParts) → IsCutInto line parts → line_in line ≡ line_said parts
cut_says line parts cut =
    rw (le-ltb 256 (length line) cut.short, cut.fields, has_pieces is_space parts.values, number_again 15 parts.process (omega arith) cut.process) refl

-- a fault behind the name is the line's, if the name is one
pub fault_behind_name : (line name : List ℕ) (fields : List (List ℕ)) (fault : LineFault) → length line ≤ 256 → fields_of line ≡ name ∷ fields → event_in fields ≡ Err fault → line_in line ≡ Err (cond (is_name name) fault BadName)
fault_behind_name line name fields fault short cut bad = rw (le-ltb 256 (length line) short, cut, bad) (by_name (is_name name))
  where
    by_name : (named : Bool) → ◌≡◌ {A = Result (List ℕ × Event) LineFault} (cond named (Err fault) (Err BadName)) (Err (cond named fault BadName))
    by_name true = refl
    by_name false = refl

-- a bad number of the process, with a word and something behind it
pub fault_of_process : (process word values : List ℕ) (fault : LineFault) → number_in 15 process ≡ Err fault → event_in (process ∷ word ∷ fields_of values) ≡ Err fault
fault_of_process process word values fault bad = rw (has_pieces is_space values, bad) refl

-- a whole text that is a number is the one field
pub value_whole : (text : List ℕ) (v : ℕ) → Ok v ≡ number_in greatest text → Ok v ≡ value_in (fields_of text)
value_whole text v is =
    let found = number_found greatest text v (omega arith) (sym is) in
    let plain = subst (λ (t : List ℕ). All (λ byte. is_space byte ≡ false) t) (sym found.0) (no_space_in is_digit refl (decimal v) (digits_of-decimal v found.1)) in
    rw (slice_split_none is_space text plain) is

-- ---- a text that begins with no word of an event

joined_two : (word : List ℕ) (fields : List (List ℕ)) → 0 < length fields → join_with_byte 32 (word ∷ fields) ≡ word ++ 32 ∷ join_with_byte 32 fields
joined_two word [] some = absurd (omega (arith, some))
joined_two word (field ∷ fields) some = refl

-- a text of several fields is the first, a space and the others
split_is : (text word rest : List ℕ) → fields_of text ≡ word ∷ fields_of rest → text ≡ word ++ 32 ∷ rest
split_is text word rest is =
    sym (join_with_byte-slice_split 32 text)
    ∙ ap (join_with_byte 32) is
    ∙ joined_two word (fields_of rest) (omega (arith, length-slice_split is_space rest))
    ∙ ap (λ (others : List ℕ). word ++ 32 ∷ others) (join_with_byte-slice_split 32 rest)

other_word : (text word rest : List ℕ) (known : EventWord) → IsStray text → fields_of text ≡ word ∷ fields_of rest → bytes_eq word (word_text known) ≡ false
other_word text word rest known stray is =
    false_from_ne_true (bytes_eq word (word_text known)) (λ same. stray known rest (split_is text word rest is ∙ ap (λ (w : List ℕ). w ++ 32 ∷ rest) ((bytes_eq-Decides word (word_text known)).0 same)))

-- its first field is no word of an event
pub word_of_stray : (process text word rest : List ℕ) (p : ℕ) → IsStray text → fields_of text ≡ word ∷ fields_of rest → Ok p ≡ number_in 15 process → event_in (process ∷ fields_of text) ≡ Err BadWord
word_of_stray process text word rest p stray is number =
    rw (is, has_pieces is_space rest, sym number, other_word text word rest words.Write stray is, other_word text word rest words.Snap stray is, other_word text word rest words.Decide stray is) refl

-- ---- numbers of few digits

pub short_value : (text : List ℕ) (v : ℕ) → number_of text ≡ Some v → v ≤ greatest → Ok v ≡ value_in (fields_of text)
short_value text v is small = value_whole text v (rw (is, le-leb v greatest small) refl)

pub one_digit_more : (number digit i : ℕ) → number < 10 ^ i → digit ≤ 9 → number * 10 + digit < 10 ^ (i + 1)
one_digit_more number digit i below small =
    let e : 10 ^ (i + 1) ≡ 10 ^ i * 10 = ap (λ (k : ℕ). 10 ^ k) (let s : i + 1 ≡ suc i = omega arith in s) ∙ pow-suc 10 i in
    omega (arith, e, below, small)

pub few_digits : (i : ℕ) → i < 9 → 10 ^ i ≤ 100000000
few_digits i few = pow-le-pow_right {n = 10} (omega arith) {i = i} {j = 8} (omega (arith, few))
