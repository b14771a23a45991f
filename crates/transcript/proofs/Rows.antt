-- A row, read entry by entry.
use Rattle.std.proofs.Common.{◌≡◌, ℕ, ◌<◌, ◌≤◌, List, [], ◌∷◌, ◌++◌, Option, Bool, true, false, cond, length, Result, Ok, Err, arith, refl, sym, ap, ◌∙◌, append_assoc}
use Rattle.std.specs.List.{slice_split, onto_first, count_by}
use Rattle.room_spec.specs.Texts.{is_space, fields_of}
use Rattle.std.specs.Prelude.{nat_lt}
use Rattle.std.proofs.lemmas.Bool.{lt-ltb, le-ltb}
use Rattle.std.proofs.lemmas.List.Splits.{length-slice_split}
use Rattle.transcript.specs.declared.fault.LineFault.{LineFault}
use Rattle.transcript.specs.declared.fault.LineFault.TheVariants.{BadLength}
use Rattle.protocol_lang.specs.Results.{◌>>=◌}
use Rattle.transcript.specs.Lines.{entry_in, entries_in, value_in, row_in, number_in, event_of, event_in}

-- what was read before, and what is still read
abbrev pub with_front : List (Option ℕ) → Result (List (Option ℕ)) LineFault → Result (List (Option ℕ)) LineFault
with_front front read = read >>= λ entries. Ok (front ++ entries)

regroup : (front : List (Option ℕ)) (entry : Option ℕ) (read : Result (List (Option ℕ)) LineFault) → with_front front (read >>= λ entries. Ok (entry ∷ entries)) ≡ with_front (front ++ entry ∷ []) read
regroup front entry (Ok entries) = ap Ok (simp append_assoc)
regroup front entry (Err fault) = refl

pub goes_on : (front : List (Option ℕ)) (field : List ℕ) (others : List (List ℕ)) (entry : Option ℕ) (all : Result (List (Option ℕ)) LineFault) → Ok entry ≡ entry_in field
    → with_front front (entries_in (field ∷ others)) ≡ all → with_front (front ++ entry ∷ []) (entries_in others) ≡ all
goes_on front field others entry all is so_far = sym (regroup front entry (entries_in others)) ∙ (rw (← is) at so_far)

pub ends : (front : List (Option ℕ)) (field : List ℕ) (others : List (List ℕ)) (fault : LineFault) (all : Result (List (Option ℕ)) LineFault) → Err fault ≡ entry_in field
    → with_front front (entries_in (field ∷ others)) ≡ all → all ≡ Err fault
ends front field others fault all is so_far = sym (rw (← is) at so_far)

pub value_two : (p : ℕ → Bool) (field : List ℕ) (rest : List ℕ) → value_in (field ∷ slice_split p rest) ≡ Err BadLength
value_two p field [] = refl
value_two p field (byte ∷ bytes) = elim (p byte) as (λ b. value_in (field ∷ cond b ([] ∷ slice_split p bytes) (onto_first byte (slice_split p bytes))) ≡ Err BadLength) [
  | true ↦ refl
  | false ↦ elim (slice_split p bytes) as (λ parts. value_in (field ∷ onto_first byte parts) ≡ Err BadLength) [ [] ↦ refl | ◌∷◌ part parts ↦ refl ]
]

pub has_pieces : (p : ℕ → Bool) (text : List ℕ) → nat_lt 0 (length (slice_split p text)) ≡ true
has_pieces p text = lt-ltb _ _ (omega (arith, length-slice_split p text))

pub row_long : (fields : List ℕ) → 16 ≤ count_by is_space fields → row_in (fields_of fields) ≡ Err BadLength
row_long fields many = rw (lt-ltb 16 (length (fields_of fields)) (omega (arith, many, length-slice_split is_space fields))) refl

pub row_short : (fields : List ℕ) → count_by is_space fields < 16 → row_in (fields_of fields) ≡ entries_in (fields_of fields)
row_short fields few = rw (le-ltb 16 (length (fields_of fields)) (omega (arith, few, length-slice_split is_space fields))) refl

pub event_some : (process word rest : List ℕ) → event_in (process ∷ (word ∷ fields_of rest)) ≡ (number_in 15 process >>= event_of word (fields_of rest))
event_some process word rest = rw (has_pieces is_space rest) refl
