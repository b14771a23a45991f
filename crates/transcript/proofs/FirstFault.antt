-- What is read has the line's first fault.
use Rattle.std.proofs.Common.{◌≡◌, ◌∙◌, ℕ, suc, Bool, true, false, cond, not, ltb, leb, ◌&&◌, List, [], ◌∷◌, length, Option, Some, None, Result, Ok, Err, refl, sym, ap, subst, inl, inr, arith}
use Rattle.std.specs.Prelude.{codes}
use Rattle.std.specs.List.{list_all}
use Rattle.std.specs.Str.{bytes_eq}
use Rattle.std.proofs.lemmas.Bool.{cases_Bool, cases_lt, lt-ltb, le-ltb}
use Rattle.std.proofs.lemmas.Slice.Eq.{bytes_eq-Decides}
use Rattle.protocol_lang.specs.Numbers.{greatest, number_of}
use Rattle.room_spec.specs.Names.{is_name}
use Rattle.room_spec.specs.Texts.{fields_of}
use Rattle.transcript.specs.declared.fault.LineFault.{LineFault}
use Rattle.transcript.specs.declared.fault.LineFault.TheVariants.{BadWord, BadNumber, BadLength}
use Rattle.protocol_lang.specs.Results.{◌>>=◌}
use Rattle.transcript.specs.Lines.{up_to, number_in, entry_of, entry_in, entries_in, value_in, row_in, write_by, snap_by, decide_by, event_of, event_in, of_room, named_event, line_in}
use Rattle.transcript.specs.Faults.{is_up_to, is_number, is_word, most_fields, is_entry, first_fault, fault_in}

-- a step that never fails changes no fault
carried : {A B : Type 0} (read : Result A LineFault) (next : A → Result B LineFault) → ((x : A) → fault_in (next x) ≡ None) → fault_in (read >>= next) ≡ fault_in read
carried (Ok x) next good = good x
carried (Err fault) next good = refl

abbrev bad_unless : Bool → Option LineFault
bad_unless good = cond (not good) (Some BadNumber) None

numbers : (most : ℕ) (number : Option ℕ) → fault_in (up_to most number) ≡ bad_unless (is_up_to most number)
numbers most None = refl
numbers most (Some n) = elim (cases_Bool (leb n most)) as (λ x. fault_in (up_to most (Some n)) ≡ bad_unless (leb n most)) [ inl within ↦ rw within refl | inr above ↦ rw above refl ]

and_bad : (first rest : Bool) → cond (not first) (Some BadNumber) (bad_unless rest) ≡ bad_unless (first && rest)
and_bad true rest = refl
and_bad false rest = refl

entries_then : {A B : Type 0} (read : Result A LineFault) (more : Result B LineFault) (good : Bool) (next : A → B → Result B LineFault) → fault_in read ≡ bad_unless good → ((x : A) (y : B) → fault_in (next x y) ≡ None)
    → fault_in (read >>= λ x. more >>= next x) ≡ cond (not good) (Some BadNumber) (fault_in more)
entries_then (Ok x) more true next is kept = carried more (next x) (kept x)
entries_then (Ok x) more false next is kept = absurd cc
entries_then (Err fault) more true next is kept = absurd cc
entries_then (Err fault) more false next is kept = is

an_entry : (field : List ℕ) → fault_in (entry_in field) ≡ bad_unless (is_entry (codes "snap") field)
an_entry field =
    elim (cases_Bool (bytes_eq field (codes "."))) as (λ x. fault_in (entry_in field) ≡ bad_unless (is_entry (codes "snap") field)) [
      | inl dot ↦ rw dot refl
      | inr other ↦ rw other (carried (number_in greatest field) entry_of (λ n. refl) ∙ numbers greatest (number_of field))
    ]

entries : (fields : List (List ℕ)) → fault_in (entries_in fields) ≡ bad_unless (list_all (is_entry (codes "snap")) fields)
entries [] = refl
entries (field ∷ fields) =
    entries_then (entry_in field) (entries_in fields) (is_entry (codes "snap") field) (λ entry all. Ok (entry ∷ all)) (an_entry field) (λ x y. refl)
    ∙ ap (λ rest. cond (not (is_entry (codes "snap") field)) (Some BadNumber) rest) (entries fields)
    ∙ and_bad (is_entry (codes "snap") field) (list_all (is_entry (codes "snap")) fields)

and_true : (b : Bool) → b ≡ (b && true)
and_true true = refl
and_true false = refl

-- the fields behind the process are a word and at least one more
abbrev Behind : List ℕ → List (List ℕ) → Option LineFault
Behind word fields = cond (ltb (most_fields word) (suc (suc (suc (length fields))))) (Some BadLength) (bad_unless (list_all (is_entry word) fields))

a_value : (word : List ℕ) (field : List ℕ) (more : List (List ℕ)) → most_fields word ≡ 4 → ((f : List ℕ) → is_entry word f ≡ is_number greatest f) → fault_in (value_in (field ∷ more)) ≡ Behind word (field ∷ more)
a_value word field [] most plain = rw (most, plain field) (numbers greatest (number_of field) ∙ ap bad_unless (and_true (is_number greatest field)))
a_value word field (second ∷ more) most plain = rw (most, lt-ltb 4 (suc (suc (suc (length (field ∷ second ∷ more))))) (omega arith)) refl

a_row : (fields : List (List ℕ)) → fault_in (row_in fields) ≡ Behind (codes "snap") fields
a_row fields =
    elim (cases_lt 16 (length fields)) as (λ x. fault_in (row_in fields) ≡ Behind (codes "snap") fields) [
      | inl many ↦ rw (lt-ltb 16 (length fields) many, lt-ltb 19 (suc (suc (suc (length fields)))) (omega (arith, many))) refl
      | inr few ↦ rw (le-ltb 16 (length fields) few, le-ltb 19 (suc (suc (suc (length fields)))) (omega (arith, few))) (entries fields)
    ]

abbrev WordLaw : List ℕ → List ℕ → List ℕ → List (List ℕ) → ℕ → Type 0
WordLaw name word field more p = fault_in (event_of word (field ∷ more) p >>= of_room name) ≡ cond (not (is_word word)) (Some BadWord) (Behind word (field ∷ more))

word_is : (word : List ℕ) (text : List ℕ) → bytes_eq word text ≡ true → text ≡ word
word_is word text e = sym ((bytes_eq-Decides word text).0 e)

words : (name word field : List ℕ) (more : List (List ℕ)) (p : ℕ) → WordLaw name word field more p
words name word field more p =
    elim (cases_Bool (bytes_eq word (codes "write"))) as (λ x. WordLaw name word field more p) [
      | inl write ↦ subst (λ w. WordLaw name w field more p) (word_is word (codes "write") write)
          (carried (value_in (field ∷ more) >>= write_by p) (of_room name) (λ x. refl) ∙ carried (value_in (field ∷ more)) (write_by p) (λ x. refl) ∙ a_value (codes "write") field more refl (λ f. refl))
      | inr no_write ↦ elim (cases_Bool (bytes_eq word (codes "snap"))) as (λ x. WordLaw name word field more p) [
        | inl snap ↦ subst (λ w. WordLaw name w field more p) (word_is word (codes "snap") snap)
            (carried (row_in (field ∷ more) >>= snap_by p) (of_room name) (λ x. refl) ∙ carried (row_in (field ∷ more)) (snap_by p) (λ x. refl) ∙ a_row (field ∷ more))
        | inr no_snap ↦ elim (cases_Bool (bytes_eq word (codes "decide"))) as (λ x. WordLaw name word field more p) [
          | inl decide ↦ subst (λ w. WordLaw name w field more p) (word_is word (codes "decide") decide)
              (carried (value_in (field ∷ more) >>= decide_by p) (of_room name) (λ x. refl) ∙ carried (value_in (field ∷ more)) (decide_by p) (λ x. refl) ∙ a_value (codes "decide") field more refl (λ f. refl))
          | inr no_decide ↦ rw (no_write, no_snap, no_decide) refl
        ]
      ]
    ]

processes : (name word field : List ℕ) (more : List (List ℕ)) (number : Option ℕ)
    → fault_in ((up_to 15 number >>= event_of word (field ∷ more)) >>= of_room name) ≡ cond (not (is_up_to 15 number)) (Some BadNumber) (cond (not (is_word word)) (Some BadWord) (Behind word (field ∷ more)))
processes name word field more None = refl
processes name word field more (Some p) =
    elim (cases_Bool (leb p 15)) as (λ x. fault_in ((up_to 15 (Some p) >>= event_of word (field ∷ more)) >>= of_room name) ≡ cond (not (leb p 15)) (Some BadNumber) (cond (not (is_word word)) (Some BadWord) (Behind word (field ∷ more)))) [
      | inl within ↦ rw within (words name word field more p)
      | inr above ↦ rw above refl
    ]

behind_name : (name : List ℕ) (fields : List (List ℕ)) (line : List ℕ) → ltb 256 (length line) ≡ false → is_name name ≡ true → fields_of line ≡ name ∷ fields → fault_in (event_in fields >>= of_room name) ≡ first_fault line
behind_name name [] line short named e = rw (e, short, named) refl
behind_name name (process ∷ []) line short named e = rw (e, short, named) refl
behind_name name (process ∷ word ∷ []) line short named e = rw (e, short, named) refl
behind_name name (process ∷ word ∷ field ∷ more) line short named e =
    rw (e, short, named, lt-ltb 0 (length (field ∷ more)) (omega arith), le-ltb (length (name ∷ process ∷ word ∷ field ∷ more)) 4 (omega arith)) (processes name word field more (number_of process))

of_fields : (line : List ℕ) (fields : List (List ℕ)) → ltb 256 (length line) ≡ false → fields_of line ≡ fields → fault_in (named_event fields) ≡ first_fault line
of_fields line [] short e = rw (e, short) refl
of_fields line (name ∷ fields) short e =
    elim (cases_Bool (is_name name)) as (λ x. fault_in (named_event (name ∷ fields)) ≡ first_fault line) [
      | inl named ↦ rw named (behind_name name fields line short named e)
      | inr unnamed ↦ rw (e, short, unnamed) refl
    ]

pub has_first_fault : (line : List ℕ) → fault_in (line_in line) ≡ first_fault line
has_first_fault line =
    elim (cases_Bool (ltb 256 (length line))) as (λ x. fault_in (line_in line) ≡ first_fault line) [
      | inl long ↦ rw long refl
      | inr short ↦ rw short (of_fields line (fields_of line) short refl ∙ rw short refl)
    ]
