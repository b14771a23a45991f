-- A fault rests on the bytes up to the end of its token alone.
use Rattle.std.proofs.Common.{arith, ◌≡◌, ℕ, zero, suc, ◌+◌, ◌-◌, ◌<◌, ◌≤◌, Bool, true, false, cond, leb, List, [], ◌∷◌, ◌++◌, length, take, drop, Option, Some, None, Result, Ok, Err, refl, sym, ap, ◌∙◌, ◌⊎◌, inl, inr}
use Rattle.std.specs.Prelude.{IfSome}
use Rattle.std.specs.List.{take_while}
use Rattle.std.proofs.lemmas.Bool.{cases_Bool, cases_lt}
use Rattle.std.proofs.lemmas.List.{take-append-drop, append-nil}
use Rattle.protocol_lang.specs.Numbers.{greatest, is_digit, number_of}
use Rattle.protocol_lang.specs.Tokens.{is_blank, is_letter, is_end, word_of, symbol_of}
use Rattle.protocol_lang.specs.Trees.{Expression}
use Rattle.protocol_lang.specs.Formulas.{Operands, trees}
use Rattle.protocol_lang.specs.Results.{◌>>=◌}
use Rattle.protocol_lang.specs.Reading.{word_token, number_token, symbol_token, token_at, extent_of, past_blanks, next_token, State, step, fault_at, refused_at, one_token, onward, run, opening, most_tokens, tree_read, reading, Takes}
use Rattle.protocol_lang.specs.FirstFaults.{place_of, SameThrough}
use Rattle.protocol_lang.specs.declared.fault.ParseFault.{ParseFault}
use Rattle.protocol_lang.specs.declared.fault.ParseFault.TheVariants.{TooLong, BadToken, Unexpected, TooDeep, TooManyRules, ViewInFirst, NumberTooLarge, OutOfMemory}
use Rattle.protocol_lang.specs.declared.state.Refusal.{Refusal}
use Rattle.protocol_lang.specs.declared.state.Refusal.TheVariants as refusals
use Rattle.protocol_lang.specs.declared.token.Word.{Word}
use Rattle.protocol_lang.specs.declared.token.Symbol.{Symbol}
use Rattle.protocol_lang.specs.declared.lexer.Placed.{Placed}
use Rattle.protocol_lang.proofs.Runs.{run_same}
use Rattle.protocol_lang.proofs.Front.{at_letter, at_digit, at_other}
use Rattle.protocol_lang.proofs.Alike.{take_less, drop_same, extent_none, extent_same, token_same}
use Rattle.protocol_lang.proofs.Steps.{bind_ok, placed, next_token_is, token_reads}
use Rattle.protocol_lang.proofs.Onward.{reading_by}

-- the other text is the same up to the end of the token at this place, which is not the text's end
pub record SameUpTo (text other : List ℕ) (at : ℕ) : Type 0 where
  pub some : 0 < extent_of (drop at text)
  pub bytes : take (at + extent_of (drop at text)) other ≡ take (at + extent_of (drop at text)) text
  pub token_end : extent_of (drop at other) ≡ extent_of (drop at text)

-- a step that failed, or the next one that did
pub bind_err : {A B : Type 0} (r : Result A ParseFault) (next : A → Result B ParseFault) (fault : ParseFault) → (r >>= next) ≡ Err fault → (r ≡ Err fault) ⊎ ((x : A) × (r ≡ Ok x) × (next x ≡ Err fault))
bind_err (Ok x) next fault e = inr (x, refl, e)
bind_err (Err first) next fault e = inl cc

-- ---- a token

next_same : (text other : List ℕ) (from m : ℕ) → let at = past_blanks text from in at < m → at + extent_of (drop at text) ≤ m → take m other ≡ take m text → extent_of (drop at other) ≡ extent_of (drop at text) → next_token other from ≡ next_token text from
next_same text other from m before within same ends =
    let at = past_blanks text from in
    let extent = extent_of (drop at text) in
    let read : ℕ → List ℕ → Result Placed ParseFault = λ p t. token_at p (drop p t) >>= λ token. Ok (placed p (extent_of (drop p t)) token) in
    let blanks = run_same is_blank (m - from) (drop from text) (drop from other) (omega arith) (drop_same from m text other (omega arith) same) in
    let place : past_blanks other from ≡ at = ap (λ n. from + n) blanks in
    let alike = take_less extent (m - at) (drop at text) (drop at other) (omega arith) (drop_same at m text other (omega arith) same) in
    let front = token_same at extent (drop at text) (drop at other) refl ends alike in
    let fronts : read at other ≡ read at text = rw (front, ends) refl in
    next_token_is other from ∙ ap (λ p. read p other) place ∙ fronts ∙ sym (next_token_is text from)

word_fault : (at : ℕ) (word : Option Word) (fault : ParseFault) → word_token at word ≡ Err fault → place_of fault ≡ Some at
word_fault at None fault e = let same : BadToken at ≡ fault = cc in rw (← same) refl
word_fault at (Some word) fault e = absurd cc

number_fault : (at : ℕ) (number : Option ℕ) (fault : ParseFault) → number_token at number ≡ Err fault → place_of fault ≡ Some at
number_fault at None fault e = let same : BadToken at ≡ fault = cc in rw (← same) refl
number_fault at (Some n) fault e =
    elim (cases_Bool (leb n greatest)) [
      | inl within ↦ let read = rw within at e in absurd cc
      | inr above ↦ let read = rw above at e in let same : NumberTooLarge at ≡ fault = cc in rw (← same) refl
    ]

symbol_fault : (at : ℕ) (symbol : Option Symbol) (fault : ParseFault) → symbol_token at symbol ≡ Err fault → place_of fault ≡ Some at
symbol_fault at None fault e = let same : BadToken at ≡ fault = cc in rw (← same) refl
symbol_fault at (Some symbol) fault e = absurd cc

front_fault : (at : ℕ) (text : List ℕ) (fault : ParseFault) → token_at at text ≡ Err fault → place_of fault ≡ Some at
front_fault at [] fault e = absurd cc
front_fault at (byte ∷ bytes) fault e =
    elim (cases_Bool (is_letter byte)) [
      | inl letter ↦ word_fault at (word_of (take_while is_letter (byte ∷ bytes))) fault (sym (at_letter at byte bytes letter).0 ∙ e)
      | inr other ↦ elim (cases_Bool (is_digit byte)) [
        | inl digit ↦ number_fault at (number_of (take_while is_digit (byte ∷ bytes))) fault (sym (at_digit at byte bytes other digit).0 ∙ e)
        | inr neither ↦ symbol_fault at (symbol_of (byte ∷ bytes)) fault (sym (at_other at byte bytes other neither).0 ∙ e)
      ]
    ]

pub next_fault : (text : List ℕ) (from : ℕ) (fault : ParseFault) → next_token text from ≡ Err fault → place_of fault ≡ Some (past_blanks text from)
next_fault text from fault e =
    let at = past_blanks text from in
    elim (bind_err (token_at at (drop at text)) (λ token. Ok (placed at (extent_of (drop at text)) token)) fault (sym (next_token_is text from) ∙ e)) [
      | inl failed ↦ front_fault at (drop at text) fault failed
      | inr step ↦ absurd (let never = step.2 in cc)
    ]

-- a token rests on its own bytes and the one behind
pub token_values : (text other : List ℕ) (from m : ℕ) (read : Placed) → next_token text from ≡ Ok read → read.end < m → take m other ≡ take m text → next_token other from ≡ next_token text from
token_values text other from m read e within same =
    let reads = token_reads text from read e in
    let at = past_blanks text from in
    let inside : at + extent_of (drop at text) < m = omega (arith, reads.stop) in
    let ends = extent_same (m - at) (drop at text) (drop at other) (omega arith) (drop_same at m text other (omega arith) same) in
    next_same text other from m (omega arith) (omega arith) same ends

pub token_onward : (text : List ℕ) (from : ℕ) (read : Placed) → next_token text from ≡ Ok read → from ≤ read.end
token_onward text from read e = let reads = token_reads text from read e in omega (arith, reads.stop)

pub here_same : (text other : List ℕ) (from : ℕ) → SameUpTo text other (past_blanks text from) → next_token other from ≡ next_token text from
here_same text other from same =
    let at = past_blanks text from in
    next_same text other from (at + extent_of (drop at text)) (omega (arith, same.some)) (omega arith) same.bytes same.token_end

-- ---- one token, and what follows

refusal_place : (at place : ℕ) (refusal : Refusal) → place_of (fault_at at refusal) ≡ Some place → place ≡ at
refusal_place at place refusals.Unexpected e = cc
refusal_place at place refusals.TooDeep e = cc
refusal_place at place refusals.TooManyRules e = absurd cc
refusal_place at place refusals.ViewInFirst e = cc
refusal_place at place refusals.OutOfMemory e = absurd cc

end_is : (test : Bool) (x end : ℕ) → cond test None (Some x) ≡ Some end → x ≡ end
end_is true x end e = absurd cc
end_is false x end e = cc

abbrev failed : (X : Type 0) → ParseFault → Result X ParseFault
failed X fault = Err fault

abbrev read_as : {X Y : Type 0} → X → Y → Result (X × Y) ParseFault
read_as x y = Ok (x, y)

no_place : {X : Type 0} (place : ℕ) (fault : ParseFault) → failed X TooLong ≡ failed X fault → place_of fault ≡ Some place → ⊥
no_place place fault e is = let same : TooLong ≡ fault = cc in let never : place_of TooLong ≡ Some place = ap place_of same ∙ is in absurd cc

abbrev second_or : {X Y : Type 0} → Y → Result (X × Y) ParseFault → Y
second_or other (Ok read) = read.1
second_or other (Err fault) = other

second : {X Y : Type 0} (x x' : X) (y y' : Y) → read_as x y ≡ read_as x' y' → y ≡ y'
second x x' y y' e = ap (second_or y) e

module _ {A : Type 0} where
  stepped_place : (at place : ℕ) (r : Result (State A) Refusal) (fault : ParseFault) → refused_at at r ≡ Err fault → place_of fault ≡ Some place → place ≡ at
  stepped_place at place (Ok s) fault e is = absurd cc
  stepped_place at place (Err refusal) fault e is = let same : fault_at at refusal ≡ fault = cc in refusal_place at place refusal (ap place_of same ∙ is)

  abbrev pub behind_token : Operands A → State A → Placed → Result (State A × Option ℕ) ParseFault
  behind_token made s read = refused_at read.at (step made s read.token) >>= λ s'. Ok (s', cond (is_end read.token) None (Some read.end))

  pub one_is : (made : Operands A) (text : List ℕ) (from : ℕ) (s : State A) → one_token made text from s ≡ (next_token text from >>= behind_token made s)
  unfolding one_token
  one_is made text from s = refl

  pub one_same : (made : Operands A) (text other : List ℕ) (from : ℕ) (s : State A) → next_token other from ≡ next_token text from → one_token made other from s ≡ one_token made text from s
  one_same made text other from s same = one_is made other from s ∙ ap (λ r. r >>= behind_token made s) same ∙ sym (one_is made text from s)

  one_fault : (made : Operands A) (text : List ℕ) (from place : ℕ) (s : State A) (fault : ParseFault) → one_token made text from s ≡ Err fault → place_of fault ≡ Some place → place ≡ past_blanks text from
  one_fault made text from place s fault e is =
      elim (bind_err (next_token text from) (behind_token made s) fault (sym (one_is made text from s) ∙ e)) [
        | inl failed ↦ let here = next_fault text from fault failed in cc
        | inr read ↦ elim (bind_err (refused_at read.0.at (step made s read.0.token)) (λ s'. Ok (s', cond (is_end read.0.token) None (Some read.0.end))) fault read.2) [
          | inl failed ↦ stepped_place read.0.at place (step made s read.0.token) fault failed is ∙ (token_reads text from read.0 read.1).place
          | inr never ↦ absurd (let e = never.2 in cc)
        ]
      ]

  one_end : (made : Operands A) (text : List ℕ) (from end : ℕ) (s s' : State A) → one_token made text from s ≡ Ok (s', Some end) → (read : Placed) × (next_token text from ≡ Ok read) × (read.end ≡ end)
  one_end made text from end s s' e =
      let read = bind_ok (next_token text from) (behind_token made s) (s', Some end) (sym (one_is made text from s) ∙ e) in
      let after = bind_ok (refused_at read.0.at (step made s read.0.token)) (λ s'. Ok (s', cond (is_end read.0.token) None (Some read.0.end))) (s', Some end) read.2 in
      let last : cond (is_end read.0.token) None (Some read.0.end) ≡ Some end = second after.0 s' (cond (is_end read.0.token) None (Some read.0.end)) (Some end) after.2 in
      (read.0, read.1, end_is (is_end read.0.token) read.0.end end last)

  pub run_is : (made : Operands A) (most : ℕ) (text : List ℕ) (from : ℕ) (s : State A) → run made (suc most) text from s ≡ (one_token made text from s >>= onward (run made most text))
  unfolding run
  run_is made most text from s = refl

  pub run_none : (made : Operands A) (text : List ℕ) (from : ℕ) (s : State A) → run made zero text from s ≡ Err TooLong
  unfolding run
  run_none made text from s = refl

  -- each fault is at a place from here on, and rests on the bytes up to the end of the token there
  abbrev Rests : Operands A → ℕ → List ℕ → ℕ → State A → ParseFault → ℕ → Type 0
  Rests made most text from s fault place = (from ≤ place) × ((other : List ℕ) → SameUpTo text other place → run made most other from s ≡ Err fault)

  onward_rests : (made : Operands A) (most : ℕ) (text : List ℕ) (from place : ℕ) (s s' : State A) (end : Option ℕ) (fault : ParseFault) → ((next : ℕ) → run made most text next s' ≡ Err fault → Rests made most text next s' fault place)
      → one_token made text from s ≡ Ok (s', end) → onward (run made most text) (s', end) ≡ Err fault → Rests made (suc most) text from s fault place
  onward_rests made most text from place s s' None fault again e then = absurd cc
  onward_rests made most text from place s s' (Some end) fault again e then =
      let there = again end then in
      let read = one_end made text from end s s' e in (
        omega (arith, token_onward text from read.0 read.1, read.2, there.0),
        λ other same.
            let within : read.0.end < place + extent_of (drop place text) = omega (arith, read.2, there.0, same.some) in
            let alike = token_values text other from (place + extent_of (drop place text)) read.0 read.1 within same.bytes in
            run_is made most other from s ∙ ap (λ r. r >>= onward (run made most other)) (one_same made text other from s alike ∙ e) ∙ there.1 other same,
      )

  run_rests : (made : Operands A) (most : ℕ) (text : List ℕ) (from place : ℕ) (s : State A) (fault : ParseFault) → run made most text from s ≡ Err fault → place_of fault ≡ Some place → Rests made most text from s fault place
  run_rests made zero text from place s fault e is = absurd (no_place place fault (sym (run_none made text from s) ∙ e) is)
  run_rests made (suc most) text from place s fault e is =
      elim (bind_err (one_token made text from s) (onward (run made most text)) fault (sym (run_is made most text from s) ∙ e)) [
        | inl failed ↦ let here = one_fault made text from place s fault failed is in
            (omega (arith, here), λ other same. run_is made most other from s ∙ ap (λ r. r >>= onward (run made most other)) (one_same made text other from s (here_same text other from (rw here at same)) ∙ failed))
        | inr taken ↦ onward_rests made most text from place s taken.0.0 taken.0.1 fault (λ next then. run_rests made most text next place taken.0.0 fault then is) taken.1 taken.2
      ]

-- a token's own fault is never want of memory
pub token_refused : {A : Type 0} (made : Operands A) (text : List ℕ) (from : ℕ) (s s' : State A) (fault : ParseFault) → next_token text from ≡ Err fault → Takes (one_token made text from s) (Err fault) s'
token_refused made text from s s' OutOfMemory e = let never : place_of OutOfMemory ≡ Some (past_blanks text from) = next_fault text from OutOfMemory e in absurd cc
token_refused made text from s s' TooLong e = one_is made text from s ∙ ap (λ r. r >>= behind_token made s) e
token_refused made text from s s' (BadToken at) e = one_is made text from s ∙ ap (λ r. r >>= behind_token made s) e
token_refused made text from s s' (Unexpected at) e = one_is made text from s ∙ ap (λ r. r >>= behind_token made s) e
token_refused made text from s s' (TooDeep at) e = one_is made text from s ∙ ap (λ r. r >>= behind_token made s) e
token_refused made text from s s' TooManyRules e = one_is made text from s ∙ ap (λ r. r >>= behind_token made s) e
token_refused made text from s s' (ViewInFirst at) e = one_is made text from s ∙ ap (λ r. r >>= behind_token made s) e
token_refused made text from s s' (NumberTooLarge at) e = one_is made text from s ∙ ap (λ r. r >>= behind_token made s) e

-- ---- whole texts

ends_at : (text : List ℕ) (at : ℕ) → drop at text ≡ [] → text ≡ take at text
ends_at text at nothing = sym (take-append-drop at text) ∙ ap (λ rest. take at text ++ rest) nothing ∙ append-nil (take at text)

pub whole_same : (text other : List ℕ) (at : ℕ) → SameThrough text other at → extent_of (drop at text) ≡ 0 → other ≡ text
whole_same text other at same none =
    let front : take at other ≡ take at text = take_less at (at + extent_of (drop at text)) text other (omega arith) same.bytes in
    ends_at other at (extent_none (drop at other) (same.token_end ∙ none)) ∙ front ∙ sym (ends_at text at (extent_none (drop at text) none))

abbrev pub run_whole : List ℕ → Result (State Expression) ParseFault
run_whole text = run trees most_tokens text 0 (opening trees)

whole_rests : (text other : List ℕ) (place : ℕ) (fault : ParseFault) → run_whole text ≡ Err fault → place_of fault ≡ Some place → SameThrough text other place → run_whole other ≡ Err fault
whole_rests text other place fault e is same =
    elim (cases_lt 0 (extent_of (drop place text))) [
      | inl some ↦ (run_rests trees most_tokens text 0 place (opening trees) fault e is).1 other (record { some = some; bytes = same.bytes; token_end = same.token_end })
      | inr none ↦ ap run_whole (whole_same text other place same (omega arith)) ∙ e
    ]

pub fault_place : (text : List ℕ) (fault : ParseFault) (place : Option ℕ) → reading text ≡ Err fault → place_of fault ≡ place → length text ≤ 4096 → IfSome place (λ at. (other : List ℕ) → SameThrough text other at → reading other ≡ Err fault)
fault_place text fault None e is short = tt
fault_place text fault (Some place) e is short = λ other same.
    elim (bind_err (run_whole text) (λ s. Ok (tree_read trees s)) fault (sym (reading_by text short (run_whole text) refl) ∙ e)) [
      | inl failed ↦ reading_by other same.short (Err fault) (whole_rests text other place fault failed is same)
      | inr never ↦ absurd (let e = never.2 in cc)
    ]
