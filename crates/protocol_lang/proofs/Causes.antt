-- What the first fault of a text is.
use Rattle.std.proofs.Common.{arith, ◌≡◌, ℕ, zero, suc, ◌+◌, ◌<◌, ◌≤◌, cond, leb, List, [], ◌∷◌, length, take, drop, length-append, Option, Some, None, Result, Ok, Err, refl, sym, ap, ◌∙◌, subst, inl, inr}
use Rattle.std.specs.Prelude.{⊤, IfErr}
use Rattle.std.specs.List.{prefix_len, take_while}
use Rattle.std.proofs.lemmas.Bool.{cases_Bool, cases_lt}
use Rattle.std.proofs.lemmas.List.{take-append-drop, drop-drop}
use Rattle.protocol_lang.specs.Numbers.{greatest, is_digit, number_of}
use Rattle.protocol_lang.specs.Tokens.{is_blank, is_letter, is_end, word_of, symbol_of}
use Rattle.protocol_lang.specs.Trees.{Expression, Tree}
use Rattle.protocol_lang.specs.Formulas.{trees}
use Rattle.protocol_lang.specs.Grammar.{Written}
use Rattle.protocol_lang.specs.FirstFaults.{CanFollow, IsOutOfPlace, IsNoToken, IsTooDeep, IsRuleMore, IsViewBefore, WantOpen, IsFirstFault, place_of}
use Rattle.protocol_lang.specs.Reading.{word_token, number_token, symbol_token, token_at, extent_of, past_blanks, next_token, State, opening, step, fault_at, refused_at, one_token, onward, run, most_tokens, tree_read, reading, IsReading}
use Rattle.protocol_lang.specs.declared.fault.ParseFault.{ParseFault}
use Rattle.protocol_lang.specs.declared.fault.ParseFault.TheVariants.{TooLong, BadToken, Unexpected, TooDeep, TooManyRules, ViewInFirst, NumberTooLarge, OutOfMemory}
use Rattle.protocol_lang.specs.declared.token.Token.{Token}
use Rattle.protocol_lang.specs.declared.token.Token.TheVariants as tokens
use Rattle.protocol_lang.specs.declared.token.Word.{Word}
use Rattle.protocol_lang.specs.declared.token.Symbol.{Symbol}
use Rattle.protocol_lang.specs.declared.lexer.Placed.{Placed}
use Rattle.protocol_lang.specs.declared.state.Expected.{Expected}
use Rattle.protocol_lang.specs.declared.state.Expected.TheVariants as next
use Rattle.protocol_lang.specs.declared.state.Refusal.{Refusal}
use Rattle.protocol_lang.specs.declared.state.Refusal.TheVariants as refusals
use Rattle.protocol_lang.proofs.Carrying.{writings, state_of, ends_of, step_of}
use Rattle.protocol_lang.proofs.Going.{Goes, took, spelled_some, is_no_end}
use Rattle.protocol_lang.proofs.Headers.{Holds, HoldsAt}
use Rattle.protocol_lang.proofs.Holds.{holds_first}
use Rattle.protocol_lang.proofs.Sound.{goes_written}
use Rattle.protocol_lang.proofs.Steps.{placed, next_token_is, token_reads, stands, behind_blanks}
use Rattle.protocol_lang.proofs.Front.{at_letter, at_digit, at_other}
use Rattle.protocol_lang.proofs.Onward.{reading_by}
use Rattle.protocol_lang.proofs.Locality.{bind_err, next_fault, one_is, run_is, behind_token, run_whole}
use Rattle.protocol_lang.proofs.Whens.{Counts, step_counts, text_short}
use Rattle.protocol_lang.proofs.Reasons.{Follows, follows, TakesOpen, counted}
use Rattle.protocol_lang.proofs.Following.{Stops, stops, are_begun, holds_all, never_follows, wants_operand, wanting_at}

-- ---- a token's own faults

abbrev IsOwn : ParseFault → Type 0
IsOwn (BadToken at) = Unit {0}
IsOwn (NumberTooLarge at) = Unit {0}
IsOwn fault = ⊥

word_own : (at : ℕ) (word : Option Word) (fault : ParseFault) → word_token at word ≡ Err fault → IsOwn fault
word_own at None fault e = let same : BadToken at ≡ fault = cc in subst IsOwn same tt
word_own at (Some word) fault e = absurd cc

number_own : (at : ℕ) (number : Option ℕ) (fault : ParseFault) → number_token at number ≡ Err fault → IsOwn fault
number_own at None fault e = let same : BadToken at ≡ fault = cc in subst IsOwn same tt
number_own at (Some n) fault e =
    elim (cases_Bool (leb n greatest)) [
      | inl within ↦ let read = rw within at e in absurd cc
      | inr above ↦ let read = rw above at e in let same : NumberTooLarge at ≡ fault = cc in subst IsOwn same tt
    ]

symbol_own : (at : ℕ) (symbol : Option Symbol) (fault : ParseFault) → symbol_token at symbol ≡ Err fault → IsOwn fault
symbol_own at None fault e = let same : BadToken at ≡ fault = cc in subst IsOwn same tt
symbol_own at (Some symbol) fault e = absurd cc

front_own : (at : ℕ) (text : List ℕ) (fault : ParseFault) → token_at at text ≡ Err fault → IsOwn fault
front_own at [] fault e = absurd cc
front_own at (byte ∷ bytes) fault e =
    elim (cases_Bool (is_letter byte)) [
      | inl letter ↦ word_own at (word_of (take_while is_letter (byte ∷ bytes))) fault (sym (at_letter at byte bytes letter).0 ∙ e)
      | inr other ↦ elim (cases_Bool (is_digit byte)) [
        | inl digit ↦ number_own at (number_of (take_while is_digit (byte ∷ bytes))) fault (sym (at_digit at byte bytes other digit).0 ∙ e)
        | inr neither ↦ symbol_own at (symbol_of (byte ∷ bytes)) fault (sym (at_other at byte bytes other neither).0 ∙ e)
      ]
    ]

token_own : (text : List ℕ) (from : ℕ) (fault : ParseFault) → next_token text from ≡ Err fault → IsOwn fault
token_own text from fault e =
    let at = past_blanks text from in
    elim (bind_err (token_at at (drop at text)) (λ token. Ok (placed at (extent_of (drop at text)) token)) fault (sym (next_token_is text from) ∙ e)) [
      | inl failed ↦ front_own at (drop at text) fault failed
      | inr step ↦ absurd (let never = step.2 in cc)
    ]

-- ---- why a token that was read is refused

-- what is known of the limit that the token goes past
abbrev ReasonOf : Refusal → List Token → Token → Type 0
ReasonOf refusals.TooDeep before token = IsTooDeep before token
ReasonOf refusals.TooManyRules before token = IsRuleMore before token
ReasonOf refusals.ViewInFirst before token = IsViewBefore before token
ReasonOf refusal before token = ⊤

deep_at : (expected : Expected) (w : State Written) (before : List Token) → HoldsAt expected (record w { expected = expected }) before → TakesOpen expected → (length w.outer ≤ 32) × WantOpen before
deep_at next.First w before holds takes = absurd takes
deep_at next.Operand w before holds takes = (holds.0.room, inl (wants_operand w before holds))
deep_at (next.Open function) w before holds takes =
    (holds.2.room, inr (holds.0, function, holds.1, wants_operand w holds.0 (wanting_at next.Operand (record w { expected = next.Open function }) _ holds.0 holds.2, holds.3)))
deep_at next.Operator w before holds takes = absurd takes
deep_at next.Rule w before holds takes = absurd takes
deep_at next.Last w before holds takes = absurd takes
deep_at next.End w before holds takes = absurd takes

wants_at : (expected : Expected) (w : State Written) (before : List Token) → expected ≡ next.Operand → HoldsAt expected (record w { expected = expected }) before → CanFollow before (tokens.Number 0)
wants_at expected w before is holds = wants_operand w before (subst (λ x. HoldsAt x (record w { expected = x }) before) is holds)

reason_of : (refusal : Refusal) (w : State Written) (before : List Token) (token : Token) → Goes writings (opening writings) before w → Holds w before → step writings w token ≡ Err refusal → ReasonOf refusal before token
reason_of refusals.Unexpected w before token goes holds refused = tt
reason_of refusals.OutOfMemory w before token goes holds refused = tt
reason_of refusals.TooDeep w before token goes holds refused =
    let why : Follows w token (Err refusals.TooDeep) = subst (Follows w token) refused (follows w token) in
    let all = counted before (opening writings) w goes in
    let there = deep_at w.expected w before holds why.2 in
    (why.0, omega (arith, all.opens, why.1, there.0), there.1)
reason_of refusals.TooManyRules w before token goes holds refused =
    let why : Counts w token (Err refusals.TooManyRules) = subst (Counts w token) refused (step_counts writings w token) in
    let all = counted before (opening writings) w goes in
    let most = all.most (omega arith) in
    (why.0, omega (arith, all.rules, why.1, most))
reason_of refusals.ViewInFirst w before token goes holds refused =
    let why : Follows w token (Err refusals.ViewInFirst) = subst (Follows w token) refused (follows w token) in
    let all = counted before (opening writings) w goes in
    (why.0, (all.early why.1).1, wants_at w.expected w before why.2 holds)

-- ---- the first fault

refused_with : (r : Result (State Written) Refusal) (refusal : Refusal) → ends_of r ≡ Err refusal → r ≡ Err refusal
refused_with (Ok s) refusal e = absurd cc
refused_with (Err other) refusal e = cc

-- the tokens before it, read with their parentheses
record Behind (text : List ℕ) (fault : ParseFault) (stop : Stops text 0 (opening trees) fault) : Type 0 where
  written : State Written
  goes : Goes writings (opening writings) stop.before written
  same : state_of written ≡ stop.there
  holds : Holds written stop.before

behind : (text : List ℕ) (fault : ParseFault) (stop : Stops text 0 (opening trees) fault) → Behind text fault stop
behind text fault stop =
    let w = goes_written stop.before (opening writings) stop.there stop.goes in
    record { written = w.0; goes = w.1; same = w.2; holds = holds_all stop.before [] (opening writings) w.0 stop.some holds_first w.1 }

no_token : (text : List ℕ) (fault : ParseFault) (stop : Stops text 0 (opening trees) fault) (place : ℕ) → place_of fault ≡ Some place → past_blanks text stop.stop ≡ place → next_token text stop.stop ≡ Err fault → IsNoToken text place fault
no_token text fault stop place is here none =
    let w = behind text fault stop in
    record { before = stop.before; from = stop.stop; tokens = stop.tokens_are; begins = are_begun w.written stop.before w.holds; place = here; none = none }

own_cause : (text : List ℕ) (fault : ParseFault) → Stops text 0 (opening trees) fault → IsOwn fault → (from : ℕ) → next_token text from ≡ Err fault → (stop : Stops text 0 (opening trees) fault) → stop.stop ≡ from → IsFirstFault text fault
own_cause text (BadToken at) any own from none stop is =
    let here : past_blanks text stop.stop ≡ at = rw is (let place : Some at ≡ Some (past_blanks text from) = next_fault text from (BadToken at) none in cc) in
    no_token text (BadToken at) stop at refl here (rw is none)
own_cause text (NumberTooLarge at) any own from none stop is =
    let here : past_blanks text stop.stop ≡ at = rw is (let place : Some at ≡ Some (past_blanks text from) = next_fault text from (NumberTooLarge at) none in cc) in
    no_token text (NumberTooLarge at) stop at refl here (rw is none)
own_cause text TooLong any own from none stop is = absurd own
own_cause text (Unexpected at) any own from none stop is = absurd own
own_cause text (TooDeep at) any own from none stop is = absurd own
own_cause text TooManyRules any own from none stop is = absurd own
own_cause text (ViewInFirst at) any own from none stop is = absurd own
own_cause text OutOfMemory any own from none stop is = absurd own

out_of_place : (text : List ℕ) (fault : ParseFault) (stop : Stops text 0 (opening trees) fault) (read : Placed) (refusal : Refusal) → next_token text stop.stop ≡ Ok read → step trees stop.there read.token ≡ Err refusal → IsOutOfPlace text read.at (ReasonOf refusal)
out_of_place text fault stop read refusal token refused =
    let w = behind text fault stop in
    let there : step trees (state_of w.written) read.token ≡ Err refusal = subst (λ (s : State Expression). step trees s read.token ≡ Err refusal) (sym w.same) refused in
    let here = refused_with (step writings w.written read.token) refusal (step_of w.written read.token ∙ there) in
    record {
      before = stop.before;
      from = stop.stop;
      tokens = stop.tokens_are;
      begins = are_begun w.written stop.before w.holds;
      read = read;
      token = token;
      place = refl;
      never = never_follows w.written stop.before read.token refusal w.goes here;
      reason = reason_of refusal w.written stop.before read.token w.goes w.holds here;
    }

place_cause : (text : List ℕ) (at : ℕ) (refusal : Refusal) → IsOutOfPlace text at (ReasonOf refusal) → IsFirstFault text (fault_at at refusal)
place_cause text at refusals.Unexpected cause = cause
place_cause text at refusals.TooDeep cause = cause
place_cause text at refusals.TooManyRules cause = (at, cause)
place_cause text at refusals.ViewInFirst cause = cause
place_cause text at refusals.OutOfMemory cause = tt

stepped_err : (at : ℕ) (r : Result (State Expression) Refusal) (fault : ParseFault) → refused_at at r ≡ Err fault → (refusal : Refusal) × (r ≡ Err refusal) × (fault_at at refusal ≡ fault)
stepped_err at (Ok s) fault e = absurd cc
stepped_err at (Err refusal) fault e = (refusal, refl, cc)

cause_of : (text : List ℕ) (fault : ParseFault) → Stops text 0 (opening trees) fault → IsFirstFault text fault
cause_of text fault stop =
    elim (bind_err (next_token text stop.stop) (behind_token trees stop.there) fault (sym (one_is trees text stop.stop stop.there) ∙ stop.failed)) [
      | inl failed ↦ own_cause text fault stop (token_own text stop.stop fault failed) stop.stop failed stop refl
      | inr read ↦ elim (bind_err (refused_at read.0.at (step trees stop.there read.0.token)) (λ s'. Ok (s', cond (is_end read.0.token) None (Some read.0.end))) fault read.2) [
        | inl failed ↦
            let refusal = stepped_err read.0.at (step trees stop.there read.0.token) fault failed in
            subst (IsFirstFault text) refusal.2 (place_cause text read.0.at refusal.0 (out_of_place text fault stop read.0 refusal.0 read.1 refusal.1))
        | inr never ↦ absurd (let e = never.2 in cc)
      ]
    ]

cause_in : (text : List ℕ) (fault : ParseFault) → reading text ≡ Err fault → (fault ≡ TooLong → ⊥) → IsFirstFault text fault
cause_in text fault e other =
    elim (bind_err (run_whole text) (λ s. Ok (tree_read trees s)) fault (sym (reading_by text (text_short text fault e other) (run_whole text) refl) ∙ e)) [
      | inl failed ↦ cause_of text fault (stops most_tokens text 0 (opening trees) fault other failed)
      | inr never ↦ absurd (let e = never.2 in cc)
    ]

-- ---- a text has no more tokens than bytes

shorter : (text : List ℕ) (from : ℕ) (read : Placed) → next_token text from ≡ Ok read → (read.token ≡ tokens.End → ⊥) → length (drop read.end text) < length (drop from text)
shorter text from read e some =
    let reads = token_reads text from read e in
    let at = past_blanks text from in
    let front = drop at text in
    let extent = extent_of front in
    let blanks = take (prefix_len is_blank (drop from text)) (drop from text) in
    let one = spelled_some read.token (take extent front) (stands at front read.token reads.front some).spelled in
    let behind : drop read.end text ≡ drop extent front = ap (λ end. drop end text) reads.stop ∙ sym (drop-drop extent at text) in
    let whole : length (drop from text) ≡ length blanks + length front = ap length (behind_blanks text from) ∙ length-append blanks front in
    let parts : length front ≡ length (take extent front) + length (drop extent front) = ap length (sym (take-append-drop extent front)) ∙ length-append (take extent front) (drop extent front) in
    rw behind (omega (arith, one, whole, parts))

no_refusal : (at : ℕ) (refusal : Refusal) → fault_at at refusal ≡ TooLong → ⊥
no_refusal at refusals.Unexpected e = absurd cc
no_refusal at refusals.TooDeep e = absurd cc
no_refusal at refusals.TooManyRules e = absurd cc
no_refusal at refusals.ViewInFirst e = absurd cc
no_refusal at refusals.OutOfMemory e = absurd cc

no_long_token : (text : List ℕ) (from : ℕ) (s : State Expression) → one_token trees text from s ≡ Err TooLong → ⊥
no_long_token text from s e =
    elim (bind_err (next_token text from) (behind_token trees s) TooLong (sym (one_is trees text from s) ∙ e)) [
      | inl failed ↦ token_own text from TooLong failed
      | inr read ↦ elim (bind_err (refused_at read.0.at (step trees s read.0.token)) (λ s'. Ok (s', cond (is_end read.0.token) None (Some read.0.end))) TooLong read.2) [
        | inl failed ↦ let refusal = stepped_err read.0.at (step trees s read.0.token) TooLong failed in no_refusal read.0.at refusal.0 refusal.2
        | inr never ↦ absurd (let e = never.2 in cc)
      ]
    ]

no_long_onward : (most : ℕ) (text : List ℕ) (from : ℕ) (s s' : State Expression) (end : Option ℕ) → ((place : ℕ) → length (drop place text) < length (drop from text) → run trees most text place s' ≡ Err TooLong → ⊥)
    → one_token trees text from s ≡ Ok (s', end) → onward (run trees most text) (s', end) ≡ Err TooLong → ⊥
no_long_onward most text from s s' None again taken e = absurd cc
no_long_onward most text from s s' (Some end) again taken e =
    let one = took trees text from s s' (Some end) taken in
    elim (cases_Bool (is_end one.read.token)) [
      | inl last ↦ absurd (let never = rw last at one.place in cc)
      | inr more ↦
          let ends : one.read.end ≡ end = let place = rw more at one.place in cc in
          again end (subst (λ place. length (drop place text) < length (drop from text)) ends (shorter text from one.read one.token (is_no_end trees one.read.token more))) e
    ]

no_long_run : (most : ℕ) (text : List ℕ) (from : ℕ) (s : State Expression) → length (drop from text) < most → run trees most text from s ≡ Err TooLong → ⊥
no_long_run zero text from s enough e = absurd (omega arith)
no_long_run (suc most) text from s enough e =
    elim (bind_err (one_token trees text from s) (onward (run trees most text)) TooLong (sym (run_is trees most text from s) ∙ e)) [
      | inl failed ↦ no_long_token text from s failed
      | inr taken ↦ no_long_onward most text from s taken.0.0 taken.0.1 (λ place less rest. no_long_run most text place taken.0.0 (omega (arith, less, enough)) rest) taken.1 taken.2
    ]

-- a text is too long by its bytes alone
long_text : (text : List ℕ) → reading text ≡ Err TooLong → 4096 < length text
long_text text e =
    elim (cases_lt 4096 (length text)) [
      | inl long ↦ long
      | inr short ↦ elim (bind_err (run_whole text) (λ s. Ok (tree_read trees s)) TooLong (sym (reading_by text short (run_whole text) refl) ∙ e)) [
        | inl failed ↦ absurd (no_long_run most_tokens text 0 (opening trees) (omega (arith, short)) failed)
        | inr never ↦ absurd (let e = never.2 in cc)
      ]
    ]

pub first_fault : (text : List ℕ) (read : Result Tree ParseFault) → IsReading text read → IfErr read (IsFirstFault text)
first_fault text (Ok tree) e = tt
first_fault text (Err OutOfMemory) e = tt
first_fault text (Err TooLong) e = long_text text e
first_fault text (Err TooManyRules) e = cause_in text TooManyRules e (λ same. absurd cc)
first_fault text (Err (BadToken at)) e = cause_in text (BadToken at) e (λ same. absurd cc)
first_fault text (Err (Unexpected at)) e = cause_in text (Unexpected at) e (λ same. absurd cc)
first_fault text (Err (TooDeep at)) e = cause_in text (TooDeep at) e (λ same. absurd cc)
first_fault text (Err (ViewInFirst at)) e = cause_in text (ViewInFirst at) e (λ same. absurd cc)
first_fault text (Err (NumberTooLarge at)) e = cause_in text (NumberTooLarge at) e (λ same. absurd cc)
