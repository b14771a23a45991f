-- Reading a text is reading its tokens.
use Rattle.std.proofs.Common.{arith, ◌≡◌, ℕ, zero, suc, ◌+◌, ◌<◌, ◌≤◌, true, false, cond, List, [], ◌∷◌, ◌++◌, length, drop, Option, Some, None, Result, Ok, Err, refl, sym, ap, ◌∙◌, subst, inl, inr}
use Rattle.std.proofs.lemmas.Bool.{cases_Bool}
use Rattle.std.proofs.lemmas.List.{length-append}
use Rattle.std.proofs.lemmas.Fmt.{decimal_nonempty}
use Rattle.protocol_lang.specs.Tokens.{is_end, word_spelling}
use Rattle.protocol_lang.specs.Formulas.{Operands}
use Rattle.protocol_lang.specs.Reading.{past_blanks, next_token, State, ended, in_outermost, step_at, step, refused_at, one_token, onward, run}
use Rattle.protocol_lang.specs.Grammar.{IsSpelled, Spells}
use Rattle.protocol_lang.specs.declared.fault.ParseFault.{ParseFault}
use Rattle.protocol_lang.specs.declared.token.Word.{Word}
use Rattle.protocol_lang.specs.declared.token.Word.TheVariants as words
use Rattle.protocol_lang.specs.declared.token.Token.{Token}
use Rattle.protocol_lang.specs.declared.token.Token.TheVariants as tokens
use Rattle.protocol_lang.specs.declared.token.Symbol.TheVariants as symbols
use Rattle.protocol_lang.specs.declared.lexer.Placed.{Placed}
use Rattle.protocol_lang.specs.declared.state.Expected.{Expected}
use Rattle.protocol_lang.specs.declared.state.Expected.TheVariants as next
use Rattle.protocol_lang.specs.declared.state.Part.{Part}
use Rattle.protocol_lang.specs.declared.state.Part.TheVariants as parts
use Rattle.protocol_lang.specs.declared.state.Level.{Level}
use Rattle.protocol_lang.specs.declared.state.Refusal.{Refusal}
use Rattle.protocol_lang.proofs.Steps.{bind_ok, placed, token_takes, end_takes, token_again, end_again}
use Rattle.protocol_lang.proofs.Onward.{one_then}

-- the tokens lead from one place to another
abbrev pub Goes : {A : Type 0} → Operands A → State A → List Token → State A → Type 0
Goes made s [] s' = s ≡ s'
Goes {A} made s (token ∷ more) s' = (m : State A) × (step made s token ≡ Ok m) × Goes made m more s'

pub goes_on : {A : Type 0} (made : Operands A) (s m s' : State A) (first more : List Token) → Goes made s first m → Goes made m more s' → Goes made s (first ++ more) s'
goes_on made s m s' [] more here rest = subst (λ t. Goes made t more s') (sym here) rest
goes_on made s m s' (token ∷ first) more here rest = (here.0, here.1, goes_on made here.0 m s' first more here.2 rest)

-- ---- the text's end

refused_ok : {A : Type 0} (refusal : Refusal) (s : State A) → (Err refusal ≡ Ok s) → ⊥
refused_ok refusal s e = absurd cc

module _ {A : Type 0} (made : Operands A) where
  no_end_of : (part : Part) (s s' : State A) → ended made part s tokens.End ≡ Ok s' → ⊥
  no_end_of parts.First s s' e = absurd cc
  no_end_of parts.Left s s' e = absurd cc
  no_end_of (parts.Right comparator) s s' e = absurd cc
  no_end_of (parts.ActionRule kind) s s' e = absurd cc
  no_end_of (parts.Last kind) s s' e = absurd cc

  no_end_in : (outer : List Level) (s s' : State A) → in_outermost made s outer tokens.End ≡ Ok s' → ⊥
  no_end_in [] s s' e = no_end_of s.part s s' e
  no_end_in (level ∷ outer) s s' e = absurd cc

  end_at : (expected : Expected) (s s' : State A) → step_at expected made s tokens.End ≡ Ok s' → (expected ≡ next.End) × (s ≡ s')
  end_at next.First s s' e = absurd cc
  end_at next.Operand s s' e = absurd cc
  end_at (next.Open function) s s' e = absurd cc
  end_at next.Operator s s' e = absurd (no_end_in s.outer s s' e)
  end_at next.Rule s s' e = absurd cc
  end_at next.Last s s' e = absurd cc
  end_at next.End s s' e = (refl, cc)

  pub ends_there : (s s' : State A) → step made s tokens.End ≡ Ok s' → (s.expected ≡ next.End) × (s ≡ s')
  ends_there s s' e = end_at s.expected s s' e

  pub ends_again : (s : State A) → s.expected ≡ next.End → step made s tokens.End ≡ Ok s
  ends_again s e = rw e refl

  -- ---- one token

  stepped_ok : (at : ℕ) (r : Result (State A) Refusal) (s : State A) → refused_at at r ≡ Ok s → r ≡ Ok s
  stepped_ok at (Ok t) s e = cc
  stepped_ok at (Err refusal) s e = absurd cc

  pub record Took (text : List ℕ) (from : ℕ) (s s' : State A) (end : Option ℕ) : Type 0 where
    pub read : Placed
    pub token : next_token text from ≡ Ok read
    pub after : step made s read.token ≡ Ok s'
    pub place : cond (is_end read.token) None (Some read.end) ≡ end

  abbrev pair_of : State A → Option ℕ → Result (State A × Option ℕ) ParseFault → State A × Option ℕ
  pair_of s end (Ok read) = read
  pair_of s end (Err fault) = (s, end)

  pub took : (text : List ℕ) (from : ℕ) (s s' : State A) (end : Option ℕ) → one_token made text from s ≡ Ok (s', end) → Took text from s s' end
  unfolding one_token
  took text from s s' end e =
      let read = bind_ok (next_token text from) _ (s', end) e in
      let after = bind_ok (refused_at read.0.at (step made s read.0.token)) (λ t. Ok (t, cond (is_end read.0.token) None (Some read.0.end))) (s', end) read.2 in
      let both : (after.0, cond (is_end read.0.token) None (Some read.0.end)) ≡ (s', end) = ap (pair_of s' end) after.2 in
      let state : after.0 ≡ s' = ap (λ (p : State A × Option ℕ). p.0) both in
      record {
        read = read.0;
        token = read.1;
        after = stepped_ok read.0.at (step made s read.0.token) s' (after.1 ∙ ap Ok state);
        place = ap (λ (p : State A × Option ℕ). p.1) both;
      }

  takes_again : (text : List ℕ) (from : ℕ) (s s' : State A) (read : Placed) → next_token text from ≡ Ok read → step made s read.token ≡ Ok s' → one_token made text from s ≡ Ok (s', cond (is_end read.token) None (Some read.end))
  unfolding one_token
  takes_again text from s s' read token after = rw (token, after) refl

  -- ---- what was read is its tokens

  abbrev Reads : ℕ → List ℕ → ℕ → State A → State A → Type 0
  Reads most text from s s' = (all : List Token) × Spells all (drop from text) × Goes made s all s' × (s'.expected ≡ next.End)

  is_end_token : (token : Token) → is_end token ≡ true → token ≡ tokens.End
  is_end_token tokens.End e = refl
  is_end_token token e = absurd cc

  pub is_no_end : (token : Token) → is_end token ≡ false → token ≡ tokens.End → ⊥
  is_no_end token e same = let never : true ≡ false = rw same at e in absurd cc

  run_zero : (text : List ℕ) (from : ℕ) (s s' : State A) → run made zero text from s ≡ Ok s' → ⊥
  unfolding run
  run_zero text from s s' e = absurd cc

  at_end : (text : List ℕ) (from most : ℕ) (s t s' : State A) (read : Placed) → next_token text from ≡ Ok read → read.token ≡ tokens.End → step made s read.token ≡ Ok t → t ≡ s' → Reads most text from s s'
  at_end text from most s t s' read token last after same =
      let ends = ends_there s t (subst (λ token. step made s token ≡ Ok t) last after) in
      let here : s ≡ s' = ends.1 ∙ same in
      ([], end_takes text from read token last, here, subst (λ (u : State A). u.expected ≡ next.End) here ends.0)

  onward_found : (text : List ℕ) (from most : ℕ) (s t s' : State A) (end : Option ℕ) → ((place : ℕ) → run made most text place t ≡ Ok s' → Reads most text place t s') → Took text from s t end → onward (run made most text) (t, end) ≡ Ok s' → Reads (suc most) text from s s'
  onward_found text from most s t s' end again took e =
      elim (cases_Bool (is_end took.read.token)) [
        | inl last ↦
            let none : None ≡ end = subst (λ b. cond b None (Some took.read.end) ≡ end) last took.place in
            let same : onward (run made most text) (t, None) ≡ Ok s' = subst (λ o. onward (run made most text) (t, o) ≡ Ok s') (sym none) e in
            at_end text from (suc most) s t s' took.read took.token (is_end_token took.read.token last) took.after cc
        | inr more ↦
            let some : Some took.read.end ≡ end = subst (λ b. cond b None (Some took.read.end) ≡ end) more took.place in
            let rest = again took.read.end (subst (λ o. onward (run made most text) (t, o) ≡ Ok s') (sym some) e) in
            (took.read.token ∷ rest.0, token_takes text from took.read rest.0 took.token (is_no_end took.read.token more) rest.1, (t, took.after, rest.2), rest.3)
      ]

  pub run_found : (most : ℕ) (text : List ℕ) (from : ℕ) (s s' : State A) → run made most text from s ≡ Ok s' → Reads most text from s s'
  run_found zero text from s s' e = absurd (run_zero text from s s' e)
  run_found (suc most) text from s s' e =
      let one = bind_ok (one_token made text from s) (onward (run made most text)) s' (sym (one_then made most text from s (one_token made text from s) refl) ∙ e) in
      onward_found text from most s one.0.0 s' one.0.1 (λ place rest. run_found most text place one.0.0 s' rest) (took text from s one.0.0 one.0.1 one.1) one.2

  -- ---- tokens are read again

  spelled_no_end : (token : Token) (bytes : List ℕ) → IsSpelled token bytes → is_end token ≡ false
  spelled_no_end (tokens.Word word) bytes is = refl
  spelled_no_end (tokens.Number number) bytes is = refl
  spelled_no_end (tokens.Symbol symbol) bytes is = refl
  spelled_no_end tokens.End bytes is = absurd is

  pub run_only : (all : List Token) (most : ℕ) (text : List ℕ) (from : ℕ) (s s' : State A) → length all < most → Spells all (drop from text) → Goes made s all s' → s'.expected ≡ next.End → run made most text from s ≡ Ok s'
  run_only all zero text from s s' few spells goes ends = absurd (omega arith)
  run_only [] (suc most) text from s s' few spells goes ends =
      let at : s.expected ≡ next.End = subst (λ (u : State A). u.expected ≡ next.End) (sym goes) ends in
      one_then made most text from s (Ok (s, None)) (takes_again text from s s (placed (past_blanks text from) 0 tokens.End) (end_again text from spells) (ends_again s at)) ∙ ap Ok goes
  run_only (token ∷ all) (suc most) text from s s' few spells goes ends =
      let read = token_again text from token all spells in
      let here = placed (past_blanks text from) read.0 token in
      let some : cond (is_end token) None (Some here.end) ≡ Some here.end = rw (spelled_no_end token spells.1 spells.5) refl in
      one_then made most text from s (Ok (goes.0, Some here.end)) (takes_again text from s goes.0 here read.1 goes.1 ∙ ap (λ end. Ok (goes.0, end)) some)
      ∙ run_only all most text here.end goes.0 s' (omega arith) read.2 goes.2 ends

-- ---- a text has no more tokens than bytes

word_some : (word : Word) → 0 < length (word_spelling word)
word_some words.First = omega arith
word_some word = omega arith

pub spelled_some : (token : Token) (bytes : List ℕ) → IsSpelled token bytes → 0 < length bytes
spelled_some (tokens.Word word) bytes is = rw is (word_some word)
spelled_some (tokens.Number number) bytes is = rw is.0 (decimal_nonempty number (omega (arith, is.1)))
spelled_some (tokens.Symbol symbols.Semicolon) bytes is = rw is (omega arith)
spelled_some (tokens.Symbol symbol) bytes is = rw is (omega arith)
spelled_some tokens.End bytes is = absurd is

pub few_tokens : (all : List Token) (text : List ℕ) → Spells all text → length all ≤ length text
few_tokens [] text spells = omega arith
few_tokens (token ∷ all) text spells =
    let rest = few_tokens all spells.2 spells.7 in
    let some = spelled_some token spells.1 spells.5 in
    let parts : length text ≡ length spells.0 + (length spells.1 + length spells.2) = ap length spells.3 ∙ length-append spells.0 (spells.1 ++ spells.2) ∙ ap (λ n. length spells.0 + n) (length-append spells.1 spells.2) in
    omega (arith, rest, some, parts)
