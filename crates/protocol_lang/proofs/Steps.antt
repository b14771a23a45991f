-- The next token from a place on, and what the rest of the text spells there.
use Rattle.std.proofs.Common.{◌≡◌, ℕ, ◌+◌, List, [], ◌∷◌, ◌++◌, length, take, drop, Result, Ok, Err, refl, sym, ap, ◌∙◌, subst}
use Rattle.std.specs.List.{prefix_len}
use Rattle.std.proofs.lemmas.List.{append-nil, take-append-drop, drop-drop, drop_at}
use Rattle.protocol_lang.specs.Tokens.{is_blank}
use Rattle.protocol_lang.specs.Results.{◌>>=◌}
use Rattle.protocol_lang.specs.Reading.{token_at, extent_of, past_blanks, placed_at, next_token}
use Rattle.protocol_lang.specs.Grammar.{Spells}
use Rattle.protocol_lang.specs.declared.fault.ParseFault.{ParseFault}
use Rattle.protocol_lang.specs.declared.token.Token.{Token}
use Rattle.protocol_lang.specs.declared.token.Token.TheVariants.{End}
use Rattle.protocol_lang.specs.declared.lexer.Placed.{Placed}
use Rattle.protocol_lang.proofs.Runs.{run_all, run_again}
use Rattle.protocol_lang.proofs.Front.{Stands, front_read, front_again}

-- the value of a step that had no fault
pub bind_ok : {A B : Type 0} (r : Result A ParseFault) (next : A → Result B ParseFault) (y : B) → (r >>= next) ≡ Ok y → (x : A) × (r ≡ Ok x) × (next x ≡ Ok y)
bind_ok (Ok x) next y e = (x, refl, e)
bind_ok (Err fault) next y e = absurd cc

-- ---- where the next token is

abbrev pub placed : ℕ → ℕ → Token → Placed
placed at extent token = record { at = at; token = token; end = at + extent }

placing : (at extent : ℕ) (read : Result Token ParseFault) → ((read >>= λ token. Ok (token, extent)) >>= placed_at at) ≡ (read >>= λ token. Ok (placed at extent token))
placing at extent (Ok token) = refl
placing at extent (Err fault) = refl

pub next_token_is : (text : List ℕ) (from : ℕ) → let at = past_blanks text from in next_token text from ≡ (token_at at (drop at text) >>= λ token. Ok (placed at (extent_of (drop at text)) token))
unfolding next_token
next_token_is text from = placing (past_blanks text from) (extent_of (drop (past_blanks text from) text)) (token_at (past_blanks text from) (drop (past_blanks text from) text))

pub record Reads (text : List ℕ) (from : ℕ) (read : Placed) : Type 0 where
  pub place : read.at ≡ past_blanks text from
  pub front : token_at (past_blanks text from) (drop (past_blanks text from) text) ≡ Ok read.token
  pub stop : read.end ≡ past_blanks text from + extent_of (drop (past_blanks text from) text)

pub token_reads : (text : List ℕ) (from : ℕ) (read : Placed) → next_token text from ≡ Ok read → Reads text from read
token_reads text from read e =
    let at = past_blanks text from in
    let step = bind_ok (token_at at (drop at text)) (λ token. Ok (placed at (extent_of (drop at text)) token)) read (sym (next_token_is text from) ∙ e) in
    let same : placed at (extent_of (drop at text)) step.0 ≡ read = cc in
    rw (← same) (record { place = refl; front = step.1; stop = refl })

-- ---- what was read is spelled there

pub stands : (at : ℕ) (text : List ℕ) (token : Token) → token_at at text ≡ Ok token → (token ≡ End → ⊥) → Stands token text (extent_of text)
stands at [] token e more = absurd (more cc)
stands at (byte ∷ bytes) token e more = front_read at byte bytes token e

nothing_left : (at : ℕ) (text : List ℕ) → token_at at text ≡ Ok End → text ≡ []
nothing_left at [] e = refl
nothing_left at (byte ∷ bytes) e = absurd (front_read at byte bytes End e).spelled

pub behind_blanks : (text : List ℕ) (from : ℕ) → drop from text ≡ take (prefix_len is_blank (drop from text)) (drop from text) ++ drop (past_blanks text from) text
behind_blanks text from =
    let blanks = prefix_len is_blank (drop from text) in
    sym (take-append-drop blanks (drop from text)) ∙ ap (λ rest. take blanks (drop from text) ++ rest) (drop-drop blanks from text)

pub token_takes : (text : List ℕ) (from : ℕ) (read : Placed) (more : List Token) → next_token text from ≡ Ok read → (read.token ≡ End → ⊥) → Spells more (drop read.end text) → Spells (read.token ∷ more) (drop from text)
token_takes text from read more e some rest =
    let reads = token_reads text from read e in
    let at = past_blanks text from in
    let front = drop at text in
    let extent = extent_of front in
    let stands = stands at front read.token reads.front some in
    let behind : drop read.end text ≡ drop extent front = ap (λ end. drop end text) reads.stop ∙ sym (drop-drop extent at text) in
    let blanks = take (prefix_len is_blank (drop from text)) (drop from text) in
    let split : drop from text ≡ blanks ++ (take extent front ++ drop extent front) = behind_blanks text from ∙ ap (λ rest. blanks ++ rest) (sym (take-append-drop extent front)) in
    (blanks, take extent front, drop extent front, split, run_all is_blank (drop from text), stands.spelled, stands.ends, subst (Spells more) behind rest)

pub end_takes : (text : List ℕ) (from : ℕ) (read : Placed) → next_token text from ≡ Ok read → read.token ≡ End → Spells [] (drop from text)
end_takes text from read e last =
    let reads = token_reads text from read e in
    let blanks = take (prefix_len is_blank (drop from text)) (drop from text) in
    let nothing = nothing_left (past_blanks text from) (drop (past_blanks text from) text) (reads.front ∙ ap Ok last) in
    let whole : drop from text ≡ blanks = behind_blanks text from ∙ ap (λ rest. blanks ++ rest) nothing ∙ append-nil blanks in
    subst (Spells []) (sym whole) (run_all is_blank (drop from text))

-- ---- what is spelled there is read

next_again : (text : List ℕ) (from : ℕ) (token : Token) (extent : ℕ) → let at = past_blanks text from in token_at at (drop at text) ≡ Ok token → extent_of (drop at text) ≡ extent → next_token text from ≡ Ok (placed at extent token)
next_again text from token extent read takes = next_token_is text from ∙ rw (read, takes) refl

blanks_again : (text : List ℕ) (from : ℕ) (blanks rest : List ℕ) → drop from text ≡ blanks ++ rest → prefix_len is_blank (blanks ++ rest) ≡ length blanks → drop (past_blanks text from) text ≡ rest
blanks_again text from blanks rest split len =
    let many : prefix_len is_blank (drop from text) ≡ length blanks = ap (prefix_len is_blank) split ∙ len in
    sym (drop-drop (prefix_len is_blank (drop from text)) from text) ∙ ap (λ n. drop n (drop from text)) many ∙ ap (drop (length blanks)) split ∙ drop_at blanks rest (length blanks) refl

pub token_again : (text : List ℕ) (from : ℕ) (token : Token) (more : List Token) → Spells (token ∷ more) (drop from text) → (extent : ℕ) × (next_token text from ≡ Ok (placed (past_blanks text from) extent token)) × Spells more (drop (past_blanks text from + extent) text)
token_again text from token more spells =
    let at = past_blanks text from in
    let spelled = spells.1 in
    let rest = spells.2 in
    let front = front_again at token spelled rest spells.5 spells.6 in
    let here = blanks_again text from spells.0 (spelled ++ rest) spells.3 (run_again is_blank spells.0 (spelled ++ rest) spells.4 front.no_blank) in
    let behind : drop (at + length spelled) text ≡ rest = sym (drop-drop (length spelled) at text) ∙ ap (drop (length spelled)) here ∙ drop_at spelled rest (length spelled) refl in
    (length spelled, next_again text from token (length spelled) (ap (token_at at) here ∙ front.read) (ap extent_of here ∙ front.takes), subst (Spells more) (sym behind) spells.7)

pub end_again : (text : List ℕ) (from : ℕ) → Spells [] (drop from text) → next_token text from ≡ Ok (placed (past_blanks text from) 0 End)
end_again text from blank =
    let all = drop from text in
    let nothing = blanks_again text from all [] (sym (append-nil all)) (run_again is_blank all [] blank tt) in
    next_again text from End 0 (ap (token_at (past_blanks text from)) nothing) (ap extent_of nothing)
