-- What is read is a text of the language.
use Rattle.std.proofs.Common.{◌≡◌, ◌≤◌, ℕ, ltb, false, List, [], ◌∷◌, ◌++◌, append_assoc, length, Result, Ok, Err, refl, sym, ap, ◌∙◌, subst, inl, inr}
use Rattle.std.specs.Prelude.{IfOk}
use Rattle.std.proofs.lemmas.Bool.{cases_Bool, ltb-false}
use Rattle.std.proofs.lemmas.List.{append-nil}
use Rattle.protocol_lang.specs.Tokens.{is_end}
use Rattle.protocol_lang.specs.Trees.{Expression, Tree}
use Rattle.protocol_lang.specs.Formulas.{trees}
use Rattle.protocol_lang.specs.Grammar.{Written, Spells, IsSpelled, tree_of, IsText}
use Rattle.protocol_lang.specs.Reading.{State, opening, step, run, most_tokens, tree_read, reading, IsReading}
use Rattle.protocol_lang.specs.declared.fault.ParseFault.{ParseFault}
use Rattle.protocol_lang.specs.declared.token.Token.{Token}
use Rattle.protocol_lang.specs.declared.token.Token.TheVariants as tokens
use Rattle.protocol_lang.specs.declared.state.Expected.TheVariants as next
use Rattle.protocol_lang.specs.declared.state.Refusal.{Refusal}
use Rattle.protocol_lang.proofs.Steps.{bind_ok}
use Rattle.protocol_lang.proofs.Onward.{reading_by}
use Rattle.protocol_lang.proofs.Carrying.{writings, state_of, ends_of, step_of, tree_read_of}
use Rattle.protocol_lang.proofs.Going.{Goes, run_found}
use Rattle.protocol_lang.proofs.Headers.{Holds, HoldsAt}
use Rattle.protocol_lang.proofs.Holds.{holds_on, holds_first}

written_step : (s : State Written) (token : Token) (t : State Expression) (r : Result (State Written) Refusal) → step writings s token ≡ r → ends_of r ≡ Ok t → (w : State Written) × (step writings s token ≡ Ok w) × (state_of w ≡ t)
written_step s token t (Ok w) e is = (w, e, (let same : state_of w ≡ t = cc in same))
written_step s token t (Err refusal) e is = absurd cc

-- the same tokens, read with their parentheses
pub goes_written : (all : List Token) (s : State Written) (t : State Expression) → Goes trees (state_of s) all t → (w : State Written) × Goes writings s all w × (state_of w ≡ t)
goes_written [] s t goes = (s, refl, goes)
goes_written (token ∷ all) s t goes =
    let one = written_step s token goes.0 (step writings s token) refl (step_of s token ∙ goes.1) in
    let rest = goes_written all one.0 t (subst (λ (u : State Expression). Goes trees u all t) (sym one.2) goes.2) in
    (rest.0, (one.0, one.1, rest.1), rest.2)

spelled_no_end : (token : Token) (bytes : List ℕ) → IsSpelled token bytes → is_end token ≡ false
spelled_no_end (tokens.Word word) bytes is = refl
spelled_no_end (tokens.Number number) bytes is = refl
spelled_no_end (tokens.Symbol symbol) bytes is = refl
spelled_no_end tokens.End bytes is = absurd is

-- all of the tokens are held
held : (all before : List Token) (text : List ℕ) (s w : State Written) → Spells all text → Holds s before → Goes writings s all w → Holds w (before ++ all)
held [] before text s w spells holds goes = subst (λ t. Holds w t) (sym (append-nil before)) (subst (λ (u : State Written). Holds u before) goes holds)
held (token ∷ all) before text s w spells holds goes =
    let one = holds_on s goes.0 before token (spelled_no_end token spells.1 spells.5) holds goes.1 in
    subst (λ t. Holds w t) (append_assoc before (token ∷ []) all) (held all (before ++ token ∷ []) spells.2 goes.0 w spells.7 one goes.2)

ended_at : (w : State Written) (t : State Expression) → state_of w ≡ t → t.expected ≡ next.End → w.expected ≡ next.End
ended_at w t same ends = ap (λ (u : State Expression). u.expected) same ∙ ends

text_found : (text : List ℕ) (tree : Tree) → reading text ≡ Ok tree → length text ≤ 4096 → IsText text tree
text_found text tree e short =
    let read = bind_ok (run trees most_tokens text 0 (opening trees)) (λ s. Ok (tree_read trees s)) tree (sym (reading_by text short (run trees most_tokens text 0 (opening trees)) refl) ∙ e) in
    let found = run_found trees most_tokens text 0 (opening trees) read.0 read.1 in
    let written = goes_written found.0 (opening writings) read.0 found.2 in
    let w = written.0 in
    let ends = ended_at w read.0 written.2 found.3 in
    let holds : HoldsAt next.End w found.0 = subst (λ x. HoldsAt x w found.0) ends (held found.0 [] text (opening writings) w found.1 holds_first written.1) in
    let says : tree_of (tree_read writings w) ≡ tree = tree_read_of w ∙ ap (tree_read trees) written.2 ∙ (let same : tree_read trees read.0 ≡ tree = cc in same) in
    record { written = tree_read writings w; says = says; formed = holds.1; short = short; spelled = subst (λ all. Spells all text) holds.0 found.1 }

reading_short : (text : List ℕ) (tree : Tree) → reading text ≡ Ok tree → length text ≤ 4096
unfolding reading
reading_short text tree e =
    elim (cases_Bool (ltb 4096 (length text))) [ inl long ↦ absurd (let never = rw long at e in cc) | inr short ↦ ltb-false 4096 (length text) short ]

pub found : (text : List ℕ) (read : Result Tree ParseFault) → IsReading text read → IfOk read (IsText text)
found text (Ok tree) e = text_found text tree e (reading_short text tree e)
found text (Err fault) e = tt
