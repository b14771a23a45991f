-- The first token that can't follow those before it.
use Rattle.std.proofs.Common.{◌≡◌, ℕ, zero, suc, Bool, true, false, not, List, [], ◌∷◌, ◌++◌, append_assoc, Option, Some, None, Result, Ok, Err, refl, sym, ap, ◌∙◌, subst, inl, inr}
use Rattle.std.specs.List.{list_all}
use Rattle.std.proofs.lemmas.Bool.{cases_Bool, and_from, and_parts}
use Rattle.std.proofs.lemmas.List.{append-nil}
use Rattle.protocol_lang.specs.Tokens.{is_end}
use Rattle.protocol_lang.specs.Trees.{Expression}
use Rattle.protocol_lang.specs.Formulas.{trees}
use Rattle.protocol_lang.specs.Grammar.{Written, tree_tokens}
use Rattle.protocol_lang.specs.FirstFaults.{AreTokens, Begins, CanFollow, WantOperand, AreBegun}
use Rattle.protocol_lang.specs.Reading.{State, opening, step, one_token, onward, run, tree_read}
use Rattle.protocol_lang.specs.declared.fault.ParseFault.{ParseFault}
use Rattle.protocol_lang.specs.declared.fault.ParseFault.TheVariants.{TooLong}
use Rattle.protocol_lang.specs.declared.token.Token.{Token}
use Rattle.protocol_lang.specs.declared.token.Token.TheVariants as tokens
use Rattle.protocol_lang.specs.declared.token.Word.TheVariants as words
use Rattle.protocol_lang.specs.declared.token.Symbol.TheVariants as symbols
use Rattle.protocol_lang.specs.declared.state.Expected.{Expected}
use Rattle.protocol_lang.specs.declared.state.Expected.TheVariants as next
use Rattle.protocol_lang.specs.declared.state.Part.{Part}
use Rattle.protocol_lang.specs.declared.state.Part.TheVariants as parts
use Rattle.protocol_lang.specs.declared.state.Level.{Level}
use Rattle.protocol_lang.specs.declared.state.Refusal.{Refusal}
use Rattle.protocol_lang.specs.declared.tree.Kind.{Kind}
use Rattle.protocol_lang.specs.declared.tree.Kind.TheVariants as kinds
use Rattle.protocol_lang.specs.declared.tree.Comparator.{Comparator}
use Rattle.protocol_lang.specs.declared.tree.Comparator.TheVariants as comparators
use Rattle.protocol_lang.proofs.Carrying.{writings}
use Rattle.protocol_lang.proofs.Locality.{bind_err, run_is, run_none}
use Rattle.protocol_lang.proofs.Going.{Goes, Took, took, ends_again}
use Rattle.protocol_lang.proofs.Only.{tree_reads}
use Rattle.protocol_lang.proofs.Holding.{Wanting}
use Rattle.protocol_lang.proofs.Headers.{Holds, HoldsAt}
use Rattle.protocol_lang.proofs.Holds.{holds_on}

-- ---- from wherever reading stands some tokens lead to an end

abbrev pub is_some : Token → Bool
is_some token = not (is_end token)

abbrev state_in : State Written → Result (State Written) Refusal → State Written
state_in other (Ok s) = s
state_in other (Err refusal) = other

-- the place behind the token
abbrev behind_one : State Written → Token → State Written
behind_one s token = state_in s (step writings s token)

record Finishes (s : State Written) : Type 0 where
  pub rest : List Token
  pub some : list_all is_some rest ≡ true
  pub end : State Written
  pub goes : Goes writings s rest end
  pub ends : end.expected ≡ next.End

one_more : (s m : State Written) (token : Token) → is_some token ≡ true → step writings s token ≡ Ok m → Finishes m → Finishes s
one_more s m token some taken rest = record { rest = token ∷ rest.rest; some = and_from _ _ some rest.some; end = rest.end; goes = (m, taken, rest.goes); ends = rest.ends }

-- no parenthesis is open
abbrev at : Expected → Part → State Written → State Written
at expected part s = record s { expected = expected; part = part; outer = [] }

finish_last : (kind : Kind) (s : State Written) → Finishes (at next.Operator (parts.Last kind) s)
finish_last kind s =
    let end = at next.End (parts.Last kind) s in
    record { rest = tokens.Symbol symbols.Semicolon ∷ []; some = refl; end = end; goes = (end, refl, refl); ends = refl }

finish_kind : (part : Part) (s : State Written) → Finishes (at next.Last part s)
finish_kind part s =
    let wants = at next.Operand (parts.Last kinds.Write) s in
    let has = behind_one wants (tokens.Number 0) in
    one_more (at next.Last part s) wants (tokens.Word words.Write) refl refl (one_more wants has (tokens.Number 0) refl refl (finish_last kinds.Write has))

finish_rule : (part : Part) (s : State Written) → Finishes (at next.Rule part s)
finish_rule part s = one_more (at next.Rule part s) (at next.Last part s) (tokens.Word words.Else) refl refl (finish_kind part s)

finish_action : (kind : Kind) (s : State Written) → Finishes (at next.Operator (parts.ActionRule kind) s)
finish_action kind s =
    let here = at next.Operator (parts.ActionRule kind) s in
    let done = behind_one here (tokens.Symbol symbols.Semicolon) in
    one_more here done (tokens.Symbol symbols.Semicolon) refl refl (finish_rule (parts.ActionRule kind) done)

finish_right : (comparator : Comparator) (s : State Written) → Finishes (at next.Operator (parts.Right comparator) s)
finish_right comparator s =
    let here = at next.Operator (parts.Right comparator) s in
    let wants = behind_one here (tokens.Word words.Write) in
    let has = behind_one wants (tokens.Number 0) in
    one_more here wants (tokens.Word words.Write) refl refl (one_more wants has (tokens.Number 0) refl refl (finish_action kinds.Write has))

finish_left : (s : State Written) → Finishes (at next.Operator parts.Left s)
finish_left s =
    let here = at next.Operator parts.Left s in
    let wants = behind_one here (tokens.Symbol symbols.Equal) in
    let has = behind_one wants (tokens.Number 0) in
    one_more here wants (tokens.Symbol symbols.Equal) refl refl (one_more wants has (tokens.Number 0) refl refl (finish_right comparators.Equal has))

finish_first : (s : State Written) → Finishes (at next.Operator parts.First s)
finish_first s =
    let here = at next.Operator parts.First s in
    let done = behind_one here (tokens.Symbol symbols.Semicolon) in
    one_more here done (tokens.Symbol symbols.Semicolon) refl refl (finish_rule parts.First done)

finish_part : (part : Part) (s : State Written) → Finishes (at next.Operator part s)
finish_part parts.First s = finish_first s
finish_part parts.Left s = finish_left s
finish_part (parts.Right comparator) s = finish_right comparator s
finish_part (parts.ActionRule kind) s = finish_action kind s
finish_part (parts.Last kind) s = finish_last kind s

-- the open parentheses are closed first
finish_levels : (levels : List Level) (s : State Written) → Finishes (record s { expected = next.Operator; outer = levels })
finish_levels [] s = finish_part s.part s
finish_levels (level ∷ levels) s =
    let here = record s { expected = next.Operator; outer = level ∷ levels } in
    let closed = behind_one here (tokens.Symbol symbols.Close) in
    one_more here closed (tokens.Symbol symbols.Close) refl refl (finish_levels levels closed)

finish_operand : (s : State Written) → Finishes (record s { expected = next.Operand })
finish_operand s =
    let here = record s { expected = next.Operand } in
    let has = behind_one here (tokens.Number 0) in
    one_more here has (tokens.Number 0) refl refl (finish_levels s.outer has)

-- ---- so the tokens read begin a text

no_end : (token : Token) → is_some token ≡ true → is_end token ≡ false
no_end (tokens.Word word) some = refl
no_end (tokens.Number number) some = refl
no_end (tokens.Symbol symbol) some = refl
no_end tokens.End some = absurd cc

-- all tokens are held
pub holds_all : (rest before : List Token) (s e : State Written) → list_all is_some rest ≡ true → Holds s before → Goes writings s rest e → Holds e (before ++ rest)
holds_all [] before s e some holds goes = subst (λ t. Holds e t) (sym (append-nil before)) (subst (λ (u : State Written). Holds u before) goes holds)
holds_all (token ∷ rest) before s e some holds goes =
    let both = and_parts (is_some token) (list_all is_some rest) some in
    let one = holds_on s goes.0 before token (no_end token both.0) holds goes.1 in
    subst (λ t. Holds e t) (append_assoc before (token ∷ []) rest) (holds_all rest (before ++ token ∷ []) goes.0 e both.1 one goes.2)

-- at an end the tokens are a text
whole : (e : State Written) (all : List Token) → e.expected ≡ next.End → Holds e all → CanFollow all tokens.End
whole e all ends holds =
    let at_end : HoldsAt next.End e all = subst (λ x. HoldsAt x e all) ends holds in
    (tree_read writings e, at_end.1, sym at_end.0)

begins_by : (s : State Written) (before : List Token) → Holds s before → Finishes s → Begins before
begins_by s before holds finishes =
    let text = whole finishes.end (before ++ finishes.rest) finishes.ends (holds_all finishes.rest before s finishes.end finishes.some holds finishes.goes) in
    (text.0, text.1, finishes.rest, text.2)

-- what waits for an operand does so whatever is expected
pub wanting_at : (expected : Expected) (s : State Written) (header before : List Token) → Wanting s header before → Wanting (record s { expected = expected }) header before
wanting_at expected s header before wants = record {
  top = wants.top;
  below = wants.below;
  rest = wants.rest;
  sum_tokens = wants.sum_tokens;
  product_tokens = wants.product_tokens;
  outer_tokens = wants.outer_tokens;
  sums = wants.sums;
  products = wants.products;
  outer = wants.outer;
  stack_is = wants.stack_is;
  tokens_are = wants.tokens_are;
  room = wants.room;
}

-- an operand can stand behind these
pub wants_operand : (s : State Written) (before : List Token) → HoldsAt next.Operand (record s { expected = next.Operand }) before → WantOperand before
wants_operand s before holds =
    let here = record s { expected = next.Operand } in
    let has = behind_one here (tokens.Number 0) in
    begins_by has (before ++ tokens.Number 0 ∷ []) (holds_on here has before (tokens.Number 0) refl holds refl) (finish_levels s.outer has)

begun_at : (expected : Expected) (s : State Written) (before : List Token) → HoldsAt expected (record s { expected = expected }) before → AreBegun before
begun_at next.First s before holds = inl (begins_by (record s { expected = next.First }) before holds (one_more (record s { expected = next.First }) (record s { expected = next.Operand }) (tokens.Word words.First) refl refl (finish_operand s)))
begun_at next.Operand s before holds = inl (begins_by (record s { expected = next.Operand }) before holds (finish_operand s))
begun_at (next.Open function) s before holds = inr (holds.0, function, holds.1, wants_operand s holds.0 (wanting_at next.Operand (record s { expected = next.Open function }) _ holds.0 holds.2, holds.3))
begun_at next.Operator s before holds = inl (begins_by (record s { expected = next.Operator }) before holds (finish_levels s.outer s))
begun_at next.Rule s before holds =
    let none = holds.1.none_open in
    inl (begins_by (record s { expected = next.Rule }) before holds (subst (λ levels. Finishes (record s { expected = next.Rule; outer = levels })) (sym none) (finish_rule s.part s)))
begun_at next.Last s before holds =
    let none = holds.1.none_open in
    inl (begins_by (record s { expected = next.Last }) before holds (subst (λ levels. Finishes (record s { expected = next.Last; outer = levels })) (sym none) (finish_kind s.part s)))
begun_at next.End s before holds =
    let text = whole (record s { expected = next.End }) before refl holds in
    inl (text.0, text.1, [], text.2 ∙ sym (append-nil before))

pub are_begun : (s : State Written) (before : List Token) → Holds s before → AreBegun before
are_begun s before holds = begun_at s.expected s before holds

-- ---- and a token that is refused can't follow

goes_split : (s e : State Written) (first more : List Token) → Goes writings s (first ++ more) e → (m : State Written) × Goes writings s first m × Goes writings m more e
goes_split s e [] more goes = (s, refl, goes)
goes_split s e (token ∷ first) more goes =
    let rest = goes_split goes.0 e first more goes.2 in
    (rest.0, (goes.0, goes.1, rest.1), rest.2)

done_same : (x y : State Written) (r : Result (State Written) Refusal) → r ≡ Ok x → r ≡ Ok y → x ≡ y
done_same x y r one other = cc

goes_same : (all : List Token) (s m n : State Written) → Goes writings s all m → Goes writings s all n → m ≡ n
goes_same [] s m n one other = sym one ∙ other
goes_same (token ∷ all) s m n one other =
    let here = done_same one.0 other.0 (step writings s token) one.1 other.1 in
    goes_same all one.0 m n one.2 (subst (λ (u : State Written). Goes writings u all n) (sym here) other.2)

refused_there : (w m : State Written) (token : Token) (refusal : Refusal) → step writings w token ≡ Err refusal → step writings w token ≡ Ok m → ⊥
refused_there w m token refusal refused taken = cc

never_begins : (w : State Written) (before : List Token) (token : Token) (refusal : Refusal) → Goes writings (opening writings) before w → step writings w token ≡ Err refusal → Begins (before ++ token ∷ []) → ⊥
never_begins w before token refusal goes refused begins =
    let text = tree_reads begins.0 begins.1 in
    let all : tree_tokens begins.0 ≡ before ++ token ∷ begins.2 = begins.3 ∙ append_assoc before (token ∷ []) begins.2 in
    let parts = goes_split (opening writings) text.end before (token ∷ begins.2) (subst (λ t. Goes writings (opening writings) t text.end) all text.goes) in
    let same = goes_same before (opening writings) w parts.0 goes parts.1 in
    refused_there w parts.2.0 token refusal refused (subst (λ (u : State Written). step writings u token ≡ Ok parts.2.0) (sym same) parts.2.1)

pub never_follows : (w : State Written) (before : List Token) (token : Token) (refusal : Refusal) → Goes writings (opening writings) before w → step writings w token ≡ Err refusal → CanFollow before token → ⊥
never_follows w before tokens.End refusal goes refused follows =
    let text = tree_reads follows.0 follows.1 in
    let same = goes_same before (opening writings) w text.end goes (subst (λ t. Goes writings (opening writings) t text.end) follows.2 text.goes) in
    let ends : w.expected ≡ next.End = ap (λ (u : State Written). u.expected) same ∙ text.ends in
    refused_there w w tokens.End refusal refused (ends_again writings w ends)
never_follows w before (tokens.Word word) refusal goes refused follows = never_begins w before (tokens.Word word) refusal goes refused follows
never_follows w before (tokens.Number number) refusal goes refused follows = never_begins w before (tokens.Number number) refusal goes refused follows
never_follows w before (tokens.Symbol symbol) refusal goes refused follows = never_begins w before (tokens.Symbol symbol) refusal goes refused follows

-- ---- where reading stops

-- these tokens were taken from one place to another, and the next one has a fault
pub record Stops (text : List ℕ) (from : ℕ) (s : State Expression) (fault : ParseFault) : Type 0 where
  pub before : List Token
  pub some : list_all is_some before ≡ true
  pub stop : ℕ
  pub there : State Expression
  pub tokens_are : AreTokens text from before stop
  pub goes : Goes trees s before there
  pub failed : one_token trees text stop there ≡ Err fault

no_end_some : (token : Token) → is_end token ≡ false → is_some token ≡ true
no_end_some token more = rw more refl

one_before : (text : List ℕ) (from end : ℕ) (s s' : State Expression) (fault : ParseFault) → Took trees text from s s' (Some end) → Stops text end s' fault → Stops text from s fault
one_before text from end s s' fault one rest =
    elim (cases_Bool (is_end one.read.token)) [
      | inl last ↦ absurd (let never = rw last at one.place in cc)
      | inr more ↦
          let ends : one.read.end ≡ end = let place = rw more at one.place in cc in
          record {
            before = one.read.token ∷ rest.before;
            some = and_from _ _ (no_end_some one.read.token more) rest.some;
            stop = rest.stop;
            there = rest.there;
            tokens_are = (one.read, one.token, refl, subst (λ e. AreTokens text e rest.before rest.stop) (sym ends) rest.tokens_are);
            goes = (s', one.after, rest.goes);
            failed = rest.failed;
          }
    ]

stops_onward : (most : ℕ) (text : List ℕ) (from : ℕ) (s s' : State Expression) (end : Option ℕ) (fault : ParseFault) → ((place : ℕ) → run trees most text place s' ≡ Err fault → Stops text place s' fault)
    → one_token trees text from s ≡ Ok (s', end) → onward (run trees most text) (s', end) ≡ Err fault → Stops text from s fault
stops_onward most text from s s' None fault again taken e = absurd cc
stops_onward most text from s s' (Some end) fault again taken e = one_before text from end s s' fault (took trees text from s s' (Some end) taken) (again end e)

pub stops : (most : ℕ) (text : List ℕ) (from : ℕ) (s : State Expression) (fault : ParseFault) → (fault ≡ TooLong → ⊥) → run trees most text from s ≡ Err fault → Stops text from s fault
stops zero text from s fault other e = absurd (other (let long = sym (run_none trees text from s) ∙ e in cc))
stops (suc most) text from s fault other e =
    elim (bind_err (one_token trees text from s) (onward (run trees most text)) fault (sym (run_is trees most text from s) ∙ e)) [
      | inl failed ↦ record { before = []; some = refl; stop = from; there = s; tokens_are = refl; goes = refl; failed = failed }
      | inr taken ↦ stops_onward most text from s taken.0.0 taken.0.1 fault (λ place rest. stops most text place taken.0.0 fault other rest) taken.1 taken.2
    ]
