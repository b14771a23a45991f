-- Reading goes on from token to token.
use Rattle.std.proofs.Common.{arith, ◌≡◌, ℕ, zero, suc, ◌+◌, ◌<◌, ◌≤◌, List, length, Option, Some, None, Result, Ok, Err, refl, sym, ap, ◌∙◌}
use Rattle.protocol_lang.specs.Trees.{Expression}
use Rattle.protocol_lang.specs.Formulas.{Operands, trees}
use Rattle.std.proofs.lemmas.Bool.{lt-ltb, le-ltb}
use Rattle.protocol_lang.specs.Results.{◌>>=◌}
use Rattle.protocol_lang.specs.Reading.{State, opening, one_token, fault_at, onward, run, most_tokens, tree_read, reading, Takes, Reaches, at_start as reaches_start, one_further, IsReading}
use Rattle.protocol_lang.specs.declared.state.Refusal.{Refusal}
use Rattle.protocol_lang.specs.declared.state.Refusal.TheVariants as refusals
use Rattle.protocol_lang.specs.declared.fault.ParseFault.{ParseFault}
use Rattle.protocol_lang.specs.declared.fault.ParseFault.TheVariants.{TooLong, BadToken, Unexpected, TooDeep, TooManyRules, ViewInFirst, NumberTooLarge, OutOfMemory}

-- ---- one token, and the rest

pub one_then : {A : Type 0} (made : Operands A) (most : ℕ) (text : List ℕ) (from : ℕ) (s : State A) (read : Result (State A × Option ℕ) ParseFault) → one_token made text from s ≡ read → run made (suc most) text from s ≡ (read >>= onward (run made most text))
unfolding run
one_then made most text from s read e = ap (λ r. r >>= onward (run made most text)) e

-- ---- a loop that has come to a place

-- what is read from here on is what is read of the whole text
pub record IsAt (text : List ℕ) (from : ℕ) (s : State Expression) : Type 0 where
  pub most : ℕ
  pub enough : length text < from + most
  pub within : from ≤ length text
  pub reached : Reaches text from s
  pub same : run trees most text from s ≡ run trees most_tokens text 0 (opening trees)

pub at_start : (text : List ℕ) → length text ≤ 4096 → IsAt text 0 (opening trees)
at_start text short = record { most = most_tokens; enough = omega (arith, short); within = omega arith; reached = reaches_start; same = refl }

step_from : (text : List ℕ) (from most : ℕ) (s : State Expression) (read : Result (State Expression × Option ℕ) ParseFault) → length text < from + most → from ≤ length text → one_token trees text from s ≡ read
    → (rest : ℕ) × (most ≡ suc rest) × (run trees most text from s ≡ (read >>= onward (run trees rest text)))
step_from text from zero s read enough within e = absurd (omega arith)
step_from text from (suc most) s read enough within e = (most, refl, one_then trees most text from s read e)

pub at_next : (text : List ℕ) (from end : ℕ) (s s' : State Expression) → IsAt text from s → one_token trees text from s ≡ Ok (s', Some end) → from < end → end ≤ length text → IsAt text end s'
at_next text from end s s' at e onward within =
    let step = step_from text from at.most s _ at.enough at.within e in
    record { most = step.0; enough = omega (arith, at.enough, step.1); within = within; reached = one_further from end s s' at.reached e; same = sym step.2 ∙ at.same }

pub at_stop : (text : List ℕ) (from : ℕ) (s s' : State Expression) → IsAt text from s → one_token trees text from s ≡ Ok (s', None) → run trees most_tokens text 0 (opening trees) ≡ Ok s'
at_stop text from s s' at e =
    let step = step_from text from at.most s _ at.enough at.within e in sym at.same ∙ step.2

pub at_fault : (text : List ℕ) (from : ℕ) (s : State Expression) (fault : ParseFault) → IsAt text from s → one_token trees text from s ≡ Err fault → run trees most_tokens text 0 (opening trees) ≡ Err fault
at_fault text from s fault at e =
    let step = step_from text from at.most s _ at.enough at.within e in sym at.same ∙ step.2

-- ---- whole texts

pub too_long : (text : List ℕ) → 4096 < length text → reading text ≡ Err TooLong
unfolding reading
too_long text long = rw (lt-ltb 4096 (length text) long) refl

pub reading_by : (text : List ℕ) → length text ≤ 4096 → (read : Result (State Expression) ParseFault) → run trees most_tokens text 0 (opening trees) ≡ read → reading text ≡ (read >>= λ s. Ok (tree_read trees s))
unfolding reading
reading_by text short read e = rw (le-ltb 4096 (length text) short) (ap (λ r. r >>= λ s. Ok (tree_read trees s)) e)

abbrev read_fault : List ℕ → ParseFault → Type 0
read_fault text fault = reading text ≡ Err fault

-- a fault of the token from here on is that of the whole text
pub fault_read : (text : List ℕ) (from : ℕ) (s s' : State Expression) (fault : ParseFault) → IsAt text from s → length text ≤ 4096 → Takes (one_token trees text from s) (Err fault) s' → IsReading text (Err fault)
fault_read text from s s' OutOfMemory at short takes = record { short = short; from = from; state = s; reached = at.reached; taken = takes }
fault_read text from s s' TooLong at short takes = reading_by text short (Err TooLong) (at_fault text from s TooLong at takes)
fault_read text from s s' (BadToken place) at short takes = reading_by text short (Err (BadToken place)) (at_fault text from s (BadToken place) at takes)
fault_read text from s s' (Unexpected place) at short takes = reading_by text short (Err (Unexpected place)) (at_fault text from s (Unexpected place) at takes)
fault_read text from s s' (TooDeep place) at short takes = reading_by text short (Err (TooDeep place)) (at_fault text from s (TooDeep place) at takes)
fault_read text from s s' TooManyRules at short takes = reading_by text short (Err TooManyRules) (at_fault text from s TooManyRules at takes)
fault_read text from s s' (ViewInFirst place) at short takes = reading_by text short (Err (ViewInFirst place)) (at_fault text from s (ViewInFirst place) at takes)
fault_read text from s s' (NumberTooLarge place) at short takes = reading_by text short (Err (NumberTooLarge place)) (at_fault text from s (NumberTooLarge place) at takes)

pub text_read : (text : List ℕ) (from : ℕ) (s s' : State Expression) → IsAt text from s → length text ≤ 4096 → one_token trees text from s ≡ Ok (s', None) → reading text ≡ Ok (tree_read trees s')
text_read text from s s' at short e = reading_by text short (Ok s') (at_stop text from s s' at e)

-- memory was refused to the whole tree, at the text's end
pub end_refused : (text : List ℕ) (from place : ℕ) (s s' : State Expression) (refusal : Refusal) → IsAt text from s → length text ≤ 4096 → one_token trees text from s ≡ Ok (s', None) → refusal ≡ refusals.OutOfMemory → IsReading text (Err (fault_at place refusal))
end_refused text from place s s' refusal at short e is = rw is (record { short = short; from = from; state = s; reached = at.reached; taken = rw e refl })
