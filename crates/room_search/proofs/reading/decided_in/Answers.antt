use Rattle.std.proofs.Common.{◌≡◌, ◌-◌, ◌∙◌, ℕ, Option, Some, true, Bool, sym, ap, ne_eqb, arith}
use Rattle.std.specs.Prelude.{not}
use Rattle.std.specs.Option.{option_map}
use Rattle.room_core.specs.Agreements.{is_out}
use Rattle.room_search.specs.Ends.{fields_by}
use Rattle.room_search.proofs.Finding.{first_found, none_found}
use Rattle.room_search.proofs.reading.decided_in.Goals as goal

pub returns-then-out-ne0 : goal.returns-then-out-ne0
returns-then-out-ne0 c =
    let out : ℕ → ℕ = λ i. (fields_by c.args.subject.now.spec.now c.args.words.now).out i c.args.j in
    let here : is_out (out c.loop-i.i) ≡ true = ap is_out (sym c.out-out.ensures.value) ∙ ap (λ (b : Bool). not b) (ne_eqb c.out-out.result 0 c.if-out-ne0.true) in
    let found = first_found is_out out 0 c.args.subject.now.spec.now.simulators c.loop-i.i (omega arith) (omega arith) (λ k first below. c.loop-i.invariant k below) here in
    ap (λ (x : ℕ). Some (x - 1)) c.out-out.ensures.value ∙ sym (ap (λ (o : Option ℕ). option_map (λ (out : ℕ). out - 1) o) found)

pub returns : goal.returns
returns c =
    let out : ℕ → ℕ = λ i. (fields_by c.args.subject.now.spec.now c.args.words.now).out i c.args.j in
    let none = none_found is_out out 0 c.args.subject.now.spec.now.simulators (λ k first below. c.loop-i.invariant k (omega arith)) in
    sym (ap (λ (o : Option ℕ). option_map (λ (out : ℕ). out - 1) o) none)
