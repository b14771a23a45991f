use Rattle.std.proofs.Common.{◌≡◌, ◌∙◌, ℕ, ◌-◌, ◌<◌, false, eqb, get_or, length, ap, sym, arith}
use Rattle.std.proofs.lemmas.Bool.{ne_eqb}
use Rattle.room_spec.specs.Rooms.{processes}
use Rattle.room_spec.specs.Sizes.{Sizes}
use Rattle.simulator.specs.Moves.{entry_in}
use Rattle.simulator.proofs.Gathering.{padded_ends, padded_on}
use Rattle.simulator.proofs.taking.pad.Goals as goal

pub loop-entries-preserved : goal.loop-entries-preserved
loop-entries-preserved c =
    let entries = c.loop-entries.entries.items in (
      omega (arith, c.push.ensures.len),
      λ spec words same are.
          let n : c.args.shape.now.n ≡ processes spec = ap (λ (sizes : Sizes). sizes.n) same in
          let less : length entries < processes spec = omega (arith, n) in
          let row : ℕ → ℕ = entry_in spec words in
          let none : row (length entries) ≡ 0 = sym (are (length entries) less).1 ∙ ap (λ p. get_or c.args.last.now.rounds p 0) (sym c.len-in-loop-entries.ensures.value) ∙ c.if-last-len-eq0.true in
          (padded_on row (processes spec) entries c.push.new.self.items less none c.push.ensures.items).1 ∙ c.loop-entries.invariant.1 spec words same are,
    )

pub returns-else-last-len-eq0 : goal.returns-else-last-len-eq0
returns-else-last-len-eq0 c spec words same are =
    let n : c.args.shape.now.n ≡ processes spec = ap (λ (sizes : Sizes). sizes.n) same in
    let entries = c.loop-entries.entries.items in
    let row : ℕ → ℕ = entry_in spec words in
    let less : length entries < processes spec = omega (arith, n) in
    let at : row (length entries) ≡ get_or c.args.last.now.rounds c.len-in-loop-entries.result 0 = sym (are (length entries) less).1 ∙ ap (λ p. get_or c.args.last.now.rounds p 0) (sym c.len-in-loop-entries.ensures.value) in
    let shown : eqb (row (length entries)) 0 ≡ false = ne_eqb _ _ (λ none. absurd (omega (arith, none, at, c.if-last-len-eq0.false))) in
    padded_ends row (processes spec - length entries) entries (omega arith) shown ∙ c.loop-entries.invariant.1 spec words same are
