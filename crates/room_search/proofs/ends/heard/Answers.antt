use Rattle.std.proofs.Common.{◌-◌, ◌∷◌, [], ℕ, List, length, get_or, sym, ap, ◌∙◌, arith, inl, inr}
use Rattle.std.proofs.lemmas.Bool.{cases_eq}
use Rattle.std.proofs.lemmas.List.{get_or_append_left, get_or_push, length_push}
use Rattle.room_search.proofs.Enough.{all_heard}
use Rattle.room_search.proofs.ends.heard.Goals as goal

pub loop-index-preserved : goal.loop-index-preserved
loop-index-preserved c =
    let old = c.loop-index.words.items in
    let x = c.saturating_sub.result in
    let i = c.loop-index.index in
    let before = c.loop-index.invariant in
    let count = before.count in
    let items = c.in_ok-push.ensures.items in
    record {
      count = let long = length_push old x in ap (λ (l : List ℕ). length l) items ∙ omega (arith, long, count);
      each = λ at below. ap (λ (l : List ℕ). get_or l at 0) items ∙ elim (cases_eq at i) [
        | inl same ↦
            get_or_push old x 0 at (count ∙ sym same) ∙ c.saturating_sub.ensures ∙ ap (λ (k : ℕ). get_or c.args.said.now k 0 - 1) (sym same)
        | inr apart ↦ get_or_append_left old (x ∷ []) 0 at (omega (arith, below, apart, count)) ∙ before.each at (omega (arith, below, apart))
      ];
    }

pub returns : goal.returns
returns c =
    let count = c.loop-index.invariant.count in
    all_heard c.args.said.now c.loop-index.words.items (omega (arith, count, c.loop-index-test.false, c.loop-index.auto.index-end)) (λ at below. c.loop-index.invariant.each at (omega (arith, below, c.loop-index-test.false, c.loop-index.auto.index-end)))
