use Rattle.std.proofs.Common.{◌≡◌, ℕ, ◌+◌, List, length, get_or, sym, ap, ◌∙◌, subst, arith, inl, inr, ◌⊎◌}
use Rattle.std.proofs.lemmas.List.{length_push}
use Rattle.room_search.specs.Saying.{DoSay}
use Rattle.room_search.proofs.Stored.{says_push}
use Rattle.room_search.proofs.first.first_said.Goals as goal

pub loop-index-preserved : goal.loop-index-preserved
loop-index-preserved c =
    let old = c.loop-index.said.items in
    let words = c.args.subject.now.start.now.words in
    let number = c.number_if.result in
    let before = c.loop-index.invariant in
    let count = before.count in
    let items = c.in_ok-push.ensures.items in
    let about : (number ≡ 0) ⊎ (number ≡ get_or words (length old) 0 + 1) = elim c.number_if.ensures.said [
      | inl none ↦ inl none
      | inr one ↦ inr (one ∙ ap (λ (l : List ℕ). get_or l c.loop-index.index 0 + 1) c.words-words.ensures.value ∙ ap (λ (k : ℕ). get_or words k 0 + 1) (sym count))
    ] in
    record {
      count = let long = length_push old number in ap (λ (l : List ℕ). length l) items ∙ omega (arith, long, count);
      says = subst (λ (l : List ℕ). DoSay l words) (sym items) (says_push old words number about before.says);
    }
