use Rattle.std.proofs.Common.{◌≡◌, ◌+◌, ℕ, List, length, get_or, sym, ap, ◌∙◌, arith, inl, inr}
use Rattle.std.proofs.lemmas.List.{length_push}
use Rattle.room_search.proofs.Stored.{push_cases}
use Rattle.room_search.proofs.choice.joined.Goals as goal

pub loop-index-preserved : goal.loop-index-preserved
loop-index-preserved c =
    let old = c.loop-index.joined.items in
    let x = c.one_of.result in
    let i = c.loop-index.index in
    let before = c.loop-index.invariant in
    let count = before.count in
    let items = c.in_ok-push.ensures.items in
    record {
      count = let long = length_push old x in ap (λ (l : List ℕ). length l) items ∙ omega (arith, long, count);
      each = λ at word is. elim (push_cases old x at) [
        | inl same ↦ before.each at word (sym (ap (λ (l : List ℕ). get_or l at 0) items ∙ same) ∙ is)
        | inr last ↦
            let here : x ≡ word + 1 = sym (ap (λ (l : List ℕ). get_or l at 0) items ∙ last.1) ∙ is in
            let place : at ≡ i = last.0 ∙ count in
            elim c.one_of.ensures [
              | inl shown ↦ inl (ap (λ (k : ℕ). get_or c.args.said.now k 0) place ∙ sym shown ∙ here)
              | inr own ↦ inr (ap (λ (k : ℕ). get_or c.args.own.now k 0) place ∙ sym own ∙ here)
            ]
      ];
    }

pub returns-clause-says : goal.returns-clause-says
returns-clause-says c = λ words says own_says at word is. elim (c.loop-index.invariant.each at word is) [
  | inl shown ↦ says at word shown
  | inr own ↦ own_says at word own
]
