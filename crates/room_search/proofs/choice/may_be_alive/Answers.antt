use Rattle.std.proofs.Common.{List, ℕ, inl, inr, sym, subst, ◌∙◌}
use Rattle.room_search.specs.Saying.{DoSay}
use Rattle.room_search.proofs.choice.may_be_alive.Goals as goal

pub returns-then-has_crashed : goal.returns-then-has_crashed
returns-then-has_crashed c = λ no. inl (c.has_crashed.ensures c.if-has_crashed.true)

pub returns : goal.returns
returns c = λ no. inr (λ words says. c.may_rest.ensures no words (subst (λ (l : List ℕ). DoSay l words) (sym (c.deref.ensures.value ∙ c.said.ensures)) says))
