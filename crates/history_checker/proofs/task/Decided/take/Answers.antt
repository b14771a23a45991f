use Rattle.std.proofs.Common.{◌≤◌, ◌<◌, ◌++◌, ◌∷◌, [], ℕ, List, eqb, length, sym, ap, ◌∙◌, arith}
use Rattle.std.specs.List.{list_any}
use Rattle.history_checker.proofs.Tallies.{allows_again, allows_more, refuses_more}
use Rattle.history_checker.proofs.task.Decided.take.Goals as goal

pub returns-then-contains : goal.returns-then-contains
returns-then-contains c =
    let input = sym c.has_input.ensures ∙ c.if-not-has_input.false in
    let there = ap (λ (l : List ℕ). list_any (λ y. eqb y c.args.v) l) (sym c.self.view_is ∙ sym c.deref.ensures.0) ∙ sym c.contains.ensures.value ∙ c.if-contains.true in
    allows_again c.args.spec.now c.args.most c.args.v c.args.self.now input there

pub returns-then-len-most : goal.returns-then-len-most
returns-then-len-most c =
    let fresh = ap (λ (l : List ℕ). list_any (λ y. eqb y c.args.v) l) (sym c.self.view_is ∙ sym c.deref.ensures.0) ∙ sym c.contains.ensures.value ∙ c.if-contains.false in
    let full : c.args.most ≤ length c.args.self.now = let long = ap (λ (l : List ℕ). length l) c.self.view_is in let is = c.len.ensures.value in let most = c.if-len-most.true in omega (arith, long, is, most) in
    refuses_more c.args.spec.now c.args.most c.args.v c.args.self.now fresh full c.args.self.now

pub returns : goal.returns
returns c =
    let input = sym c.has_input.ensures ∙ c.if-not-has_input.false in
    let fresh = ap (λ (l : List ℕ). list_any (λ y. eqb y c.args.v) l) (sym c.self.view_is ∙ sym c.deref.ensures.0) ∙ sym c.contains.ensures.value ∙ c.if-contains.false in
    let room : length c.args.self.now < c.args.most = let long = ap (λ (l : List ℕ). length l) c.self.view_is in let is = c.len.ensures.value in let less = c.if-len-most.false in omega (arith, long, is, less) in
    allows_more c.args.spec.now c.args.most c.args.v c.args.self.now input fresh room c.push.new.self.items (c.push.ensures.items ∙ ap (λ (l : List ℕ). l ++ c.args.v ∷ []) c.self.view_is)
