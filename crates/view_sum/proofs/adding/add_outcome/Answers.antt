use Rattle.std.proofs.Common.{◌≡◌, ◌∙◌, ◌+◌, ◌++◌, [], ◌∷◌, false, Bool, List, ap, cond, map, subst, sym, arith, ℕ}
use Rattle.std.specs.Prelude.{is_some}
use Rattle.std.specs.List.{list_any}
use Rattle.room_sample.specs.Shown.{Shown, shown_of}
use Rattle.view_sum.specs.Adding.{ArePatterns}
use Rattle.view_sum.specs.Samples.{schedules_in}
use Rattle.view_sum.proofs.Joining.{Key, as_many, begun, is_key, joined_there, pattern_more, patterns_stay, pushed, sums_are, with_total}
use Rattle.view_sum.proofs.adding.add_outcome.Goals as goal

pub come_again-requires-clause-within : goal.come_again-requires-clause-within
come_again-requires-clause-within c =
    let same = as_many c.args.grouped c.args.outcomes.now.items c.args.patterns.now.keys c.requires.patterns in
    let within = c.in-Some.ensures.within in
    omega (arith, same, within)

pub returns-clause-outcomes : goal.returns-clause-outcomes
returns-clause-outcomes c =
    c.come_again.ensures.more
    ∙ joined_there c.args.grouped c.pattern_by-pattern.result (shown_of c.args.one.now) (map shown_of c.args.outcomes.now.items) c.args.patterns.now.keys c.in-Some.index c.pattern_by-pattern.ensures c.requires.patterns (sym c.get_index_of.ensures.index ∙ c.in-Some.is)

pub returns-clause-patterns : goal.returns-clause-patterns
returns-clause-patterns c =
    subst (λ (outcomes : List Shown). ArePatterns c.args.grouped outcomes c.args.patterns.now.keys) (sym c.come_again.ensures.more)
    (patterns_stay c.args.grouped (map shown_of c.args.outcomes.now.items) c.args.patterns.now.keys c.in-Some.index c.args.one.now.times c.requires.patterns)

pub returns-clause-total : goal.returns-clause-total
returns-clause-total c =
    sums_are c.come_again.new.outcomes.items ∙ ap schedules_in (returns-clause-outcomes c)
    ∙ with_total c.args.grouped (shown_of c.args.one.now) (map shown_of c.args.outcomes.now.items)
    ∙ ap (λ (n : ℕ). n + c.args.one.now.times) (sym (sums_are c.args.outcomes.now.items))

pub returns-in_default-clause-outcomes : goal.returns-in_default-clause-outcomes
returns-in_default-clause-outcomes c =
    let key = c.pattern_by-pattern.result in
    let none : list_any (is_key key) c.args.patterns.now.keys ≡ false = sym c.get_index_of.ensures.found ∙ ap is_some c.in_default.is in
    pushed c.args.outcomes.now.items c.push.new.self.items c.in_ok-copy_of.field-0 (shown_of c.args.one.now) c.in_ok-push.ensures.items c.in_ok-copy_of.ensures
    ∙ begun c.args.grouped key (shown_of c.args.one.now) (map shown_of c.args.outcomes.now.items) c.args.patterns.now.keys c.pattern_by-pattern.ensures c.requires.patterns none

pub returns-in_default-clause-patterns : goal.returns-in_default-clause-patterns
returns-in_default-clause-patterns c =
    let key = c.pattern_by-pattern.result in
    let keys = c.args.patterns.now.keys in
    let none : list_any (is_key key) keys ≡ false = sym c.get_index_of.ensures.found ∙ ap is_some c.in_default.is in
    let patterns : c.insert.new.self.keys ≡ keys ++ key ∷ [] = c.in_ok-insert.ensures.keys ∙ ap (λ (b : Bool). cond b keys (keys ++ key ∷ [])) none in
    let all = pushed c.args.outcomes.now.items c.push.new.self.items c.in_ok-copy_of.field-0 (shown_of c.args.one.now) c.in_ok-push.ensures.items c.in_ok-copy_of.ensures in
    subst (λ (outcomes : List Shown). ArePatterns c.args.grouped outcomes c.insert.new.self.keys) (sym all)
    (subst (λ (keys : List Key). ArePatterns c.args.grouped (map shown_of c.args.outcomes.now.items ++ shown_of c.args.one.now ∷ []) keys) (sym patterns)
    (pattern_more c.args.grouped key (shown_of c.args.one.now) (map shown_of c.args.outcomes.now.items) keys c.pattern_by-pattern.ensures c.requires.patterns))
