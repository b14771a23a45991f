use Rattle.std.proofs.Common.{◌≡◌, ◌∙◌, ◌++◌, [], ◌∷◌, false, Bool, List, ap, cond, subst, sym, arith}
use Rattle.std.specs.Prelude.{is_some}
use Rattle.std.specs.List.{list_any}
use Rattle.room_sample.specs.Groups.{ArePatterns, joined}
use Rattle.room_sample.specs.Samples.{Counted, counted_of}
use Rattle.room_sample.proofs.Counting.{Key, is_key}
use Rattle.room_sample.proofs.Joining.{as_many, begun, joined_there, pattern_more, patterns_stay}
use Rattle.room_sample.proofs.tally.Tally.join.Goals as goal

pub come_again-requires : goal.come_again-requires
come_again-requires c =
    let same = as_many c.args.self.now c.args.patterns.now.keys c.requires in
    let within = c.in-Some.ensures.within in
    omega (arith, same, within)

pub returns-clause-joined : goal.returns-clause-joined
returns-clause-joined c =
    c.come_again.ensures
    ∙ joined_there c.pattern_of-pattern.result (counted_of (c.args.states, c.args.outcome)) c.args.self.now c.args.patterns.now.keys c.in-Some.index c.pattern_of-pattern.ensures c.requires (sym c.get_index_of.ensures.index ∙ c.in-Some.is)

pub returns-clause-patterns : goal.returns-clause-patterns
returns-clause-patterns c =
    subst (λ (groups : List Counted). ArePatterns groups c.args.patterns.now.keys) (sym c.come_again.ensures)
    (patterns_stay c.args.self.now c.args.patterns.now.keys c.in-Some.index c.args.outcome.times c.requires)

pub returns-in_default-clause-joined : goal.returns-in_default-clause-joined
returns-in_default-clause-joined c =
    let key = c.pattern_of-pattern.result in
    let none : list_any (is_key key) c.args.patterns.now.keys ≡ false = sym c.get_index_of.ensures.found ∙ ap is_some c.in_default.is in
    c.in_ok-add.ensures ∙ begun key (counted_of (c.args.states, c.args.outcome)) c.args.self.now c.args.patterns.now.keys c.pattern_of-pattern.ensures c.requires none

pub returns-in_default-clause-patterns : goal.returns-in_default-clause-patterns
returns-in_default-clause-patterns c =
    let key = c.pattern_of-pattern.result in
    let one = counted_of (c.args.states, c.args.outcome) in
    let keys = c.args.patterns.now.keys in
    let none : list_any (is_key key) keys ≡ false = sym c.get_index_of.ensures.found ∙ ap is_some c.in_default.is in
    let groups = c.in_ok-add.ensures ∙ begun key one c.args.self.now keys c.pattern_of-pattern.ensures c.requires none in
    let patterns : c.insert.new.self.keys ≡ keys ++ key ∷ [] = c.in_ok-insert.ensures.keys ∙ ap (λ (b : Bool). cond b keys (keys ++ key ∷ [])) none in
    subst (λ (all : List Counted). ArePatterns all c.insert.new.self.keys) (sym groups)
    (subst (λ (all : List Key). ArePatterns (joined one c.args.self.now) all) (sym patterns) (pattern_more key one c.args.self.now keys c.pattern_of-pattern.ensures c.requires none))
