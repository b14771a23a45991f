use Rattle.std.proofs.Common.{◌∷◌, ◌++◌, [], List, refl, sym, subst}
use Rattle.run_search.specs.Outcomes.{Ends}
use Rattle.room_outcomes.specs.Ends.{ends_of}
use Rattle.room_search.specs.declared.reached.Reached.{Reached}
use Rattle.room_search.specs.Reaching.{IsFound}
use Rattle.room_search.specs.Taking.{AreKept}
use Rattle.room_search.proofs.Taken.{ends_new, ends_old, found_last, found_there, kept_push}
use Rattle.room_search.proofs.taking.Taking.keep.Goals as goal

pub returns-then-not-added-clause-found : goal.returns-then-not-added-clause-found
returns-then-not-added-clause-found c =
    let kept = subst (λ (l : List Ends). AreKept l c.args.self.now.outcomes.items) (sym (ends_old c.args.self.now.ends.keys c.insert_full.new.self.keys c.ends_of.result c.in_ok-added.added c.in_ok-added.ensures.keys c.if-not-added.true c.in_ok-added.ensures.added)) c.requires in
    let stored = c.in_ok-added.ensures.stored in
    subst (IsFound c.args.self.now.outcomes.items) c.ends_of.ensures (found_there c.insert_full.new.self.keys c.args.self.now.outcomes.items c.in_ok-added.field-0-0 c.ends_of.result stored.0 kept stored.1 stored.2)

pub returns-clause-kept : goal.returns-clause-kept
returns-clause-kept c =
    subst (λ (l : List Ends). AreKept l c.push.new.self.items) (sym (ends_new c.args.self.now.ends.keys c.insert_full.new.self.keys c.ends_of.result c.in_ok-added.added c.in_ok-added.ensures.keys c.if-not-added.false c.in_ok-added.ensures.added))
    (subst (λ (l : List Reached). AreKept (c.args.self.now.ends.keys ++ c.ends_of.result ∷ []) l) (sym c.in_ok-push.ensures.items)
    (kept_push c.args.self.now.ends.keys c.args.self.now.outcomes.items c.ends_of.result _ c.ends_of.ensures c.requires))

pub returns-clause-found : goal.returns-clause-found
returns-clause-found c = found_last c.args.self.now.outcomes.items c.push.new.self.items _ (ends_of c.args.states.items) c.in_ok-push.ensures.items refl
