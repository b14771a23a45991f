use Rattle.std.proofs.Common.{◌≡◌, ℕ, List, get_or, set, sym, subst, ap, ◌∙◌, arith}
use Rattle.std.specs.Prelude.{slice_get}
use Rattle.run_search.specs.declared.local_state.LocalState.{LocalState}
use Rattle.run_search.specs.declared.local_state.Origin.{Origin}
use Rattle.run_search.specs.Nodes.{Moves}
use Rattle.run_search.specs.States.{blank}
use Rattle.run_search.specs.Steps.{lasts}
use Rattle.run_search.proofs.Entering.{before_covered, first_goes, parent_after, parent_at, parent_earlier, parent_whole, write_due, write_goes}
use Rattle.run_search.proofs.walk.+enter.Goals as goal

pub returns-then-index-eq0-clause-goes : goal.returns-then-index-eq0-clause-goes
returns-then-index-eq0-clause-goes t c =
    let first = c.requires.gathered.first in
    let zero_is : c.args.index ≡ 0 = omega (arith, c.if-index-eq0.true) in
    first_goes c.args.spec.now c.args.nodes.now first.0 c.args.run.now.state.items c.args.state.now.items c.requires.gathered first.1 (c.requires.covers first.0 (ap (slice_get c.args.nodes.now) zero_is ∙ first.1)) c.requires.first

pub bounds-nodes-from : goal.bounds-nodes-from
bounds-nodes-from t c =
    let spec = c.args.spec.now in
    let nodes = c.args.nodes.now in
    let node = c.index-nodes-index.result in
    let at = parent_at spec nodes c.args.index node c.requires.gathered (omega (arith, c.if-index-eq0.false)) c.requires.there c.index-nodes-index.is in
    let earlier = parent_earlier spec nodes c.args.index node c.origin-origin.result at.1 c.origin-origin.ensures in
    omega (arith, earlier, c.requires.there)

pub before-before-requires-clause-whole : goal.before-before-requires-clause-whole
before-before-requires-clause-whole t c =
    let spec = c.args.spec.now in
    let nodes = c.args.nodes.now in
    let node = c.index-nodes-index.result in
    let at = parent_at spec nodes c.args.index node c.requires.gathered (omega (arith, c.if-index-eq0.false)) c.requires.there c.index-nodes-index.is in
    parent_whole spec nodes c.args.index node c.index-nodes-from.result c.origin-origin.result c.requires.gathered at.1 c.origin-origin.ensures c.index-nodes-from.is

pub before-before-requires-clause-after : goal.before-before-requires-clause-after
before-before-requires-clause-after t c =
    let spec = c.args.spec.now in
    let nodes = c.args.nodes.now in
    let node = c.index-nodes-index.result in
    let at = parent_at spec nodes c.args.index node c.requires.gathered (omega (arith, c.if-index-eq0.false)) c.requires.there c.index-nodes-index.is in
    parent_after spec nodes c.args.index node c.index-nodes-from.result c.origin-origin.result at.1 c.origin-origin.ensures c.index-nodes-from.is

pub before-before-requires-clause-covers : goal.before-before-requires-clause-covers
before-before-requires-clause-covers t c =
    let spec = c.args.spec.now in
    let nodes = c.args.nodes.now in
    let node = c.index-nodes-index.result in
    let at = parent_at spec nodes c.args.index node c.requires.gathered (omega (arith, c.if-index-eq0.false)) c.requires.there c.index-nodes-index.is in
    c.requires.covers node at.0

pub enter-requires : goal.enter-requires
enter-requires t c =
    let spec = c.args.spec.now in
    let nodes = c.args.nodes.now in
    let node = c.index-nodes-index.result in
    let at = parent_at spec nodes c.args.index node c.requires.gathered (omega (arith, c.if-index-eq0.false)) c.requires.there c.index-nodes-index.is in
    let earlier = parent_earlier spec nodes c.args.index node c.origin-origin.result at.1 c.origin-origin.ensures in
    (omega (arith, earlier, c.decreases), (c.requires.gathered, (omega (arith, earlier, c.requires.there), ((λ one is. before_covered spec nodes node c.index-nodes-from.result one c.origin-origin.result.from c.args.state.now.items c.before-before.result.items c.index-nodes-from.is is c.before-before.ensures), (c.requires.run, c.requires.first)))))

pub take-requires-clause-process : goal.take-requires-clause-process
take-requires-clause-process t c =
    let spec = c.args.spec.now in
    let nodes = c.args.nodes.now in
    let node = c.index-nodes-index.result in
    let at = parent_at spec nodes c.args.index node c.requires.gathered (omega (arith, c.if-index-eq0.false)) c.requires.there c.index-nodes-index.is in
    let after = parent_after spec nodes c.args.index node c.index-nodes-from.result c.origin-origin.result at.1 c.origin-origin.ensures c.index-nodes-from.is in
    let process = c.from.ensures ∙ ap (λ (o : Origin). o.process) c.origin-origin.ensures in
    omega (arith, process, after.within)

pub take-requires-clause-due : goal.take-requires-clause-due
take-requires-clause-due t c =
    let spec = c.args.spec.now in
    let nodes = c.args.nodes.now in
    let node = c.index-nodes-index.result in
    let at = parent_at spec nodes c.args.index node c.requires.gathered (omega (arith, c.if-index-eq0.false)) c.requires.there c.index-nodes-index.is in
    let read = c.index-nodes-from.result in
    let after = parent_after spec nodes c.args.index node read c.origin-origin.result at.1 c.origin-origin.ensures c.index-nodes-from.is in
    let whole = parent_whole spec nodes c.args.index node read c.origin-origin.result c.requires.gathered at.1 c.origin-origin.ensures c.index-nodes-from.is in
    let process = c.from.ensures ∙ ap (λ (o : Origin). o.process) c.origin-origin.ensures in
    let due = write_due spec read node c.args.state.now.items c.before-before.result.items whole.is c.before-before.ensures after in (
      after.next,
      subst (λ (p : ℕ). Moves spec (lasts c.go_to.new.self.state.items) p (get_or c.go_to.new.self.state.items p blank) after.next) (sym process)
          (subst (λ (s : List LocalState). Moves spec (lasts s) node.origin.process (get_or s node.origin.process blank) after.next) (sym c.in_ok-go_to.ensures.state) due),
    )

pub returns-clause-goes : goal.returns-clause-goes
returns-clause-goes t c =
    let spec = c.args.spec.now in
    let nodes = c.args.nodes.now in
    let node = c.index-nodes-index.result in
    let at = parent_at spec nodes c.args.index node c.requires.gathered (omega (arith, c.if-index-eq0.false)) c.requires.there c.index-nodes-index.is in
    let read = c.index-nodes-from.result in
    let after = parent_after spec nodes c.args.index node read c.origin-origin.result at.1 c.origin-origin.ensures c.index-nodes-from.is in
    let whole = parent_whole spec nodes c.args.index node read c.origin-origin.result c.requires.gathered at.1 c.origin-origin.ensures c.index-nodes-from.is in
    let process = c.from.ensures ∙ ap (λ (o : Origin). o.process) c.origin-origin.ensures in
    let old = c.before-before.result.items in
    let taken : (new : LocalState) → Moves spec (lasts old) node.origin.process (get_or old node.origin.process blank) new → c.take.new.self.state.items ≡ set old node.origin.process new =
    subst (λ (s : List LocalState). (new : LocalState) → Moves spec (lasts s) node.origin.process (get_or s node.origin.process blank) new → c.take.new.self.state.items ≡ set s node.origin.process new) c.in_ok-go_to.ensures.state
    (subst (λ (p : ℕ). (new : LocalState) → Moves spec (lasts c.go_to.new.self.state.items) p (get_or c.go_to.new.self.state.items p blank) new → c.take.new.self.state.items ≡ set c.go_to.new.self.state.items p new) process c.in_ok-take.ensures.state) in
    write_goes spec read node c.args.state.now.items old c.take.new.self.state.items whole.is after c.before-before.ensures (c.requires.covers node at.0) taken
