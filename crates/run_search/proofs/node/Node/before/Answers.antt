use Rattle.std.proofs.Common.{ℕ, List, get_or, length, sym, subst, ap, arith}
use Rattle.std.specs.List.{Contains}
use Rattle.std.proofs.lemmas.List.{length_push}
use Rattle.run_search.specs.declared.local_state.LocalState.{LocalState}
use Rattle.run_search.specs.Nodes.{IsLocalBefore, set_of}
use Rattle.run_search.specs.States.{blank}
use Rattle.run_search.proofs.Listing.{each_push}
use Rattle.run_search.proofs.node.Node.before.Goals as goal

pub local_before-requires-clause-there : goal.local_before-requires-clause-there
local_before-requires-clause-there c =
    let q = c.loop-q.q in
    subst (λ (l : List LocalState). Contains (set_of c.args.node.now q) (get_or l q blank)) (sym c.as_slice.ensures.value) (c.requires.covers.each q (omega (arith, c.loop-q-test.true, c.n-q-end.ensures.value)))

pub loop-q-preserved : goal.loop-q-preserved
loop-q-preserved c =
    let q = c.loop-q.q in
    let state = c.args.state.now.items in
    let P : ℕ → LocalState → Type 0 = λ r local. IsLocalBefore c.args.spec.now c.args.self.now c.args.node.now r (get_or state r blank) local in
    let last = subst (λ (l : List LocalState). IsLocalBefore c.args.spec.now c.args.self.now c.args.node.now q (get_or l q blank) c.local_before.result) c.as_slice.ensures.value c.local_before.ensures in
    record {
      width = let wide = ap (λ (l : List LocalState). length l) c.push.ensures.items in let before = c.loop-q.invariant.width in omega (arith, wide, before, length_push c.loop-q.old.items c.local_before.result);
      each = each_push P c.loop-q.old.items c.push.new.self.items c.local_before.result q c.push.ensures.items c.loop-q.invariant.width c.loop-q.invariant.each last;
    }
