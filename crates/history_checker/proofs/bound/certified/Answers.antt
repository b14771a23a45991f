use Rattle.std.proofs.Common.{◌≡◌, ◌↔◌, ℕ, ◌<◌, ◌≤◌, Some, subst, arith}
use Rattle.protocol_lang.specs.Trees.{Tree}
use Rattle.protocol_lang.specs.Thresholds.{waits_for_all_but}
use Rattle.room_spec.specs.Rooms.{processes}
use Rattle.transcript.proofs.CallerLemmas.{decides_few, decides_inputs}
use Rattle.history_checker.proofs.Certifying.{IsThreshold, by_threshold, none_certified, some_certified, too_many}
use Rattle.history_checker.proofs.bound.certified.Goals as goal

pub returns-in_default-clause-exact : goal.returns-in_default-clause-exact
returns-in_default-clause-exact c =
    let is = subst (λ (tree : Tree). (f : ℕ) → (c.threshold.result ≡ Some f) ↔ (tree ≡ waits_for_all_but f)) c.protocol.ensures c.threshold.ensures in
    none_certified c.args.spec.now (subst (IsThreshold c.args.spec.now) c.in_default.is is)

pub returns-then-missed-n-clause-exact : goal.returns-then-missed-n-clause-exact
returns-then-missed-n-clause-exact c =
    let is = subst (λ (tree : Tree). (f : ℕ) → (c.threshold.result ≡ Some f) ↔ (tree ≡ waits_for_all_but f)) c.protocol.ensures c.threshold.ensures in
    let fewer : c.in-Some.missed < processes c.args.spec.now = let n = c.n.ensures.value in let less = c.if-missed-n.true in omega (arith, n, less) in
    some_certified c.args.spec.now c.in-Some.missed (subst (IsThreshold c.args.spec.now) c.in-Some.is is) fewer

pub returns-then-missed-n-clause-few : goal.returns-then-missed-n-clause-few
returns-then-missed-n-clause-few c = λ events run.
    let is = subst (λ (tree : Tree). (f : ℕ) → (c.threshold.result ≡ Some f) ↔ (tree ≡ waits_for_all_but f)) c.protocol.ensures c.threshold.ensures in
    let fewer : c.in-Some.missed < processes c.args.spec.now = let n = c.n.ensures.value in let less = c.if-missed-n.true in omega (arith, n, less) in
    decides_few c.args.spec.now c.in-Some.missed events (by_threshold c.args.spec.now c.in-Some.missed (subst (IsThreshold c.args.spec.now) c.in-Some.is is) fewer) run

pub returns-then-missed-n-clause-inputs : goal.returns-then-missed-n-clause-inputs
returns-then-missed-n-clause-inputs c = λ events v run at.
    let is = subst (λ (tree : Tree). (f : ℕ) → (c.threshold.result ≡ Some f) ↔ (tree ≡ waits_for_all_but f)) c.protocol.ensures c.threshold.ensures in
    let fewer : c.in-Some.missed < processes c.args.spec.now = let n = c.n.ensures.value in let less = c.if-missed-n.true in omega (arith, n, less) in
    decides_inputs c.args.spec.now c.in-Some.missed events (by_threshold c.args.spec.now c.in-Some.missed (subst (IsThreshold c.args.spec.now) c.in-Some.is is) fewer) run v at

pub returns-else-missed-n-clause-exact : goal.returns-else-missed-n-clause-exact
returns-else-missed-n-clause-exact c =
    let is = subst (λ (tree : Tree). (f : ℕ) → (c.threshold.result ≡ Some f) ↔ (tree ≡ waits_for_all_but f)) c.protocol.ensures c.threshold.ensures in
    let many : processes c.args.spec.now ≤ c.in-Some.missed = let n = c.n.ensures.value in let more = c.if-missed-n.false in omega (arith, n, more) in
    too_many c.args.spec.now c.in-Some.missed (subst (IsThreshold c.args.spec.now) c.in-Some.is is) many
