use Rattle.std.proofs.Common.{◌≡◌, false, ℕ, List, length, sym, subst, arith}
use Rattle.room_core.specs.Calls.{configuration_of}
use Rattle.room_search.specs.Saying.{DoSay}
use Rattle.room_search.specs.Taking.{MustHaveCrashed}
use Rattle.room_search.proofs.Noting.{left_chosen, must_crash}
use Rattle.room_search.proofs.choice.Choice.with_local.Goals as goal

pub returns-in_default-clause-chosen : goal.returns-in_default-clause-chosen
returns-in_default-clause-chosen c = λ crashed words may_be.
    let subject = c.args.source.now.subject.now in
    let start = configuration_of subject.start.now in
    let i = length c.args.self.now.numbers.items in
    let none = c.in_default.ensures.none in
    let why : MustHaveCrashed subject.spec.now start c.args.node.now i c.args.local.now = subst (λ (k : ℕ). MustHaveCrashed subject.spec.now start c.args.node.now k c.args.local.now) c.len-i.ensures.value (c.may_be_alive-is_alive.ensures none.0) in
    let must = must_crash subject.spec.now start c.args.node.now i c.args.local.now why crashed words may_be in
    omega (arith, must, none.1)

pub returns-clause-chosen : goal.returns-clause-chosen
returns-clause-chosen c =
    let subject = c.args.source.now.subject.now in
    let start = configuration_of subject.start.now in
    let self = c.args.self.now in
    let i = length self.numbers.items in
    let joined = c.in_ok-said.ensures in
    let why : c.may_be_alive-is_alive.result ≡ false → MustHaveCrashed subject.spec.now start c.args.node.now i c.args.local.now = λ no. subst (λ (k : ℕ). MustHaveCrashed subject.spec.now start c.args.node.now k c.args.local.now) c.len-i.ensures.value (c.may_be_alive-is_alive.ensures no) in
    record {
      says = λ words says own. joined.says words (subst (λ (l : List ℕ). DoSay l words) (sym c.as_slice.ensures.value) says) (subst (λ (l : List ℕ). DoSay l words) (sym c.as_slice-2.ensures.value) own);
      left = left_chosen subject.spec.now start c.args.node.now i c.args.local.now c.may_be_alive-is_alive.result self.left c.in-Some.left why c.in-Some.ensures.few c.in-Some.ensures.same;
    }
