use Rattle.std.proofs.Common.{◌≡◌, ℕ, List, refl, sym, subst, ◌∙◌}
use Rattle.std.proofs.lemmas.Option.{same_Some}
use Rattle.room_search.specs.declared.local.Local.{Local}
use Rattle.room_search.specs.Steps.{AreWords, IsNext}
use Rattle.room_search.proofs.Moving.{said_once}
use Rattle.room_search.proofs.moves.Moves.next.Goals as goal

pub after_step-requires-clause-local : goal.after_step-requires-clause-local
after_step-requires-clause-local c = c.requires.moves.locals c.args.from.number c.in-Some.local.now (sym c.in-Some.ensures.key)

pub after_step-requires-clause-said : goal.after_step-requires-clause-said
after_step-requires-clause-said c =
    subst (AreWords c.args.subject.now.spec.now) (sym c.deref.ensures.value) (c.requires.moves.said c.args.from.said c.in-Some-get_index.said.now (sym c.in-Some-get_index.ensures.key))

pub returns : goal.returns
returns c = λ said local said_is local_is.
    let spec = c.args.subject.now.spec.now in
    let one : c.in-Some.local.now ≡ local = same_Some c.in-Some.local.now local (c.in-Some.ensures.key ∙ local_is) in
    let words : c.deref.result.now ≡ said =
    c.deref.ensures.value ∙ said_once c.args.self.now.said.keys c.args.from.said c.in-Some-get_index.said.now.items said (record { one = c.in-Some-get_index.said.now; is = sym c.in-Some-get_index.ensures.key; same = refl }) said_is in
    subst (λ (l : Local). IsNext spec said c.args.from.simulator l c.in_ok-next.next) one
    (subst (λ (w : List ℕ). IsNext spec w c.args.from.simulator c.in-Some.local.now c.in_ok-next.next) words
    (subst (λ (i : ℕ). IsNext spec c.deref.result.now i c.in-Some.local.now c.in_ok-next.next) c.from.ensures c.in_ok-next.ensures))
