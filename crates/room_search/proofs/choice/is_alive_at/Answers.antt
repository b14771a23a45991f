use Rattle.std.proofs.Common.{◌≡◌, sym, subst, ◌∙◌}
use Rattle.std.proofs.lemmas.Option.{none-some, same_Some}
use Rattle.room_core.specs.Calls.{configuration_of}
use Rattle.room_search.specs.Taking.{MustHaveCrashed}
use Rattle.room_search.proofs.choice.is_alive_at.Goals as goal

pub returns-in-None : goal.returns-in-None
returns-in-None c = λ no local there. absurd (none-some local (c.in-None.ensures.key ∙ there))

pub may_be_alive-requires-clause-local : goal.may_be_alive-requires-clause-local
may_be_alive-requires-clause-local c = c.requires.searched.moves.locals c.args.number c.in-Some.local.now (sym c.in-Some.ensures.key)

pub returns-in-Some : goal.returns-in-Some
returns-in-Some c = λ no local there.
    let subject = c.args.source.now.subject.now in
    let one : c.in-Some.local.now ≡ local = same_Some c.in-Some.local.now local (c.in-Some.ensures.key ∙ there) in
    subst (MustHaveCrashed subject.spec.now (configuration_of subject.start.now) c.args.node.now c.args.i) one (c.may_be_alive.ensures no)
