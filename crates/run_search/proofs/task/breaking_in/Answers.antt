use Rattle.std.proofs.Common.{List, None, Some, length, refl, sym, subst, ap, ◌∙◌, arith}
use Rattle.std.proofs.lemmas.Option.{slice_get-get_or, slice_get_within}
use Rattle.run_search.specs.Breaking.{IsLeastPick}
use Rattle.run_search.specs.States.{State}
use Rattle.run_search.proofs.Allowing.{kept_in}
use Rattle.run_search.proofs.Breaking.{least_in, none_in}
use Rattle.run_search.proofs.task.breaking_in.Goals as goal

pub returns-then-keeps_all : goal.returns-then-keeps_all
returns-then-keeps_all c = kept_in c.args.spec.now c.args.most c.args.node.now (c.if-keeps_all.ensures refl)

pub returns-in_default : goal.returns-in_default
returns-in_default c =
    none_in c.args.spec.now c.args.most c.args.node.now c.in_ok-picks.picks.items c.in_ok-picks.ensures
    (subst (λ (l : List State). IsLeastPick c.args.spec.now c.args.most l (length l) None) c.as_slice.ensures.value (subst (IsLeastPick c.args.spec.now c.args.most c.as_slice.result.now (length c.as_slice.result.now)) c.in_default.is c.least_breaking_pick.ensures))

pub index-requires : goal.index-requires
index-requires c =
    let one = c.least_breaking_pick.ensures.some c.in-Some.index c.in-Some.is in
    let inside = slice_get_within c.as_slice.result.now c.in-Some.index one.0 one.1 in
    let long = ap (λ (l : List State). length l) c.as_slice.ensures.value in
    omega (arith, inside, long, c.as_slice.ensures.len)

pub returns : goal.returns
returns c =
    let found = subst (λ (l : List State). IsLeastPick c.args.spec.now c.args.most l (length l) (Some c.in-Some.index)) c.as_slice.ensures.value (subst (IsLeastPick c.args.spec.now c.args.most c.as_slice.result.now (length c.as_slice.result.now)) c.in-Some.is c.least_breaking_pick.ensures) in
    let one = found.some c.in-Some.index refl in
    let inside = slice_get_within c.in_ok-picks.picks.items c.in-Some.index one.0 one.1 in
    least_in c.args.spec.now c.args.most c.args.node.now c.in_ok-picks.picks.items c.in-Some.index c.copied.result c.index.result.now c.in_ok-picks.ensures found
    (slice_get-get_or c.in_ok-picks.picks.items c.in-Some.index c.index.result.now inside ∙ ap Some (sym c.index.ensures)) c.copied.ensures
