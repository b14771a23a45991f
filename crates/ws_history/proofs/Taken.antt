-- Events that are taken one after the other.
use Rattle.std.proofs.Common.{◌≡◌, List, [], ◌++◌, sym, subst}
use Rattle.std.proofs.lemmas.List.{append_assoc, append-nil}
use Rattle.transcript.specs.declared.event.Event.{Event}
use Rattle.ws_history.specs.Taking.{Keeps, TakesMore}

pub takes_none : (before : Keeps) → TakesMore before [] before
takes_none before = λ name taken has. subst (before name) (sym (append-nil taken)) has

pub takes_both : (before middle after : Keeps) (first rest : List Event) → TakesMore before first middle → TakesMore middle rest after → TakesMore before (first ++ rest) after
takes_both before middle after first rest one more = λ name taken has. subst (after name) (append_assoc taken first rest) (more name (taken ++ first) (one name taken has))

pub takes_as : (before after : Keeps) (first other : List Event) → first ≡ other → TakesMore before first after → TakesMore before other after
takes_as before after first other same takes = subst (λ (l : List Event). TakesMore before l after) same takes
