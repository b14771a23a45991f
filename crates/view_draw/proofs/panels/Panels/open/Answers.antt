use Rattle.std.proofs.Common.{◌≡◌, ◌∙◌, ◌-◌, [], ◌∷◌, ◌++◌, ℕ, List, Some, None, length, take, ap, subst, sym, arith}
use Rattle.std.specs.Map.{lookup}
use Rattle.std.specs.Vec.{vec_len}
use Rattle.std.specs.Str.{bytes_eq}
use Rattle.simulator_lanes.specs.Panels.{Panel}
use Rattle.view_draw.specs.Drawn.{AreIndexed, Places, fresh}
use Rattle.view_draw.proofs.Changing.{first_ones}
use Rattle.view_draw.proofs.Indexing.{Changes, none_of, opened}
use Rattle.view_draw.proofs.panels.Panels.open.Goals as goal

pub invariant_of-self-in-Ok : goal.invariant_of-self-in-Ok
invariant_of-self-in-Ok c =
    let name : c.in_ok-name.name ≡ c.args.head.spec.name = ◌∙◌ {A = List ℕ} c.in_ok-name.ensures.cases c.name.ensures in
    subst (AreIndexed c.insert.new.self.entries) (sym (c.in_ok-push.ensures.items ∙ ap (λ (panel : Panel). c.self.inside.panels.items ++ panel ∷ []) c.new.ensures))
    (opened c.self.inside.places.entries c.insert.new.self.entries c.self.inside.panels.items c.args.head c.self.invariant
    (subst (λ (n : List ℕ). lookup (bytes_eq n) c.self.inside.places.entries ≡ None) name (none_of (lookup (bytes_eq c.in_ok-name.name) c.self.inside.places.entries) c.if-contains_key.ensures))
    (subst (λ (n : List ℕ). Changes c.self.inside.places.entries c.insert.new.self.entries n (Some (length c.self.inside.panels.items))) name
    (subst (λ (place : ℕ). Changes c.self.inside.places.entries c.insert.new.self.entries c.in_ok-name.name (Some place)) (ap length c.as_slice-place.ensures.value) c.in-Ok.ensures.updates.0)))

pub invariant_of-self : goal.invariant_of-self
invariant_of-self c = subst (AreIndexed c.self.inside.places.entries) (sym c.in_err-push.ensures.items) c.self.invariant

pub invariant_of-self-in-Err : goal.invariant_of-self-in-Err
invariant_of-self-in-Err c =
    let olds = c.self.inside.panels.items in
    let count : vec_len c.push.new.self - 1 ≡ length olds = omega (arith, c.in_ok-push.ensures.len, c.as_slice-place.ensures.len, ap length c.as_slice-place.ensures.value) in
    let left : c.pop.new.self.items ≡ olds =
    c.pop.ensures.rest ∙ ap (λ (n : ℕ). take n c.push.new.self.items) count ∙ ap (take (length olds)) c.in_ok-push.ensures.items ∙ first_ones olds c.new.result in
    subst (AreIndexed c.insert.new.self.entries) (sym left) (subst (λ (places : Places). AreIndexed places c.self.inside.panels.items) (sym c.in-Err.ensures.err) c.self.invariant)

pub returns-in-Ok-clause-added : goal.returns-in-Ok-clause-added
returns-in-Ok-clause-added c =
    c.in_ok-push.ensures.items ∙ ap (λ (panel : Panel). c.self.inside.panels.items ++ panel ∷ []) c.new.ensures ∙ ap (λ (panels : List Panel). panels ++ fresh c.args.head ∷ []) c.self.view_is
