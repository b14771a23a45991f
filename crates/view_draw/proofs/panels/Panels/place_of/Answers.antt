use Rattle.std.proofs.Common.{◌≡◌, ◌∙◌, ℕ, Option, subst, sym}
use Rattle.std.specs.Map.{lookup}
use Rattle.std.specs.Str.{bytes_eq}
use Rattle.view_draw.specs.Drawn.{IsPlace, is_of}
use Rattle.view_draw.proofs.Places.{within_if}
use Rattle.view_draw.proofs.panels.Panels.place_of.Goals as goal

pub returns-clause-within : goal.returns-clause-within
returns-clause-within c =
    let found : c.copied.result ≡ lookup (bytes_eq c.args.name.now) c.self.inside.places.entries = c.copied.ensures ∙ c.get.ensures.value in
    let there : IsPlace c.copied.result (is_of c.args.name.now) c.self.inside.panels.items = subst (λ (place : Option ℕ). IsPlace place (is_of c.args.name.now) c.self.inside.panels.items) (sym found) (c.self.invariant c.args.name.now) in
    within_if (is_of c.args.name.now) c.args.self.now c.copied.result (subst (IsPlace c.copied.result (is_of c.args.name.now)) c.self.view_is there)

pub returns-clause-place : goal.returns-clause-place
returns-clause-place c =
    let found : c.copied.result ≡ lookup (bytes_eq c.args.name.now) c.self.inside.places.entries = c.copied.ensures ∙ c.get.ensures.value in
    let there : IsPlace c.copied.result (is_of c.args.name.now) c.self.inside.panels.items = subst (λ (place : Option ℕ). IsPlace place (is_of c.args.name.now) c.self.inside.panels.items) (sym found) (c.self.invariant c.args.name.now) in
    subst (IsPlace c.copied.result (is_of c.args.name.now)) c.self.view_is there
