use Rattle.std.proofs.Common.{◌≡◌, Option, Some, None, refl, sym, ap, ◌∙◌, subst}
use Rattle.std.specs.List.{find}
use Rattle.std.specs.Option.{option_map}
use Rattle.protocol_lang.specs.Trees.{Expression, RuleOf, ActionRuleOf, Tree}
use Rattle.protocol_lang.specs.Meaning.{Environment, applies, action_of, action_by, action_in}
use Rattle.protocol_lang.proofs.meaning.action_in.Goals as goal

no_rule : (s : Environment) (last : ActionRuleOf Expression) (found : Option (RuleOf Expression)) → None ≡ option_map (λ rule. action_of s rule.action_rule) found → action_by s last found ≡ action_of s last
no_rule s last None e = refl
no_rule s last (Some rule) e = absurd cc

pub returns-in-None : goal.returns-in-None
returns-in-None c =
    let s = c.args.environment.now in
    let P : Tree → Type 0 = λ tree. c.action_of.result ≡ action_in tree s in
    subst P c.tree.view_is (c.action_of.ensures ∙ sym (no_rule s c.tree.inside.last (find (applies s) c.tree.inside.rules.items) (sym c.in-None.is ∙ c.action_by.ensures ∙ ap (λ rules. option_map (λ rule. action_of s rule.action_rule) (find (applies s) rules)) c.as_slice.ensures.value)))
