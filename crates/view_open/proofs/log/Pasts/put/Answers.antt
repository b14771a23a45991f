use Rattle.std.proofs.Common.{◌≡◌, ◌∙◌, ◌++◌, ℕ, List, false, ap, sym, subst}
use Rattle.std.specs.Global.{Vec}
use Rattle.std.specs.Str.{bytes_eq}
use Rattle.view_open.proofs.Noting.{apart, kept_beside, key_test}
use Rattle.view_open.proofs.log.Pasts.put.Goals as goal

pub returns-clause-others : goal.returns-clause-others
returns-clause-others c = λ other differs.
    let copy = c.in_ok-extend_from_slice.ensures.items ∙ ap (λ (bytes : List ℕ). bytes ++ c.args.name.now) c.in_ok-copy.ensures.items in
    kept_beside _ _ _ _ c.in_ok-insert.ensures.updates.3 (λ (key : Vec ℕ). bytes_eq other key.items) (key_test other) (apart c.extend_from_slice.new.self.items other (subst (λ (bytes : List ℕ). bytes_eq other bytes ≡ false) (sym copy) differs))
