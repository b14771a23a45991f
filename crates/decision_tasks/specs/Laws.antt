-- What a line of a task says in other words.
use Rattle.std.specs.Prelude.{◌≡◌, ℕ, List, [], ◌∷◌, Option, Some, slice_get}
use Rattle.std.specs.List.{Contains}
use Rattle.protocol_lang.specs.Trees.{Number, Named, Calling, Tree}
use Rattle.protocol_lang.specs.declared.tree.Name.TheVariants.{Input, Round, Mine, Count}
use Rattle.protocol_lang.specs.declared.tree.Call.TheVariants as calls
use Rattle.protocol_lang.specs.declared.tree.Comparator.TheVariants as comparators
use Rattle.protocol_lang.specs.declared.tree.Kind.TheVariants.{Decide}

-- the line `equal(mine) == count and given >= 1`
abbrev pub agreement : Tree
agreement = record {
  first = Named Input;
  rules = record {
    conditions = record { left = Calling calls.Equal (Named Mine); comparator = comparators.Equal; right = Named Count } ∷ record { left = Named Round; comparator = comparators.GreaterOrEqual; right = Number 1 } ∷ [];
    action_rule = record { kind = Decide; value = Number 1 };
  } ∷ [];
  last = record { kind = Decide; value = Number 0 };
}

-- all who have decided have decided the same, and it is the input of some process
pub record IsAgreement (inputs : List ℕ) (decisions : List (Option ℕ)) : Type 0 where
  pub input : (p v : ℕ) → slice_get decisions p ≡ Some (Some v) → Contains inputs v
  pub same : (p q v w : ℕ) → slice_get decisions p ≡ Some (Some v) → slice_get decisions q ≡ Some (Some w) → v ≡ w
