-- Choices after which the same outcomes are taken.
use Rattle.std.specs.Prelude.{◌≡◌, List}
use Rattle.std.specs.List.{Contains}
use Rattle.room_search.specs.declared.premise.Premise.{Premise}

-- one is there with which the same is said, and as many more may crash
pub record HasAlike (premises : List Premise) (premise : Premise) : Type 0 where
  pub other : Premise
  pub there : Contains premises other
  pub said : other.said.items ≡ premise.said.items
  pub left : other.left ≡ premise.left
