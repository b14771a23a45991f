-- What it means to settle a room, for rooms of any kind: over words, and over fields. Simulators take single steps alone.
use Rattle.std.specs.Prelude.{ℕ, zero, suc, Bool, if◌then◌else◌}

-- What settling sees of a room and does with it. count: how many simulators it has. most: a number of atomic steps that none
-- of them exceeds in all its turns. has_crashed, in_turn, has_step: whether a simulator has crashed, is in an open turn,
-- has a step to take. step: the room after a call of its step. wake: the room where its quiet turns are counted anew.
pub record KindOf (R : Type 0) : Type 0 where
  pub count : R → ℕ
  pub most : R → ℕ
  pub has_crashed : R → ℕ → Bool
  pub in_turn : R → ℕ → Bool
  pub has_step : R → ℕ → Bool
  pub step : R → ℕ → R
  pub wake : R → ℕ → R

-- simulator i steps until a test fails, `most` times at the most
abbrev pub steps_while : {R : Type 0} → (R → ℕ → R) → (R → ℕ → Bool) → ℕ → R → ℕ → R
steps_while step test zero room i = room
steps_while step test (suc most) room i = if test room i then steps_while step test most (step room i) i else room

-- it ends its open turn
abbrev pub turn_ended : {R : Type 0} → KindOf R → R → ℕ → R
turn_ended kind room i =
    if kind.has_crashed room i then room else steps_while kind.step kind.in_turn (kind.most room) room i

-- its quiet turns are counted anew, and it runs alone until a call finds no step to take
abbrev pub ran_alone : {R : Type 0} → KindOf R → R → ℕ → R
ran_alone kind room i =
    if kind.has_crashed room i then room
    else kind.step (steps_while kind.step kind.has_step (kind.most (kind.wake room i)) (kind.wake room i) i) i

-- so do the first `count` simulators, in order of number
abbrev pub in_order : {R : Type 0} → (R → ℕ → R) → ℕ → R → R
in_order change zero room = room
in_order change (suc count) room = change (in_order change count room) count

abbrev pub each_in_order : {R : Type 0} → KindOf R → (R → ℕ → R) → R → R
each_in_order kind change room = in_order change (kind.count room) room

-- first each ends its open turn, then each runs alone
abbrev pub settled : {R : Type 0} → KindOf R → R → R
settled kind room = each_in_order kind (ran_alone kind) (each_in_order kind (turn_ended kind) room)
