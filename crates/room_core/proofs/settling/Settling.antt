-- What single steps keep, settling keeps.
use Rattle.std.proofs.Common.{◌≡◌, ℕ, zero, suc, ◌<◌, ◌≤◌, Bool, true, false, cond, sym, ◌∙◌, subst, arith}
use Rattle.room_core.specs.Settling.{KindOf, steps_while, turn_ended, ran_alone, in_order, each_in_order, settled}

-- Of rooms of two kinds that are related the same is seen, and the same steps lead to rooms that are related.
pub record AreAlike {R Q : Type 0} (one : KindOf R) (other : KindOf Q) (m : ℕ) (Related : R → Q → Type 0) : Type 0 where
  pub count : (r : R) (q : Q) → Related r q → one.count r ≡ m
  pub other_count : (r : R) (q : Q) → Related r q → other.count q ≡ m
  pub most : (r : R) (q : Q) → Related r q → one.most r ≡ other.most q
  pub crashed : (r : R) (q : Q) (i : ℕ) → i < m → Related r q → one.has_crashed r i ≡ other.has_crashed q i
  pub in_turn : (r : R) (q : Q) (i : ℕ) → i < m → Related r q → one.in_turn r i ≡ other.in_turn q i
  pub has_step : (r : R) (q : Q) (i : ℕ) → i < m → Related r q → one.has_step r i ≡ other.has_step q i
  pub step : (r : R) (q : Q) (i : ℕ) → i < m → Related r q → Related (one.step r i) (other.step q i)
  pub wake : (r : R) (q : Q) (i : ℕ) → i < m → Related r q → Related (one.wake r i) (other.wake q i)

by_tests : {R Q : Type 0} (Related : R → Q → Type 0) (test same : Bool) (r s : R) (q t : Q) → test ≡ same → Related r q → Related s t → Related (cond test r s) (cond same q t)
by_tests Related true true r s q t is one two = one
by_tests Related false false r s q t is one two = two
by_tests Related true false r s q t is one two = absurd cc
by_tests Related false true r s q t is one two = absurd cc

pub while_alike : {R Q : Type 0} (Related : R → Q → Type 0) (step : R → ℕ → R) (step' : Q → ℕ → Q) (test : R → ℕ → Bool) (test' : Q → ℕ → Bool) (i most : ℕ) (r : R) (q : Q)
    → ((r : R) (q : Q) → Related r q → test r i ≡ test' q i) → ((r : R) (q : Q) → Related r q → Related (step r i) (step' q i)) → Related r q → Related (steps_while step test most r i) (steps_while step' test' most q i)
while_alike Related step step' test test' i zero r q same keeps are = are
while_alike Related step step' test test' i (suc most) r q same keeps are =
    by_tests Related (test r i) (test' q i) (steps_while step test most (step r i) i) r (steps_while step' test' most (step' q i) i) q (same r q are)
    (while_alike Related step step' test test' i most (step r i) (step' q i) same keeps (keeps r q are)) are

order_alike : {R Q : Type 0} (Related : R → Q → Type 0) (change : R → ℕ → R) (change' : Q → ℕ → Q) (m count : ℕ) (r : R) (q : Q)
    → ((i : ℕ) (r : R) (q : Q) → i < m → Related r q → Related (change r i) (change' q i)) → count ≤ m → Related r q → Related (in_order change count r) (in_order change' count q)
order_alike Related change change' m zero r q keeps few are = are
order_alike Related change change' m (suc count) r q keeps few are =
    keeps count (in_order change count r) (in_order change' count q) (omega arith) (order_alike Related change change' m count r q keeps (omega arith) are)

module _ {R Q : Type 0} (one : KindOf R) (other : KindOf Q) (m : ℕ) (Related : R → Q → Type 0) (alike : AreAlike one other m Related) where
  pub ended_alike : (i : ℕ) (r : R) (q : Q) → i < m → Related r q → Related (turn_ended one r i) (turn_ended other q i)
  ended_alike i r q below are =
      let same = alike.most r q are in
      by_tests Related (one.has_crashed r i) (other.has_crashed q i) r (steps_while one.step one.in_turn (one.most r) r i) q (steps_while other.step other.in_turn (other.most q) q i) (alike.crashed r q i below are) are
      (subst (λ (most : ℕ). Related (steps_while one.step one.in_turn (one.most r) r i) (steps_while other.step other.in_turn most q i)) same
      (while_alike Related one.step other.step one.in_turn other.in_turn i (one.most r) r q (λ s t. alike.in_turn s t i below) (λ s t. alike.step s t i below) are))

  pub alone_alike : (i : ℕ) (r : R) (q : Q) → i < m → Related r q → Related (ran_alone one r i) (ran_alone other q i)
  alone_alike i r q below are =
      let woken = alike.wake r q i below are in
      let awake = one.wake r i in
      let awake' = other.wake q i in
      let same = alike.most awake awake' woken in
      let ran : Related (steps_while one.step one.has_step (one.most awake) awake i) (steps_while other.step other.has_step (other.most awake') awake' i) =
      subst (λ (most : ℕ). Related (steps_while one.step one.has_step (one.most awake) awake i) (steps_while other.step other.has_step most awake' i)) same
      (while_alike Related one.step other.step one.has_step other.has_step i (one.most awake) awake awake' (λ s t. alike.has_step s t i below) (λ s t. alike.step s t i below) woken) in
      by_tests Related (one.has_crashed r i) (other.has_crashed q i) r (one.step (steps_while one.step one.has_step (one.most awake) awake i) i) q (other.step (steps_while other.step other.has_step (other.most awake') awake' i) i) (alike.crashed r q i below are) are
      (alike.step (steps_while one.step one.has_step (one.most awake) awake i) (steps_while other.step other.has_step (other.most awake') awake' i) i below ran)

  each_alike : (change : R → ℕ → R) (change' : Q → ℕ → Q) (r : R) (q : Q) → ((i : ℕ) (r : R) (q : Q) → i < m → Related r q → Related (change r i) (change' q i)) → Related r q → Related (each_in_order one change r) (each_in_order other change' q)
  each_alike change change' r q keeps are =
      let same : one.count r ≡ other.count q = alike.count r q are ∙ sym (alike.other_count r q are) in
      let few : one.count r ≤ m = omega (arith, alike.count r q are) in
      subst (λ (count : ℕ). Related (in_order change (one.count r) r) (in_order change' count q)) same (order_alike Related change change' m (one.count r) r q keeps few are)

  pub settled_alike : (r : R) (q : Q) → Related r q → Related (settled one r) (settled other q)
  settled_alike r q are =
      each_alike (ran_alone one) (ran_alone other) (each_in_order one (turn_ended one) r) (each_in_order other (turn_ended other) q) alone_alike
      (each_alike (turn_ended one) (turn_ended other) r q ended_alike are)

-- ---- what each step and each waking keeps

either : {R : Type 0} (P : R → Type 0) (test : Bool) (r s : R) → P r → P s → P (cond test r s)
either P true r s one two = one
either P false r s one two = two

while_keeps : {R : Type 0} (P : R → Type 0) (step : R → ℕ → R) (test : R → ℕ → Bool) (i most : ℕ) (r : R) → ((r : R) → P r → P (step r i)) → P r → P (steps_while step test most r i)
while_keeps P step test i zero r keeps is = is
while_keeps P step test i (suc most) r keeps is = either P (test r i) (steps_while step test most (step r i) i) r (while_keeps P step test i most (step r i) keeps (keeps r is)) is

order_keeps : {R : Type 0} (P : R → Type 0) (change : R → ℕ → R) (count : ℕ) (r : R) → ((i : ℕ) (r : R) → P r → P (change r i)) → P r → P (in_order change count r)
order_keeps P change zero r keeps is = is
order_keeps P change (suc count) r keeps is = keeps count (in_order change count r) (order_keeps P change count r keeps is)

module _ {R : Type 0} (kind : KindOf R) (P : R → Type 0) (step : (i : ℕ) (r : R) → P r → P (kind.step r i)) (wake : (i : ℕ) (r : R) → P r → P (kind.wake r i)) where
  pub ended_keeps : (i : ℕ) (r : R) → P r → P (turn_ended kind r i)
  ended_keeps i r is = either P (kind.has_crashed r i) r (steps_while kind.step kind.in_turn (kind.most r) r i) is (while_keeps P kind.step kind.in_turn i (kind.most r) r (step i) is)

  pub alone_keeps : (i : ℕ) (r : R) → P r → P (ran_alone kind r i)
  alone_keeps i r is =
      let awake = kind.wake r i in
      let ran = steps_while kind.step kind.has_step (kind.most awake) awake i in
      either P (kind.has_crashed r i) r (kind.step ran i) is (step i ran (while_keeps P kind.step kind.has_step i (kind.most awake) awake (step i) (wake i r is)))

  pub settled_keeps : (r : R) → P r → P (settled kind r)
  settled_keeps r is =
      let ended = each_in_order kind (turn_ended kind) r in
      order_keeps P (ran_alone kind) (kind.count ended) ended alone_keeps (order_keeps P (turn_ended kind) (kind.count r) r ended_keeps is)
