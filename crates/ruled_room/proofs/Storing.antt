-- What a word holds once operations are done.
use Rattle.std.proofs.Common.{◌≡◌, ◌≢◌, ◌<◌, ◌+◌, ◌-◌, ◌%◌, ◌^◌, ℕ, zero, suc, Bool, true, false, cond, eqb, eq-eqb, ne_eqb, List, [], ◌∷◌, ◌++◌, length, get_or, set, refl, sym, ap, ◌∙◌, subst, arith}
use Rattle.std.specs.Prelude.{replicate}
use Rattle.std.specs.List.{sum_by}
use Rattle.std.proofs.lemmas.List.{get_or-set_same, get_or-set_other, length-replicate}
use Rattle.std.proofs.lemmas.List.Sums.{sum_by-cons, sum_by-set}
use Rattle.std.proofs.Math.Nat.{mod-add-mod}
use mathlib.Core.Logic.{dite}
use native.Mathlib.Decide.{ℕ_discrete}
use Rattle.simulator.specs.Moves.{move_of, words_after}
use Rattle.simulator.specs.declared.operation.Move.{Move}
use Rattle.simulator.specs.declared.operation.Move.TheVariants.{Load, Store, Add, Sub, Finished, OutOfTurns}
use Rattle.room_core.specs.Rooms.{Configuration, ScheduleEvent, steps, crashes, opening, mind_at, stepped, crashed_by, replay}
use Rattle.room_core.specs.Lengths.{length_words_after}
use Rattle.ruled_room.specs.declared.rule.Operation.{Operation}
use Rattle.ruled_room.specs.Rule.{word_count}
use Rattle.ruled_room.specs.Runs.{operation_in, operations_along}
use Rattle.ruled_room.specs.Stored.{HasNone, HoldsLastStored, HoldsSum, added, added_by, last_or, stored, stored_by, stores, sums}

apart : (index k : ℕ) → eqb index k ≡ false → k ≢ index
apart index k free e = absurd (let h : eqb index k ≡ true = eq-eqb index k (sym e) in cc)

-- ---- what operations of a kind a list has

first : (kind : Move → Bool) (o : Operation) (l : List Operation) → HasNone kind (o ∷ l) → kind o.done ≡ false
first kind o l none = none 0 o (omega arith)

later : (kind : Move → Bool) (b : Bool) (o : Operation) (l : List Operation) → HasNone kind (cond b (o ∷ l) l) → HasNone kind l
later kind true o l none = λ n d below. none (suc n) d (omega arith)
later kind false o l none = none

-- the mover's own list begins with its operation
own_first : (kind : Move → Bool) (room : Configuration) (schedule : List ScheduleEvent) (j : ℕ) → HasNone kind (operations_along room (steps j ∷ schedule) j) → kind (move_of room.spec (mind_at room j)) ≡ false
own_first kind room schedule j none =
    let o : Operation = operation_in room j in
    let rest : List Operation = operations_along (stepped room j) schedule j in
    first kind o rest (subst (HasNone kind) (ap (λ (b : Bool). cond b (o ∷ rest) rest) (eq-eqb j j refl)) none)

-- ---- a word in which one simulator stores

word_kept : (m : Move) (words : List ℕ) (k : ℕ) → stores k m ≡ false → sums k m ≡ false → get_or (words_after m words) k 0 ≡ get_or words k 0
word_kept (Load index) words k unstored free = refl
word_kept (Store index number) words k unstored free = get_or-set_other words index k number 0 (apart index k unstored)
word_kept (Add index number) words k unstored free = get_or-set_other words index k _ 0 (apart index k free)
word_kept (Sub index number) words k unstored free = get_or-set_other words index k _ 0 (apart index k free)
word_kept Finished words k unstored free = refl
word_kept OutOfTurns words k unstored free = refl

word_stored : (m : Move) (words : List ℕ) (k v : ℕ) → sums k m ≡ false → k < length words → get_or words k 0 ≡ v → get_or (words_after m words) k 0 ≡ last_or v (stored_by k m)
word_stored (Load index) words k v free below is = is
word_stored (Store index number) words k v free below is = dite (ℕ_discrete k index)
    (λ (e : k ≡ index).
    ap (λ (j : ℕ). get_or (set words index number) j 0) e ∙ get_or-set_same words index number 0 (subst (λ (j : ℕ). j < length words) e below)
    ∙ sym (ap (λ (b : Bool). last_or v (cond b (number ∷ []) [])) (eq-eqb index k (sym e))))
    (λ (n : k ≢ index).
    get_or-set_other words index k number 0 n ∙ is ∙ sym (ap (λ (b : Bool). last_or v (cond b (number ∷ []) [])) (ne_eqb index k (λ e. n (sym e)))))
word_stored (Add index number) words k v free below is = word_kept (Add index number) words k refl free ∙ is
word_stored (Sub index number) words k v free below is = word_kept (Sub index number) words k refl free ∙ is
word_stored Finished words k v free below is = is
word_stored OutOfTurns words k v free below is = is

last_more : (v : ℕ) (a b : List ℕ) → last_or (last_or v a) b ≡ last_or v (a ++ b)
last_more v [] b = refl
last_more v (n ∷ a) b = last_more n a b

holds_last : (schedule : List ScheduleEvent) (room : Configuration) (k i v : ℕ) → k < length room.words → get_or room.words k 0 ≡ v
    → ((j : ℕ) → j ≢ i → HasNone (stores k) (operations_along room schedule j)) → ((j : ℕ) → HasNone (sums k) (operations_along room schedule j))
    → get_or (replay room schedule).words k 0 ≡ last_or v (stored k (operations_along room schedule i))
holds_last [] room k i v below is others unsummed = is
holds_last (crashes j ∷ schedule) room k i v below is others unsummed = holds_last schedule (crashed_by room j) k i v below is others unsummed
holds_last (steps j ∷ schedule) room k i v below is others unsummed =
    let o : Operation = operation_in room j in
    let m : Move = move_of room.spec (mind_at room j) in
    let rest : ℕ → List Operation = λ l. operations_along (stepped room j) schedule l in
    let within : k < length (stepped room j).words = let l = length_words_after m room.words in omega arith in
    let others-later : (l : ℕ) → l ≢ i → HasNone (stores k) (rest l) = λ l n. later (stores k) (eqb j l) o (rest l) (others l n) in
    let unsummed-later : (l : ℕ) → HasNone (sums k) (rest l) = λ l. later (sums k) (eqb j l) o (rest l) (unsummed l) in
    let free : sums k m ≡ false = own_first (sums k) room schedule j (unsummed j) in
    dite (ℕ_discrete j i)
    (λ (e : j ≡ i).
    let all : cond (eqb j i) (o ∷ rest i) (rest i) ≡ o ∷ rest i = ap (λ (b : Bool). cond b (o ∷ rest i) (rest i)) (eq-eqb j i e) in
    holds_last schedule (stepped room j) k i (last_or v (stored_by k m)) within (word_stored m room.words k v free below is) others-later unsummed-later
    ∙ last_more v (stored_by k m) (stored k (rest i)) ∙ sym (ap (λ (l : List Operation). last_or v (stored k l)) all))
    (λ (n : j ≢ i).
    let all : cond (eqb j i) (o ∷ rest i) (rest i) ≡ rest i = ap (λ (b : Bool). cond b (o ∷ rest i) (rest i)) (ne_eqb j i n) in
    let unstored : stores k m ≡ false = own_first (stores k) room schedule j (others j n) in
    holds_last schedule (stepped room j) k i v within (word_kept m room.words k unstored free ∙ is) others-later unsummed-later
    ∙ sym (ap (λ (l : List Operation). last_or v (stored k l)) all))

zeros : (n k : ℕ) → get_or (replicate {A = ℕ} n 0) k 0 ≡ 0
zeros zero k = refl
zeros (suc n) zero = refl
zeros (suc n) (suc k) = zeros n k

pub holds_last_stored : HoldsLastStored
holds_last_stored room operations k i run below is =
    let start : Configuration = opening room.spec in
    let within : k < length start.words = let l : length start.words ≡ word_count room.spec = length-replicate {A = ℕ} (word_count room.spec) 0 in omega arith in
    ap (λ (q : Configuration). get_or q.words k 0) (sym run.one.leads)
    ∙ holds_last run.one.schedule start k i 0 within (zeros (word_count room.spec) k)
    (λ j n. subst (HasNone (stores k)) (sym (run.did j)) (is.others j n))
    (λ j. subst (HasNone (sums k)) (sym (run.did j)) (is.unsummed j))
    ∙ ap (λ (l : List Operation). last_or 0 (stored k l)) (run.did i)

-- ---- a word in which nobody stores

summed : (index number k v : ℕ) (words : List ℕ) → k < length words → get_or words k 0 ≡ v % 2 ^ 64 → get_or (set words index ((get_or words index 0 + number) % 2 ^ 64)) k 0 ≡ (v + cond (eqb index k) number 0) % 2 ^ 64
summed index number k v words below is = dite (ℕ_discrete k index)
    (λ (e : k ≡ index).
    ap (λ (j : ℕ). get_or (set words index ((get_or words index 0 + number) % 2 ^ 64)) j 0) e
    ∙ get_or-set_same words index ((get_or words index 0 + number) % 2 ^ 64) 0 (subst (λ (j : ℕ). j < length words) e below)
    ∙ ap (λ (x : ℕ). (x + number) % 2 ^ 64) (ap (λ (j : ℕ). get_or words j 0) (sym e) ∙ is)
    ∙ mod-add-mod v (2 ^ 64) number
    ∙ sym (ap (λ (b : Bool). (v + cond b number 0) % 2 ^ 64) (eq-eqb index k (sym e))))
    (λ (n : k ≢ index).
    get_or-set_other words index k ((get_or words index 0 + number) % 2 ^ 64) 0 n ∙ is
    ∙ ap (λ (x : ℕ). x % 2 ^ 64) (let h : v ≡ v + 0 = omega arith in h)
    ∙ sym (ap (λ (b : Bool). (v + cond b number 0) % 2 ^ 64) (ne_eqb index k (λ e. n (sym e)))))

unchanged : (v w : ℕ) → w ≡ v % 2 ^ 64 → w ≡ (v + 0) % 2 ^ 64
unchanged v w is = is ∙ ap (λ (x : ℕ). x % 2 ^ 64) (let h : v ≡ v + 0 = omega arith in h)

word_summed : (m : Move) (words : List ℕ) (k v : ℕ) → stores k m ≡ false → k < length words → get_or words k 0 ≡ v % 2 ^ 64 → get_or (words_after m words) k 0 ≡ (v + added_by k m) % 2 ^ 64
word_summed (Load index) words k v unstored below is = unchanged v _ is
word_summed (Store index number) words k v unstored below is = unchanged v _ (get_or-set_other words index k number 0 (apart index k unstored) ∙ is)
word_summed (Add index number) words k v unstored below is = summed index number k v words below is
word_summed (Sub index number) words k v unstored below is = summed index (2 ^ 64 - number) k v words below is
word_summed Finished words k v unstored below is = unchanged v _ is
word_summed OutOfTurns words k v unstored below is = unchanged v _ is

-- what a list of steps and crashes adds to word k
abbrev added_along : ℕ → Configuration → List ScheduleEvent → ℕ
added_along k room [] = 0
added_along k room (steps j ∷ schedule) = added_by k (move_of room.spec (mind_at room j)) + added_along k (stepped room j) schedule
added_along k room (crashes j ∷ schedule) = added_along k (crashed_by room j) schedule

sum_along : (schedule : List ScheduleEvent) (room : Configuration) (k v : ℕ) → k < length room.words → get_or room.words k 0 ≡ v % 2 ^ 64 → ((j : ℕ) → HasNone (stores k) (operations_along room schedule j))
    → get_or (replay room schedule).words k 0 ≡ (v + added_along k room schedule) % 2 ^ 64
sum_along [] room k v below is none = unchanged v _ is
sum_along (crashes j ∷ schedule) room k v below is none = sum_along schedule (crashed_by room j) k v below is none
sum_along (steps j ∷ schedule) room k v below is none =
    let o : Operation = operation_in room j in
    let m : Move = move_of room.spec (mind_at room j) in
    let rest : ℕ → List Operation = λ l. operations_along (stepped room j) schedule l in
    let within : k < length (stepped room j).words = let l = length_words_after m room.words in omega arith in
    sum_along schedule (stepped room j) k (v + added_by k m) within (word_summed m room.words k v (own_first (stores k) room schedule j (none j)) below is) (λ l. later (stores k) (eqb j l) o (rest l) (none l))
    ∙ ap (λ (x : ℕ). x % 2 ^ 64) (let h : (v + added_by k m) + added_along k (stepped room j) schedule ≡ v + (added_by k m + added_along k (stepped room j) schedule) = omega arith in h)

-- what one simulator's operations add to it
abbrev added_own : ℕ → List Operation → ℕ
added_own k own = sum_by (λ operation. added_by k operation.done) own

none_added : (k : ℕ) (operations : List (List Operation)) → ((i : ℕ) → [] ≡ get_or operations i []) → 0 ≡ sum_by (added_own k) operations
none_added k [] none = refl
none_added k (own ∷ operations) none =
    let here : 0 ≡ added_own k own = ap (added_own k) (none 0) in
    let more = none_added k operations (λ i. none (suc i)) in
    let sum = sum_by-cons (added_own k) own operations in
    omega arith

there : (l : List (List Operation)) (i : ℕ) (o : Operation) (rest : List Operation) → o ∷ rest ≡ get_or l i [] → i < length l
there [] i o rest e = absurd (cc)
there (own ∷ l) zero o rest e = omega arith
there (own ∷ l) (suc i) o rest e = let h = there l i o rest e in omega arith

all_added : (schedule : List ScheduleEvent) (room : Configuration) (k : ℕ) (operations : List (List Operation)) → ((i : ℕ) → operations_along room schedule i ≡ get_or operations i [])
    → added_along k room schedule ≡ sum_by (added_own k) operations
all_added [] room k operations did = none_added k operations did
all_added (crashes j ∷ schedule) room k operations did = all_added schedule (crashed_by room j) k operations did
all_added (steps j ∷ schedule) room k operations did =
    let o : Operation = operation_in room j in
    let rest : ℕ → List Operation = λ l. operations_along (stepped room j) schedule l in
    let own : o ∷ rest j ≡ get_or operations j [] = sym (ap (λ (b : Bool). cond b (o ∷ rest j) (rest j)) (eq-eqb j j refl)) ∙ did j in
    let below : j < length operations = there operations j o (rest j) own in
    let left : List (List Operation) = set operations j (rest j) in
    let later-did : (i : ℕ) → rest i ≡ get_or left i [] = λ i. dite (ℕ_discrete i j)
    (λ (e : i ≡ j). ap rest e ∙ sym (get_or-set_same operations j (rest j) [] below) ∙ ap (λ (l : ℕ). get_or left l []) (sym e))
    (λ (n : i ≢ j). sym (ap (λ (b : Bool). cond b (o ∷ rest i) (rest i)) (ne_eqb j i (λ e. n (sym e)))) ∙ did i ∙ sym (get_or-set_other operations j i (rest j) [] n)) in
    let more : added_along k (stepped room j) schedule ≡ sum_by (added_own k) left = all_added schedule (stepped room j) k left later-did in
    let changed : sum_by (added_own k) left + added_own k (get_or operations j []) ≡ sum_by (added_own k) operations + added_own k (rest j) = sum_by-set (added_own k) operations j (rest j) [] below in
    let mine : added_own k (get_or operations j []) ≡ added_by k o.done + added_own k (rest j) = ap (added_own k) (sym own) ∙ sum_by-cons (λ (q : Operation). added_by k q.done) o (rest j) in
    omega arith

pub holds_sum : HoldsSum
holds_sum room operations k run below none =
    let start : Configuration = opening room.spec in
    let within : k < length start.words = let l : length start.words ≡ word_count room.spec = length-replicate {A = ℕ} (word_count room.spec) 0 in omega arith in
    ap (λ (q : Configuration). get_or q.words k 0) (sym run.one.leads)
    ∙ sum_along run.one.schedule start k 0 within (zeros (word_count room.spec) k) (λ j. subst (HasNone (stores k)) (sym (run.did j)) (none j))
    ∙ ap (λ (x : ℕ). x % 2 ^ 64) (let sum = all_added run.one.schedule start k operations run.did in let h : 0 + added_along k start run.one.schedule ≡ added k operations = omega arith in h)
