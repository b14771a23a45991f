-- A simulator's step keeps the rule.
use Rattle.std.proofs.Common.{◌≡◌, ◌≢◌, ℕ, zero, suc, ◌<◌, false, List, [], ◌∷◌, ◌++◌, length, get_or, set, take, refl, sym, ap, ◌∙◌, subst, inr, ⊎_elim, arith, Option, Some, None}
use Rattle.std.specs.Prelude.{replicate}
use Rattle.std.proofs.lemmas.List.{length-map, length-set, get_or-set_other, map-set, set-get_or}
use mathlib.Core.Option.{some, some-injective, some-ne-none}
use lib.ListN.{get_elem?}
use Rattle.atomic_table.specs.Table.{Me, Allows, keeps}
use Rattle.atomic_table.proofs.Lists.{at_set, set_here, set_else}
use Rattle.room_spec.specs.Rooms.{RoomSpec}
use Rattle.simulator.specs.Minds.{MindState, opening_mind}
use Rattle.simulator.specs.Moves.{move_of, taken, words_after, answer_of, IsOperation}
use Rattle.simulator.specs.Ranges.{IsMind}
use Rattle.simulator.specs.declared.operation.Move.{Move}
use Rattle.room_core.specs.Rooms.{Configuration, HasLine, mind_at, stepped}
use Rattle.room_core.proofs.CallerLemmas.{shapes}
use Rattle.ruled_room.specs.declared.rule.Operation.{Operation}
use Rattle.ruled_room.specs.declared.rule.Progress.{Progress}
use Rattle.ruled_room.specs.declared.rule.View.{View}
use Rattle.ruled_room.specs.Views.{alone, further, mind_of, minds_of_all, noted, only, operations_of_all, progress_in}
use Rattle.ruled_room.specs.Rule.{AreHeldBy, room_of, word_count, IsBlank, IsRunning, Kept}
use Rattle.ruled_room.specs.Runs.{IsInterleavingOf, operation_in}
use Rattle.ruled_room.proofs.Running.{goes_on, map_there}
use Rattle.ruled_room.specs.Seats.{only-further}

pub only-here : (i : ℕ) (x : Progress) → get_or (only i x) i None ≡ Some x
only-here zero x = refl
only-here (suc i) x = only-here i x

pub only-else : (i : ℕ) (x : Progress) (j : ℕ) (y : Progress) → get_or (only i x) j None ≡ Some y → (j ≡ i) × (y ≡ x)
only-else zero x zero y e = (refl, sym (cc))
only-else zero x (suc j) y e = absurd (cc)
only-else (suc i) x zero y e = absurd (cc)
only-else (suc i) x (suc j) y e = let h = only-else i x j y e in (ap suc h.0, h.1)

pub take-set_any : {X : Type 0} (n : ℕ) (l : List X) (i : ℕ) (x : X) → take n (set l i x) ≡ set (take n l) i x
take-set_any zero l i x = refl
take-set_any (suc n) [] i x = refl
take-set_any (suc n) (y ∷ l) zero x = refl
take-set_any (suc n) (y ∷ l) (suc i) x = ap (λ m. y ∷ m) (take-set_any n l i x)

pub get_or-take_below : {X : Type 0} (n : ℕ) (l : List X) (i : ℕ) (d : X) → i < n → get_or (take n l) i d ≡ get_or l i d
get_or-take_below zero l i d h = absurd (omega arith)
get_or-take_below (suc n) [] i d h = refl
get_or-take_below (suc n) (y ∷ l) zero d h = refl
get_or-take_below (suc n) (y ∷ l) (suc i) d h = get_or-take_below n l i d (omega arith)

pub there_below : {X : Type 0} (l : List X) (i : ℕ) (x : X) → get_elem? l i ≡ some x → i < length l
there_below [] i x e = absurd (some-ne-none x (sym e))
there_below (y ∷ l) zero x e = omega arith
there_below (y ∷ l) (suc i) x e = let h = there_below l i x e in omega arith

pub there_read : {X : Type 0} (l : List X) (i : ℕ) (x d : X) → get_elem? l i ≡ some x → get_or l i d ≡ x
there_read [] i x d e = absurd (some-ne-none x (sym e))
there_read (y ∷ l) zero x d e = some-injective y x e
there_read (y ∷ l) (suc i) x d e = there_read l i x d e

pub all_false : (n i : ℕ) → get_or (replicate n false) i false ≡ false
all_false zero i = refl
all_false (suc n) zero = refl
all_false (suc n) (suc i) = all_false n i

-- the seat of i has it, further on
holds_set : (spec : RoomSpec) (owner : ℕ → ℕ) (simulators : List Progress) (views : List View) (id i : ℕ) (x y : Progress) → get_elem? views id ≡ some (alone spec i x) → AreHeldBy owner simulators views
    → AreHeldBy owner (set simulators i y) (set views id (alone spec i y))
holds_set spec owner simulators views id i x y at h k v j z e m =
    let mine = h id (alone spec i x) i x at (only-here i x) in
    ⊎_elim
    (λ (t : (k ≡ id) × (alone spec i y ≡ v)).
    let w = only-else i y j z (subst (λ (u : View). progress_in u j ≡ Some z) (sym t.1) m) in
    (ap owner w.0 ∙ mine.0 ∙ sym t.0, subst (λ (q : ℕ × Progress). get_elem? (set simulators i y) q.0 ≡ some q.1) (λ p. (sym w.0 p, sym w.1 p)) (set_here simulators i y (there_below simulators i x mine.1))))
    (λ (t : (k ≢ id) × (get_elem? views k ≡ some v)).
    let theirs = h k v j z t.1 m in
    (theirs.0, set_else simulators i j y (λ same. t.0 (sym theirs.0 ∙ ap owner same ∙ mine.0)) ∙ theirs.1))
    (at_set views id k (alone spec i y) v e)

-- the table goes on by one operation of the simulator whose seat steps
pub goes : (spec : RoomSpec) (words : List ℕ) (views : List View) (id i : ℕ) (x : Progress) (move : Move) (k n found : ℕ)
    → IsRunning spec words views → get_elem? views id ≡ some (alone spec i x) → move ≡ move_of spec x.mind → IsMind spec x.mind → IsOperation (move_of spec x.mind) → k < word_count spec
    → take (word_count spec) (set words k n) ≡ words_after move (take (word_count spec) words) → found ≡ answer_of move (take (word_count spec) words)
    → IsRunning spec (set words k n) (set views id (alone spec i (further spec move found x)))
goes spec words views id i x move k n found r at is_move is_mind moving within words-are found-is =
    let mine = r.held id (alone spec i x) i x at (only-here i x) in
    let room : Configuration = room_of spec words r.simulators in
    let new : Progress = further spec move found x in
    let minds : List MindState = minds_of_all r.simulators in
    let all : List (List Operation) = operations_of_all r.simulators in
    let shape = shapes room is_mind.limits r.run.one in
    let is : mind_at room i ≡ x.mind = there_read minds i x.mind (opening_mind spec i) (map_there mind_of r.simulators i x mine.1) in
    let did : get_or all i [] ≡ x.operations = there_read all i x.operations [] (map_there (λ (q : Progress). q.operations) r.simulators i x mine.1) in
    let place = there_below r.simulators i x mine.1 in
    let count : length minds ≡ length r.simulators = length-map r.simulators mind_of in
    let below : i < spec.simulators = let l = shape.minds in omega arith in
    let listed : i < length all = let l : length all ≡ length r.simulators = length-map r.simulators (λ (q : Progress). q.operations) in omega arith in
    let may : HasLine room i = record { alive = record { below = below; alive = all_false spec.simulators i }; moving = subst (λ (m : MindState). IsOperation (move_of spec m)) (sym is) moving } in
    let next = goes_on room all i r.run listed may in
    let move-is : move ≡ move_of spec (mind_at room i) = is_move ∙ ap (λ (m : MindState). move_of spec m) (sym is) in
    let words-is : words_after (move_of spec (mind_at room i)) (take (word_count spec) words) ≡ take (word_count spec) (set words k n) = ap (λ (w : Move). words_after w (take (word_count spec) words)) (sym move-is) ∙ sym words-are in
    let answer-is : answer_of (move_of spec (mind_at room i)) (take (word_count spec) words) ≡ found = ap (λ (w : Move). answer_of w (take (word_count spec) words)) (sym move-is) ∙ sym found-is in
    let minds-are : set minds i (taken spec (mind_at room i) (answer_of (move_of spec (mind_at room i)) (take (word_count spec) words))).mind ≡ minds_of_all (set r.simulators i new) =
    (λ p. set minds i (taken spec (is p) (answer-is p)).mind) ∙ sym (map-set mind_of r.simulators i new) in
    let done-are : set all i (get_or all i [] ++ operation_in room i ∷ []) ≡ operations_of_all (set r.simulators i new) =
    (λ p. set all i (did p ++ record { done = sym move-is p; answer = answer-is p } ∷ [])) ∙ sym (map-set (λ (q : Progress). q.operations) r.simulators i new) in
    let room-is : stepped room i ≡ room_of spec (set words k n) (set r.simulators i new) = λ p. record { spec = spec; words = words-is p; minds = minds-are p; crashed = replicate spec.simulators false } in
    record {
      simulators = set r.simulators i new;
      owner = r.owner;
      begun = get_or-set_other words k (word_count spec) n 0 (λ e. omega arith) ∙ r.begun;
      long = length-set words k n ∙ r.long;
      run = subst (λ (q : Configuration × List (List Operation)). IsInterleavingOf q.0 q.1) (λ p. (room-is p, done-are p)) next;
      held = holds_set spec r.owner r.simulators views id i x new at r.held;
    }

-- whatever the table is when a simulator's move is done, the rule goes on
allowed_alone : {S : Type 0} (spec : RoomSpec) (slots id i : ℕ) (x : Progress) (move : Move) (k : ℕ) (f tells : ℕ → ℕ)
    → move ≡ move_of spec x.mind → IsMind spec x.mind → IsOperation (move_of spec x.mind) → k < word_count spec
    → ((words : List ℕ) → take (word_count spec) (set words k (f (get_or words k 0))) ≡ words_after move (take (word_count spec) words))
    → ((words : List ℕ) → tells (get_or words k 0) ≡ answer_of move (take (word_count spec) words))
    → Allows {S = S} (Kept spec) slots id (alone spec i x, []) k f (λ found w. w ≡ (noted move (tells found) (alone spec i x), []))
allowed_alone spec slots id i x move k f tells is_move is_mind moving within words-are tells-are t kept count at small =
    ⊎_elim
    (λ (b : IsBlank spec t.words t.views). absurd (let e = b.nobody id (alone spec i x) i at in let h = only-here i x in cc))
    (λ (r : IsRunning spec t.words t.views).
    let next = goes spec t.words t.views id i x move k (f (get_or t.words k 0)) (tells (get_or t.words k 0)) r at is_move is_mind moving within (words-are t.words) (tells-are t.words) in
    let P : List (Option Progress) → Type 0 = λ l. IsRunning spec (set t.words k (f (get_or t.words k 0))) (set t.views id (record { spec = spec; held = l })) in
    (noted move (tells (get_or t.words k 0)) (alone spec i x), keeps, tt, inr (subst P (sym (only-further spec move i x (tells (get_or t.words k 0)))) next), refl))
    kept

pub allowed : {S : Type 0} (spec : RoomSpec) (slots id i : ℕ) (me : Me S View) (x : Progress) (move : Move) (k : ℕ) (f tells : ℕ → ℕ)
    → me ≡ (alone spec i x, []) → move ≡ move_of spec x.mind → IsMind spec x.mind → IsOperation (move_of spec x.mind) → k < word_count spec
    → ((words : List ℕ) → take (word_count spec) (set words k (f (get_or words k 0))) ≡ words_after move (take (word_count spec) words))
    → ((words : List ℕ) → tells (get_or words k 0) ≡ answer_of move (take (word_count spec) words))
    → Allows {S = S} (Kept spec) slots id me k f (λ found w. w ≡ (noted move (tells found) me.0, me.1))
allowed {S} spec slots id i me x move k f tells e is_move is_mind moving within words-are tells-are =
    subst (λ (m : Me S View). Allows {S = S} (Kept spec) slots id m k f (λ found w. w ≡ (noted move (tells found) m.0, m.1))) (sym e)
    (allowed_alone spec slots id i x move k f tells is_move is_mind moving within words-are tells-are)

-- ---- the four operations: what each does to the room's words, and what it is told

pub load_words : (n k : ℕ) (words : List ℕ) → take n (set words k (get_or words k 0)) ≡ take n words
load_words n k words = ap (take n) (set-get_or words k 0)

-- a word becomes f of what it was
pub changed_words : (n k : ℕ) (f : ℕ → ℕ) (words : List ℕ) → k < n → take n (set words k (f (get_or words k 0))) ≡ set (take n words) k (f (get_or (take n words) k 0))
changed_words n k f words below = take-set_any n words k _ ∙ ap (λ (q : ℕ). set (take n words) k (f q)) (sym (get_or-take_below n words k 0 below))

pub told : (n k : ℕ) (words : List ℕ) → k < n → get_or words k 0 ≡ get_or (take n words) k 0
told n k words below = sym (get_or-take_below n words k 0 below)
