-- How a room begins and ends.
use Rattle.std.proofs.Common.{◌≡◌, ◌≢◌, ℕ, zero, suc, ◌<◌, Bool, true, false, List, [], ◌∷◌, ◌++◌, map, take, length, get_or, set, refl, sym, ap, ◌∙◌, subst, inr, ⊎_elim, arith, Option, Some, None, append_assoc, length-append}
use Rattle.std.specs.Prelude.{replicate}
use Rattle.std.specs.List.{range_with_len}
use Rattle.std.proofs.lemmas.List.{length-map, length-set, length-replicate, get_or-set_same, take-set, take-replicate}
use mathlib.Core.Option.{some, some-injective, some-ne-none}
use lib.ListN.{get_elem?}
use Rattle.atomic_table.specs.Table.{Me, Allows, keeps, Final, Seen}
use Rattle.atomic_table.proofs.Lists.{at_set, set_again}
use Rattle.room_spec.specs.Rooms.{RoomSpec, IsWithinLimits}
use Rattle.room_core.specs.Rooms.{Configuration, IsAlive, crashed_by}
use Rattle.room_core.proofs.CallerLemmas.{shapes}
use Rattle.ruled_room.specs.declared.rule.Operation.{Operation}
use Rattle.ruled_room.specs.declared.rule.Progress.{Progress}
use Rattle.ruled_room.specs.declared.rule.View.{View}
use Rattle.ruled_room.specs.Views.{begun, first_progress, mind_of, minds_of_all, nobody, operations_of_all, progress_in}
use Rattle.ruled_room.specs.Rule.{AreHeldBy, room_of, word_count, IsBlank, IsRunning, Kept}
use Rattle.ruled_room.specs.Runs.{IsInterleavingOf}
use Rattle.ruled_room.proofs.Running.{first_minds, opens_with_nothing, stops}

-- a place of a list of whole simulators
some_at : (ms : List Progress) (j : ℕ) (y : Progress) → get_or (map Some ms) j None ≡ Some y → get_elem? ms j ≡ some y
some_at [] j y e = absurd (cc)
some_at (x ∷ xs) zero y e = ap some (let h : x ≡ y = cc in h)
some_at (x ∷ xs) (suc j) y e = some_at xs j y e

-- the first step
pub begins : {S : Type 0} (s : RoomSpec) (slots id k : ℕ) (me : Me S View) → k ≡ word_count s → me ≡ (nobody s, [])
    → Allows {S = S} (Kept s) slots id me k (λ _. 1) (λ found w. found ≡ 0 → w ≡ (begun me.0, me.1))
begins {S} s slots id k me ki mi =
    let P : ℕ → Me S View → Type 0 = λ n m. Allows {S = S} (Kept s) slots id m n (λ _. 1) (λ found w. found ≡ 0 → w ≡ (begun m.0, m.1)) in
    subst (λ (n : ℕ). P n me) (sym ki) (subst (P (word_count s)) (sym mi) there)
  where
    there : Allows {S = S} (Kept s) slots id (nobody s, []) (word_count s) (λ _. 1) (λ found w. found ≡ 0 → w ≡ (begun (nobody s), []))
    there t kept count at small = ⊎_elim
        (λ (b : IsBlank s t.words t.views).
        let w = begun (nobody s) in
        let long : length t.words ≡ suc (word_count s) = ap length b.zeros ∙ length-replicate (suc (word_count s)) 0 in
        let words-are : replicate (word_count s) 0 ≡ take (word_count s) (set t.words (word_count s) 1) =
        sym (take-set t.words (word_count s) 1 ∙ ap (take (word_count s)) b.zeros ∙ take-replicate (word_count s) (suc (word_count s)) 0 (omega arith)) in
        let all : List Progress = first_progress s in
        let run : IsInterleavingOf (room_of s (set t.words (word_count s) 1) all) (operations_of_all all) =
        subst (λ (q : Configuration). IsInterleavingOf q (operations_of_all all)) (λ p. record { spec = s; words = words-are p; minds = sym (first_minds s (range_with_len 0 s.simulators)) p; crashed = replicate s.simulators false }) (opens_with_nothing s) in
        let held : AreHeldBy (λ _. id) all (set t.views id w) = λ k' u j y e m. ⊎_elim
        (λ (a : (k' ≡ id) × (w ≡ u)). (sym a.0, some_at all j y (subst (λ (q : View). progress_in q j ≡ Some y) (sym a.1) m)))
        (λ (a : (k' ≢ id) × (get_elem? t.views k' ≡ some u)). absurd (let h = b.nobody k' u j a.1 in cc))
        (at_set t.views id k' w u e) in
        let running : IsRunning s (set t.words (word_count s) 1) (set t.views id w) = record {
          simulators = all;
          owner = λ _. id;
          begun = get_or-set_same t.words (word_count s) 1 0 (omega arith);
          long = length-set t.words (word_count s) 1 ∙ long;
          run = run;
          held = held;
        } in
        (w, keeps, tt, inr running, λ _. refl))
        (λ (r : IsRunning s t.words t.views).
        let words-are : take (word_count s) t.words ≡ take (word_count s) (set t.words (word_count s) 1) = sym (take-set t.words (word_count s) 1) in
        let views-are : t.views ≡ set t.views id (nobody s) = sym (set_again t.views id (nobody s) at) in
        let running : IsRunning s (set t.words (word_count s) 1) (set t.views id (nobody s)) = record {
          simulators = r.simulators;
          owner = r.owner;
          begun = get_or-set_same t.words (word_count s) 1 0 (let l = r.long in omega arith);
          long = length-set t.words (word_count s) 1 ∙ r.long;
          run = subst (λ (q : Configuration). IsInterleavingOf q (operations_of_all r.simulators)) (λ p. record { spec = s; words = words-are p; minds = minds_of_all r.simulators; crashed = replicate s.simulators false }) r.run;
          held = subst (AreHeldBy r.owner r.simulators) views-are r.held;
        } in
        (nobody s, keeps, tt, inr running, λ none. absurd (let b = r.begun in omega arith)))
        kept

-- two lists that agree at each place
same_simulators : (ms xs : List Progress) → length ms ≡ length xs → ((i : ℕ) (x : Progress) → get_or (map Some xs) i None ≡ Some x → get_elem? ms i ≡ some x) → ms ≡ xs
same_simulators [] [] e h = refl
same_simulators [] (x ∷ xs) e h = absurd (omega arith)
same_simulators (m ∷ ms) [] e h = absurd (omega arith)
same_simulators (m ∷ ms) (x ∷ xs) e h = λ p. some-injective m x (h zero x refl) p ∷ same_simulators ms xs (omega arith) (λ i y q. h (suc i) y q) p

set_between : (xs ys : List Bool) (a b : Bool) → set (xs ++ a ∷ ys) (length xs) b ≡ xs ++ b ∷ ys
set_between [] ys a b = refl
set_between (x ∷ xs) ys a b = ap (λ l. x ∷ l) (set_between xs ys a b)

read_between : (xs ys : List Bool) (a d : Bool) → get_or (xs ++ a ∷ ys) (length xs) d ≡ a
read_between [] ys a d = refl
read_between (x ∷ xs) ys a d = read_between xs ys a d

-- crashes one after the other, in order of number, give any marks
mark_all : (r : Configuration) (all : List (List Operation)) (done todo : List Bool) → IsInterleavingOf r all → r.crashed ≡ done ++ replicate (length todo) false → length r.crashed ≡ r.spec.simulators
    → IsInterleavingOf (record { spec = r.spec; words = r.words; minds = r.minds; crashed = done ++ todo }) all
mark_all r all done [] one is long = subst (λ (q : Configuration). IsInterleavingOf q all) (λ p. record { spec = r.spec; words = r.words; minds = r.minds; crashed = is p }) one
mark_all r all done (false ∷ todo) one is long =
    let later = mark_all r all (done ++ false ∷ []) todo one (is ∙ sym (append_assoc done (false ∷ []) (replicate (length todo) false))) long in
    subst (λ (q : Configuration). IsInterleavingOf q all) (λ p. record { spec = r.spec; words = r.words; minds = r.minds; crashed = append_assoc done (false ∷ []) todo p }) later
mark_all r all done (true ∷ todo) one is long =
    let rest = replicate (length todo) false in
    let below : length done < r.spec.simulators = let l = ap length is in let a = length-append done (false ∷ rest) in omega arith in
    let may : IsAlive r (length done) = record { below = below; alive = ap (λ (l : List Bool). get_or l (length done) false) is ∙ read_between done rest false false } in
    let marked : set r.crashed (length done) true ≡ (done ++ true ∷ []) ++ rest =
    ap (λ (l : List Bool). set l (length done) true) is ∙ set_between done rest false true ∙ sym (append_assoc done (true ∷ []) rest) in
    let later = mark_all (crashed_by r (length done)) all (done ++ true ∷ []) todo (stops r all (length done) one may) marked (length-set r.crashed (length done) true ∙ long) in
    subst (λ (q : Configuration). IsInterleavingOf q all) (λ p. record { spec = r.spec; words = r.words; minds = r.minds; crashed = append_assoc done (true ∷ []) todo p }) later

empty_at_none : (ms : List Progress) → 0 < length ms → get_or (map Some ms) 0 None ≡ None → ⊥
empty_at_none [] h e = omega arith
empty_at_none (m ∷ ms) h e = cc

-- the last state, where every simulator is at home
pub ends : {S : Type 0} (s : RoomSpec) → IsWithinLimits s → (id : ℕ) (v : View) (ws : List ℕ) (xs : List S) (ps : List Progress) (cs : List Bool)
    → Final (Seen (Kept s) id v) ws xs → v.held ≡ map Some ps → length ps ≡ s.simulators → 0 < s.simulators → length cs ≡ s.simulators
    → IsInterleavingOf (record { spec = s; words = take (word_count s) ws; minds = minds_of_all ps; crashed = cs }) (operations_of_all ps)
ends s limits id v ws xs ps cs final home long any marks =
    let t = final.0 in
    let at = final.1.1 in
    ⊎_elim
    (λ (b : IsBlank s t.words t.views). absurd (empty_at_none ps (omega arith) (ap (λ (l : List (Option Progress)). get_or l 0 None) (sym home) ∙ b.nobody id v 0 at)))
    (λ (r : IsRunning s t.words t.views).
    let room : Configuration = room_of s t.words r.simulators in
    let shape = shapes room limits r.run.one in
    let count : length r.simulators ≡ length ps = sym (length-map r.simulators mind_of) ∙ shape.minds ∙ sym long in
    let same : r.simulators ≡ ps = same_simulators r.simulators ps count (λ i x e. (r.held id v i x at (ap (λ (l : List (Option Progress)). get_or l i None) home ∙ e)).1) in
    let words-are : take (word_count s) t.words ≡ take (word_count s) ws = ap (take (word_count s)) final.2 in
    let all = mark_all room (operations_of_all r.simulators) [] cs r.run (ap (λ (n : ℕ). replicate n false) (sym marks)) shape.crashed in
    subst (λ (q : Configuration × List (List Operation)). IsInterleavingOf q.0 q.1) (λ p. (record { spec = s; words = words-are p; minds = minds_of_all (same p); crashed = cs }, operations_of_all (same p))) all)
    final.1.0

-- the table at the start
pub starts : (s : RoomSpec) (words : List ℕ) → words ≡ replicate (suc (word_count s)) 0 → IsBlank s words (nobody s ∷ [])
starts s words zeros = record { zeros = zeros; nobody = empty }
  where
    empty : (k : ℕ) (view : View) (i : ℕ) → get_elem? (nobody s ∷ []) k ≡ some view → progress_in view i ≡ None
    empty zero view i e = subst (λ (v : View). progress_in v i ≡ None) (some-injective (nobody s) view e) refl
    empty (suc k) view i e = absurd (some-ne-none view (sym e))
