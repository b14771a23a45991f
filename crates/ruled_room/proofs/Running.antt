-- Lists of operations go on with the room, and what is known of each simulator's.
use Rattle.std.proofs.Common.{◌≡◌, ◌<◌, ℕ, zero, suc, Bool, true, false, cond, eqb, eq-eqb, ne_eqb, ◌≢◌, List, [], ◌∷◌, ◌++◌, map, length, get_or, set, drop, refl, sym, ap, ◌∙◌, arith, Option, Some, None, append-nil}
use Rattle.std.specs.Prelude.{replicate}
use Rattle.std.specs.List.{range_with_len}
use Rattle.std.specs.Option.{option_map}
use Rattle.std.proofs.lemmas.List.{get_or-set_same, get_or-set_other}
use mathlib.Core.Logic.{dite}
use native.Mathlib.Decide.{ℕ_discrete}
use mathlib.Core.Option.{some, some-injective, some-ne-none}
use lib.ListN.{get_elem?}
use Rattle.room_spec.specs.Rooms.{RoomSpec}
use Rattle.simulator.specs.Minds.{MindState, opening_mind}
use Rattle.room_core.specs.Rooms.{Configuration, ScheduleEvent, steps, crashes, opening, stepped, crashed_by, replay, HasLine, IsAlive}
use Rattle.room_core.proofs.CallerLemmas.{under_line_at_end, under_crash_at_end}
use Rattle.ruled_room.specs.declared.rule.Operation.{Operation}
use Rattle.ruled_room.specs.declared.rule.Progress.{Progress}
use Rattle.ruled_room.specs.Runs.{IsInterleavingOf, operation_in, operations_along}
use Rattle.ruled_room.specs.Views.{done_by, first_progress, given, mind_of, minds_of_all, only, operations_of_all, progress_in, unstarted}

-- ---- a longer list

along_more : (room : Configuration) (schedule : List ScheduleEvent) (j i : ℕ)
    → operations_along room (schedule ++ steps j ∷ []) i ≡ operations_along room schedule i ++ cond (eqb j i) (operation_in (replay room schedule) j ∷ []) []
along_more room [] j i = refl
along_more room (crashes k ∷ schedule) j i = along_more (crashed_by room k) schedule j i
along_more room (steps k ∷ schedule) j i = by (eqb k i) (operation_in room k) _ _ _ (along_more (stepped room k) schedule j i)
  where
    by : (b : Bool) (o : Operation) (l m n : List Operation) → l ≡ m ++ n → cond b (o ∷ l) l ≡ cond b (o ∷ m) m ++ n
    by true o l m n e = ap (λ q. o ∷ q) e
    by false o l m n e = e

along_crash : (room : Configuration) (schedule : List ScheduleEvent) (j i : ℕ) → operations_along room (schedule ++ crashes j ∷ []) i ≡ operations_along room schedule i
along_crash room [] j i = refl
along_crash room (crashes k ∷ schedule) j i = along_crash (crashed_by room k) schedule j i
along_crash room (steps k ∷ schedule) j i = ap (λ (l : List Operation). cond (eqb k i) (operation_in room k ∷ l) l) (along_crash (stepped room k) schedule j i)

one_more : (l : List (List Operation)) (i k : ℕ) (o : Operation) → i < length l → get_or l k [] ++ cond (eqb i k) (o ∷ []) [] ≡ get_or (set l i (get_or l i [] ++ o ∷ [])) k []
one_more l i k o below =
    let new : List Operation = get_or l i [] ++ o ∷ [] in
    dite (ℕ_discrete k i)
    (λ (e : k ≡ i).
    ap (λ (b : Bool). get_or l k [] ++ cond b (o ∷ []) []) (eq-eqb i k (sym e)) ∙ ap (λ (j : ℕ). get_or l j [] ++ o ∷ []) e
    ∙ sym (get_or-set_same l i new [] below) ∙ ap (λ (j : ℕ). get_or (set l i new) j []) (sym e))
    (λ (n : k ≢ i).
    ap (λ (b : Bool). get_or l k [] ++ cond b (o ∷ []) []) (ne_eqb i k (λ e. n (sym e))) ∙ append-nil (get_or l k []) ∙ sym (get_or-set_other l i k new [] n))

-- one operation more of simulator i
pub goes_on : (room : Configuration) (operations : List (List Operation)) (i : ℕ) → IsInterleavingOf room operations → i < length operations → HasLine room i
    → IsInterleavingOf (stepped room i) (set operations i (get_or operations i [] ++ operation_in room i ∷ []))
goes_on room operations i run below may =
    let after = under_line_at_end room i run.one may in
    let more : List Operation → Configuration → ℕ → List Operation = λ l q k. l ++ cond (eqb i k) (operation_in q i ∷ []) [] in
    record {
      one = after.0;
      did = λ k. ap (λ (s : List ScheduleEvent). operations_along (opening room.spec) s k) after.1
          ∙ along_more (opening room.spec) run.one.schedule i k
          ∙ ap (λ (q : Configuration). more (operations_along (opening room.spec) run.one.schedule k) q k) run.one.leads
          ∙ ap (λ (l : List Operation). more l room k) (run.did k)
          ∙ one_more operations i k (operation_in room i) below;
    }

-- a crash is none
pub stops : (room : Configuration) (operations : List (List Operation)) (i : ℕ) → IsInterleavingOf room operations → IsAlive room i → IsInterleavingOf (crashed_by room i) operations
stops room operations i run may =
    let after = under_crash_at_end room i run.one may in
    record {
      one = after.0;
      did = λ k. ap (λ (s : List ScheduleEvent). operations_along (opening room.spec) s k) after.1 ∙ along_crash (opening room.spec) run.one.schedule i k ∙ run.did k;
    }

-- ---- before the first step

nothing_yet : (spec : RoomSpec) (numbers : List ℕ) (k : ℕ) → [] ≡ get_or (operations_of_all (map (unstarted spec) numbers)) k []
nothing_yet spec [] k = refl
nothing_yet spec (i ∷ numbers) zero = refl
nothing_yet spec (i ∷ numbers) (suc k) = nothing_yet spec numbers k

pub opens_with_nothing : (spec : RoomSpec) → IsInterleavingOf (opening spec) (operations_of_all (first_progress spec))
opens_with_nothing spec = record { one = record { schedule = []; legal = tt; leads = refl }; did = λ k. nothing_yet spec (range_with_len 0 spec.simulators) k }

pub first_minds : (spec : RoomSpec) (numbers : List ℕ) → minds_of_all (map (unstarted spec) numbers) ≡ map (opening_mind spec) numbers
first_minds spec [] = refl
first_minds spec (i ∷ numbers) = ap (λ (l : List MindState). opening_mind spec i ∷ l) (first_minds spec numbers)

pub first_held : (spec : RoomSpec) (numbers : List ℕ) → map (option_map mind_of) (map Some (map (unstarted spec) numbers)) ≡ map Some (map (opening_mind spec) numbers)
first_held spec [] = refl
first_held spec (i ∷ numbers) = ap (λ (l : List (Option MindState)). Some (opening_mind spec i) ∷ l) (first_held spec numbers)

pub first_done : (spec : RoomSpec) (numbers : List ℕ) → map done_by (map Some (map (unstarted spec) numbers)) ≡ replicate (length numbers) []
first_done spec [] = refl
first_done spec (i ∷ numbers) = ap (λ (l : List (List Operation)). [] ∷ l) (first_done spec numbers)

-- ---- what is read of the progress of simulators

-- what the seat of a simulator has noted of it
pub only-done : (i : ℕ) (x : Progress) → done_by (get_or (only i x) i None) ≡ x.operations
only-done zero x = refl
only-done (suc i) x = only-done i x

pub map_there : {X Y : Type 0} (f : X → Y) (l : List X) (i : ℕ) (x : X) → get_elem? l i ≡ some x → get_elem? (map f l) i ≡ some (f x)
map_there f [] i x e = absurd (some-ne-none x (sym e))
map_there f (y ∷ l) zero x e = ap (λ q. some (f q)) (some-injective y x e)
map_there f (y ∷ l) (suc i) x e = map_there f l i x e

-- what a seat has noted of a simulator
pub done_at : (held : List (Option Progress)) (i : ℕ) → get_or (map done_by held) i [] ≡ done_by (get_or held i None)
done_at [] i = refl
done_at (p ∷ held) zero = refl
done_at (p ∷ held) (suc i) = done_at held i

pub mind_held : (held : List (Option Progress)) (i : ℕ) → get_or (map (option_map mind_of) held) i None ≡ option_map mind_of (get_or held i None)
mind_held [] i = refl
mind_held (p ∷ held) zero = refl
mind_held (p ∷ held) (suc i) = mind_held held i

-- the progress behind a mind
pub record HasMind (o : Option Progress) (mind : MindState) : Type 0 where
  pub progress : Progress
  pub there : o ≡ Some progress
  pub own : progress.mind ≡ mind

pub has_mind : (o : Option Progress) (mind : MindState) → option_map mind_of o ≡ Some mind → HasMind o mind
has_mind None mind e = absurd (cc)
has_mind (Some p) mind e = record { progress = p; there = refl; own = cc }

-- and behind all minds
pub record HaveMinds (held : List (Option Progress)) (minds : List MindState) : Type 0 where
  pub simulators : List Progress
  pub there : held ≡ map Some simulators
  pub own : minds_of_all simulators ≡ minds

pub have_minds : (held : List (Option Progress)) (minds : List MindState) → map (option_map mind_of) held ≡ map Some minds → HaveMinds held minds
have_minds [] [] e = record { simulators = []; there = refl; own = refl }
have_minds [] (m ∷ minds) e = absurd (let l = ap (λ (q : List (Option MindState)). length q) e in omega arith)
have_minds (p ∷ held) [] e = absurd (let l = ap (λ (q : List (Option MindState)). length q) e in omega arith)
have_minds (p ∷ held) (m ∷ minds) e =
    let one = has_mind p m (ap (λ (q : List (Option MindState)). get_or q 0 None) e) in
    let rest = have_minds held minds (ap (λ (q : List (Option MindState)). drop 1 q) e) in
    record {
      simulators = one.progress ∷ rest.simulators;
      there = λ k. one.there k ∷ rest.there k;
      own = λ k. one.own k ∷ rest.own k;
    }

pub whole_done : (simulators : List Progress) → map done_by (map Some simulators) ≡ operations_of_all simulators
whole_done [] = refl
whole_done (p ∷ simulators) = ap (λ (l : List (List Operation)). p.operations ∷ l) (whole_done simulators)

-- the seat of a simulator whose mind this is
pub alone_so : (n : ℕ) (held : List (Option Progress)) (x : Progress) (mind : MindState) → held ≡ only n x → x.mind ≡ mind → held ≡ only n (record { mind = mind; operations = done_by (get_or held n None) })
alone_so n held x mind is own =
    let done : x.operations ≡ done_by (get_or held n None) = sym (only-done n x) ∙ ap (λ (l : List (Option Progress)). done_by (get_or l n None)) (sym is) in
    is ∙ (λ p. only n (record { mind = own p; operations = done p }))

-- a seat to which it is given has its operations
pub done_given : (spec : RoomSpec) (n : ℕ) (o : Option Progress) → done_by (progress_in (given spec n o) n) ≡ done_by o
done_given spec n None = refl
done_given spec n (Some x) = only-done n x

pub given_spec : (spec : RoomSpec) (n : ℕ) (o : Option Progress) → (given spec n o).spec ≡ spec
given_spec spec n None = refl
given_spec spec n (Some x) = refl
