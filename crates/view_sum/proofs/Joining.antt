-- An outcome of later schedules joins those so far, or comes for the first time.
use Rattle.std.proofs.Common.{◌≡◌, ◌∙◌, ℕ, zero, suc, ◌+◌, ◌<◌, Bool, true, false, ◌||◌, cond, get_or, set, List, [], ◌∷◌, ◌++◌, map, length, Some, refl, sym, ap, ap₂, arith}
use Rattle.std.specs.List.{list_any, position, sum_by}
use Rattle.std.proofs.lemmas.List.{map-append}
use Rattle.std.proofs.lemmas.List.Quantifiers.{position-Some}
use Rattle.std.proofs.lemmas.List.Sums.{sum_by-cons}
use Rattle.arrayvec.specs.declared.array_vec.ArrayVec.{ArrayVec}
use Rattle.ws_history.specs.declared.states.ProcessState.{ProcessState}
use Rattle.room_sample.specs.Samples.{same_states}
use Rattle.room_sample.specs.Shown.{Shown, shown_of}
use Rattle.room_sample.specs.declared.examples.Example.{Example}
use Rattle.view_sum.specs.Adding.{ArePatterns, is_same, more_at, more_times, pattern_by, with_outcome, with_outcomes}
use Rattle.view_sum.specs.Samples.{schedules_in}

abbrev pub Key : Type 0
Key = ArrayVec ProcessState 16 (Unit {0})

abbrev pub is_key : Key → Key → Bool
is_key one other = same_states one.items other.items

-- ---- how many schedules

times_of : Shown → ℕ
times_of one = one.times

pub sums_are : (examples : List Example) → sum_by (λ one. one.times) examples ≡ schedules_in (map shown_of examples)
sums_are [] = refl
sums_are (one ∷ examples) =
    let now = sum_by-cons {X = Example} (λ one. one.times) one examples in
    let shown = sum_by-cons {X = Shown} (λ one. one.times) (shown_of one) (map shown_of examples) in
    let rest = sums_are examples in
    omega (arith, now, shown, rest)

total_by : (b : Bool) (one other : Shown) (others later : List Shown) → schedules_in later ≡ schedules_in others + one.times
    → schedules_in (cond b (more_times one.times other ∷ others) (other ∷ later)) ≡ schedules_in (other ∷ others) + one.times
total_by true one other others later is =
    let more = sum_by-cons {X = Shown} (λ one. one.times) (more_times one.times other) others in
    let old = sum_by-cons {X = Shown} (λ one. one.times) other others in
    omega (arith, more, old)
total_by false one other others later is =
    let new = sum_by-cons {X = Shown} (λ one. one.times) other later in
    let old = sum_by-cons {X = Shown} (λ one. one.times) other others in
    omega (arith, new, old, is)

pub with_total : (grouped : Bool) (one : Shown) (outcomes : List Shown) → schedules_in (with_outcome grouped one outcomes) ≡ schedules_in outcomes + one.times
with_total grouped one [] =
    let new = sum_by-cons {X = Shown} (λ one. one.times) one [] in
    let none : schedules_in [] ≡ 0 = refl in
    omega (arith, new, none)
with_total grouped one (other ∷ others) = total_by (is_same grouped one other) one other others (with_outcome grouped one others) (with_total grouped one others)

pub withs_total : (grouped : Bool) (outcomes later : List Shown) → schedules_in (with_outcomes grouped outcomes later) ≡ schedules_in outcomes + schedules_in later
withs_total grouped outcomes [] =
    let none : schedules_in [] ≡ 0 = refl in
    omega (arith, none)
withs_total grouped outcomes (one ∷ later) =
    let first = with_total grouped one outcomes in
    let rest = withs_total grouped (with_outcome grouped one outcomes) later in
    let all = sum_by-cons {X = Shown} (λ one. one.times) one later in
    omega (arith, first, rest, all)

-- ---- it comes more often

pub more_there : (examples : List Example) (i count : ℕ) (changed d : Example) → i < length examples → shown_of changed ≡ more_times count (shown_of (get_or examples i d)) → map shown_of (set examples i changed) ≡ more_at i count (map shown_of examples)
more_there [] i count changed d within is = absurd (omega (arith, within))
more_there (one ∷ examples) zero count changed d within is = ap (λ (first : Shown). first ∷ map shown_of examples) is
more_there (one ∷ examples) (suc i) count changed d within is = ap (λ (all : List Shown). shown_of one ∷ all) (more_there examples i count changed d (omega (arith, within)) is)

-- ---- an outcome that is there

is_like : (grouped : Bool) (key pattern : Key) (one other : Shown) → key.items ≡ pattern_by grouped one.states → pattern.items ≡ pattern_by grouped other.states → is_key key pattern ≡ is_same grouped one other
is_like grouped key pattern one other key_is is = ap₂ (λ (a b : List ProcessState). same_states a b) key_is is

joined_at : (grouped : Bool) (key : Key) (one : Shown) (outcomes : List Shown) (patterns : List Key) (i : ℕ) → key.items ≡ pattern_by grouped one.states → ArePatterns grouped outcomes patterns → i < length patterns
    → is_key key (get_or patterns i key) ≡ true → ((k : ℕ) → k < i → is_key key (get_or patterns k key) ≡ false) → more_at i one.times outcomes ≡ with_outcome grouped one outcomes
joined_at grouped key one [] [] i key_is are within here before = absurd (omega (arith, within))
joined_at grouped key one (other ∷ others) (pattern ∷ patterns) zero key_is are within here before =
    sym (ap (λ (b : Bool). cond b (more_times one.times other ∷ others) (other ∷ with_outcome grouped one others)) (sym (is_like grouped key pattern one other key_is are.0) ∙ here))
joined_at grouped key one (other ∷ others) (pattern ∷ patterns) (suc i) key_is are within here before =
    ap (λ (all : List Shown). other ∷ all) (joined_at grouped key one others patterns i key_is are.1 (omega (arith, within)) here (λ k below. before (suc k) (omega (arith, below))))
    ∙ sym (ap (λ (b : Bool). cond b (more_times one.times other ∷ others) (other ∷ with_outcome grouped one others)) (sym (is_like grouped key pattern one other key_is are.0) ∙ before 0 (omega arith)))
joined_at grouped key one [] (pattern ∷ patterns) i key_is are within here before = absurd are
joined_at grouped key one (other ∷ others) [] i key_is are within here before = absurd are

pub joined_there : (grouped : Bool) (key : Key) (one : Shown) (outcomes : List Shown) (patterns : List Key) (i : ℕ) → key.items ≡ pattern_by grouped one.states → ArePatterns grouped outcomes patterns → position (is_key key) patterns ≡ Some i → more_at i one.times outcomes ≡ with_outcome grouped one outcomes
joined_there grouped key one outcomes patterns i key_is are found =
    let at = position-Some (is_key key) patterns i key found in
    joined_at grouped key one outcomes patterns i key_is are at.0 at.1 at.2

pub patterns_stay : (grouped : Bool) (outcomes : List Shown) (patterns : List Key) (i count : ℕ) → ArePatterns grouped outcomes patterns → ArePatterns grouped (more_at i count outcomes) patterns
patterns_stay grouped [] [] i count are = are
patterns_stay grouped (one ∷ outcomes) (pattern ∷ patterns) zero count are = are
patterns_stay grouped (one ∷ outcomes) (pattern ∷ patterns) (suc i) count are = (are.0, patterns_stay grouped outcomes patterns i count are.1)
patterns_stay grouped [] (pattern ∷ patterns) i count are = absurd are
patterns_stay grouped (one ∷ outcomes) [] i count are = absurd are

-- each outcome has a pattern
pub as_many : (grouped : Bool) (examples : List Example) (patterns : List Key) → ArePatterns grouped (map shown_of examples) patterns → length patterns ≡ length examples
as_many grouped [] [] are = refl
as_many grouped (one ∷ examples) (pattern ∷ patterns) are = ap suc (as_many grouped examples patterns are.1)
as_many grouped [] (pattern ∷ patterns) are = absurd are
as_many grouped (one ∷ examples) [] are = absurd are

-- ---- an outcome that is new

neither : (a b : Bool) → (a || b) ≡ false → (a ≡ false) × (b ≡ false)
neither true b is = absurd cc
neither false b is = (refl, is)

pub begun : (grouped : Bool) (key : Key) (one : Shown) (outcomes : List Shown) (patterns : List Key) → key.items ≡ pattern_by grouped one.states → ArePatterns grouped outcomes patterns → list_any (is_key key) patterns ≡ false → outcomes ++ one ∷ [] ≡ with_outcome grouped one outcomes
begun grouped key one [] [] key_is are none = refl
begun grouped key one (other ∷ others) (pattern ∷ patterns) key_is are none =
    let parts = neither (is_key key pattern) (list_any (is_key key) patterns) none in
    let not : is_same grouped one other ≡ false = sym (is_like grouped key pattern one other key_is are.0) ∙ parts.0 in
    ap (λ (all : List Shown). other ∷ all) (begun grouped key one others patterns key_is are.1 parts.1)
    ∙ sym (ap (λ (b : Bool). cond b (more_times one.times other ∷ others) (other ∷ with_outcome grouped one others)) not)
begun grouped key one [] (pattern ∷ patterns) key_is are none = absurd are
begun grouped key one (other ∷ others) [] key_is are none = absurd are

pub pattern_more : (grouped : Bool) (key : Key) (one : Shown) (outcomes : List Shown) (patterns : List Key) → key.items ≡ pattern_by grouped one.states → ArePatterns grouped outcomes patterns → ArePatterns grouped (outcomes ++ one ∷ []) (patterns ++ key ∷ [])
pattern_more grouped key one [] [] key_is are = (key_is, tt)
pattern_more grouped key one (other ∷ others) (pattern ∷ patterns) key_is are = (are.0, pattern_more grouped key one others patterns key_is are.1)
pattern_more grouped key one [] (pattern ∷ patterns) key_is are = absurd are
pattern_more grouped key one (other ∷ others) [] key_is are = absurd are

pub pushed : (examples after : List Example) (copy : Example) (one : Shown) → after ≡ examples ++ copy ∷ [] → shown_of copy ≡ one → map shown_of after ≡ map shown_of examples ++ one ∷ []
pushed examples after copy one more same =
    ap (map shown_of) more ∙ map-append shown_of examples (copy ∷ []) ∙ ap (λ (last : Shown). map shown_of examples ++ last ∷ []) same
