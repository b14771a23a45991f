-- An outcome joins its group, or begins one.
use Rattle.std.proofs.Common.{◌≡◌, ◌∙◌, ℕ, zero, suc, ◌<◌, Bool, true, false, ◌&&◌, ◌||◌, cond, get_or, List, [], ◌∷◌, ◌++◌, length, Some, refl, sym, ap, ap₂, subst, arith}
use Rattle.std.specs.List.{list_any, position}
use Rattle.std.proofs.lemmas.Bool.{eq-eqb}
use Rattle.std.proofs.lemmas.List.Quantifiers.{position-Some}
use Rattle.ws_history.specs.contracts.states.ProcessStatePartialEq.TheImpl.{ghosts}
use Rattle.ws_history.specs.declared.states.ProcessState.{ProcessState}
use Rattle.ws_history.specs.declared.states.ProcessState.TheVariants.{Decided, Spent, Held, Going}
use Rattle.room_sample.specs.Groups.{ArePatterns, are_alike, joined, without_holders}
use Rattle.room_sample.specs.Parts.{added, more_at, more_times}
use Rattle.room_sample.specs.Samples.{Counted, same_states}
use Rattle.room_sample.proofs.Counting.{Key, is_key}
use Rattle.room_sample.proofs.Shortening.{same_lists}

-- ---- lists of states compare as equal if they are one

same_self : (state : ProcessState) → ghosts.eq state state ≡ true
same_self (Decided v) = eq-eqb v v refl
same_self Spent = refl
same_self (Held i) = eq-eqb i i refl
same_self Going = refl

pub same_states_self : (states : List ProcessState) → same_states states states ≡ true
same_states_self [] = refl
same_states_self (state ∷ states) = by (ghosts.eq state state) (same_states states states) (same_self state) (same_states_self states)
  where
    by : (a b : Bool) → a ≡ true → b ≡ true → (a && b) ≡ true
    by true b one other = other
    by false b one other = one

-- ---- a group that is there

-- the pattern of an outcome is that of a group just if both are alike
is_alike : (key pattern : Key) (one group : Counted) → key.items ≡ without_holders one.states → pattern.items ≡ without_holders group.states → is_key key pattern ≡ are_alike one group
is_alike key pattern one group key_is is = ap₂ (λ (a b : List ProcessState). same_states a b) key_is is

joined_at : (key : Key) (one : Counted) (groups : List Counted) (patterns : List Key) (i : ℕ) → key.items ≡ without_holders one.states → ArePatterns groups patterns → i < length patterns
    → is_key key (get_or patterns i key) ≡ true → ((k : ℕ) → k < i → is_key key (get_or patterns k key) ≡ false) → more_at groups i one.times ≡ joined one groups
joined_at key one [] [] i key_is are within here before = absurd (omega (arith, within))
joined_at key one (group ∷ groups) (pattern ∷ patterns) zero key_is are within here before =
    sym (ap (λ (b : Bool). cond b (more_times one.times group ∷ groups) (group ∷ joined one groups)) (sym (is_alike key pattern one group key_is are.0) ∙ here))
joined_at key one (group ∷ groups) (pattern ∷ patterns) (suc i) key_is are within here before =
    ap (λ (all : List Counted). group ∷ all) (joined_at key one groups patterns i key_is are.1 (omega (arith, within)) here (λ k below. before (suc k) (omega (arith, below))))
    ∙ sym (ap (λ (b : Bool). cond b (more_times one.times group ∷ groups) (group ∷ joined one groups)) (sym (is_alike key pattern one group key_is are.0) ∙ before 0 (omega arith)))
joined_at key one [] (pattern ∷ patterns) i key_is are within here before = absurd are
joined_at key one (group ∷ groups) [] i key_is are within here before = absurd are

pub joined_there : (key : Key) (one : Counted) (groups : List Counted) (patterns : List Key) (i : ℕ) → key.items ≡ without_holders one.states → ArePatterns groups patterns → position (is_key key) patterns ≡ Some i → more_at groups i one.times ≡ joined one groups
joined_there key one groups patterns i key_is are found =
    let at = position-Some (is_key key) patterns i key found in
    joined_at key one groups patterns i key_is are at.0 at.1 at.2

pub patterns_stay : (groups : List Counted) (patterns : List Key) (i count : ℕ) → ArePatterns groups patterns → ArePatterns (more_at groups i count) patterns
patterns_stay [] [] i count are = are
patterns_stay (group ∷ groups) (pattern ∷ patterns) zero count are = are
patterns_stay (group ∷ groups) (pattern ∷ patterns) (suc i) count are = (are.0, patterns_stay groups patterns i count are.1)
patterns_stay [] (pattern ∷ patterns) i count are = absurd are
patterns_stay (group ∷ groups) [] i count are = absurd are

-- each group has a pattern
pub as_many : (groups : List Counted) (patterns : List Key) → ArePatterns groups patterns → length patterns ≡ length groups
as_many [] [] are = refl
as_many (group ∷ groups) (pattern ∷ patterns) are = ap suc (as_many groups patterns are.1)
as_many [] (pattern ∷ patterns) are = absurd are
as_many (group ∷ groups) [] are = absurd are

-- ---- a group that is new

-- states that are the same have the same pattern
differ : (one group : Counted) → are_alike one group ≡ false → same_states one.states group.states ≡ false
differ one group not = by (same_states one.states group.states) refl
  where
    by : (b : Bool) → same_states one.states group.states ≡ b → b ≡ false
    by true is = sym (same_states_self (without_holders one.states)) ∙ ap (λ (states : List ProcessState). same_states (without_holders one.states) (without_holders states)) (same_lists one.states group.states is) ∙ not
    by false is = refl

neither : (a b : Bool) → (a || b) ≡ false → (a ≡ false) × (b ≡ false)
neither true b is = absurd cc
neither false b is = (refl, is)

pub begun : (key : Key) (one : Counted) (groups : List Counted) (patterns : List Key) → key.items ≡ without_holders one.states → ArePatterns groups patterns → list_any (is_key key) patterns ≡ false → added one groups ≡ joined one groups
begun key one [] [] key_is are none = refl
begun key one (group ∷ groups) (pattern ∷ patterns) key_is are none =
    let parts = neither (is_key key pattern) (list_any (is_key key) patterns) none in
    let not : are_alike one group ≡ false = sym (is_alike key pattern one group key_is are.0) ∙ parts.0 in
    ap (λ (b : Bool). cond b (more_times one.times group ∷ groups) (group ∷ added one groups)) (differ one group not)
    ∙ ap (λ (all : List Counted). group ∷ all) (begun key one groups patterns key_is are.1 parts.1)
    ∙ sym (ap (λ (b : Bool). cond b (more_times one.times group ∷ groups) (group ∷ joined one groups)) not)
begun key one [] (pattern ∷ patterns) key_is are none = absurd are
begun key one (group ∷ groups) [] key_is are none = absurd are

pub pattern_more : (key : Key) (one : Counted) (groups : List Counted) (patterns : List Key) → key.items ≡ without_holders one.states → ArePatterns groups patterns → list_any (is_key key) patterns ≡ false → ArePatterns (joined one groups) (patterns ++ key ∷ [])
pattern_more key one [] [] key_is are none = (key_is, tt)
pattern_more key one (group ∷ groups) (pattern ∷ patterns) key_is are none =
    let parts = neither (is_key key pattern) (list_any (is_key key) patterns) none in
    let not : are_alike one group ≡ false = sym (is_alike key pattern one group key_is are.0) ∙ parts.0 in
    let later : ArePatterns (group ∷ joined one groups) (pattern ∷ (patterns ++ key ∷ [])) = (are.0, pattern_more key one groups patterns key_is are.1 parts.1) in
    subst (λ (b : Bool). ArePatterns (cond b (more_times one.times group ∷ groups) (group ∷ joined one groups)) (pattern ∷ (patterns ++ key ∷ []))) (sym not) later
pattern_more key one [] (pattern ∷ patterns) key_is are none = absurd are
pattern_more key one (group ∷ groups) [] key_is are none = absurd are
