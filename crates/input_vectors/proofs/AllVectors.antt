-- All vectors of some values, and how they are made one by one.
use Rattle.std.proofs.Common.{◌≡◌, ◌∙◌, ℕ, zero, suc, ◌+◌, ◌*◌, List, [], ◌∷◌, ◌++◌, Some, length, map, take, refl, sym, ap, subst, add-one, arith, option_map}
use Rattle.std.specs.Prelude.{slice_get}
use Rattle.std.specs.Global.{Vec}
use Rattle.std.specs.List.{AllByRecursion, Contains, flat_map}
use Rattle.std.proofs.Math.Nat.{pow-succ', pow-zero, suc-mul, zero-mul}
use Rattle.std.proofs.lemmas.List.{append-nil, append_assoc, length-append, length-map, map-append}
use Rattle.std.proofs.lemmas.List.Concat.{flat_map-cons}
use Rattle.std.proofs.lemmas.Grind.{flat_map-append}
use Rattle.std.proofs.lemmas.List.Elements.{Contains-append_left, Contains-append_right}
use Rattle.std.proofs.lemmas.Option.{get_or_from_slice_get, same_Some, slice_get-get_or, slice_get-map, slice_get_within}
use Rattle.input_vectors.specs.Vectors.{entries_of, vector_count, vectors}

-- this value in front of each of these
abbrev pub fronted : ℕ → List (List ℕ) → List (List ℕ)
fronted value rests = map (λ rest. value ∷ rest) rests

-- each of these values in front of each of these
abbrev pub longer : List ℕ → List (List ℕ) → List (List ℕ)
longer values rests = flat_map (λ value. fronted value rests) values

longer-cons : (value : ℕ) (values : List ℕ) (rests : List (List ℕ)) → longer (value ∷ values) rests ≡ fronted value rests ++ longer values rests
longer-cons value values rests = flat_map-cons (λ (v : ℕ). fronted v rests) value values

-- ---- how long they are

abbrev pub HaveLength : ℕ → List (List ℕ) → Type 0
HaveLength n all = AllByRecursion (λ vector. length vector ≡ n) all

fronted_length : (value n : ℕ) (rests : List (List ℕ)) → HaveLength n rests → HaveLength (suc n) (fronted value rests)
fronted_length value n [] all = tt
fronted_length value n (rest ∷ rests) all = (ap suc all.0, fronted_length value n rests all.1)

both_length : (n : ℕ) (some others : List (List ℕ)) → HaveLength n some → HaveLength n others → HaveLength n (some ++ others)
both_length n [] others all more = more
both_length n (one ∷ some) others all more = (all.0, both_length n some others all.1 more)

longer_length : (n : ℕ) (values : List ℕ) (rests : List (List ℕ)) → HaveLength n rests → HaveLength (suc n) (longer values rests)
longer_length n [] rests all = tt
longer_length n (value ∷ values) rests all =
    subst (HaveLength (suc n)) (sym (longer-cons value values rests)) (both_length (suc n) (fronted value rests) (longer values rests) (fronted_length value n rests all) (longer_length n values rests all))

vectors_length : (values : List ℕ) (n : ℕ) → HaveLength n (vectors values n)
vectors_length values zero = (refl, tt)
vectors_length values (suc n) = longer_length n values (vectors values n) (vectors_length values n)

at_length : (n : ℕ) (all : List (List ℕ)) (i : ℕ) (vector : List ℕ) → HaveLength n all → slice_get all i ≡ Some vector → length vector ≡ n
at_length n [] i vector have is = absurd cc
at_length n (one ∷ all) zero vector have is = ap length (sym (same_Some one vector is)) ∙ have.0
at_length n (one ∷ all) (suc i) vector have is = at_length n all i vector have.1 is

-- the vector of an index, of which its entries are known
pub vector_at : (values : List ℕ) (n i : ℕ) (all : List (Vec ℕ)) (vector : Vec ℕ) → entries_of all ≡ vectors values n → slice_get all i ≡ Some vector → slice_get (vectors values n) i ≡ Some vector.items
vector_at values n i all vector are is =
    ap (λ (l : List (List ℕ)). slice_get l i) (sym are) ∙ slice_get-map (λ (v : Vec ℕ). v.items) all i ∙ ap (option_map (λ (v : Vec ℕ). v.items)) is

pub length_at : (values : List ℕ) (n i : ℕ) (vector : List ℕ) → slice_get (vectors values n) i ≡ Some vector → length vector ≡ n
length_at values n i vector is = at_length n (vectors values n) i vector (vectors_length values n) is

-- ---- how many they are

rests_more : (n m : ℕ) → m + n * m ≡ suc n * m
rests_more n m = let more = suc-mul n m in omega (arith, more)

longer_count : (values : List ℕ) (rests : List (List ℕ)) → length (longer values rests) ≡ length values * length rests
longer_count [] rests = sym (zero-mul (length rests))
longer_count (value ∷ values) rests =
    ap length (longer-cons value values rests) ∙ length-append (fronted value rests) (longer values rests)
    ∙ ap (λ (k : ℕ). k + length (longer values rests)) (length-map rests (λ (rest : List ℕ). value ∷ rest))
    ∙ ap (λ (k : ℕ). length rests + k) (longer_count values rests)
    ∙ rests_more (length values) (length rests)

pub vectors_count : (values : List ℕ) (n : ℕ) → length (vectors values n) ≡ vector_count values n
vectors_count values zero = sym (pow-zero (length values))
vectors_count values (suc n) = longer_count values (vectors values n) ∙ ap (λ (k : ℕ). length values * k) (vectors_count values n) ∙ sym (pow-succ' (length values) n)

-- ---- which they are

in_fronted : (value k : ℕ) (rests : List (List ℕ)) (rest : List ℕ) → slice_get rests k ≡ Some rest → slice_get (fronted value rests) k ≡ Some (value ∷ rest)
in_fronted value k rests rest is = slice_get-map (λ (r : List ℕ). value ∷ r) rests k ∙ ap (option_map (λ (r : List ℕ). value ∷ r)) is

there : {A : Type 0} (all : List A) (k : ℕ) (one : A) → slice_get all k ≡ Some one → Contains all one
there all k one is = (k, slice_get_within all k one is, get_or_from_slice_get all k one one is)

at_place : {A : Type 0} (all : List A) (one : A) → (is : Contains all one) → slice_get all is.0 ≡ Some one
at_place all one is = slice_get-get_or all is.0 one is.1 ∙ ap Some is.2

front_there : (value : ℕ) (rests : List (List ℕ)) (rest : List ℕ) → Contains rests rest → Contains (fronted value rests) (value ∷ rest)
front_there value rests rest is = there (fronted value rests) is.0 (value ∷ rest) (in_fronted value is.0 rests rest (at_place rests rest is))

longer_there : (values : List ℕ) (rests : List (List ℕ)) (k value : ℕ) (rest : List ℕ) → slice_get values k ≡ Some value → Contains rests rest → Contains (longer values rests) (value ∷ rest)
longer_there [] rests k value rest is has = absurd cc
longer_there (first ∷ values) rests zero value rest is has =
    subst (λ (l : List (List ℕ)). Contains l (value ∷ rest)) (sym (longer-cons first values rests))
    (Contains-append_left (fronted first rests) (longer values rests) (value ∷ rest) (subst (λ (v : ℕ). Contains (fronted v rests) (value ∷ rest)) (sym (same_Some first value is)) (front_there value rests rest has)))
longer_there (first ∷ values) rests (suc k) value rest is has =
    subst (λ (l : List (List ℕ)). Contains l (value ∷ rest)) (sym (longer-cons first values rests))
    (Contains-append_right (fronted first rests) (longer values rests) (value ∷ rest) (longer_there values rests k value rest is has))

-- a list of these values is one of the vectors
pub all_there : (values vector : List ℕ) → AllByRecursion (Contains values) vector → Contains (vectors values (length vector)) vector
all_there values [] all = there ([] ∷ []) 0 [] refl
all_there values (value ∷ rest) all =
    longer_there values (vectors values (length rest)) all.0.0 value rest (at_place values value all.0) (all_there values rest all.1)

abbrev AreOf : List ℕ → List (List ℕ) → Type 0
AreOf values all = AllByRecursion (AllByRecursion (Contains values)) all

fronted_of : (values : List ℕ) (value : ℕ) (rests : List (List ℕ)) → Contains values value → AreOf values rests → AreOf values (fronted value rests)
fronted_of values value [] has all = tt
fronted_of values value (rest ∷ rests) has all = ((has, all.0), fronted_of values value rests has all.1)

both_of : (values : List ℕ) (some others : List (List ℕ)) → AreOf values some → AreOf values others → AreOf values (some ++ others)
both_of values [] others all more = more
both_of values (one ∷ some) others all more = (all.0, both_of values some others all.1 more)

longer_of : (values before some : List ℕ) (rests : List (List ℕ)) → values ≡ before ++ some → AreOf values rests → AreOf values (longer some rests)
longer_of values before [] rests is all = tt
longer_of values before (value ∷ some) rests is all =
    let has : Contains values value = subst (λ (l : List ℕ). Contains l value) (sym is) (Contains-append_right before (value ∷ some) value (there (value ∷ some) 0 value refl)) in
    subst (AreOf values) (sym (longer-cons value some rests))
    (both_of values (fronted value rests) (longer some rests) (fronted_of values value rests has all) (longer_of values (before ++ value ∷ []) some rests (is ∙ sym (append_assoc before (value ∷ []) some)) all))

vectors_of : (values : List ℕ) (n : ℕ) → AreOf values (vectors values n)
vectors_of values zero = (tt, tt)
vectors_of values (suc n) = longer_of values [] values (vectors values n) refl (vectors_of values n)

at_of : (values : List ℕ) (all : List (List ℕ)) (k : ℕ) (vector : List ℕ) → AreOf values all → slice_get all k ≡ Some vector → AllByRecursion (Contains values) vector
at_of values [] k vector have is = absurd cc
at_of values (one ∷ all) zero vector have is = subst (AllByRecursion (Contains values)) (same_Some one vector is) have.0
at_of values (one ∷ all) (suc k) vector have is = at_of values all k vector have.1 is

-- a vector has its length, and each entry is one of the values
pub none_else : (values vector : List ℕ) (n : ℕ) → Contains (vectors values n) vector → (length vector ≡ n) × AllByRecursion (Contains values) vector
none_else values vector n has =
    let at = at_place (vectors values n) vector has in
    (length_at values n has.0 vector at, at_of values (vectors values n) has.0 vector (vectors_of values n) at)

-- ---- how they are made

entries_more : (all : List (Vec ℕ)) (one : Vec ℕ) → entries_of (all ++ one ∷ []) ≡ entries_of all ++ one.items ∷ []
entries_more all one = map-append (λ (v : Vec ℕ). v.items) all (one ∷ [])

-- one vector more has the value in front
pub fronted_more : (value i : ℕ) (rests : List (Vec ℕ)) (rest one : Vec ℕ) (before : List (List ℕ)) (all after : List (Vec ℕ)) → take (i + 1) rests ≡ take i rests ++ rest ∷ [] → one.items ≡ value ∷ rest.items → after ≡ all ++ one ∷ []
    → entries_of all ≡ before ++ fronted value (entries_of (take i rests)) → entries_of after ≡ before ++ fronted value (entries_of (take (i + 1) rests))
fronted_more value i rests rest one before all after took front is so_far =
    ap entries_of is ∙ entries_more all one
    ∙ ap (λ (l : List (List ℕ)). l ++ one.items ∷ []) so_far
    ∙ ap (λ (v : List ℕ). (before ++ fronted value (entries_of (take i rests))) ++ v ∷ []) front
    ∙ append_assoc before (fronted value (entries_of (take i rests))) ((value ∷ rest.items) ∷ [])
    ∙ ap (λ (l : List (List ℕ)). before ++ l) (sym (map-append (λ (r : List ℕ). value ∷ r) (entries_of (take i rests)) (rest.items ∷ [])))
    ∙ ap (λ (l : List (List ℕ)). before ++ fronted value l) (sym (entries_more (take i rests) rest) ∙ ap entries_of (sym took))

-- the vectors with one more value in front of each
pub longer_more : (values : List ℕ) (i value : ℕ) (rests all after : List (List ℕ)) → take (i + 1) values ≡ take i values ++ value ∷ [] → all ≡ longer (take i values) rests → after ≡ all ++ fronted value rests → after ≡ longer (take (i + 1) values) rests
longer_more values i value rests all after took so_far is =
    is ∙ ap (λ (l : List (List ℕ)). l ++ fronted value rests) so_far
    ∙ ap (λ (l : List (List ℕ)). longer (take i values) rests ++ l) (sym (append-nil (fronted value rests)) ∙ sym (longer-cons value [] rests))
    ∙ sym (flat_map-append (λ (v : ℕ). fronted v rests) (take i values) (value ∷ []))
    ∙ ap (λ (l : List ℕ). longer l rests) (sym took)

-- vectors that are longer by one
pub vectors_more : (values : List ℕ) (n : ℕ) → longer values (vectors values n) ≡ vectors values (n + 1)
vectors_more values n = rw add-one refl
