-- The vectors of inputs of a reduction: each has an index, and each index has one.
use Rattle.std.proofs.Common.{◌≡◌, ℕ, zero, suc, ◌+◌, ◌*◌, ◌/◌, ◌%◌, ◌^◌, ◌<◌, ◌≤◌, true, false, List, [], ◌∷◌, ◌++◌, length, take, get_or, Some, None, refl, sym, ap, ◌∙◌, subst, arith, inl, inr, eqb}
use Rattle.std.specs.Prelude.{slice_get}
use Rattle.std.specs.List.{Contains, list_any}
use Rattle.std.proofs.lemmas.Bool.{cases_lt}
use Rattle.std.proofs.lemmas.Grind.{get_or_default_zero, pow_more}
use Rattle.std.proofs.lemmas.List.{get_or_append_left, append_assoc, append-nil, length_push, take_all, take_more}
use Rattle.std.proofs.lemmas.Nat.{div-mul-add, mod-mul-add, mod_below}
use Rattle.std.proofs.lemmas.Option.{slice_get_within, slice_get-get_or}
use Rattle.std.proofs.Math.Nat.{pow-zero, mul-le-mul_right, mul_assoc, mul_comm, pow-le-pow_left, pow-le-pow_right}
use Rattle.std.proofs.Math.Seq.{get_or-append_seam}
use Rattle.room_spec.specs.Rooms.{RoomSpec, AreOwn, IsWithinLimits, processes}
use Rattle.room_spec.specs.declared.version.Version.{Version}
use Rattle.transcript.specs.Reductions.{AreFromOwn}
use Rattle.transcript.specs.Tasks.{different}
use Rattle.transcript.proofs.CallerLemmas.{any_different, contains_in, different-push, different_in, in_contains, in_different}
use Rattle.run_search.specs.Agreed.{agreed_at, agreed_count, own_values, vector_at}

-- ---- the different own inputs

pub none_past : {A : Type 0} (xs : List A) (i : ℕ) → slice_get xs i ≡ None → length xs ≤ i
none_past [] i none = omega arith
none_past (x ∷ xs) zero none = absurd cc
none_past (x ∷ xs) (suc i) none = let past = none_past xs i none in omega (arith, past)

pub values_none : (own : List ℕ) (i : ℕ) → slice_get own i ≡ None → different (take (i + 1) own) ≡ different (take i own)
values_none own i none = let past = none_past own i none in ap different (take_all (i + 1) own (omega (arith, past)) ∙ sym (take_all i own past))

longer : (own : List ℕ) (i v : ℕ) → slice_get own i ≡ Some v → take (i + 1) own ≡ take i own ++ v ∷ []
longer own i v some =
    let within = slice_get_within own i v some in
    let same : Some (get_or own i v) ≡ Some v = sym (slice_get-get_or own i v within) ∙ some in
    take_more own i v within ∙ ap (λ (x : ℕ). take i own ++ x ∷ []) (let is : get_or own i v ≡ v = cc in is)

pub values_again : (own : List ℕ) (i v : ℕ) → slice_get own i ≡ Some v → list_any (λ y. eqb y v) (different (take i own)) ≡ true → different (take (i + 1) own) ≡ different (take i own)
values_again own i v some there =
    ap different (longer own i v some) ∙ different-push (take i own) v ∙ rw (sym (any_different v (take i own)) ∙ there) (append-nil (different (take i own)))

pub values_more : (own : List ℕ) (i v : ℕ) → slice_get own i ≡ Some v → list_any (λ y. eqb y v) (different (take i own)) ≡ false → different (take (i + 1) own) ≡ different (take i own) ++ v ∷ []
values_more own i v some there =
    ap different (longer own i v some) ∙ different-push (take i own) v ∙ rw (sym (any_different v (take i own)) ∙ there) refl

own_few : (own : List ℕ) (version : Version) (inputs : List ℕ) (m : ℕ) → AreOwn own version inputs m → length own ≤ m
own_few [] version inputs m are = omega arith
own_few (input ∷ own) version inputs m are = omega (arith, are.2)

pub all_own : (spec : RoomSpec) (i : ℕ) → IsWithinLimits spec → spec.simulators ≤ i → take i spec.own ≡ spec.own
all_own spec i limits past = take_all i spec.own (let few = own_few spec.own spec.version spec.inputs spec.simulators limits.own in omega (arith, few, past))

-- ---- how many vectors there are

pub small_count : (b n : ℕ) → b ≤ 8 → n ≤ 16 → b ^ n < 2 ^ 64
small_count b n few short =
    let left : b ^ n ≤ 8 ^ n = pow-le-pow_left few n in
    let right : 8 ^ n ≤ 8 ^ 16 = pow-le-pow_right {n = 8} (omega arith) short in
    omega (arith, left, right)

-- ---- from an index to its vector

pub vector_long : (values : List ℕ) (n index : ℕ) → length (vector_at values n index) ≡ n
vector_long values zero index = refl
vector_long values (suc n) index = length_push (vector_at values n (index / length values)) (get_or values (index % length values) 0) ∙ (let long = vector_long values n (index / length values) in omega (arith, long))

vector_from : (values : List ℕ) (n index p : ℕ) → 1 ≤ length values → p < n → Contains values (get_or (vector_at values n index) p 0)
vector_from values zero index p some below = absurd (omega (arith, below))
vector_from values (suc n) index p some below =
    let long = vector_long values n (index / length values) in
    elim (cases_lt p n) [
      | inl earlier ↦ subst (Contains values) (sym (get_or_append_left (vector_at values n (index / length values)) (get_or values (index % length values) 0 ∷ []) 0 p (omega (arith, earlier, long)))) (vector_from values n (index / length values) p some earlier)
      | inr late ↦
          let here : length (vector_at values n (index / length values)) ≡ p = omega (arith, late, below, long) in
          let read : get_or (vector_at values n (index / length values) ++ get_or values (index % length values) 0 ∷ []) p 0 ≡ get_or values (index % length values) 0 =
          ap (λ (q : ℕ). get_or (vector_at values n (index / length values) ++ get_or values (index % length values) 0 ∷ []) q 0) (sym here) ∙ get_or-append_seam (vector_at values n (index / length values)) (get_or values (index % length values) 0) [] 0 in
          let within = mod_below index (length values) some in
          subst (Contains values) (sym read) (index % length values, within, get_or_default_zero values (index % length values) (get_or values (index % length values) 0) within)
    ]

no_power : (b n index : ℕ) → 1 ≤ n → index < b ^ n → 1 ≤ b
no_power zero zero index some below = absurd (omega (arith, some))
no_power zero (suc n) index some below = absurd (let none = pow_more 0 n in let at : index < 0 ^ (n + 1) = subst (λ (k : ℕ). index < 0 ^ k) (omega arith) below in omega (arith, none, at))
no_power (suc b) n index some below = omega arith

pub some_values : (spec : RoomSpec) (index : ℕ) → 1 ≤ processes spec → index < agreed_count spec → 1 ≤ length (own_values spec)
some_values spec index some below = no_power (length (own_values spec)) (processes spec) index some below

own_of : (own : List ℕ) (v : ℕ) → Contains (different own) v → Contains own v
own_of own v there = in_contains v own (different_in v own (contains_in v (different own) there))

of_own : (own : List ℕ) (v : ℕ) → Contains own v → Contains (different own) v
of_own own v there = in_contains v (different own) (in_different v own (contains_in v own there))

pub from_own : (spec : RoomSpec) (index : ℕ) → 1 ≤ processes spec → index < agreed_count spec → AreFromOwn spec (agreed_at spec index)
from_own spec index some below = record {
  many = vector_long (own_values spec) (processes spec) index;
  own = λ p within. own_of spec.own (get_or (agreed_at spec index) p 0) (vector_from (own_values spec) (processes spec) index p (some_values spec index some below) within);
}

-- ---- from a vector to its index

record Reaches (values inputs : List ℕ) (n start : ℕ) : Type 0 where
  index : ℕ
  below : index < (start + 1) * length values ^ length inputs
  is : vector_at values (n + length inputs) index ≡ vector_at values n start ++ inputs

one_on : (values : List ℕ) (v d n start : ℕ) → d < length values → get_or values d 0 ≡ v → vector_at values (suc n) (start * length values + d) ≡ vector_at values n start ++ v ∷ []
one_on values v d n start within read =
    let quotient : (start * length values + d) / length values ≡ start = div-mul-add start (length values) d within in
    let rest : (start * length values + d) % length values ≡ d = mod-mul-add start (length values) d within in
    rw (quotient, rest, read) refl

grows : (start b d k index : ℕ) → d < b → index < (start * b + d + 1) * b ^ k → index < (start + 1) * b ^ suc k
grows start b d k index within below =
    let more : (start * b + d + 1) * b ^ k ≤ (start + 1) * b * b ^ k = mul-le-mul_right (b ^ k) (let spread : (start + 1) * b ≡ start * b + b = omega arith in omega (arith, within, spread)) in
    let power : b ^ suc k ≡ b ^ k * b = ap (λ (n : ℕ). b ^ n) (omega arith) ∙ pow_more b k in
    let regroup : (start + 1) * b * b ^ k ≡ (start + 1) * (b ^ k * b) = mul_assoc (start + 1) b (b ^ k) ∙ ap (λ (n : ℕ). (start + 1) * n) (mul_comm b (b ^ k)) in
    let whole : (start + 1) * b ^ suc k ≡ (start + 1) * (b ^ k * b) = ap (λ (n : ℕ). (start + 1) * n) power in
    omega (arith, below, more, regroup, whole)

reaches : (values inputs : List ℕ) (n start : ℕ) → 1 ≤ length values → ((p : ℕ) → p < length inputs → Contains values (get_or inputs p 0)) → Reaches values inputs n start
reaches values [] n start some each = record {
  index = start;
  below = (let one : length values ^ length {A = ℕ} [] ≡ 1 = pow-zero (length values) in subst (λ (k : ℕ). start < (start + 1) * k) (sym one) (omega arith));
  is = ap (λ (k : ℕ). vector_at values k start) (let same : n + 0 ≡ n = omega arith in same) ∙ sym (append-nil (vector_at values n start));
}
reaches values (v ∷ rest) n start some each =
    let at = each 0 (omega arith) in
    let read : get_or values at.0 0 ≡ v = sym (get_or_default_zero values at.0 v at.1) ∙ at.2 in
    let next = start * length values + at.0 in
    let more = reaches values rest (suc n) next some (λ p below. each (suc p) (omega (arith, below))) in
    let count : n + length (v ∷ rest) ≡ suc n + length rest = omega arith in
    record {
      index = more.index;
      below = grows start (length values) at.0 (length rest) more.index at.1 more.below;
      is =
          ap (λ (k : ℕ). vector_at values k more.index) count ∙ more.is ∙ ap (λ (l : List ℕ). l ++ rest) (one_on values v at.0 n start at.1 read)
          ∙ append_assoc (vector_at values n start) (v ∷ []) rest;
    }

first_there : (xs : List ℕ) (v : ℕ) → Contains xs v → 1 ≤ length xs
first_there xs v there = omega (arith, there.1)

pub each_index : (spec : RoomSpec) (inputs : List ℕ) → 1 ≤ processes spec → AreFromOwn spec inputs → (index : ℕ) × (index < agreed_count spec) × (agreed_at spec index ≡ inputs)
each_index spec inputs some from =
    let values = own_values spec in
    let each : (p : ℕ) → p < length inputs → Contains values (get_or inputs p 0) = λ p below. of_own spec.own (get_or inputs p 0) (from.own p (omega (arith, below, from.many))) in
    let base : 1 ≤ length values = first_there values (get_or inputs 0 0) (each 0 (omega (arith, some, from.many))) in
    let found = reaches values inputs 0 0 base each in
    let long : 0 + length inputs ≡ processes spec = omega (arith, from.many) in
    let bound : found.index < length values ^ processes spec = subst (λ (k : ℕ). found.index < length values ^ k) from.many (let once : 1 * length values ^ length inputs ≡ length values ^ length inputs = omega arith in omega (arith, found.below, once)) in
    (found.index, bound, ap (λ (k : ℕ). vector_at values k found.index) (sym long) ∙ found.is)
