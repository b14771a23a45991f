-- Tables and lists of nodes only grow.
use Rattle.std.proofs.Common.{◌≡◌, ℕ, ◌<◌, Bool, true, cond, eqb, List, [], ◌∷◌, ◌++◌, length, Some, sym, ap, ◌∙◌, subst, arith, inl, inr}
use Rattle.std.specs.Prelude.{slice_get}
use Rattle.std.specs.Cmp.Lexicographic.{pointwise}
use Rattle.std.specs.List.{Contains, list_any}
use Rattle.std.proofs.lemmas.Bool.{and_parts, cases_Bool, cases_lt, eqb-true}
use Rattle.std.proofs.lemmas.List.{append-nil, length_push}
use Rattle.std.proofs.lemmas.Option.{same_Some, slice_get_within}
use Rattle.indexmap.specs.IndexSet.{insert_key}
use Rattle.indexmap.proofs.CallerLemmas.{Contains-list_any}
use Rattle.room_spec.specs.Rooms.{RoomSpec}
use Rattle.transcript.proofs.CallerLemmas.{slice_get-append, slice_get-push}
use Rattle.room_search.specs.declared.local.Local.{Local}
use Rattle.room_search.specs.contracts.local.LocalPartialEq.TheImpl as tests
use Rattle.simulator.proofs.CallerLemmas.{same_knowledge}
use Rattle.simulator.specs.contracts.knowledge.KnowledgePartialEq.TheImpl as knowledge
use Rattle.room_search.specs.Nodes.{AreAlike, AreLocals, Grows, IsNumberOf}
use Rattle.room_search.proofs.Same.{same_words}
use Rattle.room_search.specs.Steps.{IsLocal}

-- ---- one more

abbrev pub AreEachOf : {A : Type 0} → (A → Type 0) → List A → Type 0
AreEachOf {A} P list = (number : ℕ) (one : A) → slice_get list number ≡ Some one → P one

each_push : {A : Type 0} (P : A → Type 0) (old : List A) (value : A) → P value → AreEachOf P old → AreEachOf P (old ++ value ∷ [])
each_push P old value is are number one there = elim (cases_lt number (length old)) [
  | inl below ↦ are number one (sym (slice_get-append old (value ∷ []) number below) ∙ there)
  | inr past ↦
      let inside = slice_get_within (old ++ value ∷ []) number one there in
      let long = length_push old value in
      let at : length old ≡ number = omega (arith, past, inside, long) in
      subst P (same_Some value one (sym (slice_get-push old value) ∙ ap (slice_get (old ++ value ∷ [])) at ∙ there)) is
]

module _ {A : Type 0} (eq : A → A → Bool) (old new : List A) (value : A) (new_is : new ≡ insert_key eq old value) where
  pub each_more : (P : A → Type 0) → P value → AreEachOf P old → AreEachOf P new
  each_more P is are = elim (cases_Bool (list_any (eq value) old)) [
    | inl found ↦ subst (AreEachOf P) (sym (new_is ∙ ap (λ (b : Bool). cond b old (old ++ value ∷ [])) found)) are
    | inr fresh ↦ subst (AreEachOf P) (sym (new_is ∙ ap (λ (b : Bool). cond b old (old ++ value ∷ [])) fresh)) (each_push P old value is are)
  ]

  pub more_grows : Grows old new
  more_grows = elim (cases_Bool (list_any (eq value) old)) [
    | inl found ↦ ([], new_is ∙ ap (λ (b : Bool). cond b old (old ++ value ∷ [])) found ∙ sym (append-nil old))
    | inr fresh ↦ (value ∷ [], new_is ∙ ap (λ (b : Bool). cond b old (old ++ value ∷ [])) fresh)
  ]

pub known_more : (spec : RoomSpec) (old new : List Local) (value : Local) → new ≡ insert_key tests.ghosts.eq old value → IsLocal spec value → AreLocals spec old → AreLocals spec new
known_more spec old new value new_is is are = each_more tests.ghosts.eq old new value new_is (IsLocal spec) is are

-- ---- what is found

alike : (value one : Local) → tests.ghosts.eq value one ≡ true → AreAlike one value
alike value one equal =
    let parts = and_parts (knowledge.ghosts.eq value.known one.known) (pointwise eqb value.own.items one.own.items) equal in
    record { known = sym (same_knowledge value.known one.known parts.0); own = sym (same_words value.own.items one.own.items parts.1) }

pub stored_there : (keys : List Local) (value one : Local) (index number : ℕ) → slice_get keys index ≡ Some one → tests.ghosts.eq value one ≡ true → number ≡ index → IsNumberOf keys value number
stored_there keys value one index number there equal at = record { one = one; is = ap (slice_get keys) at ∙ there; alike = alike value one equal }

pub number_there : (numbers : List ℕ) (number : ℕ) → list_any (λ other. eqb other number) numbers ≡ true → Contains numbers number
number_there numbers number found = Contains-list_any (λ a b. eqb b a) (λ a b h. sym (eqb-true b a h)) numbers number found

-- ---- what is there stays there

pub there_grown : {A : Type 0} (old new : List A) (number : ℕ) (one : A) → Grows old new → slice_get old number ≡ Some one → slice_get new number ≡ Some one
there_grown old new number one grown there =
    ap (λ (l : List _). slice_get l number) grown.1 ∙ slice_get-append old grown.0 number (slice_get_within old number one there) ∙ there

pub there_before : {A : Type 0} (old new : List A) (number : ℕ) (one : A) → Grows old new → number < length old → slice_get new number ≡ Some one → slice_get old number ≡ Some one
there_before old new number one grown below there = sym (slice_get-append old grown.0 number below) ∙ ap (λ (l : List _). slice_get l number) (sym grown.1) ∙ there
