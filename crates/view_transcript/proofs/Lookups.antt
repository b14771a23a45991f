-- What is kept under each name after one name's has changed.
use Rattle.std.proofs.Common.{◌≡◌, ℕ, zero, suc, ◌||◌, Bool, true, false, cond, List, [], ◌∷◌, ◌++◌, get_or, Option, Some, None, is_some, inl, inr, refl, sym, ap, ◌∙◌, true≢false}
use Rattle.std.specs.Prelude.{slice_get}
use Rattle.std.specs.List.{list_any, position}
use Rattle.std.proofs.lemmas.List.Quantifiers.{position-Some}
use Rattle.std.specs.Map.{keys_of, values_of}
use Rattle.std.specs.Cmp.{IsEquivalence}
use Rattle.std.specs.Str.{bytes_eq}
use Rattle.std.proofs.lemmas.Bool.{cases_Bool, false_from_ne_true}
use Rattle.std.proofs.lemmas.Slice.Eq.{bytes_eq-Decides}
use Rattle.indexmap.specs.IndexMap.{insert_entry}
use Rattle.view_transcript.specs.Courses.{with_name}
use Rattle.view_transcript.specs.Transcripts.{KeptRoom, KeptRooms, kept_at}

pub same_name : (a b : List ℕ) → bytes_eq a b ≡ true → a ≡ b
same_name a b is = (bytes_eq-Decides a b).0 is

pub own_name : (a : List ℕ) → bytes_eq a a ≡ true
own_name a = (bytes_eq-Decides a a).1 refl

pub turned : (a b : List ℕ) → bytes_eq a b ≡ false → bytes_eq b a ≡ false
turned a b other = false_from_ne_true (bytes_eq b a) (λ is. true≢false (sym ((bytes_eq-Decides a b).1 (sym (same_name b a is))) ∙ other))

symmetric : (a b : List ℕ) → bytes_eq a b ≡ bytes_eq b a
symmetric a b = elim (cases_Bool (bytes_eq a b)) [
  | inl is ↦ is ∙ sym ((bytes_eq-Decides b a).1 (sym (same_name a b is)))
  | inr other ↦ other ∙ sym (turned a b other)
]

pub names_equal : IsEquivalence bytes_eq
names_equal = record {
  refl = own_name;
  symm = symmetric;
  congr = λ a b c is. ap (λ (x : List ℕ). bytes_eq x c) (same_name a b is);
}

-- this is kept under a name, and all others stay
abbrev pub Changes : KeptRooms → KeptRooms → List ℕ → KeptRoom → Type 0
Changes before after name kept = (other : List ℕ) → kept_at after other ≡ cond (bytes_eq name other) (Some kept) (kept_at before other)

pub changed_here : (before after : KeptRooms) (name : List ℕ) (kept : KeptRoom) → Changes before after name kept → kept_at after name ≡ Some kept
changed_here before after name kept changes = changes name ∙ ap (λ (b : Bool). cond b (Some kept) (kept_at before name)) (own_name name)

pub changed_other : (before after : KeptRooms) (name other : List ℕ) (kept : KeptRoom) → Changes before after name kept → bytes_eq other name ≡ false → kept_at after other ≡ kept_at before other
changed_other before after name other kept changes is = changes other ∙ ap (λ (b : Bool). cond b (Some kept) (kept_at before other)) (turned other name is)

-- ---- the entry that a look-up has found

some_kept : (a b : KeptRoom) → Some a ≡ Some b → a ≡ b
some_kept a b is = cc

entry_at : (entries : KeptRooms) (i : ℕ) (kept : KeptRoom) (d : List ℕ) → slice_get (values_of entries) i ≡ Some kept → slice_get entries i ≡ Some (get_or (keys_of entries) i d, kept)
entry_at [] i kept d there = absurd (let none : None ≡ Some kept = there in cc)
entry_at (entry ∷ entries) zero kept d there = ap (λ (k : KeptRoom). Some (entry.0, k)) (some_kept entry.1 kept there)
entry_at (entry ∷ entries) (suc i) kept d there = entry_at entries i kept d there

pub entry_there : (entries : KeptRooms) (name : List ℕ) (i : ℕ) (kept : KeptRoom) → position (bytes_eq name) (keys_of entries) ≡ Some i → slice_get (values_of entries) i ≡ Some kept → slice_get entries i ≡ Some (name, kept)
entry_there entries name i kept found there =
    let passes = (position-Some (bytes_eq name) (keys_of entries) i name found).1 in
    entry_at entries i kept name there ∙ ap (λ (key : List ℕ). Some (key, kept)) (sym (same_name name (get_or (keys_of entries) i name) passes))

-- ---- names

name_by : (b c : Bool) (first : List ℕ) (names : List (List ℕ)) (name : List ℕ) → list_any (bytes_eq name) names ≡ c → cond b (first ∷ names) (first ∷ cond c names (names ++ name ∷ [])) ≡ cond (b || list_any (bytes_eq name) names) (first ∷ names) (first ∷ names ++ name ∷ [])
name_by true c first names name is = refl
name_by false true first names name is = sym (ap (λ (b : Bool). cond b (first ∷ names) (first ∷ names ++ name ∷ [])) is)
name_by false false first names name is = sym (ap (λ (b : Bool). cond b (first ∷ names) (first ∷ names ++ name ∷ [])) is)

keys_put : (b : Bool) (first : List ℕ) (kept one : KeptRoom) (entries later : KeptRooms) → keys_of (cond b ((first, kept) ∷ entries) ((first, one) ∷ later)) ≡ cond b (first ∷ keys_of entries) (first ∷ keys_of later)
keys_put true first kept one entries later = refl
keys_put false first kept one entries later = refl

pub names_after : (entries : KeptRooms) (name : List ℕ) (kept : KeptRoom) → keys_of (insert_entry bytes_eq entries name kept) ≡ with_name (keys_of entries) name
names_after [] name kept = refl
names_after (entry ∷ entries) name kept =
    keys_put (bytes_eq name entry.0) entry.0 kept entry.1 entries (insert_entry bytes_eq entries name kept)
    ∙ ap (λ (l : List (List ℕ)). cond (bytes_eq name entry.0) (entry.0 ∷ keys_of entries) (entry.0 ∷ l)) (names_after entries name kept)
    ∙ name_by (bytes_eq name entry.0) (list_any (bytes_eq name) (keys_of entries)) entry.0 (keys_of entries) name refl

pub no_kept : (found : Option KeptRoom) → is_some found ≡ false → found ≡ None
no_kept None is = refl
no_kept (Some kept) is = absurd cc
