-- Rooms in a map from their names: what is found under each name after one has changed.
use Rattle.std.proofs.Common.{◌≡◌, ℕ, zero, suc, Bool, true, false, cond, List, [], ◌∷◌, get_or, Option, Some, None, inl, inr, refl, sym, ap, ◌∙◌, true≢false}
use Rattle.std.specs.Prelude.{slice_get}
use Rattle.std.specs.List.{position}
use Rattle.std.proofs.lemmas.List.Quantifiers.{position-Some}
use Rattle.std.specs.Map.{keys_of, values_of}
use Rattle.std.specs.Cmp.{IsEquivalence}
use Rattle.std.specs.Str.{bytes_eq}
use Rattle.std.proofs.lemmas.Bool.{cases_Bool, false_from_ne_true}
use Rattle.std.proofs.lemmas.Slice.Eq.{bytes_eq-Decides}
use Rattle.room_core.specs.Calls.{RoomState}
use Rattle.service_core.specs.Rooms.{Entries, HasOwnNames, room_at}

pub same_name : (a b : List ℕ) → bytes_eq a b ≡ true → a ≡ b
same_name a b is = (bytes_eq-Decides a b).0 is

pub own_name : (a : List ℕ) → bytes_eq a a ≡ true
own_name a = (bytes_eq-Decides a a).1 refl

turned : (a b : List ℕ) → bytes_eq a b ≡ false → bytes_eq b a ≡ false
turned a b other = false_from_ne_true (bytes_eq b a) (λ is. true≢false (sym ((bytes_eq-Decides a b).1 (sym (same_name b a is))) ∙ other))

symmetric : (a b : List ℕ) → bytes_eq a b ≡ bytes_eq b a
symmetric a b = elim (cases_Bool (bytes_eq a b)) [
  | inl is ↦ is ∙ sym ((bytes_eq-Decides b a).1 (sym (same_name a b is)))
  | inr other ↦ other ∙ sym (turned a b other)
]

pub names_equal : IsEquivalence bytes_eq
names_equal = record {
  refl = own_name;
  symm = symmetric;
  congr = λ a b c is. ap (λ (x : List ℕ). bytes_eq x c) (same_name a b is);
}

-- a room is put under a name, or taken away from it, and all others stay
abbrev pub Changes : Entries → Entries → List ℕ → Option RoomState → Type 0
Changes before after name room = (other : List ℕ) → room_at after other ≡ cond (bytes_eq name other) room (room_at before other)

pub changed_here : (before after : Entries) (name : List ℕ) (room : Option RoomState) → Changes before after name room → room_at after name ≡ room
changed_here before after name room changes = changes name ∙ ap (λ (b : Bool). cond b room (room_at before name)) (own_name name)

pub changed_other : (before after : Entries) (name other : List ℕ) (room : Option RoomState) → Changes before after name room → bytes_eq other name ≡ false → room_at after other ≡ room_at before other
changed_other before after name other room changes is = changes other ∙ ap (λ (b : Bool). cond b room (room_at before other)) (turned other name is)

pub own_names : (before after : Entries) (name : List ℕ) (room : Option RoomState) → Changes before after name room → HasOwnNames before → ((one : RoomState) → room ≡ Some one → one.spec.name ≡ name) → HasOwnNames after
own_names before after name room changes own new other one there = elim (cases_Bool (bytes_eq name other)) [
  | inl is ↦ new one (sym (ap (λ (b : Bool). cond b room (room_at before other)) is) ∙ sym (changes other) ∙ there) ∙ same_name name other is
  | inr differs ↦ own other one (sym (ap (λ (b : Bool). cond b room (room_at before other)) differs) ∙ sym (changes other) ∙ there)
]

-- ---- the entry that a look-up has found

some_room : (a b : RoomState) → Some a ≡ Some b → a ≡ b
some_room a b is = cc

entry_at : (entries : Entries) (i : ℕ) (room : RoomState) (d : List ℕ) → slice_get (values_of entries) i ≡ Some room → slice_get entries i ≡ Some (get_or (keys_of entries) i d, room)
entry_at [] i room d there = absurd (let none : None ≡ Some room = there in cc)
entry_at (entry ∷ entries) zero room d there = ap (λ (r : RoomState). Some (entry.0, r)) (some_room entry.1 room there)
entry_at (entry ∷ entries) (suc i) room d there = entry_at entries i room d there

pub entry_there : (entries : Entries) (name : List ℕ) (i : ℕ) (room : RoomState) → position (bytes_eq name) (keys_of entries) ≡ Some i → slice_get (values_of entries) i ≡ Some room → slice_get entries i ≡ Some (name, room)
entry_there entries name i room found there =
    let passes = (position-Some (bytes_eq name) (keys_of entries) i name found).1 in
    entry_at entries i room name there ∙ ap (λ (key : List ℕ). Some (key, room)) (sym (same_name name (get_or (keys_of entries) i name) passes))

-- a room that has taken the other's place is under its name still
pub some_spec : (name : List ℕ) (room one : RoomState) → room.spec.name ≡ name → Some room ≡ Some one → one.spec.name ≡ name
some_spec name room one own is = sym (ap (λ (r : RoomState). r.spec.name) (some_room room one is)) ∙ own
