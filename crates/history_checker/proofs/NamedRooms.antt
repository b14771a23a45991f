-- Rooms of any kind in a map under their own names: which there are, one changed, and one more.
use Rattle.std.proofs.Common.{◌≡◌, ℕ, zero, suc, Bool, true, false, cond, ◌||◌, List, [], ◌∷◌, ◌++◌, map, set, Option, Some, None, refl, sym, ap, ◌∙◌, subst, true≢false}
use Rattle.std.specs.Prelude.{slice_get, is_some}
use Rattle.std.specs.List.{All, AllByRecursion, IsDistinct, list_any, filter, position}
use Rattle.std.specs.Map.{lookup}
use Rattle.std.specs.Option.{option_map}
use Rattle.std.proofs.lemmas.Bool.{false_from_ne_true}
use Rattle.std.proofs.lemmas.Option.{slice_get-map, get_or_from_slice_get}
use Rattle.std.proofs.lemmas.List.Quantifiers.{position-Some}
use Rattle.std.specs.Str.{bytes_eq}
use Rattle.std.proofs.lemmas.List.{map-append, append-nil}
use Rattle.std.proofs.lemmas.List.Elements.{recursion_from_All, All-from_recursion}
use Rattle.std.proofs.lemmas.Slice.Eq.{bytes_eq-Decides}
use Rattle.room_spec.specs.Rooms.{RoomSpec}
use Rattle.history_checker.specs.Verdicts.{FedEvent, fed_to, names_of, has_room}

abbrev pub EntriesOf : Type 0 → Type 0
EntriesOf Room = List (List ℕ × Room)

abbrev pub keys_in : {Room : Type 0} → EntriesOf Room → List (List ℕ)
keys_in entries = map (λ entry. entry.0) entries

abbrev pub values_in : {Room : Type 0} → EntriesOf Room → List Room
values_in entries = map (λ entry. entry.1) entries

-- the entries with another room at a place
abbrev pub with_room : {Room : Type 0} → EntriesOf Room → ℕ → Room → EntriesOf Room
with_room [] i room = []
with_room (entry ∷ entries) zero room = (entry.0, room) ∷ entries
with_room (entry ∷ entries) (suc i) room = entry ∷ with_room entries i room

keys-with_room : {Room : Type 0} (entries : EntriesOf Room) (i : ℕ) (room : Room) → keys_in (with_room entries i room) ≡ keys_in entries
keys-with_room [] i room = refl
keys-with_room (entry ∷ entries) zero room = refl
keys-with_room (entry ∷ entries) (suc i) room = ap (λ (ks : List (List ℕ)). entry.0 ∷ ks) (keys-with_room entries i room)

values-with_room : {Room : Type 0} (entries : EntriesOf Room) (i : ℕ) (new : Room) → values_in (with_room entries i new) ≡ set (values_in entries) i new
values-with_room [] i new = refl
values-with_room (entry ∷ entries) zero new = refl
values-with_room {Room = Room} (entry ∷ entries) (suc i) new = ap (λ (rs : List Room). entry.1 ∷ rs) (values-with_room entries i new)

some_room : {Room : Type 0} (a b : Room) → Some a ≡ Some b → a ≡ b
some_room a b h = cc

-- a room that is put where it is changes nothing
pub same-with_room : {Room : Type 0} (entries : EntriesOf Room) (i : ℕ) (old new : Room) → slice_get (values_in entries) i ≡ Some old → new ≡ old → values_in (with_room entries i new) ≡ values_in entries
same-with_room [] i old new there same = refl
same-with_room {Room = Room} (entry ∷ entries) zero old new there same = ap (λ (room : Room). room ∷ values_in entries) (same ∙ sym (some_room entry.1 old there))
same-with_room {Room = Room} (entry ∷ entries) (suc i) old new there same = ap (λ (rooms : List Room). entry.1 ∷ rooms) (same-with_room entries i old new there same)

pub value_there : {Room : Type 0} (entries : EntriesOf Room) (i : ℕ) (entry : List ℕ × Room) → slice_get entries i ≡ Some entry → slice_get (values_in entries) i ≡ Some entry.1
value_there {Room = Room} entries i entry there = slice_get-map (λ (e : List ℕ × Room). e.1) entries i ∙ ap (option_map (λ (e : List ℕ × Room). e.1)) there

found_any : {Room : Type 0} (name : List ℕ) (entries : EntriesOf Room) → is_some (lookup (bytes_eq name) entries) ≡ list_any (bytes_eq name) (keys_in entries)
found_any name [] = refl
found_any name (entry ∷ entries) = elim (bytes_eq name entry.0) as (λ b. is_some (cond b (Some entry.1) (lookup (bytes_eq name) entries)) ≡ (b || list_any (bytes_eq name) (keys_in entries))) [
  | true ↦ refl
  | false ↦ found_any name entries
]

no_entry : {Room : Type 0} (found : Option Room) → is_some found ≡ false → found ≡ None
no_entry None none = refl
no_entry (Some room) none = absurd cc

-- ---- what was fed of one room

filter-push : (p : FedEvent → Bool) (fed : List FedEvent) (one : FedEvent) → filter p (fed ++ one ∷ []) ≡ filter p fed ++ cond (p one) (one ∷ []) []
filter-push p [] one = refl
filter-push p (first ∷ fed) one = elim (p first) as (λ b. cond b (first ∷ filter p (fed ++ one ∷ [])) (filter p (fed ++ one ∷ [])) ≡ cond b (first ∷ filter p fed) (filter p fed) ++ cond (p one) (one ∷ []) []) [
  | true ↦ ap (λ ts. first ∷ ts) (filter-push p fed one)
  | false ↦ filter-push p fed one
]

fed_of_own : (name : List ℕ) (fed : List FedEvent) (one : FedEvent) → bytes_eq name one.name ≡ true → fed_to name (fed ++ one ∷ []) ≡ fed_to name fed ++ one ∷ []
fed_of_own name fed one own = filter-push (λ o. bytes_eq name o.name) fed one ∙ rw own refl

fed_of_other : (name : List ℕ) (fed : List FedEvent) (one : FedEvent) → bytes_eq name one.name ≡ false → fed_to name (fed ++ one ∷ []) ≡ fed_to name fed
fed_of_other name fed one other = filter-push (λ o. bytes_eq name o.name) fed one ∙ rw other (simp append-nil)

differs : (a b c : List ℕ) → bytes_eq a b ≡ true → bytes_eq b c ≡ false → bytes_eq c a ≡ false
differs a b c ab bc =
    false_from_ne_true (bytes_eq c a) (λ ca.
    let a_is : a ≡ b = (bytes_eq-Decides a b).0 ab in
    let c_is : c ≡ a = (bytes_eq-Decides c a).0 ca in
    let yes : bytes_eq b c ≡ true = (bytes_eq-Decides b c).1 (sym a_is ∙ sym c_is) in
    true≢false (sym yes ∙ bc))

-- of distinct names, a later one differs from the first
later_differs : (first name : List ℕ) (names : List (List ℕ)) (i : ℕ) → AllByRecursion (λ other. bytes_eq first other ≡ false) names → slice_get names i ≡ Some name → bytes_eq first name ≡ false
later_differs first name [] i others there = absurd cc
later_differs first name (other ∷ names) zero others there = let same : other ≡ name = cc in subst (λ n. bytes_eq first n ≡ false) same others.0
later_differs first name (other ∷ names) (suc i) others there = later_differs first name names i others.1 there

flip : (a b : List ℕ) → bytes_eq a b ≡ true → bytes_eq b a ≡ true
flip a b ab = (bytes_eq-Decides b a).1 (sym ((bytes_eq-Decides a b).0 ab))

-- ---- rooms that each have a spec

module _ {Room : Type 0} (spec_of : Room → RoomSpec) where
  abbrev pub Entries : Type 0
  Entries = EntriesOf Room

  -- each room is under its own name
  abbrev pub AreKeyed : Entries → Type 0
  AreKeyed entries = keys_in entries ≡ names_of (map spec_of (values_in entries))

  pub specs-with_room : (entries : Entries) (i : ℕ) (old new : Room) → slice_get (values_in entries) i ≡ Some old → spec_of new ≡ spec_of old → map spec_of (values_in (with_room entries i new)) ≡ map spec_of (values_in entries)
  specs-with_room [] i old new there same = refl
  specs-with_room (entry ∷ entries) zero old new there same = ap (λ (s : RoomSpec). s ∷ map spec_of (values_in entries)) (same ∙ sym (ap spec_of (some_room entry.1 old there)))
  specs-with_room (entry ∷ entries) (suc i) old new there same = ap (λ (ss : List RoomSpec). spec_of entry.1 ∷ ss) (specs-with_room entries i old new there same)

  pub IsKeyed-with_room : (entries : Entries) (i : ℕ) (old new : Room) → slice_get (values_in entries) i ≡ Some old → spec_of new ≡ spec_of old → AreKeyed entries → AreKeyed (with_room entries i new)
  IsKeyed-with_room entries i old new there same keyed = keys-with_room entries i new ∙ keyed ∙ ap names_of (sym (specs-with_room entries i old new there same))

  pub has_room-lookup : (name : List ℕ) (entries : Entries) → AreKeyed entries → has_room name (map spec_of (values_in entries)) ≡ is_some (lookup (bytes_eq name) entries)
  has_room-lookup name entries keyed = ap (list_any (bytes_eq name)) (sym keyed) ∙ sym (found_any name entries)

  -- no room is under a name that none has
  pub none_there : (name : List ℕ) (entries : Entries) → AreKeyed entries → has_room name (map spec_of (values_in entries)) ≡ false → lookup (bytes_eq name) entries ≡ None
  none_there name entries keyed fresh = no_entry (lookup (bytes_eq name) entries) (sym (has_room-lookup name entries keyed) ∙ fresh)

  pub known_by : (name key : List ℕ) (entries : Entries) (rooms : List Room) → AreKeyed entries → values_in entries ≡ rooms → key ≡ name → has_room name (map spec_of rooms) ≡ is_some (lookup (bytes_eq key) entries)
  known_by name key entries rooms keyed view_is key_is =
      ap (λ (r : List Room). has_room name (map spec_of r)) (sym view_is) ∙ has_room-lookup name entries keyed ∙ ap (λ (k : List ℕ). is_some (lookup (bytes_eq k) entries)) (sym key_is)

  pub spec_there : (rooms : List Room) (i : ℕ) (room : Room) → slice_get rooms i ≡ Some room → slice_get (map spec_of rooms) i ≡ Some (spec_of room)
  spec_there rooms i room there = slice_get-map spec_of rooms i ∙ ap (option_map spec_of) there

  name_at : (rooms : List Room) (i : ℕ) (room : Room) → slice_get rooms i ≡ Some room → slice_get (names_of (map spec_of rooms)) i ≡ Some (spec_of room).name
  name_at rooms i room there = slice_get-map (λ (spec : RoomSpec). spec.name) (map spec_of rooms) i ∙ ap (option_map (λ (spec : RoomSpec). spec.name)) (spec_there rooms i room there)

  -- the room at the place that a name has is under that name
  pub own_name : (name : List ℕ) (entries : Entries) (i : ℕ) (room : Room) → AreKeyed entries → position (bytes_eq name) (keys_in entries) ≡ Some i → slice_get (values_in entries) i ≡ Some room → bytes_eq name (spec_of room).name ≡ true
  own_name name entries i room keyed found there =
      let names = names_of (map spec_of (values_in entries)) in
      let passes = (position-Some (bytes_eq name) names i (spec_of room).name (subst (λ ks. position (bytes_eq name) ks ≡ Some i) keyed found)).1 in
      subst (λ n. bytes_eq name n ≡ true) (get_or_from_slice_get names i (spec_of room).name (spec_of room).name (name_at (values_in entries) i room there)) passes

  pub specs-push : (entries : Entries) (key : List ℕ) (room : Room) → map spec_of (values_in (entries ++ (key, room) ∷ [])) ≡ map spec_of (values_in entries) ++ spec_of room ∷ []
  specs-push [] key room = refl
  specs-push (entry ∷ entries) key room = ap (λ (ss : List RoomSpec). spec_of entry.1 ∷ ss) (specs-push entries key room)

  pub IsKeyed-push : (entries : Entries) (room : Room) → AreKeyed entries → AreKeyed (entries ++ ((spec_of room).name, room) ∷ [])
  IsKeyed-push entries room keyed =
      map-append (λ (e : List ℕ × Room). e.0) entries (((spec_of room).name, room) ∷ [])
      ∙ ap (λ (ks : List (List ℕ)). ks ++ (spec_of room).name ∷ []) keyed
      ∙ sym (map-append (λ (spec : RoomSpec). spec.name) (map spec_of (values_in entries)) (spec_of room ∷ []))
      ∙ ap names_of (sym (specs-push entries (spec_of room).name room))

  -- ---- what each has of the events that were fed, of which the other rooms' part is passed over

  module _ (After : List FedEvent → Room → Type 0) where
    abbrev pub AfterOwn : List FedEvent → Room → Type 0
    AfterOwn fed room = After (fed_to (spec_of room).name fed) room

    after_other : (fed : List FedEvent) (one : FedEvent) (room : Room) → bytes_eq (spec_of room).name one.name ≡ false → AfterOwn fed room → AfterOwn (fed ++ one ∷ []) room
    after_other fed one room other after = rw (fed_of_other (spec_of room).name fed one other) after

    -- the rooms whose names differ from this one are fed nothing
    all_other : (fed : List FedEvent) (one : FedEvent) (key : List ℕ) (rooms : List Room) → bytes_eq one.name key ≡ true → AllByRecursion (λ name. bytes_eq key name ≡ false) (names_of (map spec_of rooms))
        → AllByRecursion (AfterOwn fed) rooms → AllByRecursion (AfterOwn (fed ++ one ∷ [])) rooms
    all_other fed one key [] own others after = tt
    all_other fed one key (room ∷ rooms) own others after =
        (after_other fed one room (differs one.name key (spec_of room).name own others.0) after.0, all_other fed one key rooms own others.1 after.1)

    after_on : (fed : List FedEvent) (one : FedEvent) (rooms : List Room) (i : ℕ) (old new : Room) → IsDistinct bytes_eq (names_of (map spec_of rooms)) → slice_get rooms i ≡ Some old → bytes_eq one.name (spec_of old).name ≡ true
        → AfterOwn (fed ++ one ∷ []) new → AllByRecursion (AfterOwn fed) rooms → AllByRecursion (AfterOwn (fed ++ one ∷ [])) (set rooms i new)
    unfolding IsDistinct
    after_on fed one [] i old new distinct there own now after = tt
    after_on fed one (room ∷ rooms) zero old new distinct there own now after =
        let same : room ≡ old = some_room room old there in
        (now, all_other fed one (spec_of room).name rooms (subst (λ (r : Room). bytes_eq one.name (spec_of r).name ≡ true) (sym same) own) distinct.0 after.1)
    after_on fed one (room ∷ rooms) (suc i) old new distinct there own now after =
        let name_there = name_at rooms i old there in
        let apart : bytes_eq (spec_of room).name (spec_of old).name ≡ false = later_differs (spec_of room).name (spec_of old).name (names_of (map spec_of rooms)) i distinct.0 name_there in
        let apart_one : bytes_eq (spec_of room).name one.name ≡ false = subst (λ n. bytes_eq (spec_of room).name n ≡ false) (sym ((bytes_eq-Decides one.name (spec_of old).name).0 own)) apart in
        (after_other fed one room apart_one after.0, after_on fed one rooms i old new distinct.1 there own now after.1)

    after_at : (rooms : List Room) (fed : List FedEvent) (i : ℕ) (room : Room) → slice_get rooms i ≡ Some room → AllByRecursion (AfterOwn fed) rooms → AfterOwn fed room
    after_at [] fed i room there after = absurd cc
    after_at (first ∷ rooms) fed zero room there after = let same : first ≡ room = some_room first room there in subst (AfterOwn fed) same after.0
    after_at (first ∷ rooms) fed (suc i) room there after = after_at rooms fed i room there after.1

    -- a room of the map stands after what was fed of it
    pub after_there : (rooms : List Room) (fed : List FedEvent) (i : ℕ) (room : Room) → slice_get rooms i ≡ Some room → All (AfterOwn fed) rooms → AfterOwn fed room
    after_there rooms fed i room there after = after_at rooms fed i room there (recursion_from_All (AfterOwn fed) rooms after)

    -- a room of the map is fed an event of its own, and the others nothing
    pub after-with_room : (entries : Entries) (i : ℕ) (old new : Room) (fed : List FedEvent) (one : FedEvent) → AreKeyed entries → IsDistinct bytes_eq (keys_in entries) → position (bytes_eq one.name) (keys_in entries) ≡ Some i
        → slice_get (values_in entries) i ≡ Some old → spec_of new ≡ spec_of old
        → (After (fed_to (spec_of old).name fed) old → After (fed_to (spec_of old).name fed ++ one ∷ []) new)
        → All (AfterOwn fed) (values_in entries) → All (AfterOwn (fed ++ one ∷ [])) (values_in (with_room entries i new))
    after-with_room entries i old new fed one keyed unique found there same is_fed after =
        let rooms = values_in entries in
        let own = own_name one.name entries i old keyed found there in
        let all = recursion_from_All (AfterOwn fed) rooms after in
        let then : After (fed_to (spec_of old).name (fed ++ one ∷ [])) new = rw (fed_of_own (spec_of old).name fed one (flip one.name (spec_of old).name own)) (is_fed (after_at rooms fed i old there all)) in
        let now : AfterOwn (fed ++ one ∷ []) new = subst (λ (spec : RoomSpec). After (fed_to spec.name (fed ++ one ∷ [])) new) (sym same) then in
        rw (values-with_room entries i new)
        (All-from_recursion (AfterOwn (fed ++ one ∷ [])) (set rooms i new) (after_on fed one rooms i old new (subst (IsDistinct bytes_eq) keyed unique) there own now all))

    -- a room of a new name, which was fed nothing
    pub after-push : (entries : Entries) (key : List ℕ) (room : Room) (fed : List FedEvent) → All (AfterOwn fed) (values_in entries) → AfterOwn fed room → All (AfterOwn fed) (values_in (entries ++ (key, room) ∷ []))
    after-push entries key room fed after own =
        All-from_recursion (AfterOwn fed) (values_in (entries ++ (key, room) ∷ [])) (pushed entries (recursion_from_All (AfterOwn fed) (values_in entries) after))
      where
        pushed : (entries : Entries) → AllByRecursion (AfterOwn fed) (values_in entries) → AllByRecursion (AfterOwn fed) (values_in (entries ++ (key, room) ∷ []))
        pushed [] after = (own, tt)
        pushed (entry ∷ entries) after = (after.0, pushed entries after.1)
