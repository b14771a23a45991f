-- Specs in a map from their names: which names there are, and one spec more.
use Rattle.std.proofs.Common.{◌≡◌, ℕ, true, false, cond, ◌||◌, List, [], ◌∷◌, ◌++◌, map, Option, Some, None, refl, sym, ap, ◌∙◌}
use Rattle.std.specs.Prelude.{is_some}
use Rattle.std.specs.List.{list_any}
use Rattle.std.specs.Map.{lookup}
use Rattle.std.specs.Str.{bytes_eq}
use Rattle.std.proofs.lemmas.List.{map-append}
use Rattle.room_spec.specs.Rooms.{RoomSpec}
use Rattle.indexmap.specs.IndexMap.{IndexMap, insert_entry}
use Rattle.indexmap.proofs.CallerLemmas.{insert_entry-new}
use Rattle.history_checker.specs.Verdicts.{names_of, has_room}
use Rattle.room_files.specs.SpecLists.{AreNamed, specs_in}

abbrev pub Entries : Type 0
Entries = List (List ℕ × RoomSpec)

found_any : (name : List ℕ) (entries : Entries) → is_some (lookup (bytes_eq name) entries) ≡ list_any (bytes_eq name) (map (λ entry. entry.0) entries)
found_any name [] = refl
found_any name (entry ∷ entries) = elim (bytes_eq name entry.0) as (λ b. is_some (cond b (Some entry.1) (lookup (bytes_eq name) entries)) ≡ (b || list_any (bytes_eq name) (map (λ entry. entry.0) entries))) [
  | true ↦ refl
  | false ↦ found_any name entries
]

pub has_room-lookup : (name : List ℕ) (entries : Entries) → AreNamed entries → has_room name (specs_in entries) ≡ is_some (lookup (bytes_eq name) entries)
has_room-lookup name entries named = ap (list_any (bytes_eq name)) (sym named) ∙ sym (found_any name entries)

no_entry : (found : Option RoomSpec) → is_some found ≡ false → found ≡ None
no_entry None none = refl
no_entry (Some spec) none = absurd cc

-- no spec stands under a name that none has
none_there : (name : List ℕ) (entries : Entries) → AreNamed entries → has_room name (specs_in entries) ≡ false → lookup (bytes_eq name) entries ≡ None
none_there name entries named fresh = no_entry (lookup (bytes_eq name) entries) (sym (has_room-lookup name entries named) ∙ fresh)

pub specs-push : (entries : Entries) (name : List ℕ) (spec : RoomSpec) → specs_in (entries ++ (name, spec) ∷ []) ≡ specs_in entries ++ spec ∷ []
specs-push entries name spec = map-append (λ (entry : List ℕ × RoomSpec). entry.1) entries ((name, spec) ∷ [])

pub AreNamed-push : (entries : Entries) (spec : RoomSpec) → AreNamed entries → AreNamed (entries ++ (spec.name, spec) ∷ [])
AreNamed-push entries spec named =
    map-append (λ (entry : List ℕ × RoomSpec). entry.0) entries ((spec.name, spec) ∷ [])
    ∙ ap (λ (names : List (List ℕ)). names ++ spec.name ∷ []) named
    ∙ sym (map-append (λ (s : RoomSpec). s.name) (specs_in entries) (spec ∷ []))
    ∙ ap names_of (sym (specs-push entries spec.name spec))

-- a spec is put in under its own name, which no other has
pub pushed : {S : Type 0} (all : IndexMap (List ℕ) RoomSpec S) (after : Entries) (specs : List RoomSpec) (name : List ℕ) (spec : RoomSpec) → AreNamed all.entries → specs_in all.entries ≡ specs → name ≡ spec.name → has_room spec.name specs ≡ false
    → after ≡ insert_entry bytes_eq all.entries name spec → after ≡ all.entries ++ (spec.name, spec) ∷ []
pushed all after specs name spec named view_is name_is fresh is =
    let free = none_there name all.entries named (ap (has_room name) view_is ∙ ap (λ (n : List ℕ). has_room n specs) name_is ∙ fresh) in
    is ∙ insert_entry-new bytes_eq all name spec free ∙ ap (λ (key : List ℕ). all.entries ++ (key, spec) ∷ []) name_is
