-- Outcomes of a room whose own line is still to come.
use Rattle.std.proofs.Common.{◌≡◌, ◌≢◌, ◌⊎◌, inl, inr, ◌∙◌, ℕ, suc, ◌==◌, ◌||◌, Bool, true, false, cond, List, [], ◌∷◌, ◌++◌, append-nil, length, map, Option, Some, None, codes, bytes_eq, string_bytes, true≢false, refl, sym, ap, ap₂, arith}
use Rattle.std.specs.Prelude.{option_and_then}
use Rattle.std.proofs.lemmas.Bool.{ne_eqb}
use Rattle.std.proofs.lemmas.Grind.{flat_map-append}
use Rattle.std.proofs.lemmas.List.{map-append}
use Rattle.std.proofs.lemmas.Slice.Eq.{bytes_eq-Decides}
use Rattle.serde_json.specs.Data.{Data}
use Rattle.ws_history.specs.declared.states.ProcessState.{ProcessState}
use Rattle.room_sample.specs.Shown.{shown_of}
use Rattle.room_sample.specs.declared.examples.Example.{Example}
use Rattle.room_sample.specs.declared.stretch.Stretch.{Stretch}
use Rattle.view_sample.specs.Json.{outcome_line, outcome_lines}
use Rattle.view_sum.specs.Fields.{OutcomeSaid, RoomSaid, flag_at, is_null_at, number_at, outcome_at, outcome_by, room_at, room_by, schedule_at, states_at, text_at}
use Rattle.view_sum.specs.Reading.{is_none_listed, listed_text}
use Rattle.view_sum.specs.Refusals.{IsNoOutcome, SaysData, SaysOtherRoom, pending_of}
use Rattle.view_sum.specs.declared.listed.Listed.{Listed}
use Rattle.view_sum.proofs.LineReading.{not_this_outcome}

some_said : {A : Type 0} (a b : A) → Some a ≡ Some b → a ≡ b
some_said a b is = cc

name_by : (brief : Bool) (name : Option (List ℕ)) (states : Option (List ProcessState)) (times first : Option ℕ) (schedule : Option (List Stretch)) (said : OutcomeSaid) → outcome_by brief name states times first schedule ≡ Some said → name ≡ Some said.name
name_by brief None states times first schedule said is = absurd (let none : None ≡ Some said = is in cc)
name_by brief (Some name) None times first schedule said is = absurd (let none : None ≡ Some said = is in cc)
name_by brief (Some name) (Some states) None first schedule said is = absurd (let none : None ≡ Some said = is in cc)
name_by brief (Some name) (Some states) (Some times) None schedule said is = absurd (let none : None ≡ Some said = is in cc)
name_by brief (Some name) (Some states) (Some times) (Some first) None said is = absurd (let none : None ≡ Some said = is in cc)
name_by brief (Some name) (Some states) (Some times) (Some first) (Some schedule) said is = ap (λ (s : OutcomeSaid). Some s.name) (some_said _ said is)

-- the name that an outcome's line says
pub outcome_name : (it : Data) (said : OutcomeSaid) → outcome_at it ≡ Some said → text_at (codes "room") it ≡ Some said.name
outcome_name it said is = name_by (is_null_at (codes "schedule") it) (text_at (codes "room") it) (states_at it) (number_at (codes "times") it) (number_at (codes "first") it) (schedule_at it) said is

room_by_is : (name : List ℕ) (crashes seed from : Option ℕ) (grouped : Option Bool) (decided held broken count : Option ℕ) (said : RoomSaid) → room_by name crashes seed from grouped decided held broken count ≡ Some said → (name ≡ said.name) × (count ≡ Some said.count)
room_by_is name None seed from grouped decided held broken count said is = absurd (let none : None ≡ Some said = is in cc)
room_by_is name (Some a) None from grouped decided held broken count said is = absurd (let none : None ≡ Some said = is in cc)
room_by_is name (Some a) (Some b) None grouped decided held broken count said is = absurd (let none : None ≡ Some said = is in cc)
room_by_is name (Some a) (Some b) (Some d) None decided held broken count said is = absurd (let none : None ≡ Some said = is in cc)
room_by_is name (Some a) (Some b) (Some d) (Some e) None held broken count said is = absurd (let none : None ≡ Some said = is in cc)
room_by_is name (Some a) (Some b) (Some d) (Some e) (Some f) None broken count said is = absurd (let none : None ≡ Some said = is in cc)
room_by_is name (Some a) (Some b) (Some d) (Some e) (Some f) (Some g) broken None said is = absurd (let none : None ≡ Some said = is in cc)
room_by_is name (Some a) (Some b) (Some d) (Some e) (Some f) (Some g) broken (Some n) said is =
    let same = some_said _ said is in
    (ap (λ (s : RoomSaid). s.name) same, ap (λ (s : RoomSaid). Some s.count) same)

room_in : (found : Option (List ℕ)) (crashes seed from : Option ℕ) (grouped : Option Bool) (decided held broken count : Option ℕ) (said : RoomSaid) → option_and_then (λ name. room_by name crashes seed from grouped decided held broken count) found ≡ Some said → (found ≡ Some said.name) × (count ≡ Some said.count)
room_in None crashes seed from grouped decided held broken count said is = absurd (let none : None ≡ Some said = is in cc)
room_in (Some name) crashes seed from grouped decided held broken count said is =
    let parts = room_by_is name crashes seed from grouped decided held broken count said is in
    (ap Some parts.0, parts.1)

-- the name and the number of outcomes that a room's line says
pub room_says : (it : Data) (said : RoomSaid) → room_at it ≡ Some said → (text_at (codes "room") it ≡ Some said.name) × (number_at (codes "outcomes") it ≡ Some said.count)
room_says it said is =
    room_in (text_at (codes "room") it) (number_at (codes "crashes") it) (number_at (codes "seed") it) (number_at (codes "from") it) (flag_at (codes "grouped") it) (number_at (codes "decided_at_most") it) (number_at (codes "held_at_most") it) (number_at (codes "task_broken") it) (number_at (codes "outcomes") it) said is

-- ---- another room

neither : (a b : Bool) → (a || b) ≡ false → (a ≡ false) × (b ≡ false)
neither true b is = absurd cc
neither false b is = (refl, is)

some_items : (items : List Example) → (length items == 0) ≡ false → map shown_of items ≢ []
some_items [] some = absurd cc
some_items (one ∷ items) some = λ none. cc

pub other_room : (listed : Listed) (line : List ℕ) (it : Data) (name : List ℕ) (b : Bool) → SaysData line it → text_at (codes "room") it ≡ Some name → b ≡ (is_none_listed listed || bytes_eq (string_bytes listed.name) name) → b ≡ false → SaysOtherRoom (pending_of listed) line
other_room listed line it name b says named is differ =
    let parts = neither (is_none_listed listed) (bytes_eq (string_bytes listed.name) name) (sym is ∙ differ) in
    (it, says, name, named, (λ same. true≢false (sym ((bytes_eq-Decides (string_bytes listed.name) name).1 (sym same)) ∙ parts.1)), some_items listed.outcomes.items parts.0)

-- ---- the room that is next

-- outcomes are listed, or none is
pub none_or_some : (items : List Example) → (map shown_of items ≡ []) ⊎ (map shown_of items ≢ [])
none_or_some [] = inl refl
none_or_some (one ∷ items) = inr (λ none. cc)

some_there : (one : Example) (items : List Example) → (length (one ∷ items) == 0) ≡ false
some_there one items = ne_eqb (suc (length items)) 0 (λ is. omega (arith, is))

if_none_listed : {A : Type 0} (items : List Example) (x a b : A) → x ≡ cond (length items == 0) a b → map shown_of items ≡ [] → x ≡ a
if_none_listed [] x a b is none = is
if_none_listed (one ∷ items) x a b is none = absurd cc

if_some_listed : {A : Type 0} (items : List Example) (x a b : A) → x ≡ cond (length items == 0) a b → map shown_of items ≢ [] → x ≡ b
if_some_listed [] x a b is some = absurd (some refl)
if_some_listed (one ∷ items) x a b is some = is ∙ ap (λ (none : Bool). cond none a b) (some_there one items)

pub not_written : (listed : Listed) (line : List ℕ) (it : Data) (said : OutcomeSaid) (name : List ℕ) (brief : Bool) → SaysData line it → outcome_at it ≡ Some said → name ≡ cond (is_none_listed listed) said.name (string_bytes listed.name) → brief ≡ cond (is_none_listed listed) said.brief listed.brief
    → bytes_eq (outcome_line name brief said.one) line ≡ false → IsNoOutcome (pending_of listed) line
not_written listed line it said name brief says said_is name_is brief_is differ =
    let items = listed.outcomes.items in
    not_this_outcome (pending_of listed) line it said name brief says said_is (λ none. (if_none_listed items name said.name (string_bytes listed.name) name_is none, if_none_listed items brief said.brief listed.brief brief_is none))
    (λ some. (if_some_listed items name said.name (string_bytes listed.name) name_is some, if_some_listed items brief said.brief listed.brief brief_is some)) (none_or_some items) differ

same_before : (items : List Example) (name new : List ℕ) (brief later : Bool) (said : List ℕ) (by : Bool) → new ≡ cond (length items == 0) said name → later ≡ cond (length items == 0) by brief → outcome_lines new later (map shown_of items) ≡ outcome_lines name brief (map shown_of items)
same_before [] name new brief later said by name_is brief_is = refl
same_before (one ∷ items) name new brief later said by name_is brief_is =
    let there = some_there one items in
    ap₂ (λ (n : List ℕ) (b : Bool). outcome_lines n b (map shown_of (one ∷ items))) (name_is ∙ ap (λ (none : Bool). cond none said name) there) (brief_is ∙ ap (λ (none : Bool). cond none by brief) there)

-- one more line
pub outcome_read : (listed after : Listed) (one : Example) (line : List ℕ) (said : List ℕ) (by : Bool) → string_bytes after.name ≡ cond (is_none_listed listed) said (string_bytes listed.name) → after.brief ≡ cond (is_none_listed listed) by listed.brief
    → after.outcomes.items ≡ listed.outcomes.items ++ one ∷ [] → bytes_eq (outcome_line (string_bytes after.name) after.brief (shown_of one)) line ≡ true → listed_text after ≡ listed_text listed ++ line
outcome_read listed after one line said by name_is brief_is more same =
    let items = listed.outcomes.items in
    let name = string_bytes after.name in
    let brief = after.brief in
    let written : outcome_line name brief (shown_of one) ≡ line = (bytes_eq-Decides (outcome_line name brief (shown_of one)) line).0 same in
    ap (λ (all : List Example). outcome_lines name brief (map shown_of all)) more ∙ ap (outcome_lines name brief) (map-append shown_of items (one ∷ []))
    ∙ flat_map-append (outcome_line name brief) (map shown_of items) (shown_of one ∷ [])
    ∙ ap₂ (λ (a b : List ℕ). a ++ b) (same_before items (string_bytes listed.name) name listed.brief brief said by name_is brief_is) (append-nil (outcome_line name brief (shown_of one)) ∙ written)
