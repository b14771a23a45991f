-- What a line of a sample says is read from it.
use Rattle.std.proofs.Common.{◌≡◌, ◌≢◌, ◌⊎◌, inl, inr, ◌∙◌, ℕ, suc, ◌<◌, ◌≤◌, ◌==◌, Bool, true, false, cond, List, [], ◌∷◌, length, map, Option, Some, None, codes, lt-ltb, le-leb, bytes_eq, IsUtf8, true≢false, refl, sym, ap, ap₂, arith}
use Rattle.std.specs.Prelude.{option_map, option_and_then, is_some}
use Rattle.std.proofs.lemmas.List.{append_cancel_right}
use Rattle.std.proofs.lemmas.Slice.Eq.{bytes_eq-Decides}
use Rattle.std.proofs.lemmas.List.Sums.{count_by-le-length}
use Rattle.json.proofs.Printed.Utf8.{IsUtf8-are_ascii, are_ascii}
use Rattle.serde_json.specs.Data.{Data, depth, items_depth}
use Rattle.serde_json.specs.Find.{as_number, as_u64, get}
use Rattle.serde_json.specs.Read.{read}
use Rattle.serde_json.specs.View.{items_of}
use Rattle.serde_json.specs.Written.{compact_text}
use Rattle.json_lines.specs.Lines.{json_line}
use Rattle.json_lines.specs.Values.{process_data}
use Rattle.ws_history.specs.declared.states.ProcessState.{ProcessState}
use Rattle.ws_history.specs.declared.states.ProcessState.TheVariants.{Decided, Spent, Held, Going}
use Rattle.room_sample.specs.Shown.{Shown}
use Rattle.room_sample.specs.declared.stretch.Stretch.{Stretch}
use Rattle.room_sample.specs.declared.stretch.Stretch.TheVariants.{Steps, Crash}
use Rattle.view_sample.specs.Json.{outcome_data, outcome_line, schedule_unless, stretch_data}
use Rattle.view_sum.specs.Fields.{OutcomeSaid, RoomSaid, below, each_in, room_by, items_length, outcome_at, outcome_by, room_at, state_at, states_among, steps_by, stretch_at}
use Rattle.view_sum.specs.Lines.{AreSmallStates, AreSmallStretches, IsSmallIfAny, IsSmallState, IsSmallStretch, IsWritable, IsWritableRoom}
use Rattle.view_sum.specs.Plain.{ArePlain, IsPlain, IsReadable}
use Rattle.view_sum.specs.Refusals.{IsNoOutcome, IsNoRoom, MayFollow, Pending, SaysData, sample_by}
use Rattle.view_sum.specs.Samples.{RoomSample, broken_data, once_in, room_data, schedules_in}
use Rattle.view_sum.proofs.ReadingBack.{read_back}

-- ---- a line of this value says nothing else

same_some : {A : Type 0} (a b : A) → Some a ≡ Some b → a ≡ b
same_some a b is = cc

pub says_that : (line : List ℕ) (it other : Data) → SaysData line it → IsReadable other → line ≡ json_line other → it ≡ other
says_that line it other (content, line_is, read_is) readable is =
    let same : content ≡ compact_text other = append_cancel_right content (compact_text other) (codes "\n") (sym line_is ∙ is) in
    same_some it other (sym read_is ∙ ap read same ∙ read_back other readable)

-- ---- numbers

less_is : (n limit : ℕ) → n < limit → below limit (Some n) ≡ Some n
less_is n limit less = ap (λ (b : Bool). cond b (Some n) None) (lt-ltb n limit less)

-- ---- a process

state_found : (state : ProcessState) → IsSmallState state → state_at (process_data state) ≡ Some state
state_found (Decided v) small = ap (option_map Decided) (less_is v 4294967296 small)
state_found Spent small = refl
state_found (Held i) small = ap (λ (o : Option ℕ). option_map Held (below 256 o)) (less_is i 4294967296 (omega (arith, small))) ∙ ap (option_map Held) (less_is i 256 small)
state_found Going small = refl

states_found : (states : List ProcessState) → AreSmallStates states → each_in state_at (items_of (map process_data states)) ≡ Some states
states_found [] small = refl
states_found (state ∷ states) small =
    ap (λ (o : Option ProcessState). option_and_then (λ one. option_map (λ more. one ∷ more) (each_in state_at (items_of (map process_data states)))) o) (state_found state small.0)
    ∙ ap (option_map (λ more. state ∷ more)) (states_found states small.1)

as_many : (states : List ProcessState) → items_length (items_of (map process_data states)) ≡ length states
as_many [] = refl
as_many (state ∷ states) = ap suc (as_many states)

few_found : (states : List ProcessState) → length states ≤ 16 → AreSmallStates states → states_among (items_of (map process_data states)) ≡ Some states
few_found states few small =
    let count = as_many states in
    ap (λ (b : Bool). cond b (each_in state_at (items_of (map process_data states))) None) (le-leb (items_length (items_of (map process_data states))) 16 (omega (arith, few, count)))
    ∙ states_found states small

-- ---- a schedule

stretch_found : (stretch : Stretch) → IsSmallStretch stretch → stretch_at (stretch_data stretch) ≡ Some stretch
stretch_found (Steps simulator count) (small, few) =
    ap₂ (λ (s n : Option ℕ). steps_by (below 256 s) (below 65536 n)) (less_is simulator 4294967296 (omega (arith, small))) (less_is count 4294967296 (omega (arith, few)))
    ∙ ap₂ steps_by (less_is simulator 256 small) (less_is count 65536 few)
stretch_found (Crash simulator) small = ap (λ (s : Option ℕ). option_map Crash (below 256 s)) (less_is simulator 4294967296 (omega (arith, small))) ∙ ap (option_map Crash) (less_is simulator 256 small)

stretches_found : (stretches : List Stretch) → AreSmallStretches stretches → each_in stretch_at (items_of (map stretch_data stretches)) ≡ Some stretches
stretches_found [] small = refl
stretches_found (stretch ∷ stretches) small =
    ap (λ (o : Option Stretch). option_and_then (λ one. option_map (λ more. one ∷ more) (each_in stretch_at (items_of (map stretch_data stretches)))) o) (stretch_found stretch small.0)
    ∙ ap (option_map (λ more. stretch ∷ more)) (stretches_found stretches small.1)

-- ---- an outcome

-- what is left of a schedule
abbrev pub kept_of : Bool → List Stretch → List Stretch
kept_of brief schedule = cond brief [] schedule

abbrev pub said_of : List ℕ → Bool → Shown → OutcomeSaid
said_of name brief one = record { name = name; brief = brief; one = record { states = one.states; times = one.times; first = one.first; schedule = kept_of brief one.schedule } }

pub outcome_found : (name : List ℕ) (brief : Bool) (one : Shown) → IsWritable one → outcome_at (outcome_data name brief one) ≡ Some (said_of name brief one)
outcome_found name true one small =
    ap₂ (λ (states : Option (List ProcessState)) (times : Option ℕ). outcome_by true (Some name) states times (below 4294967296 (Some one.first)) (Some [])) (few_found one.states small.few small.states) (less_is one.times 4294967296 small.times)
    ∙ ap (λ (first : Option ℕ). outcome_by true (Some name) (Some one.states) (Some one.times) first (Some [])) (less_is one.first 4294967296 small.first)
outcome_found name false one small =
    ap₂ (λ (states : Option (List ProcessState)) (times : Option ℕ). outcome_by false (Some name) states times (below 4294967296 (Some one.first)) (each_in stretch_at (items_of (map stretch_data one.schedule)))) (few_found one.states small.few small.states) (less_is one.times 4294967296 small.times)
    ∙ ap₂ (λ (first : Option ℕ) (schedule : Option (List Stretch)). outcome_by false (Some name) (Some one.states) (Some one.times) first schedule) (less_is one.first 4294967296 small.first) (stretches_found one.schedule small.schedule)

-- it is written in the same way
pub same_written : (name : List ℕ) (brief : Bool) (one : Shown) → outcome_data name brief (said_of name brief one).one ≡ outcome_data name brief one
same_written name true one = refl
same_written name false one = refl

-- ---- what is written of an outcome can be read

ascii : (key : List ℕ) → are_ascii key ≡ true → IsUtf8 key
ascii key is = IsUtf8-are_ascii key is

wide : (n : ℕ) → n < 4294967296 → n < 18446744073709551616
wide n small = omega (arith, small)

state_plain : (state : ProcessState) → IsSmallState state → IsPlain (process_data state)
state_plain (Decided v) small = ((ascii _ refl, ascii _ refl, (ascii _ refl, wide v small, tt)), refl)
state_plain Spent small = ((ascii _ refl, ascii _ refl, tt), refl)
state_plain (Held i) small = ((ascii _ refl, omega (arith, small), (ascii _ refl, ascii _ refl, tt)), refl)
state_plain Going small = ((ascii _ refl, ascii _ refl, tt), refl)

states_plain : (states : List ProcessState) → AreSmallStates states → ArePlain (items_of (map process_data states))
states_plain [] small = tt
states_plain (state ∷ states) small = (state_plain state small.0, states_plain states small.1)

stretch_plain : (stretch : Stretch) → IsSmallStretch stretch → IsPlain (stretch_data stretch)
stretch_plain (Steps simulator count) (small, few) = ((ascii _ refl, omega (arith, small), (ascii _ refl, omega (arith, few), tt)), refl)
stretch_plain (Crash simulator) small = ((ascii _ refl, tt, (ascii _ refl, omega (arith, small), tt)), refl)

stretches_plain : (stretches : List Stretch) → AreSmallStretches stretches → ArePlain (items_of (map stretch_data stretches))
stretches_plain [] small = tt
stretches_plain (stretch ∷ stretches) small = (stretch_plain stretch small.0, stretches_plain stretches small.1)

schedule_plain : (brief : Bool) (schedule : List Stretch) → AreSmallStretches schedule → IsPlain (schedule_unless brief schedule)
schedule_plain true schedule small = tt
schedule_plain false schedule small = stretches_plain schedule small

-- nothing nests deeper than an item of an array
flat_items : {A : Type 0} (f : A → Data) (xs : List A) → ((x : A) → depth (f x) ≡ 1) → items_depth (items_of (map f xs)) ≤ 1
flat_items f [] flat = omega arith
flat_items f (x ∷ xs) flat =
    let here = flat x in
    let rest = flat_items f xs flat in
    omega (arith, here, rest)

state_flat : (state : ProcessState) → depth (process_data state) ≡ 1
state_flat (Decided v) = refl
state_flat Spent = refl
state_flat (Held i) = refl
state_flat Going = refl

stretch_flat : (stretch : Stretch) → depth (stretch_data stretch) ≡ 1
stretch_flat (Steps simulator count) = refl
stretch_flat (Crash simulator) = refl

schedule_flat : (brief : Bool) (schedule : List Stretch) → depth (schedule_unless brief schedule) ≤ 2
schedule_flat true schedule = omega arith
schedule_flat false schedule = let flat = flat_items stretch_data schedule stretch_flat in omega (arith, flat)

pub outcome_readable : (name : List ℕ) (brief : Bool) (one : Shown) → IsUtf8 name → IsWritable one → IsReadable (outcome_data name brief one)
outcome_readable name brief one utf8 small =
    let states = flat_items process_data one.states state_flat in
    let schedule = schedule_flat brief one.schedule in (
      (
        (ascii _ refl, wide one.first small.first, (ascii _ refl, states_plain one.states small.states, (ascii _ refl, utf8, (ascii _ refl, schedule_plain brief one.schedule small.schedule, (ascii _ refl, wide one.times small.times, tt))))),
        refl,
      ),
      omega (arith, states, schedule),
    )

-- ---- a room

broken_found : (broken : Option ℕ) → IsSmallIfAny broken → below 4294967296 (option_and_then as_u64 (option_and_then as_number (Some (broken_data broken)))) ≡ broken
broken_found None small = refl
broken_found (Some n) small = less_is n 4294967296 small

abbrev pub room_said_of : RoomSample → RoomSaid
room_said_of sample = record {
  name = sample.name;
  crashes = sample.how.crashes;
  seed = sample.how.seed;
  from = sample.how.from;
  grouped = sample.how.grouped;
  decided = sample.decided;
  held = sample.held;
  broken = sample.broken;
  count = length sample.outcomes;
}

pub room_found : (sample : RoomSample) → IsWritableRoom sample → room_at (room_data sample) ≡ Some (room_said_of sample)
room_found sample small =
    let small_is : (n : ℕ) → n < 4294967296 → below 4294967296 (Some n) ≡ Some n = λ n less. less_is n 4294967296 less in
    let how = sample.how in
    let broken = below 4294967296 (option_and_then as_u64 (option_and_then as_number (Some (broken_data sample.broken)))) in
    let count = below 4294967296 (Some (length sample.outcomes)) in
    ap₂ (λ (c s : Option ℕ). room_by sample.name c s (below 4294967296 (Some how.from)) (Some how.grouped) (below 4294967296 (Some sample.decided)) (below 4294967296 (Some sample.held)) broken count) (small_is how.crashes small.crashes) (small_is how.seed small.seed)
    ∙ ap₂ (λ (f d : Option ℕ). room_by sample.name (Some how.crashes) (Some how.seed) f (Some how.grouped) d (below 4294967296 (Some sample.held)) broken count) (small_is how.from small.from) (small_is sample.decided small.decided)
    ∙ ap₂ (λ (h b : Option ℕ). room_by sample.name (Some how.crashes) (Some how.seed) (Some how.from) (Some how.grouped) (Some sample.decided) h b count) (small_is sample.held small.held) (broken_found sample.broken small.broken)
    ∙ ap (room_by sample.name (Some how.crashes) (Some how.seed) (Some how.from) (Some how.grouped) (Some sample.decided) (Some sample.held) sample.broken) (small_is (length sample.outcomes) small.count)

once_few : (outcomes : List Shown) → once_in outcomes ≤ length outcomes
once_few outcomes = count_by-le-length (λ one. one.times == 1) outcomes

broken_plain : (broken : Option ℕ) → IsSmallIfAny broken → IsPlain (broken_data broken)
broken_plain None small = tt
broken_plain (Some n) small = wide n small

broken_flat : (broken : Option ℕ) → depth (broken_data broken) ≡ 0
broken_flat None = refl
broken_flat (Some n) = refl

pub room_readable : (sample : RoomSample) → IsWritableRoom sample → IsReadable (room_data sample)
room_readable sample small =
    let few = once_few sample.outcomes in
    let count = small.count in
    let flat = broken_flat sample.broken in
    (((ascii _ refl, wide sample.how.crashes small.crashes, (ascii _ refl, wide sample.decided small.decided, (ascii _ refl, wide sample.how.from small.from, (ascii _ refl, tt, (ascii _ refl, wide sample.held small.held, (ascii _ refl, omega (arith, few, count), (ascii _ refl, wide (length sample.outcomes) small.count, (ascii _ refl, small.name, (ascii _ refl, wide (schedules_in sample.outcomes) small.schedules, (ascii _ refl, wide sample.how.seed small.seed, (ascii _ refl, broken_plain sample.broken small.broken, tt))))))))))), refl), omega (arith, flat))

-- ---- why a line isn't read

-- nothing is said of an outcome
pub says_no_outcome : (pending : Pending) (line : List ℕ) (it : Data) → SaysData line it → outcome_at it ≡ None → IsNoOutcome pending line
says_no_outcome pending line it says none = λ name brief one utf8 small may is.
    let same = says_that line it (outcome_data name brief one) says (outcome_readable name brief one utf8 small) is in
    let found : None ≡ Some (said_of name brief one) = sym none ∙ ap outcome_at same ∙ outcome_found name brief one small in
    cc

-- nor of a room
pub says_no_room : (pending : Pending) (line : List ℕ) (it : Data) → SaysData line it → room_at it ≡ None → IsNoRoom pending line
says_no_room pending line it says none = λ sample small outcomes may is.
    let same = says_that line it (room_data sample) says (room_readable sample small) is in
    let found : None ≡ Some (room_said_of sample) = sym none ∙ ap room_at same ∙ room_found sample small in
    cc

-- a line that says how often something came is no room's
pub times_no_room : (pending : Pending) (line : List ℕ) (it : Data) → SaysData line it → is_some (get (codes "times") it) ≡ true → IsNoRoom pending line
times_no_room pending line it says there = λ sample small outcomes may is.
    let same = says_that line it (room_data sample) says (room_readable sample small) is in
    let found : true ≡ false = sym there ∙ ap (λ (d : Data). is_some (get (codes "times") d)) same in
    true≢false found

-- and one that doesn't is no outcome's
pub no_times_no_outcome : (pending : Pending) (line : List ℕ) (it : Data) → SaysData line it → is_some (get (codes "times") it) ≡ false → IsNoOutcome pending line
no_times_no_outcome pending line it says there = λ name brief one utf8 small may is.
    let same = says_that line it (outcome_data name brief one) says (outcome_readable name brief one utf8 small) is in
    let found : true ≡ false = sym (ap (λ (d : Data). is_some (get (codes "times") d)) same) ∙ there in
    true≢false found

not_bytes : (one other : List ℕ) → bytes_eq one other ≡ false → one ≢ other
not_bytes one other differ same = true≢false (sym ((bytes_eq-Decides one other).1 same) ∙ differ)

-- the outcome that a line says is written in another way, for the room and the form that are next
pub not_this_outcome : (pending : Pending) (line : List ℕ) (it : Data) (said : OutcomeSaid) (name : List ℕ) (brief : Bool) → SaysData line it → outcome_at it ≡ Some said → (pending.outcomes ≡ [] → (name ≡ said.name) × (brief ≡ said.brief))
    → ((pending.outcomes ≢ []) → (name ≡ pending.name) × (brief ≡ pending.brief)) → (pending.outcomes ≡ []) ⊎ (pending.outcomes ≢ []) → bytes_eq (outcome_line name brief said.one) line ≡ false → IsNoOutcome pending line
not_this_outcome pending line it said name brief says said_is begins goes_on which differ = λ wanted wanted_brief one utf8 small may is.
    let same = says_that line it (outcome_data wanted wanted_brief one) says (outcome_readable wanted wanted_brief one utf8 small) is in
    let found : said ≡ said_of wanted wanted_brief one = same_some said (said_of wanted wanted_brief one) (sym said_is ∙ ap outcome_at same ∙ outcome_found wanted wanted_brief one small) in
    let names : (name ≡ wanted) × (brief ≡ wanted_brief) = by wanted wanted_brief may which (ap (λ (s : OutcomeSaid). s.name) found) (ap (λ (s : OutcomeSaid). s.brief) found) in
    let text : outcome_line name brief said.one ≡ line =
    ap (λ (s : OutcomeSaid). outcome_line name brief s.one) found ∙ ap₂ (λ (n : List ℕ) (b : Bool). outcome_line n b (said_of wanted wanted_brief one).one) names.0 names.1 ∙ ap json_line (same_written wanted wanted_brief one) ∙ sym is in
    not_bytes (outcome_line name brief said.one) line differ text
  where
    by : (wanted : List ℕ) (wanted_brief : Bool) → MayFollow pending wanted wanted_brief → (pending.outcomes ≡ []) ⊎ (pending.outcomes ≢ []) → said.name ≡ wanted → said.brief ≡ wanted_brief → (name ≡ wanted) × (brief ≡ wanted_brief)
    by wanted wanted_brief may (inl none) same_name same_brief = ((begins none).0 ∙ same_name, (begins none).1 ∙ same_brief)
    by wanted wanted_brief (inl none) (inr some) same_name same_brief = absurd (some none)
    by wanted wanted_brief (inr (names, briefs)) (inr some) same_name same_brief = ((goes_on some).0 ∙ names, (goes_on some).1 ∙ briefs)

-- a room's line is written in another way
pub not_this_room : (pending : Pending) (line : List ℕ) (it : Data) (said : RoomSaid) → SaysData line it → room_at it ≡ Some said → bytes_eq (json_line (room_data (sample_by said pending.brief pending.outcomes))) line ≡ false → IsNoRoom pending line
not_this_room pending line it said says said_is differ = λ sample small outcomes may is.
    let same = says_that line it (room_data sample) says (room_readable sample small) is in
    let found : said ≡ room_said_of sample = same_some said (room_said_of sample) (sym said_is ∙ ap room_at same ∙ room_found sample small) in
    let text : json_line (room_data (sample_by said pending.brief pending.outcomes)) ≡ line =
    ap₂ (λ (s : RoomSaid) (o : List Shown). json_line (room_data (sample_by s pending.brief o))) found (sym outcomes) ∙ sym is in
    not_bytes (json_line (room_data (sample_by said pending.brief pending.outcomes))) line differ text
