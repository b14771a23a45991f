-- Texts of vectors that are sampled, and of a room.
use Rattle.std.proofs.Common.{◌≡◌, ◌∙◌, ℕ, ◌≤◌, ◌<◌, ◌==◌, ◌||◌, Bool, false, true, not, List, [], ◌++◌, Option, Some, None, Ok, length, take, refl, sym, ap, subst, inl, inr}
use Rattle.std.specs.List.{concat}
use Rattle.std.proofs.lemmas.List.{append_assoc}
use Rattle.serde_json.specs.Written.{has_float}
use Rattle.json_lines.specs.Values.{entry_data, numbers_data}
use Rattle.json_lines.proofs.CallerLemmas.{both, numbers_are}
use Rattle.input_vectors.specs.Judged.{AddsVectors}
use Rattle.input_vectors.specs.Vectors.{most_vectors, vector_count, vectors}
use Rattle.run_blocks.specs.Blocks.{room_block}
use Rattle.input_vectors.proofs.CallerLemmas.{all_judged, no_vectors}
use Rattle.room_files.specs.Kinds.{block_of}
use Rattle.room_files.specs.declared.kinds.Kinds.TheVariants.{All}
use Rattle.room_spec.specs.Rooms.{IsWithinLimits, RoomSpec, processes, with_inputs}
use Rattle.room_sample.specs.Samples.{AreAmongAll, Counted, IsSample}
use Rattle.room_sample.specs.Shown.{IsShownIf, Shown}
use Rattle.room_sample.specs.declared.sampling.Plan.{Plan}
use Rattle.view_sample.specs.Inputs.{IsInputsText, IsJudgedText, IsVectorText, broken_data, room_vectors_data, taskless_in, too_many_in, vector_data, vector_in, vectors_in}
use Rattle.view_sample.specs.Json.{schedule_unless}
use Rattle.view_sample.specs.Tasks.{first_broken}
use Rattle.view_sample.specs.TaskTexts.{has_held}
use Rattle.view_sample.proofs.Coming.{script_leads}
use Rattle.view_sample.proofs.JsonNumbers.{unless_is}

-- ---- no number has a fraction

broken_is : (brief : Bool) (broken : Option Shown) → has_float (broken_data brief broken) ≡ false
broken_is brief None = refl
broken_is brief (Some one) = both (has_float (schedule_unless brief one.schedule)) false (unless_is brief one.schedule) refl

pub vector_is : (spec : RoomSpec) (plan : Plan) (inputs : List ℕ) (outcomes : List Counted) (broken : Option Shown) → has_float (vector_data spec plan inputs outcomes broken) ≡ false
vector_is spec plan inputs outcomes broken =
    let numbers = has_float (numbers_data inputs) in
    both (has_float (broken_data plan.brief broken)) (numbers || false) (broken_is plan.brief broken) (both numbers false (numbers_are inputs) refl)

entry_is : (entry : Option ℕ) → has_float (entry_data entry) ≡ false
entry_is None = refl
entry_is (Some n) = refl

pub vectors_are : (name values : List ℕ) (kept count : Option ℕ) → has_float (room_vectors_data name values kept count) ≡ false
vectors_are name values kept count =
    let numbers = has_float (numbers_data values) in
    let counted = has_float (entry_data count) in
    both (has_float (entry_data kept)) (numbers || (counted || false)) (entry_is kept) (both numbers (counted || false) (numbers_are values) (both counted false (entry_is count) refl))

-- ---- one vector

-- what is known of the room with other inputs, the block that says it, and what was written of it
abbrev Judged : Plan → List ℕ → List Counted → Option Shown → Bool → List ℕ → List ℕ → RoomSpec → List ℕ → Type 0
Judged plan inputs outcomes broken kept before after spec block =
    IsSample spec plan outcomes × AreAmongAll spec outcomes × IsShownIf spec plan.crashes (not plan.brief) (first_broken spec outcomes) broken × IsWithinLimits spec × (block_of All block ≡ Ok (spec, length block))
    × (kept ≡ has_held spec outcomes) × (after ≡ before ++ vector_in plan spec block inputs outcomes broken)

pub judged_vector : (plan : Plan) (spec with : RoomSpec) (block inputs other : List ℕ) (outcomes : List Counted) (broken : Option Shown) (kept : Bool) (before after : List ℕ) → with ≡ with_inputs spec inputs → other ≡ room_block spec block inputs
    → Judged plan inputs outcomes broken kept before after with other → (text : List ℕ) × IsVectorText plan spec block inputs kept text × (after ≡ before ++ text)
judged_vector plan spec with block inputs other outcomes broken kept before after room said judged =
    let own_room : Judged plan inputs outcomes broken kept before after (with_inputs spec inputs) other = subst (λ (r : RoomSpec). Judged plan inputs outcomes broken kept before after r other) room judged in
    let own : Judged plan inputs outcomes broken kept before after (with_inputs spec inputs) (room_block spec block inputs) = subst (λ (b : List ℕ). Judged plan inputs outcomes broken kept before after (with_inputs spec inputs) b) said own_room in (
      vector_in plan (with_inputs spec inputs) (room_block spec block inputs) inputs outcomes broken,
      record {
        outcomes = outcomes;
        sample = own.0;
        among = own.1;
        broken = broken;
        broken_is = own.2;
        script = λ asked. script_leads (with_inputs spec inputs) plan.crashes (not plan.brief) (room_block spec block inputs) own.3 own.4 (ap not asked) (first_broken (with_inputs spec inputs) outcomes) broken own.2;
        kept_is = own.5;
        text_is = refl;
      },
      own.6,
    )

pub none_yet : (plan : Plan) (spec : RoomSpec) (block before : List ℕ) → AddsVectors (IsVectorText plan spec block) [] 0 before before
none_yet plan spec block before = no_vectors (IsVectorText plan spec block) before

pub all_done : (plan : Plan) (spec : RoomSpec) (block : List ℕ) (all : List (List ℕ)) (i kept : ℕ) (before after : List ℕ) → length all ≤ i → AddsVectors (IsVectorText plan spec block) (take i all) kept before after → AddsVectors (IsVectorText plan spec block) all kept before after
all_done plan spec block all i kept before after past adds = all_judged (IsVectorText plan spec block) all i kept before after past adds

-- ---- a room

pub taskless_room : (plan : Plan) (values : List ℕ) (spec : RoomSpec) (block before after : List ℕ) → None ≡ spec.task → after ≡ before ++ taskless_in plan spec.name values → (text : List ℕ) × IsJudgedText plan values spec block true text × (after ≡ before ++ text)
taskless_room plan values spec block before after none is = (taskless_in plan spec.name values, inl (record { none = sym none; text_is = refl; well_is = refl }), is)

pub crowded_room : (plan : Plan) (values : List ℕ) (spec : RoomSpec) (block before after : List ℕ) → most_vectors < vector_count values (processes spec) → after ≡ before ++ too_many_in plan spec.name values
    → (text : List ℕ) × IsJudgedText plan values spec block false text × (after ≡ before ++ text)
crowded_room plan values spec block before after many is = (too_many_in plan spec.name values, inr (inr (record { many = many; text_is = refl; well_is = refl })), is)

pub judged_room : (plan : Plan) (values : List ℕ) (spec : RoomSpec) (block : List ℕ) (kept count : ℕ) (well : Bool) (before middle after : List ℕ) → count ≡ vector_count values (processes spec) → vector_count values (processes spec) ≤ most_vectors
    → AddsVectors (IsVectorText plan spec block) (vectors values (processes spec)) kept before middle → after ≡ middle ++ vectors_in plan spec.name values kept count → well ≡ (kept == count) → (text : List ℕ) × IsJudgedText plan values spec block well text × (after ≡ before ++ text)
judged_room plan values spec block kept count well before middle after counted few adds is well_is =
    let line = vectors_in plan spec.name values kept in (
      concat adds.texts ++ line (vector_count values (processes spec)),
      inr (inl (record { few = few; kept = kept; texts = adds.texts; each = adds.each; text_is = refl; well_is = well_is ∙ ap (λ (n : ℕ). kept == n) counted })),
      is ∙ ap (λ (t : List ℕ). t ++ line count) adds.after_is ∙ append_assoc before (concat adds.texts) (line count) ∙ ap (λ (n : ℕ). before ++ (concat adds.texts ++ line n)) counted,
    )

-- the room that its block says, and no other
pub said_room : (plan : Plan) (values : List ℕ) (spec : RoomSpec) (block : List ℕ) (well : Bool) (before after : List ℕ) → block_of All block ≡ Ok (spec, length block) → (text : List ℕ) × IsJudgedText plan values spec block well text × (after ≡ before ++ text)
    → (text : List ℕ) × IsInputsText plan values spec well text × (after ≡ before ++ text)
said_room plan values spec block well before after says judged = (judged.0, record { block = block; says = says; judged = judged.1 }, judged.2)
