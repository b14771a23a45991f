-- Texts of vectors, one by one.
use Rattle.std.proofs.Common.{◌≡◌, ◌∙◌, ℕ, ◌≤◌, ◌<◌, ◌==◌, Bool, false, true, List, [], ◌++◌, None, length, take, refl, sym, ap, subst, inl, inr}
use Rattle.std.specs.List.{concat}
use Rattle.std.proofs.lemmas.List.{append_assoc}
use Rattle.room_spec.specs.Rooms.{RoomSpec, processes, with_inputs}
use Rattle.run_search.specs.declared.judging.Judgement.{Judgement}
use Rattle.run_search.specs.Judging.{AreTooManyKept, IsJudged}
use Rattle.view_outcomes.specs.declared.search.Search.{Search}
use Rattle.input_vectors.specs.Judged.{AddsVectors}
use Rattle.input_vectors.proofs.CallerLemmas.{all_judged, no_vectors}
use Rattle.view_outcomes.specs.AllInputs.{IsInputsText, IsVectorText}
use Rattle.view_outcomes.specs.Judgements.{is_kept}
use Rattle.view_outcomes.specs.Shown.{taskless_in, too_many_in, vector_in, vector_unjudged_in, vectors_in}
use Rattle.input_vectors.specs.Vectors.{most_vectors, vector_count, vectors}
use Rattle.run_blocks.specs.Blocks.{room_block}

-- ---- one vector more

pub none_yet : (search : Search) (spec : RoomSpec) (block before : List ℕ) → AddsVectors (IsVectorText search spec block) [] 0 before before
none_yet search spec block before = no_vectors (IsVectorText search spec block) before

pub all_done : (search : Search) (spec : RoomSpec) (block : List ℕ) (all : List (List ℕ)) (i kept : ℕ) (before after : List ℕ) → length all ≤ i → AddsVectors (IsVectorText search spec block) (take i all) kept before after → AddsVectors (IsVectorText search spec block) all kept before after
all_done search spec block all i kept before after past adds = all_judged (IsVectorText search spec block) all i kept before after past adds

-- ---- one vector

pub judged_vector : (search : Search) (spec with : RoomSpec) (block inputs other : List ℕ) (judgement : Judgement) (kept : Bool) (before after : List ℕ) → with ≡ with_inputs spec inputs → other ≡ room_block spec block inputs
    → IsJudged with search.nodes judgement → kept ≡ is_kept judgement → after ≡ before ++ vector_in search.form search.brief with other inputs search.nodes judgement → (text : List ℕ) × IsVectorText search spec block inputs kept text × (after ≡ before ++ text)
judged_vector search spec with block inputs other judgement kept before after room said judged kept_is is = (
  vector_in search.form search.brief (with_inputs spec inputs) (room_block spec block inputs) inputs search.nodes judgement,
  inl (record { judgement = judgement; judged = subst (λ (r : RoomSpec). IsJudged r search.nodes judgement) room judged; text_is = refl; kept_is = kept_is }),
  is ∙ ap (λ (r : RoomSpec). before ++ vector_in search.form search.brief r other inputs search.nodes judgement) room
      ∙ ap (λ (b : List ℕ). before ++ vector_in search.form search.brief (with_inputs spec inputs) b inputs search.nodes judgement) said,
)

pub unjudged_vector : (search : Search) (spec with : RoomSpec) (block inputs before after : List ℕ) → with ≡ with_inputs spec inputs → AreTooManyKept with search.nodes
    → after ≡ before ++ vector_unjudged_in search.form with inputs search.nodes → (text : List ℕ) × IsVectorText search spec block inputs false text × (after ≡ before ++ text)
unjudged_vector search spec with block inputs before after room many is = (
  vector_unjudged_in search.form (with_inputs spec inputs) inputs search.nodes,
  inr (record { so_far = subst (λ (r : RoomSpec). AreTooManyKept r search.nodes) room many; text_is = refl; kept_is = refl }),
  is ∙ ap (λ (r : RoomSpec). before ++ vector_unjudged_in search.form r inputs search.nodes) room,
)

-- ---- a room

pub taskless_room : (search : Search) (values : List ℕ) (spec : RoomSpec) (block before after : List ℕ) → None ≡ spec.task → after ≡ before ++ taskless_in search.form spec search.nodes
    → (text : List ℕ) × IsInputsText search values spec block true text × (after ≡ before ++ text)
taskless_room search values spec block before after none is = (taskless_in search.form spec search.nodes, inl (record { none = sym none; text_is = refl; well_is = refl }), is)

pub crowded_room : (search : Search) (values : List ℕ) (spec : RoomSpec) (block before after : List ℕ) → most_vectors < vector_count values (processes spec) → after ≡ before ++ too_many_in search.form spec search.nodes values
    → (text : List ℕ) × IsInputsText search values spec block false text × (after ≡ before ++ text)
crowded_room search values spec block before after many is = (too_many_in search.form spec search.nodes values, inr (inr (record { many = many; text_is = refl; well_is = refl })), is)

pub judged_room : (search : Search) (values : List ℕ) (spec : RoomSpec) (block : List ℕ) (kept count : ℕ) (well : Bool) (before middle after : List ℕ) → count ≡ vector_count values (processes spec) → vector_count values (processes spec) ≤ most_vectors
    → AddsVectors (IsVectorText search spec block) (vectors values (processes spec)) kept before middle → after ≡ middle ++ vectors_in search.form spec search.nodes values kept count → well ≡ (kept == count)
    → (text : List ℕ) × IsInputsText search values spec block well text × (after ≡ before ++ text)
judged_room search values spec block kept count well before middle after counted few adds is well_is =
    let line = vectors_in search.form spec search.nodes values kept in (
      concat adds.texts ++ line (vector_count values (processes spec)),
      inr (inl (record { few = few; kept = kept; texts = adds.texts; each = adds.each; text_is = refl; well_is = well_is ∙ ap (λ (n : ℕ). kept == n) counted })),
      is ∙ ap (λ (t : List ℕ). t ++ line count) adds.after_is ∙ append_assoc before (concat adds.texts) (line count) ∙ ap (λ (n : ℕ). before ++ (concat adds.texts ++ line n)) counted,
    )
