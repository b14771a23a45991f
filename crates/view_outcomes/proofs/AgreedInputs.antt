-- What is written of a reduction, vector by vector.
use Rattle.std.proofs.Common.{◌≡◌, ◌∙◌, ℕ, ◌≤◌, ◌<◌, ◌==◌, Bool, false, List, [], ◌++◌, Ok, Err, Result, length, take, refl, ap, subst, inl, inr}
use Rattle.std.specs.Prelude.{IfOk}
use Rattle.std.specs.List.{concat}
use Rattle.std.proofs.lemmas.List.{append_assoc}
use Rattle.room_spec.specs.Rooms.{RoomSpec, processes, with_inputs}
use Rattle.run_blocks.specs.Blocks.{room_block}
use Rattle.run_search.specs.Agreed.{own_values}
use Rattle.input_vectors.specs.Judged.{AddsVectors}
use Rattle.input_vectors.specs.Vectors.{most_vectors, vector_count}
use Rattle.input_vectors.proofs.CallerLemmas.{all_judged, no_vectors}
use Rattle.view_outcomes.specs.declared.search.Search.{Search}
use Rattle.view_outcomes.specs.Rooms.{IsAgreedText, IsReductionText, IsTextFor, agreed_vectors}
use Rattle.view_outcomes.specs.Shown.{agreed_in, too_many_in}

-- ---- one vector

pub agreed_reported : {E : Type 0} (search : Search) (spec with : RoomSpec) (block inputs other before head after : List ℕ) (result : Result Bool E) → with ≡ with_inputs spec inputs → other ≡ room_block spec block inputs
    → head ≡ before ++ agreed_in search.form spec.name inputs → IfOk result (λ well. (text : List ℕ) × IsTextFor search.asked search with other well text × (after ≡ head ++ text))
    → IfOk result (λ well. (text : List ℕ) × IsAgreedText search spec block inputs well text × (after ≡ before ++ text))
agreed_reported search spec with block inputs other before head after (Ok well) room said head_is reported =
    let rest = reported.0 in
    let by_room = subst (λ (r : RoomSpec). IsTextFor search.asked search r other well rest) room reported.1 in
    let front = agreed_in search.form spec.name inputs in (
      front ++ rest,
      record { rest = rest; rest_is = subst (λ (b : List ℕ). IsTextFor search.asked search (with_inputs spec inputs) b well rest) said by_room; text_is = refl },
      reported.2 ∙ ap (λ (t : List ℕ). t ++ rest) head_is ∙ append_assoc before front rest,
    )
agreed_reported search spec with block inputs other before head after (Err error) room said head_is reported = tt

-- ---- all vectors

pub none_agreed : (search : Search) (spec : RoomSpec) (block before : List ℕ) → AddsVectors (IsAgreedText search spec block) [] 0 before before
none_agreed search spec block before = no_vectors (IsAgreedText search spec block) before

pub all_agreed : (search : Search) (spec : RoomSpec) (block : List ℕ) (all : List (List ℕ)) (i kept : ℕ) (before after : List ℕ) → length all ≤ i → AddsVectors (IsAgreedText search spec block) (take i all) kept before after → AddsVectors (IsAgreedText search spec block) all kept before after
all_agreed search spec block all i kept before after past adds = all_judged (IsAgreedText search spec block) all i kept before after past adds

-- ---- a reduction

pub crowded_reduction : (search : Search) (spec : RoomSpec) (block values before after : List ℕ) → values ≡ own_values spec → most_vectors < vector_count values (processes spec) → after ≡ before ++ too_many_in search.form spec search.nodes values
    → (text : List ℕ) × IsReductionText search spec block false text × (after ≡ before ++ text)
crowded_reduction search spec block values before after own many is = (
  too_many_in search.form spec search.nodes (own_values spec),
  inr (record { many = subst (λ (v : List ℕ). most_vectors < vector_count v (processes spec)) own many; text_is = refl; well_is = refl }),
  is ∙ ap (λ (v : List ℕ). before ++ too_many_in search.form spec search.nodes v) own,
)

pub answered_reduction : (search : Search) (spec : RoomSpec) (block values : List ℕ) (kept count : ℕ) (well : Bool) (before after : List ℕ) → values ≡ own_values spec → count ≡ vector_count values (processes spec)
    → vector_count values (processes spec) ≤ most_vectors → AddsVectors (IsAgreedText search spec block) (agreed_vectors spec) kept before after → well ≡ (kept == count)
    → (text : List ℕ) × IsReductionText search spec block well text × (after ≡ before ++ text)
answered_reduction search spec block values kept count well before after own counted few adds well_is = (
  concat adds.texts,
  inl
      (record {
        few = subst (λ (v : List ℕ). vector_count v (processes spec) ≤ most_vectors) own few;
        kept = kept;
        texts = adds.texts;
        each = adds.each;
        text_is = refl;
        well_is = well_is ∙ ap (λ (n : ℕ). kept == n) (counted ∙ ap (λ (v : List ℕ). vector_count v (processes spec)) own);
      }),
  adds.after_is,
)
