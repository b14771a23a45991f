-- What items say, one after the other.
use Rattle.std.proofs.Common.{◌≡◌, ◌∙◌, ℕ, zero, suc, ◌<◌, ◌≤◌, Bool, false, cond, nat_le, drop, List, [], ◌∷◌, ◌++◌, append-nil, length, map, Option, Some, None, option_map, le-leb, refl, sym, ap, arith}
use Rattle.serde_json.specs.Data.{Data, Items, no_items}
use Rattle.serde_json.specs.View.{items_of, view}
use Rattle.serde_json.specs.declared.value.Value.{Value}
use Rattle.ws_history.specs.declared.states.ProcessState.{ProcessState}
use Rattle.view_sum.specs.Fields.{each_in, items_length, state_at, states_among}

abbrev pub items_from : ℕ → List Value → Items
items_from i values = items_of (map view (drop i values))

items_end : (values : List Value) (i : ℕ) → length values ≤ i → items_from i values ≡ no_items
items_end [] zero all = refl
items_end [] (suc i) all = refl
items_end (value ∷ values) zero all = absurd (omega (arith, all))
items_end (value ∷ values) (suc i) all = items_end values i (omega (arith, all))

as_many : (values : List Value) → items_length (items_of (map view values)) ≡ length values
as_many [] = refl
as_many (value ∷ values) = ap suc (as_many values)

-- what was read so far, with what the items from an index on say
abbrev pub with_rest : {A : Type 0} → (Data → Option A) → List A → Items → Option (List A)
with_rest f so_far items = option_map (λ more. so_far ++ more) (each_in f items)

all_read : {A : Type 0} (f : Data → Option A) (values : List Value) (i : ℕ) (so_far : List A) (whole : Option (List A)) → length values ≤ i → with_rest f so_far (items_from i values) ≡ whole → Some so_far ≡ whole
all_read f values i so_far whole all reads = ap Some (sym (append-nil so_far)) ∙ ap (with_rest f so_far) (sym (items_end values i all)) ∙ reads

-- ---- at most 16 states

not_le : (a b : ℕ) → b < a → nat_le a b ≡ false
not_le a b less = grind (arith, less)

pub too_many : (values : List Value) → 16 < length values → None ≡ states_among (items_of (map view values))
too_many values many =
    let items = items_of (map view values) in
    let count = as_many values in
    ap (λ (b : Bool). cond b (each_in state_at items) None) (sym (not_le (items_length items) 16 (omega (arith, many, count))))

pub all_states : (values : List Value) (i : ℕ) (so_far : List ProcessState) → length values ≤ 16 → length values ≤ i → with_rest state_at so_far (items_from i values) ≡ each_in state_at (items_of (map view values)) → Some so_far ≡ states_among (items_of (map view values))
all_states values i so_far few all reads =
    let items = items_of (map view values) in
    let count = as_many values in
    all_read state_at values i so_far (each_in state_at items) all reads ∙ ap (λ (b : Bool). cond b (each_in state_at items) None) (sym (le-leb (items_length items) 16 (omega (arith, few, count))))
