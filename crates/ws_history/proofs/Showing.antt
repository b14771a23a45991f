-- What is shown, and the last value of each process, while a row is shown process by process.
use Rattle.std.proofs.Common.{◌≡◌, ◌∙◌, ℕ, ◌+◌, ◌<◌, ◌≤◌, ◌++◌, max, List, Option, length, set, take, get_or, sym, ap, arith, inl, inr}
use Rattle.std.specs.List.{refill}
use Rattle.std.proofs.lemmas.Bool.{cases_eq}
use Rattle.std.proofs.lemmas.Grind.{same_number_lists}
use Rattle.std.proofs.lemmas.List.{append-nil, drop_all, take_all, get_or-set_same, get_or-set_other, length-set, same_lists}
use Rattle.std.proofs.lemmas.List.FromFn.{get_or-map-range_with_len, length-map-range_with_len}
use Rattle.room_spec.specs.Rooms.{processes}
use Rattle.room_core.specs.Agreements.{shown, shown_by}
use Rattle.room_core.specs.Calls.{RoomState}
use Rattle.ws_history.specs.Placing.{shown_with}
use Rattle.ws_history.specs.Readings.{read_of}

-- a list that was written to in place
pub refilled : {X : Type 0} (xs ws old : List X) (p : ℕ) (x : X) → ws ≡ set old p x → old ≡ xs → refill (length xs) xs ws ≡ set xs p x
refilled xs ws old p x is same =
    let long : length ws ≡ length xs = ap (λ l. length l) is ∙ length-set old p x ∙ ap (λ l. length l) same in
    ap (λ l. take (length xs) (ws ++ l)) (drop_all (length ws) xs (omega (arith, long)))
    ∙ ap (λ l. take (length xs) l) (append-nil ws)
    ∙ take_all (length xs) ws (omega (arith, long))
    ∙ is
    ∙ ap (λ l. set l p x) same

-- Of the processes before p the row `upto` is shown too, of the others what was shown before.
pub record IsShownTo (room : RoomState) (from upto now : List ℕ) (view : List (Option ℕ)) (p : ℕ) : Type 0 where
  pub long : length now ≡ processes room.spec
  pub done : (q : ℕ) → q < p → get_or now q 0 ≡ max (get_or from q 0) (get_or upto q 0)
  pub left : (q : ℕ) → p ≤ q → get_or now q 0 ≡ get_or from q 0
  pub view_is : view ≡ shown_by room.spec (read_of room) now

module _ (room : RoomState) (from upto now : List ℕ) (view : List (Option ℕ)) (p : ℕ) (is : IsShownTo room from upto now view p) (below : p < processes room.spec) (r : ℕ) (value : Option ℕ)
    (r_is : r ≡ max (get_or from p 0) (get_or upto p 0)) (value_is : value ≡ shown room.spec (read_of room) p r) where
  n : ℕ
  n = processes room.spec

  each : List ℕ → ℕ → Option ℕ
  each row q = shown room.spec (read_of room) q (get_or row q 0)

  within : p < length now
  unfolding n
  within = omega (arith, is.long, below)

  here : get_or (set now p r) p 0 ≡ r
  here = get_or-set_same now p r 0 within

  values : set (shown_by room.spec (read_of room) now) p value ≡ shown_by room.spec (read_of room) (set now p r)
  unfolding n each
  values =
      let old = length-map-range_with_len (each now) 0 n in
      let new = length-map-range_with_len (each (set now p r)) 0 n in
      let same_length = length-set (shown_by room.spec (read_of room) now) p value in
      same_lists (set (shown_by room.spec (read_of room) now) p value) (shown_by room.spec (read_of room) (set now p r)) (same_length ∙ old ∙ sym new) (λ k d less.
      let few : k < n = omega (arith, less, same_length, old) in
      let last = get_or-map-range_with_len (each (set now p r)) 0 n k k d few (omega arith) in
      elim (cases_eq k p) [
        | inl at ↦
            ap (λ (q : ℕ). get_or (set (shown_by room.spec (read_of room) now) p value) q d) at
            ∙ get_or-set_same (shown_by room.spec (read_of room) now) p value d (omega (arith, below, old))
            ∙ value_is
            ∙ ap (shown room.spec (read_of room) p) (sym here)
            ∙ ap (each (set now p r)) (sym at)
            ∙ sym last
        | inr other ↦
            get_or-set_other (shown_by room.spec (read_of room) now) p k value d other
            ∙ get_or-map-range_with_len (each now) 0 n k k d few (omega arith)
            ∙ ap (shown room.spec (read_of room) k) (sym (get_or-set_other now p k r 0 other))
            ∙ sym last
      ])

  pub shows_more : IsShownTo room from upto (set now p r) (set view p value) (p + 1)
  shows_more = record {
    long = length-set now p r ∙ is.long;
    done = λ q early. elim (cases_eq q p) [
      | inl at ↦ ap (λ (k : ℕ). get_or (set now p r) k 0) at ∙ here ∙ r_is ∙ ap (λ (k : ℕ). max (get_or from k 0) (get_or upto k 0)) (sym at)
      | inr other ↦ get_or-set_other now p q r 0 other ∙ is.done q (omega (arith, early, other))
    ];
    left = λ q late. get_or-set_other now p q r 0 (λ at. omega (arith, late, at)) ∙ is.left q (omega (arith, late));
    view_is = ap (λ (l : List (Option ℕ)). set l p value) is.view_is ∙ values;
  }

-- a process of which there is nothing more to show
pub shows_same : (room : RoomState) (from upto now : List ℕ) (view : List (Option ℕ)) (p : ℕ) → IsShownTo room from upto now view p → get_or upto p 0 ≤ get_or now p 0 → IsShownTo room from upto now view (p + 1)
shows_same room from upto now view p is none = record {
  long = is.long;
  done = λ q early. elim (cases_eq q p) [
    | inl at ↦
        let own : get_or now p 0 ≡ max (get_or from p 0) (get_or upto p 0) = omega (arith, is.left p (omega arith), none) in
        ap (λ (k : ℕ). get_or now k 0) at ∙ own ∙ ap (λ (k : ℕ). max (get_or from k 0) (get_or upto k 0)) (sym at)
    | inr other ↦ is.done q (omega (arith, early, other))
  ];
  left = λ q late. is.left q (omega (arith, late));
  view_is = is.view_is;
}

pub shows_all : (room : RoomState) (from upto now : List ℕ) (view : List (Option ℕ)) (p : ℕ) → IsShownTo room from upto now view p → processes room.spec ≤ p → length upto ≡ processes room.spec → now ≡ shown_with from upto
shows_all room from upto now view p is whole long =
    let most : ℕ → ℕ = λ q. max (get_or from q 0) (get_or upto q 0) in
    same_number_lists now (shown_with from upto) (is.long ∙ sym long ∙ sym (length-map-range_with_len most 0 (length upto))) (λ k less.
    is.done k (omega (arith, less, is.long, whole)) ∙ sym (get_or-map-range_with_len most 0 (length upto) k k 0 (omega (arith, less, is.long, long)) (omega arith)))
