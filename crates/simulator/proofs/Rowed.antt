-- The steps of a line that works on one memory word after the other, taken in a row.
use Rattle.std.proofs.Common.{◌≡◌, ◌∙◌, ℕ, ◌+◌, ◌<◌, ◌≤◌, Bool, cond, List, [], sym, ap, subst, slice_index, slice_set, arith}
use Rattle.std.proofs.lemmas.Bool.{le-ltb, lt-ltb}
use Rattle.room_spec.specs.Rooms.{RoomSpec}
use Rattle.room_spec.specs.Shapes.{sizes_of}
use Rattle.room_spec.specs.Sizes.{Sizes, sizes_in}
use Rattle.view_table.specs.Places.{index_of}
use Rattle.view_table.specs.declared.place.Place.TheVariants as places
use Rattle.simulator.specs.declared.line.Line.{Line}
use Rattle.simulator.specs.declared.line.Line.TheVariants.{Snap, Show, Enter, GetView}
use Rattle.simulator.specs.declared.operation.Move.{Move}
use Rattle.simulator.specs.declared.operation.Move.TheVariants as moves
use Rattle.simulator.specs.declared.part.Part.{Part}
use Rattle.simulator.specs.declared.turn.Turn.TheVariants.{Still}
use Rattle.simulator.specs.Minds.{MindState, current_round}
use Rattle.simulator.specs.Moves.{entry_in, is_again, loaded, move_at, taken_at}
use Rattle.simulator.specs.Parts.{IsPartOf}
use Rattle.simulator.specs.Ranges.{IsMind, at_line}
use Rattle.simulator.specs.Runs.{Runs, Wants}
use Rattle.simulator.specs.Turns.{TakenOf, counted, counted_by, gathered, goes_on, on_word, scanned, words_in}
use Rattle.simulator.proofs.Limits.{small}
use Rattle.simulator.proofs.Longer.{RunsOn}
use Rattle.simulator.proofs.Valued.{counts_none, one_more}

-- a mind that has taken `word` steps of the line, one for each of the words before
abbrev pub at_word : ℕ → MindState → MindState
at_word word mind = counted_by word (record mind { word = word })

-- and with one word loaded more
abbrev pub with_loaded : ℕ → ℕ → MindState → MindState
with_loaded word content mind = record mind { snapshot = slice_set mind.snapshot word content }

next_word : (spec : RoomSpec) (line : Line) (mind : MindState) (last : TakenOf (List ℕ)) → mind.word + 1 < words_in spec → on_word spec line mind last ≡ goes_on line (record mind { word = mind.word + 1 })
next_word spec line mind last less = ap (λ (b : Bool). cond b (goes_on line (record mind { word = mind.word + 1 })) last) (lt-ltb (mind.word + 1) (words_in spec) less)

last_word : (spec : RoomSpec) (line : Line) (mind : MindState) (last : TakenOf (List ℕ)) → mind.word + 1 ≡ words_in spec → on_word spec line mind last ≡ last
last_word spec line mind last all = ap (λ (b : Bool). cond b (goes_on line (record mind { word = mind.word + 1 })) last) (le-ltb (mind.word + 1) (words_in spec) (omega (arith, all)))

-- one step counted more, at the same word
counts_on : (word at : ℕ) (mind : MindState) → counted (counted_by word (record mind { word = at })) ≡ counted_by (word + 1) (record mind { word = at })
counts_on word at mind = sym (one_more word (record mind { word = at }))

-- ---- collects

module _ (spec : RoomSpec) (self : MindState) (word content : ℕ) where
  abbrev pub before : MindState
  before = at_word word self

  abbrev pub put : MindState
  put = with_loaded word content self

  pub snap_next : word + 1 < words_in spec → goes_on Snap (at_word (word + 1) put) ≡ taken_at Snap spec (counted before) content
  snap_next less =
      ap (λ (m : MindState). goes_on Snap (record (with_loaded word content m) { word = word + 1 })) (sym (counts_on word word self))
      ∙ sym (next_word spec Snap (loaded content (counted before)) _ less)

  pub snap_last : (after : MindState) → word + 1 ≡ words_in spec → self.word ≡ 0 → after ≡ put → scanned spec (is_again (counted_by (word + 1) after)) (counted_by (word + 1) after) ≡ taken_at Snap spec (counted before) content
  snap_last after all none is =
      ap (λ (m : MindState). scanned spec (is_again (counted_by (word + 1) m)) (counted_by (word + 1) m)) is
      ∙ ap (λ (w : ℕ). scanned spec (is_again (counted_by (word + 1) put)) (counted_by (word + 1) (record put { word = w }))) none
      ∙ ap (λ (m : MindState). scanned spec (is_again (with_loaded word content m)) (record (with_loaded word content m) { word = 0 })) (sym (counts_on word word self))
      ∙ sym (last_word spec Snap (loaded content (counted before)) _ all)

  -- ---- the chosen proposal

  pub view_next : (chosen : ℕ) → word + 1 < words_in spec → goes_on (GetView chosen) (at_word (word + 1) put) ≡ taken_at (GetView chosen) spec (counted before) content
  view_next chosen less =
      ap (λ (m : MindState). goes_on (GetView chosen) (record (with_loaded word content m) { word = word + 1 })) (sym (counts_on word word self))
      ∙ sym (next_word spec (GetView chosen) (loaded content (counted before)) _ less)

  pub view_last : (chosen : ℕ) (after : MindState) → word + 1 ≡ words_in spec → self.word ≡ 0 → after ≡ put → gathered (entry_in spec (counted_by (word + 1) after).snapshot) spec [] (counted_by (word + 1) after) ≡ taken_at (GetView chosen) spec (counted before) content
  view_last chosen after all none is =
      ap (λ (m : MindState). gathered (entry_in spec m.snapshot) spec [] (counted_by (word + 1) m)) is
      ∙ ap (λ (w : ℕ). gathered (entry_in spec put.snapshot) spec [] (counted_by (word + 1) (record put { word = w }))) none
      ∙ ap (λ (m : MindState). gathered (entry_in spec (slice_set m.snapshot word content)) spec [] (record (with_loaded word content m) { word = 0 })) (sym (counts_on word word self))
      ∙ sym (last_word spec (GetView chosen) (loaded content (counted before)) _ all)

-- ---- its own proposal

pub show_next : (spec : RoomSpec) (self : MindState) (word answer : ℕ) → word + 1 < words_in spec → goes_on Show (at_word (word + 1) self) ≡ taken_at Show spec (counted (at_word word self)) answer
show_next spec self word answer less =
    ap (λ (m : MindState). goes_on Show (record m { word = word + 1 })) (sym (counts_on word word self)) ∙ sym (next_word spec Show (counted (at_word word self)) _ less)

pub show_last : (spec : RoomSpec) (self : MindState) (word answer : ℕ) → word + 1 ≡ words_in spec → self.word ≡ 0 → goes_on Enter (counted_by (word + 1) self) ≡ taken_at Show spec (counted (at_word word self)) answer
show_last spec self word answer all none =
    ap (λ (w : ℕ). goes_on Enter (counted_by (word + 1) (record self { word = w }))) none
    ∙ ap (λ (m : MindState). goes_on Enter (record m { word = 0 })) (sym (counts_on word word self))
    ∙ sym (last_word spec Show (counted (at_word word self)) _ all)

-- ---- the operations

pub snaps_at : (spec : RoomSpec) (self : MindState) (part : Part) (word : ℕ) → IsPartOf spec self part → moves.Load (index_of (sizes_of part.shape) (places.Memory word)) ≡ move_at Snap spec (at_word word self)
snaps_at spec self part word is = ap (λ (sizes : Sizes). moves.Load (index_of sizes (places.Memory word))) is.0

view_of_part : (spec : RoomSpec) (self : MindState) (part : Part) (i word : ℕ) → IsPartOf spec self part → index_of (sizes_of part.shape) (places.View i part.process part.round word) ≡ index_of (sizes_in spec) (places.View i self.process (current_round self) word)
view_of_part spec self part i word is =
    ap (λ (sizes : Sizes). index_of sizes (places.View i part.process part.round word)) is.0
    ∙ ap (λ (j : ℕ). index_of (sizes_in spec) (places.View i j part.round word)) is.2 ∙ ap (λ (k : ℕ). index_of (sizes_in spec) (places.View i self.process k word)) is.3

pub shows_at : (spec : RoomSpec) (self : MindState) (part : Part) (word : ℕ) → IsPartOf spec self part
    → moves.Store (index_of (sizes_of part.shape) (places.View part.simulator part.process part.round word)) (slice_index self.snapshot word) ≡ move_at Show spec (at_word word self)
shows_at spec self part word is =
    ap (λ (at : ℕ). moves.Store at (slice_index self.snapshot word)) (view_of_part spec self part part.simulator word is ∙ ap (λ (i : ℕ). index_of (sizes_in spec) (places.View i self.process (current_round self) word)) is.1)

pub views_at : (spec : RoomSpec) (self : MindState) (part : Part) (chosen word : ℕ) → IsPartOf spec self part
    → moves.Load (index_of (sizes_of part.shape) (places.View chosen part.process part.round word)) ≡ move_at (GetView chosen) spec (at_word word self)
views_at spec self part chosen word is = ap (λ (at : ℕ). moves.Load at) (view_of_part spec self part chosen word is)

-- ---- the row

at_none : (mind : MindState) → mind.word ≡ 0 → mind ≡ at_word 0 mind
at_none mind none = ap (λ (w : ℕ). record mind { word = w }) none ∙ counts_none (record mind { word = 0 })

-- before the first word
pub none_yet : {M C : Type 0} (serves : M → C → RoomSpec → MindState → Type 0) (does : M → Move → ℕ → M → Type 0) (context : C) (spec : RoomSpec) (memory : M) (line : Line) (self : MindState)
    → self.word ≡ 0 → Wants serves context spec memory (at_line line self) Still → RunsOn serves does context spec 0 memory memory (at_line line self) (at_line line (at_word 0 self)) Still
none_yet serves does context spec memory line self none wants =
    let same = at_none self none in
    record {
      wants = subst (λ (m : MindState). Wants serves context spec memory (at_line line m) Still) same wants;
      continues = λ count first start runs.
          let sum : count ≡ count + 0 = omega arith in
          subst (λ (n : ℕ). Runs does spec first start n memory (at_line line (at_word 0 self)) Still) sum (subst (λ (m : MindState). Runs does spec first start count memory (at_line line m) Still) same runs);
    }

-- the words that are left are few, and so are the steps
pub record FitsRow (self : MindState) (steps : ℕ) : Type 0 where
  pub steps_fit : self.steps + steps ≤ 4294967295
  pub turn_steps_fit : self.turn_steps + steps ≤ 65535
  pub collects_fit : self.collects < 65535

pub fits_row : (spec : RoomSpec) (line : Line) (self : MindState) (word : ℕ) → IsMind spec (at_line line (at_word word self)) → FitsRow self (word + 1)
fits_row spec line self word is =
    let few = small spec (at_line line (at_word word self)) is in
    record { steps_fit = omega (arith, few.steps); turn_steps_fit = omega (arith, few.turn_steps); collects_fit = few.collects }
