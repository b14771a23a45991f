-- Words that hold the numbers of fields, and what a store makes of them.
use Rattle.std.proofs.Common.{◌≡◌, ◌≢◌, ℕ, List, length, refl, sym, ap, ◌∙◌, subst}
use mathlib.Core.Logic.{dite}
use native.Mathlib.Decide.{ℕ_discrete}
use Rattle.room_spec.specs.Sizes.{Sizes}
use Rattle.level_cells.specs.Packing.{packed}
use Rattle.level_cells.proofs.CallerLemmas.{of_same}
use Rattle.view_table.specs.declared.place.Place.{Place}
use Rattle.view_table.specs.declared.place.Place.TheVariants.{Memory, Levels, View, Value, Out}
use Rattle.view_table.specs.Places.{IsPlace, index_of, words_of}
use Rattle.view_table.specs.Words.{word_at, with_word}
use Rattle.view_table.proofs.CallerLemmas.{distinct, here, elsewhere}
use Rattle.sim_memory.specs.Steps.{IsRaised, memory_word, with_part, word_of}
use Rattle.sim_memory.proofs.CallerLemmas.{part_else, word_else}
use Rattle.room_core.specs.Fields.{StepMap, Fields, changed_pair, changed_triple}
use Rattle.room_core.proofs.fields.Maps.{pair_else, triple_by, triple_else}

-- the word that these fields have at a place
abbrev pub word_for : Sizes → Fields → Place → ℕ
word_for sizes fields (Memory w) = memory_word sizes fields.step w
word_for sizes fields (Levels j k) = packed (λ i. fields.level i j k) 2 sizes.m
word_for sizes fields (View i j k w) = memory_word sizes (fields.view i j k) w
word_for sizes fields (Value i j k) = fields.value i j k
word_for sizes fields (Out i j) = fields.out i j

abbrev pub Hold : Sizes → List ℕ → Fields → Type 0
Hold sizes words fields = (place : Place) → IsPlace sizes place → word_at sizes words place ≡ word_for sizes fields place

pub held_after : (sizes : Sizes) (words : List ℕ) (fields after : Fields) (place : Place) (word : ℕ) → length words ≡ words_of sizes → IsPlace sizes place → Hold sizes words fields → word ≡ word_for sizes after place
    → ((other : Place) → other ≢ place → word_for sizes after other ≡ word_for sizes fields other) → Hold sizes (with_word sizes words place word) after
held_after sizes words fields after place word whole range held is keeps other other_range = dite (ℕ_discrete (index_of sizes other) (index_of sizes place))
    (λ (e : index_of sizes other ≡ index_of sizes place).
    subst (λ (q : Place). word_at sizes (with_word sizes words place word) q ≡ word_for sizes after q) (sym (distinct sizes other place other_range range e)) (here sizes words place word whole range ∙ is))
    (λ (n : index_of sizes other ≢ index_of sizes place).
    let apart : other ≢ place = λ e. n (ap (λ (q : Place). index_of sizes q) e) in
    elsewhere sizes words place other word range other_range apart ∙ held other other_range ∙ sym (keeps other apart))

-- ---- what a change of one field keeps

module _ (sizes : Sizes) (fields : Fields) where
  pub keeps_step : (step : StepMap) (i j : ℕ) → IsRaised sizes.m sizes.n fields.step i j step → (other : Place) → other ≢ Memory (word_of sizes i j) → word_for sizes (record fields { step = step }) other ≡ word_for sizes fields other
  keeps_step step i j raised (Memory w) apart = word_else sizes fields.step step i j w raised (λ e. apart (ap (λ (x : ℕ). Memory x) e))
  keeps_step step i j raised (Levels b c) apart = refl
  keeps_step step i j raised (View a b c w) apart = refl
  keeps_step step i j raised (Value a b c) apart = refl
  keeps_step step i j raised (Out a b) apart = refl

  pub keeps_level : (i j k level : ℕ) (other : Place) → other ≢ Levels j k → word_for sizes (record fields { level = changed_triple fields.level i j k level }) other ≡ word_for sizes fields other
  keeps_level i j k level (Memory w) apart = refl
  keeps_level i j k level (Levels b c) apart = of_same _ _ 2 sizes.m (λ a less. triple_else fields.level i j k level a b c (λ same same' same''. apart cc))
  keeps_level i j k level (View a b c w) apart = refl
  keeps_level i j k level (Value a b c) apart = refl
  keeps_level i j k level (Out a b) apart = refl

  -- one word of a view
  pub keeps_view : (i j k w : ℕ) (source : StepMap) (other : Place) → other ≢ View i j k w → word_for sizes (record fields { view = changed_triple fields.view i j k (with_part sizes w source (fields.view i j k)) }) other ≡ word_for sizes fields other
  keeps_view i j k w source (Memory x) apart = refl
  keeps_view i j k w source (Levels b c) apart = refl
  keeps_view i j k w source (View a b c x) apart = dite (ℕ_discrete x w)
      (λ (e : x ≡ w). ap (λ (v : StepMap). memory_word sizes v x) (triple_else fields.view i j k (with_part sizes w source (fields.view i j k)) a b c (λ same same' same''. apart cc)))
      (λ (n : x ≢ w). triple_by (λ a' b' c' v. memory_word sizes v x ≡ memory_word sizes (fields.view a' b' c') x) fields.view i j k (with_part sizes w source (fields.view i j k)) (part_else sizes source (fields.view i j k) w x n) (λ a' b' c'. refl) a b c)
  keeps_view i j k w source (Value a b c) apart = refl
  keeps_view i j k w source (Out a b) apart = refl

  pub keeps_value : (i j k value : ℕ) (other : Place) → other ≢ Value i j k → word_for sizes (record fields { value = changed_triple fields.value i j k value }) other ≡ word_for sizes fields other
  keeps_value i j k value (Memory w) apart = refl
  keeps_value i j k value (Levels b c) apart = refl
  keeps_value i j k value (View a b c w) apart = refl
  keeps_value i j k value (Value a b c) apart = triple_else fields.value i j k value a b c (λ same same' same''. apart cc)
  keeps_value i j k value (Out a b) apart = refl

  pub keeps_out : (i j out : ℕ) (other : Place) → other ≢ Out i j → word_for sizes (record fields { out = changed_pair fields.out i j out }) other ≡ word_for sizes fields other
  keeps_out i j out (Memory w) apart = refl
  keeps_out i j out (Levels b c) apart = refl
  keeps_out i j out (View a b c w) apart = refl
  keeps_out i j out (Value a b c) apart = refl
  keeps_out i j out (Out a b) apart = pair_else fields.out i j out a b (λ same same'. apart cc)
