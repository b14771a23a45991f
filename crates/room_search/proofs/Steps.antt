-- What comes of a step.
use Rattle.std.proofs.Common.{◌≡◌, ℕ, List, sym, ap, ◌∙◌, subst}
use Rattle.std.specs.Prelude.{slice_index}
use Rattle.room_spec.specs.Rooms.{RoomSpec}
use Rattle.simulator.specs.declared.knowledge.Knowledge.{Knowledge}
use Rattle.simulator.specs.declared.operation.Move.{Move}
use Rattle.simulator.specs.Knowing.{knowledge_of, mind_of}
use Rattle.simulator.specs.Minds.{MindState}
use Rattle.simulator.specs.Moves.{IsOperation, answer_of, move_of, taken, words_after as after_move}
use Rattle.simulator.specs.Ranges.{IsMind}
use Rattle.simulator.proofs.CallerLemmas.{knows_mind}
use Rattle.room_core.specs.Rooms.{words_by}
use Rattle.room_search.specs.declared.local.Local.{Local}
use Rattle.room_search.specs.declared.shown.Said.{Said}
use Rattle.room_search.specs.declared.stepping.Stepped.{Stepped}
use Rattle.room_search.specs.Saying.{DoSay, IsOwn, IsWordOf}
use Rattle.room_search.specs.Steps.{AreSaid, AreWords, DoBothSay, HasStep, IsKnowledge, IsStepOf, SaysNoMore, known_after, words_after}

module _ (spec : RoomSpec) (known : Knowledge) (mind : MindState) (next : Move) (mind_is : mind ≡ mind_of known) (next_is : next ≡ move_of spec mind) where
  pub has_step : IsOperation next → HasStep spec known
  has_step h = subst (λ (m : MindState). IsOperation (move_of spec m)) mind_is (subst IsOperation next_is h)

  pub step_none : (IsOperation next → ⊥) → HasStep spec known → ⊥
  step_none none h = none (subst IsOperation (sym next_is) (subst (λ (m : MindState). IsOperation (move_of spec m)) (sym mind_is) h))

  known_then : (words : List ℕ) (answer : ℕ) (new : MindState) (to : Knowledge) → answer ≡ answer_of next words → new ≡ (taken spec mind answer).mind → to ≡ knowledge_of new → to ≡ known_after spec words known
  known_then words answer new to answer_is new_is to_is =
      to_is ∙ ap knowledge_of new_is ∙ ap (λ (a : ℕ). knowledge_of (taken spec mind a).mind) (answer_is ∙ ap (λ (n : Move). answer_of n words) next_is)
      ∙ ap (λ (m : MindState). knowledge_of (taken spec m (answer_of (move_of spec m) words)).mind) mind_is

  words_then : (words : List ℕ) → after_move next words ≡ words_after spec words known
  words_then words = ap (λ (n : Move). after_move n words) next_is ∙ ap (λ (m : MindState). words_by spec m words) mind_is

pub known_is_one : (spec : RoomSpec) (new : MindState) (to : Knowledge) → IsMind spec new → to ≡ knowledge_of new → IsKnowledge spec to
known_is_one spec new to is to_is = subst (IsKnowledge spec) (sym to_is) (knows_mind spec new is)

-- an operation was done on what was said before, and answered; then nothing more was said
pub record IsDone (spec : RoomSpec) (i : ℕ) (next : Move) (answer : ℕ) (before done after : Said) : Type 0 where
  pub answer_is : (words : List ℕ) → AreWords spec words → DoBothSay before words → answer ≡ answer_of next words
  pub words : (words : List ℕ) → AreWords spec words → DoBothSay before words → DoBothSay done (after_move next words)
  pub own : IsOwn spec i before.own.items → IsOwn spec i done.own.items
  pub stays : (q at : ℕ) (words : List ℕ) → (q ≡ i → ⊥) → IsWordOf spec q at → slice_index (after_move next words) at ≡ slice_index words at
  pub are : AreSaid spec done
  pub more : SaysNoMore spec done after

pub step_of : (spec : RoomSpec) (i : ℕ) (local : Local) (mind new : MindState) (next : Move) (answer : ℕ) (said : List ℕ) (stepped : Stepped) (before done : Said) → mind ≡ mind_of local.known → next ≡ move_of spec mind → IsOperation next
    → before.shown.items ≡ said → before.own.items ≡ local.own.items → IsDone spec i next answer before done stepped.said → new ≡ (taken spec mind answer).mind → IsMind spec new → stepped.known ≡ knowledge_of new → IsStepOf spec said i local stepped
step_of spec i local mind new next answer said stepped before done mind_is next_is operation shown_is own_is is new_is is_mind known_is = record {
  has = has_step spec local.known mind next mind_is next_is operation;
  on = λ words are says own_says.
      let both : DoBothSay before words = record { shown = subst (λ (l : List ℕ). DoSay l words) (sym shown_is) says; own = subst (λ (l : List ℕ). DoSay l words) (sym own_is) own_says } in
      record {
        known_is = known_then spec local.known mind next mind_is next_is words answer new stepped.known (is.answer_is words are both) new_is known_is;
        said = subst (DoBothSay stepped.said) (words_then spec local.known mind next mind_is next_is words) (is.more.same (after_move next words) (is.words words are both));
      };
  own = λ own. is.more.own i (is.own (subst (IsOwn spec i) (sym own_is) own));
  stays = λ q at words apart of. subst (λ (l : List ℕ). slice_index l at ≡ slice_index words at) (words_then spec local.known mind next mind_is next_is words) (is.stays q at words apart of);
  is_known = known_is_one spec new stepped.known is_mind known_is;
  are = is.more.are is.are;
}
