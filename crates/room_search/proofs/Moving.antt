-- Moves go on.
use Rattle.std.proofs.Common.{◌≡◌, ℕ, zero, suc, ◌<◌, Bool, true, cond, eqb, List, [], ◌∷◌, length, Some, refl, sym, ap, ◌∙◌, subst, arith, inl, inr}
use Rattle.std.specs.Global.{Vec}
use Rattle.std.specs.Map.{lookup}
use Rattle.std.proofs.lemmas.Bool.{and_parts, cases_Bool, eqb-true}
use Rattle.std.proofs.lemmas.Option.{none-some, same_Some, slice_get_within}
use Rattle.indexmap.specs.IndexMap.{insert_entry}
use Rattle.room_spec.specs.Rooms.{RoomSpec}
use Rattle.room_search.specs.declared.local.Local.{Local}
use Rattle.room_search.specs.declared.moves.Lead.{Lead}
use Rattle.room_search.specs.declared.moves.Lead.TheVariants.{Nothing, Lost, To}
use Rattle.room_search.specs.declared.moves.Moves.{Moves}
use Rattle.room_search.specs.declared.moves.Situation.{Situation}
use Rattle.room_search.specs.contracts.moves.SituationPartialEq.TheImpl as tests
use Rattle.room_search.specs.Moving.{AreEach, AreMoves, GoOn, IsKnownLead, IsLeadOf, IsSaidAt, IsStepTo, IsWithinLead}
use Rattle.room_search.specs.declared.stepping.Next.{Next}
use Rattle.room_search.specs.declared.stepping.Next.TheVariants as next
use Rattle.room_search.specs.Nodes.{Grows, IsNumberOf}
use Rattle.room_search.specs.Steps.{IsNext, IsWithinNext}
use Rattle.room_search.proofs.Growing.{there_before, there_grown}
use Rattle.room_search.proofs.Sets.{grows_not, grows_on, longer}

-- ---- numbers stay

pub number_grown : (old new : List Local) (local : Local) (number : ℕ) → Grows old new → IsNumberOf old local number → IsNumberOf new local number
number_grown old new local number grown is = record { one = is.one; is = there_grown old new number is.one grown is.is; alike = is.alike }

pub number_within : (table : List Local) (local : Local) (number : ℕ) → IsNumberOf table local number → number < length table
number_within table local number is = slice_get_within table number is.one is.is

pub said_grown : (old new : List (Vec ℕ)) (number : ℕ) (said : List ℕ) → Grows old new → IsSaidAt old number said → IsSaidAt new number said
said_grown old new number said grown is = record { one = is.one; is = there_grown old new number is.one grown is.is; same = is.same }

pub said_before : (old new : List (Vec ℕ)) (number : ℕ) (said : List ℕ) → Grows old new → number < length old → IsSaidAt new number said → IsSaidAt old number said
said_before old new number said grown below is = record { one = is.one; is = there_before old new number is.one grown below is.is; same = is.same }

pub said_within : (all : List (Vec ℕ)) (number : ℕ) (said : List ℕ) → IsSaidAt all number said → number < length all
said_within all number said is = slice_get_within all number is.one is.is

-- a number says one thing
pub said_once : (all : List (Vec ℕ)) (number : ℕ) (one other : List ℕ) → IsSaidAt all number one → IsSaidAt all number other → one ≡ other
said_once all number one other is also = sym is.same ∙ ap (λ (v : Vec ℕ). v.items) (same_Some is.one also.one (sym is.is ∙ also.is)) ∙ also.same

pub said_at : (all : List (Vec ℕ)) (number : ℕ) → number < length all → (said : List ℕ) × IsSaidAt all number said
said_at [] number below = absurd (omega (arith, below))
said_at (one ∷ all) zero below = (one.items, record { one = one; is = refl; same = refl })
said_at (one ∷ all) (suc number) below = let more = said_at all number (omega (arith, below)) in (more.0, record { one = more.1.one; is = more.1.is; same = more.1.same })

-- what comes of a step is of the room
pub next_within : (spec : RoomSpec) (said : List ℕ) (i : ℕ) (local : Local) (comes : Next) → IsNext spec said i local comes → IsWithinNext spec comes
next_within spec said i local next.Nothing is = tt
next_within spec said i local next.Lost is = tt
next_within spec said i local (next.To stepped) is = (is.is_known, is.are)

-- ---- leads stay

module _ (spec : RoomSpec) (all more : List (Vec ℕ)) (old new : List Local) (said_grows : Grows all more) (grows : Grows old new) where
  pub step_to_grown : (said : List ℕ) (i : ℕ) (local : Local) (to number : ℕ) → IsStepTo spec all old said i local to number → IsStepTo spec more new said i local to number
  step_to_grown said i local to number is = record {
    stepped = is.stepped;
    step = is.step;
    said_is = said_grown all more to is.stepped.said.shown.items said_grows is.said_is;
    number_is = number_grown old new _ number grows is.number_is;
  }

  pub lead_of_grown : (said : List ℕ) (i : ℕ) (local : Local) (lead : Lead) → IsLeadOf spec all old said i local lead → IsLeadOf spec more new said i local lead
  lead_of_grown said i local Nothing is = is
  lead_of_grown said i local Lost is = is
  lead_of_grown said i local (To to number) is = step_to_grown said i local to number is

  pub within_grown : (lead : Lead) → IsWithinLead all old lead → IsWithinLead more new lead
  within_grown Nothing is = is
  within_grown Lost is = is
  within_grown (To to number) is =
      let said_longer = longer all more said_grows in
      let table_longer = longer old new grows in
      let below = is.0 in
      let under = is.1 in
      (omega (arith, below, said_longer), omega (arith, under, table_longer))

  known_lead_grown : (entry : Situation × Lead) → IsKnownLead spec all old entry → IsKnownLead spec more new entry
  known_lead_grown entry is =
      let said_longer = longer all more said_grows in
      let table_longer = longer old new grows in
      let below = is.said in
      let under = is.number in
      record {
        said = omega (arith, below, said_longer);
        number = omega (arith, under, table_longer);
        lead = λ said local says there.
            lead_of_grown said entry.0.simulator local entry.1 (is.lead said local (said_before all more entry.0.said said said_grows is.said says) (there_before old new entry.0.number local grows is.number there));
        within = within_grown entry.1 is.within;
      }

  pub each_grown : (entries : List (Situation × Lead)) → AreEach (IsKnownLead spec all old) entries → AreEach (IsKnownLead spec more new) entries
  each_grown [] are = are
  each_grown (entry ∷ entries) are = (known_lead_grown entry are.0, each_grown entries are.1)

-- ---- entries

pub same_situation : (a b : Situation) → tests.ghosts.eq a b ≡ true → a ≡ b
same_situation a b h =
    let said = and_parts (eqb a.said b.said) _ h in
    let more = and_parts (eqb a.simulator b.simulator) _ said.1 in
    let one = eqb-true a.said b.said said.0 in
    let simulator = eqb-true a.simulator b.simulator more.0 in
    let number = eqb-true a.number b.number more.1 in
    λ i. record { said = one i; simulator = simulator i; number = number i }

pub each_found : (P : Situation × Lead → Type 0) (test : Situation → Bool) (from : Situation) → ((other : Situation) → test other ≡ true → from ≡ other) → (entries : List (Situation × Lead)) (lead : Lead) → lookup test entries ≡ Some lead → AreEach P entries → P (from, lead)
each_found P test from is_test [] lead found are = absurd (none-some lead found)
each_found P test from is_test (entry ∷ entries) lead found are = elim (cases_Bool (test entry.0)) [
  | inl yes_it ↦
      let here : entry.1 ≡ lead = same_Some entry.1 lead (ap (λ (b : Bool). cond b (Some entry.1) (lookup test entries)) (sym yes_it) ∙ found) in
      subst (λ (l : Lead). P (from, l)) here (subst (λ (s : Situation). P (s, entry.1)) (sym (is_test entry.0 yes_it)) are.0)
  | inr no_it ↦ each_found P test from is_test entries lead (ap (λ (b : Bool). cond b (Some entry.1) (lookup test entries)) (sym no_it) ∙ found) are.1
]

pub each_inserted : (P : Situation × Lead → Type 0) (entries : List (Situation × Lead)) (from : Situation) (lead : Lead) → P (from, lead) → AreEach P entries → AreEach P (insert_entry tests.ghosts.eq entries from lead)
each_inserted P [] from lead new are = (new, tt)
each_inserted P (entry ∷ entries) from lead new are = elim (cases_Bool (tests.ghosts.eq from entry.0)) [
  | inl yes_it ↦ subst (λ (b : Bool). AreEach P (cond b ((entry.0, lead) ∷ entries) (entry ∷ insert_entry tests.ghosts.eq entries from lead))) (sym yes_it) (subst (λ (s : Situation). P (s, lead)) (same_situation from entry.0 yes_it) new, are.1)
  | inr no_it ↦ subst (λ (b : Bool). AreEach P (cond b ((entry.0, lead) ∷ entries) (entry ∷ insert_entry tests.ghosts.eq entries from lead))) (sym no_it) (are.0, each_inserted P entries from lead new are.1)
]

-- ---- moves go on

pub goes_not : (spec : RoomSpec) (moves : Moves) → AreMoves spec moves → GoOn spec moves moves
goes_not spec moves are = record { are = are; table = grows_not moves.table.keys; said = grows_not moves.said.keys }

pub goes_on : (spec : RoomSpec) (first old new : Moves) → GoOn spec first old → GoOn spec old new → GoOn spec first new
goes_on spec first old new one other = record {
  are = other.are;
  table = grows_on first.table.keys old.table.keys new.table.keys one.table other.table;
  said = grows_on first.said.keys old.said.keys new.said.keys one.said other.said;
}
