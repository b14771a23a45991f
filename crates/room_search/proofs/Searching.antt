-- A search goes on, node by node.
use Rattle.std.proofs.Common.{◌≡◌, ℕ, zero, suc, ◌+◌, ◌<◌, Bool, true, false, ltb, List, [], ◌∷◌, ◌++◌, length, get_or, Some, refl, sym, ap, ◌∙◌, subst, arith, inl, inr}
use Rattle.std.specs.Prelude.{Result, Ok, Err, OnOk, slice_get}
use Rattle.std.specs.Global.{Vec}
use Rattle.std.specs.List.{Contains}
use Rattle.std.proofs.lemmas.Bool.{cases_eq, cases_lt, ltb-true, true≢false}
use Rattle.std.proofs.lemmas.List.{get_or_append_left, get_or_push, length_push}
use Rattle.std.proofs.lemmas.List.Elements.{Contains-append_left}
use Rattle.std.proofs.lemmas.Option.{get_or_from_slice_get, same_Some, slice_get-get_or, slice_get_within}
use Rattle.room_spec.specs.Rooms.{RoomSpec}
use Rattle.transcript.proofs.CallerLemmas.{slice_get-append, slice_get-push}
use Rattle.simulator.specs.declared.knowledge.Knowledge.{Knowledge}
use Rattle.room_search.specs.declared.local.Local.{Local}
use Rattle.simulator.specs.Knowing.{knowledge_of}
use Rattle.room_core.specs.Rooms.{Configuration, crashed_at, mind_at}
use Rattle.room_search.specs.declared.explored.Explored.{Explored}
use Rattle.room_search.specs.declared.stepping.Next.{Next}
use Rattle.room_search.specs.declared.stepping.Next.TheVariants.{Nothing, To}
use Rattle.room_search.specs.declared.stepping.Stepped.{Stepped}
use Rattle.room_search.specs.Nodes.{AreAlike, AreNodes, AreNumbers, AreSetsAfter, Grows, HaveRoom, IsAfter, IsBelow, IsIn, IsNode, IsNumberOf, Leads, LeadsAt, LeadsInside, MayBe, MayHave, Node, set_of}
use Rattle.room_search.specs.Saying.{DoSay, IsOwn}
use Rattle.room_search.specs.declared.moves.Lead.{Lead}
use Rattle.room_search.specs.declared.moves.Moves.{Moves}
use Rattle.room_search.specs.declared.moves.Situation.{Situation}
use Rattle.room_search.specs.Moving.{AreMoves, GoOn, IsLead, IsLeadOf, IsSaidAt}
use Rattle.room_search.specs.Searches.{GoesFurther, IsMade, IsSearched, StaysLost}
use Rattle.room_search.specs.Steps.{AreWords, HasStep, IsNext, IsStepOf, known_after, local_of, words_after}
use Rattle.room_search.proofs.Growing.{there_before, there_grown}
use Rattle.room_search.proofs.Moving.{goes_not, goes_on}
use Rattle.room_search.proofs.Sets.{at_index, grows_not, grows_on, grows_same, node_grown, numbers_grown}

-- ---- tables that have grown

may_grown : (old new : List Local) (node : Node) (i : ℕ) (local : Local) → Grows old new → MayBe old node i local → MayBe new node i local
may_grown old new node i local grown may = record { number = may.number; there = may.there; is = there_grown old new may.number local grown may.is }

may_before : (spec : RoomSpec) (old new : List Local) (node : Node) (i : ℕ) (local : Local) → IsNode spec old node → i < spec.simulators → Grows old new → MayBe new node i local → MayBe old node i local
may_before spec old new node i local is below grown may = record {
  number = may.number;
  there = may.there;
  is = there_before old new may.number local grown (is.numbers i below may.number may.there) may.is;
}

has_grown : (spec : RoomSpec) (old new : List Local) (node : Node) (i : ℕ) (known : Knowledge) (words : List ℕ) → Grows old new → MayHave spec old node i known words → MayHave spec new node i known words
has_grown spec old new node i known words grown has = record { local = has.local; may = may_grown old new node i has.local grown has.may; known_is = has.known_is; own = has.own; is_own = has.is_own }

pub in_grown : (old new : List Local) (node : Node) (room : Configuration) → Grows old new → IsIn old node room → IsIn new node room
in_grown old new node room grown is = record { says = is.says; each = λ i below. has_grown room.spec old new node i (knowledge_of (mind_at room i)) room.words grown (is.each i below) }

pub nodes_grown : (spec : RoomSpec) (old new : List Local) (nodes : List Node) → Grows old new → AreNodes spec old nodes → AreNodes spec new nodes
nodes_grown spec old new nodes grown are index node there = node_grown spec old new node grown (are index node there)

pub nodes_push : (spec : RoomSpec) (table : List Local) (nodes : List Node) (to : Node) → AreNodes spec table nodes → IsNode spec table to → AreNodes spec table (nodes ++ to ∷ [])
nodes_push spec table nodes to are is index node there = elim (cases_lt index (length nodes)) [
  | inl below ↦ are index node (sym (slice_get-append nodes (to ∷ []) index below) ∙ there)
  | inr past ↦
      let inside = slice_get_within (nodes ++ to ∷ []) index node there in
      let long = length_push nodes to in
      let at : length nodes ≡ index = omega (arith, past, inside, long) in
      subst (IsNode spec table) (same_Some to node (sym (slice_get-push nodes to) ∙ ap (slice_get (nodes ++ to ∷ [])) at ∙ there)) is
]

pub node_there : (nodes : List Node) (index : ℕ) (node : Node) → slice_get nodes index ≡ Some node → Contains nodes node
node_there nodes index node there = (index, slice_get_within nodes index node there, get_or_from_slice_get nodes index node node there)

pub nodes_kept : (old new : List Node) (index : ℕ) (node : Node) → Grows old new → slice_get old index ≡ Some node → slice_get new index ≡ Some node
nodes_kept old new index node grown there =
    ap (λ (l : List Node). slice_get l index) grown.1 ∙ slice_get-append old grown.0 index (slice_get_within old index node there) ∙ there

pub node_at_index : (nodes : List Node) (index : ℕ) → index < length nodes → (node : Node) × (slice_get nodes index ≡ Some node)
node_at_index [] index below = absurd (omega (arith, below))
node_at_index (node ∷ nodes) zero below = (node, refl)
node_at_index (node ∷ nodes) (suc index) below = node_at_index nodes index (omega (arith, below))

pub node_kept : (old new : List Node) (node : Node) → Grows old new → Contains old node → Contains new node
node_kept old new node grown there = subst (λ (l : List Node). Contains l node) (sym grown.1) (Contains-append_left old grown.0 node there)

pub room_grown : (old new : List Local) (nodes more : List Node) (room : Configuration) → Grows old new → Grows nodes more → HaveRoom old nodes room → HaveRoom new more room
room_grown old new nodes more room grown nodes_grow have = (have.0, node_kept nodes more have.0 nodes_grow have.1, in_grown old new have.0 room grown have.2)

-- ---- a step leads on, whatever is added

after_grown : (spec : RoomSpec) (old new : List Local) (node to : Node) (i : ℕ) (local : Local) → IsNode spec old node → Grows old new → IsAfter spec old node i local to → IsAfter spec new node i local to
after_grown spec old new node to i local is grown after = record {
  says = after.says;
  has = λ words are says own_says own. has_grown spec old new to i (known_after spec words local.known) (words_after spec words local.known) grown (after.has words are says own_says own);
  others = λ q other below apart may. may_grown old new to q other grown (after.others q other below apart (may_before spec old new node q other is below grown may));
  stays = after.stays;
}

leads_grown : (spec : RoomSpec) (old new : List Local) (nodes more : List Node) (lost later : Bool) (node : Node) (i : ℕ) (local : Local) → IsNode spec old node → Grows old new → Grows nodes more → StaysLost lost later → Leads spec old nodes lost node i local → Leads spec new more later node i local
leads_grown spec old new nodes more lost later node i local is grown nodes_grow stays leads has none =
    let to = leads has (stays none) in
    (to.0, node_kept nodes more to.0 nodes_grow to.1, after_grown spec old new node to.0 i local is grown to.2)

pub at_grown : (spec : RoomSpec) (old new : List Local) (nodes more : List Node) (lost later : Bool) (node : Node) (i place : ℕ) → i < spec.simulators → IsNode spec old node → Grows old new → Grows nodes more → StaysLost lost later → LeadsAt spec old nodes lost node i place → LeadsAt spec new more later node i place
at_grown spec old new nodes more lost later node i place below is grown nodes_grow stays leads number local at there =
    let among : Contains (set_of node i) number = (place, slice_get_within (set_of node i) place number at, get_or_from_slice_get (set_of node i) place number number at) in
    leads_grown spec old new nodes more lost later node i local is grown nodes_grow stays (leads number local at (there_before old new number local grown (is.numbers i below number among) there))

pub inside_grown : (spec : RoomSpec) (start : Configuration) (old new : List Local) (nodes more : List Node) (lost later : Bool) (node : Node) → IsNode spec old node → Grows old new → Grows nodes more → StaysLost lost later → LeadsInside spec start old nodes lost node → LeadsInside spec start new more later node
inside_grown spec start old new nodes more lost later node is grown nodes_grow stays leads i local below alive may =
    leads_grown spec old new nodes more lost later node i local is grown nodes_grow stays (leads i local below alive (may_before spec old new node i local is below grown may))

pub inside_from : (spec : RoomSpec) (start : Configuration) (table : List Local) (nodes : List Node) (lost : Bool) (node : Node) → ((i place : ℕ) → i < spec.simulators → crashed_at start i ≡ false → LeadsAt spec table nodes lost node i place) → LeadsInside spec start table nodes lost node
inside_from spec start table nodes lost node each i local below alive may =
    let there = may.there in
    each i there.0 below alive may.number local (slice_get-get_or (set_of node i) there.0 may.number there.1 ∙ ap Some there.2) may.is

-- ---- where one step leads

pub no_lead : (spec : RoomSpec) (table : List Local) (nodes : List Node) (lost : Bool) (node : Node) (i : ℕ) (local : Local) → (HasStep spec local.known → ⊥) → Leads spec table nodes lost node i local
no_lead spec table nodes lost node i local none has kept = absurd (none has)

pub lost_lead : (spec : RoomSpec) (table : List Local) (nodes : List Node) (lost : Bool) (node : Node) (i : ℕ) (local : Local) → lost ≡ true → Leads spec table nodes lost node i local
lost_lead spec table nodes lost node i local is has none = absurd (true≢false (sym is ∙ none))

-- a node that says what is said after the step, and has the local state after it, and the others
after_by : (spec : RoomSpec) (table : List Local) (node to : Node) (i number : ℕ) (local : Local) (stepped : Stepped) → IsStepOf spec node.said i local stepped → IsNumberOf table (local_of stepped) number → to.said ≡ stepped.said.shown.items → Contains (set_of to i) number
    → ((q : ℕ) (other : Local) → q < spec.simulators → (q ≡ i → ⊥) → MayBe table node q other → MayBe table to q other) → IsAfter spec table node i local to
after_by spec table node to i number local stepped step is says there others = record {
  says = λ words are said own. subst (λ (l : List ℕ). DoSay l (words_after spec words local.known)) (sym says) (step.on words are said own).said.shown;
  has = λ words are said own_said own.
      let on = step.on words are said own_said in
      record {
        local = is.one;
        may = record { number = number; there = there; is = is.is };
        known_is = is.alike.known ∙ on.known_is;
        own = subst (λ (l : List ℕ). DoSay l (words_after spec words local.known)) (sym is.alike.own) on.said.own;
        is_own = subst (IsOwn spec i) (sym is.alike.own) (step.own own);
      };
  others = others;
  stays = step.stays;
}

pub lead_stays : (spec : RoomSpec) (table : List Local) (nodes : List Node) (lost : Bool) (node : Node) (i number : ℕ) (local : Local) (stepped : Stepped) → Contains nodes node → IsStepOf spec node.said i local stepped → node.said ≡ stepped.said.shown.items → IsNumberOf table (local_of stepped) number → Contains (set_of node i) number → Leads spec table nodes lost node i local
lead_stays spec table nodes lost node i number local stepped there step says is inside has kept = (node, there, after_by spec table node node i number local stepped step is says inside (λ q other below apart may. may))

pub lead_made : (spec : RoomSpec) (table : List Local) (nodes : List Node) (lost : Bool) (node to above : Node) (i number : ℕ) (local : Local) (stepped : Stepped) (said : List ℕ) → Contains nodes above → IsBelow to above → IsStepOf spec node.said i local stepped → said ≡ stepped.said.shown.items → IsNumberOf table (local_of stepped) number → IsMade spec table node i said number to → Leads spec table nodes lost node i local
lead_made spec table nodes lost node to above i number local stepped said there below step said_is is made has kept = (
  above,
  there,
  after_by spec table node above i number local stepped step is (below.said ∙ made.says ∙ said_is) (below.sets i number made.own)
      (λ q other inside apart may. record { number = may.number; there = below.sets q may.number (made.others q inside apart may.number may.there); is = may.is }),
)

pub below_itself : (node : Node) → IsBelow node node
below_itself node = record { said = refl; sets = λ i number there. there }

-- ---- the sets of a node that is made

pub made_of : (spec : RoomSpec) (table : List Local) (node to : Node) (i number : ℕ) (said : List ℕ) (sets : List (List ℕ)) → i < spec.simulators → to.said ≡ said → to.sets ≡ sets → AreWords spec said → AreSetsAfter spec table node i number spec.simulators sets → IsMade spec table node i said number to
made_of spec table node to i number said sets below says sets_are are after = record {
  is = record {
    words = subst (AreWords spec) (sym says) are;
    width = ap (λ (l : List (List ℕ)). length l) sets_are ∙ after.width;
    numbers = λ q inside. subst (λ (l : List (List ℕ)). AreNumbers table (get_or l q [])) (sym sets_are) (after.numbers q inside);
  };
  says = says;
  own = subst (λ (l : List (List ℕ)). Contains (get_or l i []) number) (sym sets_are) (after.own below);
  others = λ q inside apart other among. subst (λ (l : List (List ℕ)). Contains (get_or l q []) other) (sym sets_are) (after.others q inside apart other among);
}

-- ---- the first room

-- the local state in which a simulator is in a room
pub record IsFirstLocal (room : Configuration) (i : ℕ) (local : Local) : Type 0 where
  pub known_is : local.known ≡ knowledge_of (mind_at room i)
  pub own : DoSay local.own.items room.words
  pub is_own : IsOwn room.spec i local.own.items

-- the sets of the first simulators in the node of a room
pub record AreFirstSets (room : Configuration) (table : List Local) (count : ℕ) (sets : List (List ℕ)) : Type 0 where
  pub width : length sets ≡ count
  pub numbers : (i : ℕ) → i < count → AreNumbers table (get_or sets i [])
  pub known : (i : ℕ) → i < count → (number : ℕ) × Contains (get_or sets i []) number × (local : Local) × (slice_get table number ≡ Some local) × IsFirstLocal room i local

pub first_none : (room : Configuration) (table : List Local) (sets : List (List ℕ)) → sets ≡ [] → AreFirstSets room table 0 sets
first_none room table sets none = record {
  width = ap (λ (l : List (List ℕ)). length l) none;
  numbers = λ i below. absurd (omega (arith, below));
  known = λ i below. absurd (omega (arith, below));
}

pub first_alike : (room : Configuration) (i : ℕ) (one local : Local) → AreAlike one local → IsFirstLocal room i local → IsFirstLocal room i one
first_alike room i one local alike is = record {
  known_is = alike.known ∙ is.known_is;
  own = subst (λ (l : List ℕ). DoSay l room.words) (sym alike.own) is.own;
  is_own = subst (IsOwn room.spec i) (sym alike.own) is.is_own;
}

pub first_more : (room : Configuration) (old new : List Local) (count : ℕ) (sets after : List (List ℕ)) (set : List ℕ) (number : ℕ) (local : Local) → after ≡ sets ++ set ∷ [] → Grows old new → AreNumbers new set → Contains set number → IsNumberOf new local number → IsFirstLocal room count local
    → AreFirstSets room old count sets → AreFirstSets room new (count + 1) after
first_more room old new count sets after set number local is grown numbers there number_is first before =
    let last : get_or (sets ++ set ∷ []) count [] ≡ set = get_or_push sets set [] count before.width in
    let earlier : (i : ℕ) → i < count → get_or (sets ++ set ∷ []) i [] ≡ get_or sets i [] = λ i below. get_or_append_left sets (set ∷ []) [] i (let width = before.width in omega (arith, below, width)) in
    subst (AreFirstSets room new (count + 1)) (sym is) (record {
      width = let long = length_push sets set in let width = before.width in omega (arith, long, width);
      numbers = λ i below. elim (cases_eq i count) [
        | inl same ↦ subst (λ (k : ℕ). AreNumbers new (get_or (sets ++ set ∷ []) k [])) (sym same) (subst (AreNumbers new) (sym last) numbers)
        | inr apart ↦ let less : i < count = omega (arith, below, apart) in subst (AreNumbers new) (sym (earlier i less)) (numbers_grown old new (get_or sets i []) grown (before.numbers i less))
      ];
      known = λ i below. elim (cases_eq i count) [
        | inl same ↦ (
          number,
          subst (λ (k : ℕ). Contains (get_or (sets ++ set ∷ []) k []) number) (sym same) (subst (λ (l : List ℕ). Contains l number) (sym last) there),
          number_is.one,
          number_is.is,
          subst (λ (k : ℕ). IsFirstLocal room k number_is.one) (sym same) (first_alike room count number_is.one local number_is.alike first),
        )
        | inr apart ↦
            let less : i < count = omega (arith, below, apart) in
            let had = before.known i less in
            (had.0, subst (λ (l : List ℕ). Contains l had.0) (sym (earlier i less)) had.1, had.2, there_grown old new had.0 had.2 grown had.3, had.4)
      ];
    })

pub first_is : (spec : RoomSpec) (room : Configuration) (table : List Local) (node : Node) (sets : List (List ℕ)) → AreWords spec node.said → node.sets ≡ sets → AreFirstSets room table spec.simulators sets → IsNode spec table node
first_is spec room table node sets are sets_are first = record {
  words = are;
  width = ap (λ (l : List (List ℕ)). length l) sets_are ∙ first.width;
  numbers = λ i below. subst (λ (l : List (List ℕ)). AreNumbers table (get_or l i [])) (sym sets_are) (first.numbers i below);
}

pub first_in : (room : Configuration) (table : List Local) (node : Node) (sets : List (List ℕ)) → DoSay node.said room.words → node.sets ≡ sets → AreFirstSets room table room.spec.simulators sets → IsIn table node room
first_in room table node sets says sets_are first = record {
  says = says;
  each = λ i below.
      let had = first.known i below in
      let local = had.2 in
      let is : IsFirstLocal room i local = had.4 in
      record {
        local = local;
        may = record { number = had.0; there = subst (λ (l : List (List ℕ)). Contains (get_or l i []) had.0) (sym sets_are) had.1; is = had.3 };
        known_is = is.known_is;
        own = is.own;
        is_own = is.is_own;
      };
}

pub no_nodes : (spec : RoomSpec) (table : List Local) (nodes : List Node) → nodes ≡ [] → AreNodes spec table nodes
no_nodes spec table nodes none index node there =
    let inside = slice_get_within nodes index node there in
    let long = ap (λ (l : List Node). length l) none in
    absurd (omega (arith, inside, long))

pub node_before : (old new : List Node) (index : ℕ) (node : Node) → Grows old new → index < length old → slice_get new index ≡ Some node → slice_get old index ≡ Some node
node_before old new index node grown below there = sym (slice_get-append old grown.0 index below) ∙ ap (λ (l : List Node). slice_get l index) (sym grown.1) ∙ there

-- the node that is lent
pub node_lent : (spec : RoomSpec) (table : List Local) (nodes lent : List Node) (index : ℕ) (node : Node) → AreNodes spec table nodes → lent ≡ nodes → true ≡ ltb index (length lent) → node ≡ get_or lent index node → slice_get nodes index ≡ Some node
node_lent spec table nodes lent index node are same below is = ap (λ (l : List Node). slice_get l index) (sym same) ∙ at_index lent index node (ltb-true index (length lent) (sym below)) is

-- ---- a search goes further

pub further_not : (spec : RoomSpec) (search : Explored) → IsSearched spec search → GoesFurther spec search search
further_not spec search is = record { searched = is; moves = goes_not spec search.moves is.moves; nodes = grows_not search.nodes.items; lost = λ none. none }

pub further_on : (spec : RoomSpec) (first old new : Explored) → GoesFurther spec first old → GoesFurther spec old new → GoesFurther spec first new
further_on spec first old new one other = record {
  searched = other.searched;
  moves = goes_on spec first.moves old.moves new.moves one.moves other.moves;
  nodes = grows_on first.nodes.items old.nodes.items new.nodes.items one.nodes other.nodes;
  lost = λ none. one.lost (other.lost none);
}

-- no node more
pub further_by : (spec : RoomSpec) (old new : Explored) → GoOn spec old.moves new.moves → new.nodes.items ≡ old.nodes.items → StaysLost old.lost new.lost → IsSearched spec old → GoesFurther spec old new
further_by spec old new on nodes lost is = record {
  searched = record {
    moves = on.are;
    nodes = subst (AreNodes spec new.moves.table.keys) (sym nodes) (nodes_grown spec old.moves.table.keys new.moves.table.keys old.nodes.items on.table is.nodes);
  };
  moves = on;
  nodes = grows_same old.nodes.items new.nodes.items nodes;
  lost = lost;
}

-- one node more
pub further_with : (spec : RoomSpec) (old new : Explored) (to : Node) → new.moves ≡ old.moves → new.nodes.items ≡ old.nodes.items ++ to ∷ [] → new.lost ≡ old.lost → IsNode spec old.moves.table.keys to → IsSearched spec old → GoesFurther spec old new
further_with spec old new to moves nodes lost is_node is = record {
  searched = record {
    moves = subst (AreMoves spec) (sym moves) is.moves;
    nodes = subst (λ (m : Moves). AreNodes spec m.table.keys new.nodes.items) (sym moves)
        (subst (AreNodes spec old.moves.table.keys) (sym nodes) (nodes_push spec old.moves.table.keys old.nodes.items to is.nodes is_node));
  };
  moves = subst (GoOn spec old.moves) (sym moves) (goes_not spec old.moves is.moves);
  nodes = (to ∷ [], nodes);
  lost = λ none. sym lost ∙ none;
}

-- ---- what comes of the next step

pub next_to : (spec : RoomSpec) (said : List ℕ) (i : ℕ) (local : Local) (next : Next) (stepped : Stepped) → next ≡ To stepped → IsNext spec said i local next → IsStepOf spec said i local stepped
next_to spec said i local next stepped is comes = subst (IsNext spec said i local) is comes

pub next_none : (spec : RoomSpec) (said : List ℕ) (i : ℕ) (local : Local) (next : Next) → next ≡ Nothing → IsNext spec said i local next → HasStep spec local.known → ⊥
next_none spec said i local next is comes = subst (IsNext spec said i local) is comes

pub on_ok : {A E P Q : Type 0} (result : Result A E) → (P → Q) → OnOk result P → OnOk result Q
on_ok (Ok x) f holds = f holds
on_ok (Err e) f holds = tt

-- where the step from a situation of a node leads
pub lead_here : (spec : RoomSpec) (all : List (Vec ℕ)) (table : List Local) (nodes : List Node) (cursor : ℕ) (from : Situation) (lead : Lead) (given node : Node) (local : Local) → IsLead spec all table from lead → slice_get nodes cursor ≡ Some given → IsSaidAt all from.said given.said → slice_get nodes cursor ≡ Some node → slice_get table from.number ≡ Some local
    → IsLeadOf spec all table node.said from.simulator local lead
lead_here spec all table nodes cursor from lead given node local is given_is said node_is there =
    is node.said local (subst (λ (n : Node). IsSaidAt all from.said n.said) (same_Some given node (sym given_is ∙ node_is)) said) there
