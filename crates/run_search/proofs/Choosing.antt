-- Choices of nodes, and what they lead to.
use Rattle.std.proofs.Common.{◌≡◌, ℕ, zero, suc, ◌+◌, ◌-◌, ◌<◌, ◌≤◌, Bool, true, cond, eqb, ◌&&◌, List, [], ◌∷◌, ◌++◌, length, get_or, take, Some, refl, sym, ap, ◌∙◌, subst, arith, inl, inr, ◌⊎◌}
use Rattle.std.specs.Prelude.{slice_get}
use Rattle.std.specs.List.{Contains, count_by, list_any}
use Rattle.std.specs.Cmp.Lexicographic.{pointwise}
use Rattle.std.specs.Global.{Vec}
use Rattle.std.proofs.lemmas.Bool.{and_parts, cases_Bool, cases_eq, eqb-true}
use Rattle.std.proofs.lemmas.List.{append-nil, append_assoc, length-append, length_push, map_push, map-append, take_more}
use Rattle.std.proofs.lemmas.List.Elements.{Contains-push_cases}
use Rattle.std.proofs.Math.Seq.{get_or-append_seam, take-append_seam}
use Rattle.std.proofs.lemmas.List.Folds.{Any-from_list_any}
use Rattle.std.proofs.lemmas.List.Sums.{sum_by-append, sum_by-cons, sum_by_push}
use Rattle.indexmap.specs.IndexSet.{insert_key}
use Rattle.room_spec.specs.Rooms.{RoomSpec, processes}
use Rattle.run_search.specs.contracts.choice.ChoicePartialEq.TheImpl.{ghosts}
use Rattle.run_search.specs.contracts.ended.EndedPartialEq.TheImpl.{ghosts as ended_eq}
use Rattle.run_search.specs.declared.choice.Choice.{Choice}
use Rattle.run_search.specs.declared.ended.Ended.{Ended}
use Rattle.run_search.specs.declared.ended.Ended.TheVariants.{Decided}
use Rattle.run_search.specs.declared.local_state.LocalState.{LocalState}
use Rattle.run_search.specs.declared.tally.Witness.{Witness}
use Rattle.run_search.specs.Choices.{AreChoices, AreSeen, AreWithin, Completes, Each, HasChoice, IsChoice, IsEndAt, MayEnd}
use Rattle.run_search.specs.Nodes.{IsPick, Node, set_of}
use Rattle.run_search.specs.Outcomes.{AreNoted, Ends, IsNoted, ended, ends_in, is_stopped}
use Rattle.run_search.specs.States.{blank, events_in, events_of}
use Rattle.run_search.proofs.Ending.{same_ended}
use Rattle.run_search.proofs.Same.{same_list}
use Rattle.run_search.proofs.Picking.{length-ends, no_pick, pick_push}

-- the choices with those of one process more
pub choices_more : (crashes p : ℕ) (node : Node) (old new : List Choice) (set : List LocalState) → set ≡ set_of node p → AreChoices crashes node p old
    → ((choice : Choice) → Contains new choice → Contains old choice ⊎ ((choice.process ≡ p) × IsChoice set choice)) → ((local : LocalState) → Contains set local → MayEnd crashes (ended local.due) → HasChoice new p (ended local.due) (events_of local))
    → ((q : ℕ) (end : Ended) (events : ℕ) → HasChoice old q end events → HasChoice new q end events) → AreChoices crashes node (p + 1) new
choices_more crashes p node old new set is before each all kept = record {
  each = λ choice there. elim (each choice there) [
    | inl old_one ↦ before.each choice old_one
    | inr own ↦ subst (λ (q : ℕ). IsChoice (set_of node q) choice) (sym own.0) (subst (λ (l : List LocalState). IsChoice l choice) is own.1)
  ];
  all = λ q local below there may. elim (cases_eq q p) [
    | inl same ↦
        subst (λ (r : ℕ). HasChoice new r (ended local.due) (events_of local)) (sym same) (all local (subst (λ (l : List LocalState). Contains l local) (sym is) (subst (λ (r : ℕ). Contains (set_of node r) local) same there)) may)
    | inr other ↦ kept q (ended local.due) (events_of local) (before.all q local (omega (arith, below, other)) there may)
  ];
}

-- how many stop with one more
pub stops_push : (ends : List Ended) (end : Ended) → count_by is_stopped (ends ++ end ∷ []) ≡ count_by is_stopped ends + cond (is_stopped end) 1 0
stops_push ends end = sum_by_push (λ (e : Ended). cond (is_stopped e) 1 0) ends end

pub ends_with : (state : List LocalState) (local : LocalState) → ends_in (state ++ local ∷ []) ≡ ends_in state ++ ended local.due ∷ []
ends_with state local = map_push (λ (l : LocalState). ended l.due) state local

-- the fewest stops of the first processes, and of one more
pub stops_more : (node : Node) (p sum fewest : ℕ) → ((state : List LocalState) → p ≤ length state → ((q : ℕ) → q < p → Contains (set_of node q) (get_or state q blank)) → sum ≤ count_by is_stopped (ends_in (take p state)))
    → ((local : LocalState) → Contains (set_of node p) local → fewest ≤ cond (is_stopped (ended local.due)) 1 0)
    → (state : List LocalState) → p + 1 ≤ length state → ((q : ℕ) → q < p + 1 → Contains (set_of node q) (get_or state q blank)) → sum + fewest ≤ count_by is_stopped (ends_in (take (p + 1) state))
stops_more node p sum fewest before last state long each =
    let less = before state (omega (arith, long)) (λ q below. each q (omega (arith, below))) in
    let one = last (get_or state p blank) (each p (omega arith)) in
    let more : count_by is_stopped (ends_in (take (p + 1) state)) ≡ count_by is_stopped (ends_in (take p state)) + cond (is_stopped (ended (get_or state p blank).due)) 1 0 =
    ap (λ (s : List LocalState). count_by is_stopped (ends_in s)) (take_more state p blank (omega (arith, long))) ∙ ap (count_by is_stopped) (ends_with (take p state) (get_or state p blank)) ∙ stops_push (ends_in (take p state)) (ended (get_or state p blank).due) in
    omega (arith, less, one, more)

abbrev pub no_choice : Choice
no_choice = record { end = Decided 0; events = 0; process = 0 }

-- ---- what choices lead to

-- no fewer stop in the end
completes_stops : (choices : List Choice) (rest : ℕ) (ends : List Ended) (events : ℕ) (last : List Ended) (sum : ℕ) → Completes choices rest ends events last sum → count_by is_stopped ends ≤ count_by is_stopped last
completes_stops choices zero ends events last sum complete = let same = ap (count_by is_stopped) complete.0 in omega (arith, same)
completes_stops choices (suc rest) ends events last sum complete =
    let less = completes_stops choices rest (ends ++ complete.0.end ∷ []) (events + complete.0.events) last sum complete.3 in
    let more = stops_push ends complete.0.end in
    omega (arith, less, more)

pub each_done : (P : List Ended → ℕ → Type 0) (count : ℕ) (choices : List Choice) (ends : List Ended) (events left : ℕ) → length ends ≡ count → P ends events → Each P count choices ends events left
each_done P count choices ends events left long here zero last sum rest_is complete few = subst (P last) complete.1 (subst (λ (e : List Ended). P e events) complete.0 here)
each_done P count choices ends events left long here (suc rest) last sum rest_is complete few = absurd (omega (arith, long, rest_is))

pub each_here : (P : List Ended → ℕ → Type 0) (count : ℕ) (choices : List Choice) (ends : List Ended) (events left : ℕ) → length ends ≡ count → Each P count choices ends events left → P ends events
each_here P count choices ends events left long each = each 0 ends events (omega (arith, long)) (refl, refl) (omega arith)

-- by one choice
pub each_on : (P : List Ended → ℕ → Type 0) (count : ℕ) (choices : List Choice) (ends : List Ended) (events left : ℕ) (choice : Choice) → Each P count choices ends events left → Contains choices choice → choice.process ≡ length ends → cond (is_stopped choice.end) 1 0 ≤ left
    → Each P count choices (ends ++ choice.end ∷ []) (events + choice.events) (left - cond (is_stopped choice.end) 1 0)
each_on P count choices ends events left choice each there process_is few rest last sum long complete less =
    let more = stops_push ends choice.end in
    let wide = length_push ends choice.end in
    each (suc rest) last sum (omega (arith, long, wide)) (choice, there, process_is, complete) (omega (arith, less, more, few))

-- by all of them
pub each_all : (P : List Ended → ℕ → Type 0) (count : ℕ) (choices : List Choice) (ends : List Ended) (events left : ℕ) → (length ends ≡ count → ⊥)
    → ((choice : Choice) → Contains choices choice → choice.process ≡ length ends → cond (is_stopped choice.end) 1 0 ≤ left → Each P count choices (ends ++ choice.end ∷ []) (events + choice.events) (left - cond (is_stopped choice.end) 1 0))
    → Each P count choices ends events left
each_all P count choices ends events left short each zero last sum long complete few = absurd (short (omega (arith, long)))
each_all P count choices ends events left short each (suc rest) last sum long complete few =
    let choice = complete.0 in
    let more = stops_push ends choice.end in
    let wide = length_push ends choice.end in
    let less = completes_stops choices rest (ends ++ choice.end ∷ []) (events + choice.events) last sum complete.3 in
    each choice complete.1 complete.2 (omega (arith, less, more, few)) rest last sum (omega (arith, long, wide)) complete.3 (omega (arith, less, more, few))

-- the same of equal choices, from the beginning
pub each_same : (P : List Ended → ℕ → Type 0) (count processes : ℕ) (choices all : List Choice) (ends : List Ended) (left : ℕ) → count ≡ processes → choices ≡ all → ends ≡ [] → Each P count choices ends 0 left → Each P processes all [] 0 left
each_same P count processes choices all ends left counts same none each =
    subst (λ n. Each P n all [] 0 left) counts (subst (λ (c : List Choice). Each P count c [] 0 left) same (subst (λ (e : List Ended). Each P count choices e 0 left) none each))

pub each_back : (P : List Ended → ℕ → Type 0) (count processes : ℕ) (choices all : List Choice) (ends : List Ended) (left : ℕ) → count ≡ processes → choices ≡ all → ends ≡ [] → Each P processes all [] 0 left → Each P count choices ends 0 left
each_back P count processes choices all ends left counts same none each =
    subst (λ (e : List Ended). Each P count choices e 0 left) (sym none) (subst (λ (c : List Choice). Each P count c [] 0 left) (sym same) (subst (λ n. Each P n all [] 0 left) (sym counts) each))

-- ---- nodes with these choices

ends_sum : (prefix : List LocalState) (local : LocalState) (rest : List LocalState) → count_by is_stopped (ends_in (prefix ++ local ∷ rest)) ≡ count_by is_stopped (ends_in prefix) + (cond (is_stopped (ended local.due)) 1 0 + count_by is_stopped (ends_in rest))
ends_sum prefix local rest =
    ap (count_by is_stopped) (map-append (λ (l : LocalState). ended l.due) prefix (local ∷ rest))
    ∙ sum_by-append (λ (e : Ended). cond (is_stopped e) 1 0) (ends_in prefix) (ended local.due ∷ ends_in rest)
    ∙ ap (λ n. count_by is_stopped (ends_in prefix) + n) (sum_by-cons (λ (e : Ended). cond (is_stopped e) 1 0) (ended local.due) (ends_in rest))

may_stop : (crashes : ℕ) (prefix : List LocalState) (local : LocalState) (rest : List LocalState) → count_by is_stopped (ends_in (prefix ++ local ∷ rest)) ≤ crashes → MayEnd crashes (ended local.due)
may_stop crashes prefix local rest few stops =
    let sum = ends_sum prefix local rest in
    let one : cond (is_stopped (ended local.due)) 1 0 ≡ 1 = ap {B = ℕ} (λ (b : Bool). cond b 1 0) stops in
    omega (arith, few, sum, one)

-- a state that the node covers is led to with no more events
state_led : (crashes : ℕ) (node : Node) (count : ℕ) (choices : List Choice) → AreChoices crashes node count choices → (rest prefix : List LocalState) (events : ℕ) → IsPick node count (prefix ++ rest) → count_by is_stopped (ends_in (prefix ++ rest)) ≤ crashes
    → (sum : ℕ) × Completes choices (length rest) (ends_in prefix) events (ends_in (prefix ++ rest)) sum × (sum ≤ events + events_in rest)
state_led crashes node count choices are [] prefix events pick few = (events, (ap ends_in (sym (append-nil prefix)), refl), omega arith)
state_led crashes node count choices are (x ∷ xs) prefix events pick few =
    let p = length prefix in
    let wide = pick.width in
    let long = ap length (sym (append_assoc prefix (x ∷ []) xs)) in
    let here : get_or (prefix ++ x ∷ xs) p blank ≡ x = get_or-append_seam prefix x xs blank in
    let below : p < count = omega (arith, wide, length-append prefix (x ∷ xs)) in
    let has = are.all p x below (subst (Contains (set_of node p)) here (pick.each p below)) (may_stop crashes prefix x xs few) in
    let choice = has.choice in
    let parts : prefix ++ x ∷ [] ++ xs ≡ prefix ++ x ∷ xs = append_assoc prefix (x ∷ []) xs in
    let next = state_led crashes node count choices are xs (prefix ++ x ∷ []) (events + choice.events) (subst (IsPick node count) (sym parts) pick) (subst (λ (s : List LocalState). count_by is_stopped (ends_in s) ≤ crashes) (sym parts) few) in
    let ends_are : ends_in (prefix ++ x ∷ []) ≡ ends_in prefix ++ choice.end ∷ [] = ends_with prefix x ∙ ap (λ (e : Ended). ends_in prefix ++ e ∷ []) (sym has.end_is) in
    let less = next.2 in
    let fewer = has.few in
    let sum = sum_by-cons events_of x xs in (
      next.0,
      (
        choice,
        has.among,
        has.process_is ∙ sym (length-ends prefix),
        subst (λ (s : List LocalState). Completes choices (length xs) (ends_in prefix ++ choice.end ∷ []) (events + choice.events) (ends_in s) next.0) parts
            (subst (λ (e : List Ended). Completes choices (length xs) e (events + choice.events) (ends_in (prefix ++ x ∷ [] ++ xs)) next.0) ends_are next.1),
      ),
      omega (arith, less, fewer, sum),
    )

pub all_noted : (spec : RoomSpec) (crashes : ℕ) (node : Node) (choices : List Choice) (outcomes : List Ends) (witnesses : List Witness) → AreChoices crashes node (processes spec) choices → Each (IsNoted outcomes witnesses) (processes spec) choices [] 0 crashes → AreNoted spec node crashes outcomes witnesses
all_noted spec crashes node choices outcomes witnesses are each state covers few =
    let led = state_led crashes node (processes spec) choices are state [] 0 covers few in
    let less = led.2 in
    let noted = each (length state) (ends_in state) led.0 (let wide = covers.width in omega (arith, wide)) led.1 (omega (arith, few)) in
    let before = noted.few in
    record { index = noted.index; witness = noted.witness; there = noted.there; witness_is = noted.witness_is; few = omega (arith, before, less) }

-- what the choices lead to is a state that the node covers
led_state : (crashes : ℕ) (node : Node) (count : ℕ) (choices : List Choice) → AreChoices crashes node count choices → (rest : ℕ) (prefix : List LocalState) (ends : List Ended) (events : ℕ) (last : List Ended) (sum : ℕ) → IsPick node (length prefix) prefix → ends ≡ ends_in prefix → events ≡ events_in prefix
    → Completes choices rest ends events last sum → (state : List LocalState) × IsPick node (length prefix + rest) state × (last ≡ ends_in state) × (sum ≡ events_in state)
led_state crashes node count choices are zero prefix ends events last sum pick ends_are events_are complete =
    (prefix, subst (λ n. IsPick node n prefix) (omega arith) pick, sym complete.0 ∙ ends_are, sym complete.1 ∙ events_are)
led_state crashes node count choices are (suc rest) prefix ends events last sum pick ends_are events_are complete =
    let choice = complete.0 in
    let one = are.each choice complete.1 in
    let process_is : choice.process ≡ length prefix = complete.2 ∙ ap (λ (e : List Ended). length e) ends_are ∙ length-ends prefix in
    let there : Contains (set_of node (length prefix)) one.local = subst (λ p. Contains (set_of node p) one.local) process_is one.there in
    let more = prefix ++ one.local ∷ [] in
    let wide = length_push prefix one.local in
    let next = led_state crashes node count choices are rest more (ends ++ choice.end ∷ []) (events + choice.events) last sum
    (subst (λ n. IsPick node n more) (sym wide) (pick_push node (length prefix) prefix one.local pick there))
    (ap (λ (e : List Ended). e ++ choice.end ∷ []) ends_are ∙ ap (λ (e : Ended). ends_in prefix ++ e ∷ []) (sym one.end_is) ∙ sym (ends_with prefix one.local))
    (let total = sum_by_push events_of prefix one.local in let mine = one.events_are in omega (arith, total, mine, events_are)) complete.3 in
    (next.0, subst (λ n. IsPick node n next.0) (omega (arith, wide)) next.1, next.2, next.3)

pub all_ends : (spec : RoomSpec) (nodes : List Node) (crashes index : ℕ) (node : Node) (choices : List Choice) → AreChoices crashes node (processes spec) choices → slice_get nodes index ≡ Some node → Each (IsEndAt spec nodes crashes index) (processes spec) choices [] 0 crashes
all_ends spec nodes crashes index node choices are there rest last sum long complete few =
    let led = led_state crashes node (processes spec) choices are rest [] [] 0 last sum (no_pick node) refl refl complete in
    record { node = node; there = there; state = led.0; covers = subst (λ n. IsPick node n led.0) long led.1; ends_are = led.2; few = omega (arith, few); events = led.3 }

-- all but the last
pub take_pushed : (ends : List Ended) (end : Ended) → take (length (ends ++ end ∷ []) - 1) (ends ++ end ∷ []) ≡ ends
take_pushed ends end = let wide = length_push ends end in ap (λ n. take n (ends ++ end ∷ [])) (omega (arith, wide)) ∙ take-append_seam ends (end ∷ [])

-- ---- nodes with the same choices

same_choice : (a b : Choice) → ghosts.eq a b ≡ true → a ≡ b
same_choice a b h =
    let first = and_parts (ended_eq.eq a.end b.end) (eqb a.events b.events && eqb a.process b.process) h in
    let rest = and_parts (eqb a.events b.events) (eqb a.process b.process) first.1 in
    let end_is = same_ended a.end b.end first.0 in
    let events_are = eqb-true a.events b.events rest.0 in
    let process_is = eqb-true a.process b.process rest.1 in
    λ i. record { end = end_is i; events = events_are i; process = process_is i }

same_choices : (a b : List Choice) → pointwise ghosts.eq a b ≡ true → a ≡ b
same_choices a b h = same_list ghosts.eq same_choice a b h

abbrev pub are_choices : List Choice → Vec Choice → Bool
are_choices choices one = pointwise ghosts.eq choices one.items

seen_there : (choices : List Choice) (seen : List (Vec Choice)) → list_any (are_choices choices) seen ≡ true → (one : Vec Choice) × Contains seen one × (one.items ≡ choices)
seen_there choices seen found = let any = Any-from_list_any (are_choices choices) seen found in (any.1, (any.0, any.2, any.3), sym (same_choices choices any.1.items any.4))

-- with fewer events choices lead to the same ends
completes_within : (choices others : List Choice) → AreWithin choices others → (rest : ℕ) (ends : List Ended) (events fewer : ℕ) (last : List Ended) (sum : ℕ) → fewer ≤ events → Completes choices rest ends events last sum → (less : ℕ) × Completes others rest ends fewer last less × (less ≤ sum)
completes_within choices others within zero ends events fewer last sum few complete = let same = complete.1 in (fewer, (complete.0, refl), omega (arith, few, same))
completes_within choices others within (suc rest) ends events fewer last sum few complete =
    let choice = complete.0 in
    let other = within choice complete.1 in
    let less = other.few in
    let next = completes_within choices others within rest (ends ++ choice.end ∷ []) (events + choice.events) (fewer + other.choice.events) last sum (omega (arith, few, less)) complete.3 in
    (next.0, (other.choice, other.among, other.process_is ∙ complete.2, subst (λ (e : Ended). Completes others rest (ends ++ e ∷ []) (fewer + other.choice.events) last next.0) (sym other.end_is) next.1), next.2)

pub each_seen : (count crashes : ℕ) (choices : List Choice) (seen : List (Vec Choice)) (outcomes : List Ends) (witnesses : List Witness) → (one : Vec Choice) × Contains seen one × AreWithin choices one.items → AreSeen count crashes seen outcomes witnesses → Each (IsNoted outcomes witnesses) count choices [] 0 crashes
each_seen count crashes choices seen outcomes witnesses found are rest last sum long complete few =
    let less = completes_within choices found.0.items found.2 rest [] 0 0 last sum (omega arith) complete in
    let noted = are found.0 found.1 rest last less.0 long less.1 few in
    let before = noted.few in
    let fewer = less.2 in
    record { index = noted.index; witness = noted.witness; there = noted.there; witness_is = noted.witness_is; few = omega (arith, before, fewer) }

-- the same choices
pub within_same : (choices : List Choice) (seen : List (Vec Choice)) → list_any (are_choices choices) seen ≡ true → (one : Vec Choice) × Contains seen one × AreWithin choices one.items
within_same choices seen found =
    let same = seen_there choices seen found in
    (same.0, same.1, subst (AreWithin choices) (sym same.2) (λ choice there. record { choice = choice; among = there; process_is = refl; end_is = refl; few = omega arith }))

abbrev pub same_key : Vec Choice → Vec Choice → Bool
same_key one other = pointwise ghosts.eq one.items other.items

inserted_cases : (eq : Vec Choice → Vec Choice → Bool) (old : List (Vec Choice)) (choices one : Vec Choice) → Contains (insert_key eq old choices) one → Contains old one ⊎ (one ≡ choices)
inserted_cases eq old choices one there = elim (cases_Bool (list_any (eq choices) old)) [
  | inl known ↦ inl (subst (λ (l : List (Vec Choice)). Contains l one) (ap (λ (b : Bool). cond b old (old ++ choices ∷ [])) known) there)
  | inr fresh ↦ elim (Contains-push_cases old choices one (subst (λ (l : List (Vec Choice)). Contains l one) (ap (λ (b : Bool). cond b old (old ++ choices ∷ [])) fresh) there)) [ inl before ↦ inl before | inr same ↦ inr (sym same) ]
]

pub seen_more : (count crashes : ℕ) (eq : Vec Choice → Vec Choice → Bool) (old new : List (Vec Choice)) (choices : Vec Choice) (outcomes more : List Ends) (witnesses more_witnesses : List Witness) → new ≡ insert_key eq old choices → AreSeen count crashes old outcomes witnesses
    → ((ends : List Ended) (events : ℕ) → IsNoted outcomes witnesses ends events → IsNoted more more_witnesses ends events) → Each (IsNoted more more_witnesses) count choices.items [] 0 crashes → AreSeen count crashes new more more_witnesses
seen_more count crashes eq old new choices outcomes more witnesses more_witnesses new_is are grown last one there =
    elim (inserted_cases eq old choices one (subst (λ (l : List (Vec Choice)). Contains l one) new_is there)) [
      | inl before ↦ λ rest ends sum long complete few. grown ends sum (are one before rest ends sum long complete few)
      | inr same ↦ subst (λ (c : Vec Choice). Each (IsNoted more more_witnesses) count c.items [] 0 crashes) (sym same) last
    ]
