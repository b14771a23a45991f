-- What is said stays so while words are stored.
use Rattle.std.proofs.Common.{◌≡◌, ℕ, ◌+◌, ◌-◌, ◌<◌, List, [], ◌∷◌, ◌++◌, length, get_or, set, sym, ap, ◌∙◌, subst, arith, inl, inr, ◌⊎◌}
use Rattle.std.proofs.lemmas.Bool.{cases_eq, cases_lt}
use Rattle.std.proofs.lemmas.List.{get_or-set_same, get_or-set_other, get_or_append_left, get_or_past, get_or_push, length-set, length_push}
use Rattle.std.proofs.lemmas.Option.{get_or_from_slice_get, slice_get-get_or}
use Rattle.room_spec.specs.Rooms.{RoomSpec}
use Rattle.room_spec.specs.Sizes.{sizes_in}
use Rattle.view_table.proofs.CallerLemmas.{distinct}
use Rattle.room_search.specs.declared.shown.Said.{Said}
use Rattle.room_search.specs.Saying.{DoSay, IsAtPlaceOf, IsOwn, IsWordOf, writer_of}
use Rattle.room_search.specs.Steps.{AreSaid, DoBothSay, SaysNoMore}

-- ---- one word

-- what a list has at a place within it, whatever it would have past its end
pub at_place : (list : List ℕ) (at other : ℕ) → at < length list → get_or list at other ≡ get_or list at 0
at_place list at other inside = sym (get_or_from_slice_get list at (get_or list at other) 0 (slice_get-get_or list at other inside))

pub word_said : (said words : List ℕ) (at number other : ℕ) → DoSay said words → at < length said → 0 < number → number ≡ get_or said at other → number - 1 ≡ get_or words at 0
word_said said words at number other says inside some is =
    let here = at_place said at other inside in
    let one : get_or said at 0 ≡ number - 1 + 1 = omega (arith, some, is, here) in
    sym (says at (number - 1) one)

-- a word is stored, and something is said of it
pub says_stored : (said words : List ℕ) (index number word : ℕ) → index < length said → index < length words → (number ≡ 0) ⊎ (number ≡ word + 1) → DoSay said words → DoSay (set said index number) (set words index word)
says_stored said words index number word inside within about says at value is = elim (cases_eq at index) [
  | inl same ↦
      let read : get_or (set said index number) at 0 ≡ number = ap (λ (k : ℕ). get_or (set said index number) k 0) same ∙ get_or-set_same said index number 0 inside in
      let stored : get_or (set words index word) at 0 ≡ word = ap (λ (k : ℕ). get_or (set words index word) k 0) same ∙ get_or-set_same words index word 0 within in
      elim about [
        | inl none ↦ absurd (omega (arith, read, none, is))
        | inr one ↦ let equal : word ≡ value = omega (arith, read, one, is) in stored ∙ equal
      ]
  | inr apart ↦
      let read : get_or (set said index number) at 0 ≡ get_or said at 0 = get_or-set_other said index at number 0 apart in
      get_or-set_other words index at word 0 apart ∙ says at value (sym read ∙ is)
]

-- something that is so is said of a word, or nothing
pub says_put : (said words : List ℕ) (index number : ℕ) → index < length said → ((value : ℕ) → number ≡ value + 1 → get_or words index 0 ≡ value) → DoSay said words → DoSay (set said index number) words
says_put said words index number inside about says at value is = elim (cases_eq at index) [
  | inl same ↦
      let read : get_or (set said index number) at 0 ≡ number = ap (λ (k : ℕ). get_or (set said index number) k 0) same ∙ get_or-set_same said index number 0 inside in
      ap (λ (k : ℕ). get_or words k 0) same ∙ about value (sym read ∙ is)
  | inr apart ↦ says at value (sym (get_or-set_other said index at number 0 apart) ∙ is)
]

-- ---- one number more

pub push_cases : (list : List ℕ) (x at : ℕ) → (get_or (list ++ x ∷ []) at 0 ≡ get_or list at 0) ⊎ ((at ≡ length list) × (get_or (list ++ x ∷ []) at 0 ≡ x))
push_cases list x at = elim (cases_lt at (length list)) [
  | inl below ↦ inl (get_or_append_left list (x ∷ []) 0 at below)
  | inr past ↦ elim (cases_eq at (length list)) [
    | inl same ↦ inr (same, get_or_push list x 0 at (sym same))
    | inr apart ↦
        let long = length_push list x in
        inl (get_or_past (list ++ x ∷ []) at 0 (omega (arith, past, apart, long)) ∙ sym (get_or_past list at 0 past))
  ]
]

pub says_push : (said words : List ℕ) (number : ℕ) → (number ≡ 0) ⊎ (number ≡ get_or words (length said) 0 + 1) → DoSay said words → DoSay (said ++ number ∷ []) words
says_push said words number about says at value is = elim (push_cases said number at) [
  | inl same ↦ says at value (sym same ∙ is)
  | inr last ↦
      let read = last.1 in
      elim about [
        | inl none ↦ absurd (omega (arith, read, none, is))
        | inr one ↦ let here : get_or words (length said) 0 ≡ value = omega (arith, read, one, is) in ap (λ (k : ℕ). get_or words k 0) last.0 ∙ here
      ]
]

pub own_push : (spec : RoomSpec) (i : ℕ) (said : List ℕ) (number : ℕ) → ((number ≡ 0 → ⊥) → IsWordOf spec i (length said)) → IsOwn spec i said → IsOwn spec i (said ++ number ∷ [])
own_push spec i said number own are at some = elim (push_cases said number at) [
  | inl same ↦ are at (λ none. some (same ∙ none))
  | inr last ↦ subst (IsWordOf spec i) (sym last.0) (own (λ none. some (last.1 ∙ none)))
]

-- ---- the words of others

apart_by : (spec : RoomSpec) (i q writer index at : ℕ) → IsAtPlaceOf spec writer index → (writer ≡ 0) ⊎ (writer ≡ i + 1) → (q ≡ i → ⊥) → IsWordOf spec q at → at ≡ index → ⊥
apart_by spec i q writer index at here own apart there same =
    let one : there.place ≡ here.place = distinct (sizes_in spec) there.place here.place there.is.in_range here.is.in_range (there.is.index ∙ same ∙ sym here.is.index) in
    let writers : q + 1 ≡ writer = there.writer_is ∙ ap writer_of one ∙ sym here.writer_is in
    elim own [
      | inl none ↦ omega (arith, writers, none)
      | inr mine ↦ apart (omega (arith, writers, mine))
    ]

pub others_stay : (spec : RoomSpec) (i writer index : ℕ) → IsAtPlaceOf spec writer index → (writer ≡ 0) ⊎ (writer ≡ i + 1) → (q at other : ℕ) (words : List ℕ) → (q ≡ i → ⊥) → IsWordOf spec q at → get_or (set words index other) at 0 ≡ get_or words at 0
others_stay spec i writer index here own q at other words apart there = get_or-set_other words index at other 0 (apart_by spec i q writer index at here own apart there)

-- ---- both lists

module _ (spec : RoomSpec) (old new : Said) (index shown own : ℕ) (shown_is : new.shown.items ≡ set old.shown.items index shown) (own_is : new.own.items ≡ set old.own.items index own) where
  pub are_put : AreSaid spec old → AreSaid spec new
  are_put are = record {
    shown = ap (λ (l : List ℕ). length l) shown_is ∙ length-set old.shown.items index shown ∙ are.shown;
    own = ap (λ (l : List ℕ). length l) own_is ∙ length-set old.own.items index own ∙ are.own;
  }

  pub stored_both : (words : List ℕ) (word : ℕ) → index < length old.shown.items → index < length old.own.items → index < length words → (shown ≡ 0) ⊎ (shown ≡ word + 1) → (own ≡ 0) ⊎ (own ≡ word + 1) → DoBothSay old words → DoBothSay new (set words index word)
  stored_both words word inside within below about own_about says = record {
    shown = subst (λ (l : List ℕ). DoSay l (set words index word)) (sym shown_is) (says_stored old.shown.items words index shown word inside below about says.shown);
    own = subst (λ (l : List ℕ). DoSay l (set words index word)) (sym own_is) (says_stored old.own.items words index own word within below own_about says.own);
  }

  own_put : own ≡ 0 → (i : ℕ) → index < length old.own.items → IsOwn spec i old.own.items → IsOwn spec i new.own.items
  own_put none i within are at some = elim (cases_eq at index) [
    | inl same ↦
        let read : get_or (set old.own.items index own) at 0 ≡ own = ap (λ (k : ℕ). get_or (set old.own.items index own) k 0) same ∙ get_or-set_same old.own.items index own 0 within in
        absurd (some (ap (λ (l : List ℕ). get_or l at 0) own_is ∙ read ∙ none))
    | inr apart ↦
        let read : get_or new.own.items at 0 ≡ get_or old.own.items at 0 = ap (λ (l : List ℕ). get_or l at 0) own_is ∙ get_or-set_other old.own.items index at own 0 apart in
        are at (λ zero_it. some (read ∙ zero_it))
  ]

  pub no_more : index < length old.shown.items → index < length old.own.items → own ≡ 0 → ((words : List ℕ) (value : ℕ) → DoBothSay old words → shown ≡ value + 1 → get_or words index 0 ≡ value) → SaysNoMore spec old new
  no_more inside within none about = record {
    are = are_put;
    same = λ words says. record {
      shown = subst (λ (l : List ℕ). DoSay l words) (sym shown_is) (says_put old.shown.items words index shown inside (λ value is. about words value says is) says.shown);
      own = subst (λ (l : List ℕ). DoSay l words) (sym own_is) (says_put old.own.items words index own within (λ value is. absurd (omega (arith, none, is))) says.own);
    };
    own = λ i are. own_put none i within are;
  }

-- ---- one after the other

pub no_more_on : (spec : RoomSpec) (first old new : Said) → SaysNoMore spec first old → SaysNoMore spec old new → SaysNoMore spec first new
no_more_on spec first old new one other = record {
  are = λ are. other.are (one.are are);
  same = λ words says. other.same words (one.same words says);
  own = λ i are. other.own i (one.own i are);
}

pub no_more_not : (spec : RoomSpec) (said : Said) → SaysNoMore spec said said
no_more_not spec said = record { are = λ are. are; same = λ words says. says; own = λ i are. are }
