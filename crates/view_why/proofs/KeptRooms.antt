-- What is said of the decisions of rooms, one after the other.
use Rattle.std.proofs.Common.{◌≡◌, ◌∙◌, ℕ, ◌+◌, Bool, true, false, ◌&&◌, List, [], ◌∷◌, ◌++◌, map, refl, sym, ap, ap₂, arith}
use Rattle.std.specs.Prelude.{Result, Ok, Err, OnOk, codes}
use Rattle.std.specs.List.{AllByRecursion, concat, range_with_len}
use Rattle.std.proofs.lemmas.List.{append-nil, append_assoc}
use Rattle.std.proofs.lemmas.List.Elements.{recursion_from_All}
use Rattle.std.proofs.lemmas.List.Folds.{concat-append}
use Rattle.std.proofs.lemmas.List.FromFn.{map-range_with_len_more}
use Rattle.protocol_lang.specs.Trees.{Tree}
use Rattle.room_spec.specs.Rooms.{RoomSpec}
use Rattle.transcript.specs.Grammar.{event_line}
use Rattle.transcript.specs.declared.event.Event.{Event}
use Rattle.history_checker.specs.Verdicts.{FedEvent, fed_to}
use Rattle.fault_text.specs.Lines.{indented, indented_all}
use Rattle.view_why.specs.Keeping.{AddsDecisions, AreDecisionsTexts, IsDecisionsText, disallowed_in, disallowed_line, moment_words}
use Rattle.view_why.specs.Reported.{AreReported, IsReportedOwn, ReportedRoom, specs_of}
use Rattle.view_why.specs.Why.{reported_of}
use Rattle.view_why.specs.declared.reported.Disallowed.{Disallowed}
use Rattle.view_why.proofs.Explaining.{reported_is}
use Rattle.view_why.proofs.Reasoning.{pieces}

-- ---- rooms

and_right : (b : Bool) → b ≡ (b && true)
and_right true = refl
and_right false = refl

and_assoc : (a b c : Bool) → ((a && b) && c) ≡ (a && (b && c))
and_assoc true b c = refl
and_assoc false b c = refl

texts_more : (json : Bool) (lines : List Tree) (rooms : List ReportedRoom) (kept : Bool) (texts : List (List ℕ)) (reported : ReportedRoom) (one : Bool) (text : List ℕ) → AreDecisionsTexts json lines rooms kept texts → IsDecisionsText json lines reported one text
    → AreDecisionsTexts json lines (rooms ++ reported ∷ []) (kept && one) (texts ++ text ∷ [])
texts_more json lines [] kept [] reported one text are is = (one, true, is, refl, ap (λ (b : Bool). b && one) are ∙ and_right one)
texts_more json lines (other ∷ rooms) kept (first ∷ texts) reported one text are is =
    (are.0, are.1 && one, are.2, texts_more json lines rooms are.1 texts reported one text are.3 is, ap (λ (b : Bool). b && one) are.4 ∙ and_assoc are.0 are.1 one)
texts_more json lines [] kept (first ∷ texts) reported one text are is = absurd are
texts_more json lines (other ∷ rooms) kept [] reported one text are is = absurd are

pub no_texts : (json : Bool) (lines : List Tree) (before : List ℕ) → AddsDecisions json lines [] true before before
no_texts json lines before = record { texts = []; each_room = refl; after_is = sym (append-nil before) }

pub one_text_more : (json : Bool) (lines : List Tree) (done : List ReportedRoom) (reported : ReportedRoom) (kept one : Bool) (before so_far after : List ℕ) → AddsDecisions json lines done kept before so_far
    → (text : List ℕ) × IsDecisionsText json lines reported one text × (after ≡ so_far ++ text) → AddsDecisions json lines (done ++ reported ∷ []) (kept && one) before after
one_text_more json lines done reported kept one before so_far after adds said =
    let text = said.0 in
    record {
      texts = adds.texts ++ text ∷ [];
      each_room = texts_more json lines done kept adds.texts reported one text adds.each_room said.1;
      after_is =
          said.2 ∙ ap (λ (t : List ℕ). t ++ text) adds.after_is ∙ append_assoc before (concat adds.texts) text
          ∙ ap (λ (t : List ℕ). before ++ (concat adds.texts ++ t)) (sym (append-nil text))
          ∙ ap (λ (t : List ℕ). before ++ t) (sym (concat-append adds.texts (text ∷ [])));
    }

own_by : (fed : List FedEvent) (rooms : List ReportedRoom) → AllByRecursion (IsReportedOwn fed) rooms → rooms ≡ map (λ (room : RoomSpec). reported_of room fed) (specs_of rooms)
own_by fed [] each = refl
own_by fed (reported ∷ rooms) each = ap₂ (λ (one : ReportedRoom) (all : List ReportedRoom). one ∷ all) (reported_is reported (fed_to reported.spec.name fed) each.0) (own_by fed rooms each.1)

-- rooms by what a transcript says of each
pub own_rooms : (rooms : List ReportedRoom) (fed : List FedEvent) → AreReported rooms fed → rooms ≡ map (λ (room : RoomSpec). reported_of room fed) (specs_of rooms)
own_rooms rooms fed reported = own_by fed rooms (recursion_from_All (IsReportedOwn fed) rooms reported)

-- ---- texts

texts_to : (text : ℕ → List ℕ) (i : ℕ) → concat (map text (range_with_len 0 (i + 1))) ≡ concat (map text (range_with_len 0 i)) ++ text i
texts_to text i =
    ap concat (map-range_with_len_more text 0 i i (omega arith)) ∙ concat-append (map text (range_with_len 0 i)) (text i ∷ []) ∙ ap (λ t. concat (map text (range_with_len 0 i)) ++ t) (append-nil (text i))

-- one text more after those of the first numbers
pub number_more : (text : ℕ → List ℕ) (start before after one : List ℕ) (i : ℕ) → before ≡ start ++ concat (map text (range_with_len 0 i)) → after ≡ before ++ one → one ≡ text i
    → after ≡ start ++ concat (map text (range_with_len 0 (i + 1)))
number_more text start before after one i so_far more is =
    more ∙ ap (λ t. before ++ t) is ∙ ap (λ b. b ++ text i) so_far ∙ append_assoc start (concat (map text (range_with_len 0 i))) (text i) ∙ ap (λ t. start ++ t) (sym (texts_to text i))

-- the line that breaks the task, and what was decided then
pub lines_put : {T E : Type 0} (result : Result T E) (start name : List ℕ) (event : Event) (one : Disallowed) (a b c d last : List ℕ) → a ≡ start ++ disallowed_line name one.line → b ≡ a ++ indented (event_line name event) → c ≡ b ++ codes "    " → d ≡ c ++ moment_words one.moment
    → OnOk result (last ≡ d ++ codes "\n") → OnOk result (last ≡ start ++ disallowed_in false name event one)
lines_put (Err fault) start name event one a b c d last a_is b_is c_is d_is last_is = tt
lines_put (Ok done) start name event one a b c d last a_is b_is c_is d_is last_is =
    last_is ∙ ap (λ t. t ++ codes "\n") (d_is ∙ ap (λ t. t ++ moment_words one.moment) (c_is ∙ ap (λ t. t ++ codes "    ") b_is)) ∙ pieces a (event_line name event) (moment_words one.moment)
    ∙ ap (λ t. t ++ indented_all (event_line name event ∷ moment_words one.moment ∷ [])) a_is ∙ append_assoc start (disallowed_line name one.line) (indented_all (event_line name event ∷ moment_words one.moment ∷ []))
