-- The places of the panels of open rooms by their names, as rooms are opened, go on and are closed.
use Rattle.std.proofs.Common.{◌≡◌, ℕ, zero, suc, Bool, true, false, cond, List, [], ◌∷◌, ◌++◌, length, get_or, set, Result, Ok, Err, Option, Some, None, is_none, is_some, inl, inr, refl, sym, ap, ap₂, ◌∙◌, subst, true≢false}
use Rattle.std.specs.Map.{lookup}
use Rattle.std.specs.Result.{IfErr, IfOk}
use Rattle.std.specs.Str.{bytes_eq}
use Rattle.std.proofs.lemmas.Bool.{and_parts, cases_Bool, false_from_ne_true}
use Rattle.std.proofs.lemmas.Slice.Eq.{bytes_eq-Decides}
use Rattle.ws_history.specs.declared.states.Report.{Report as ReportData}
use Rattle.simulator_lanes.specs.Panels.{Panel}
use Rattle.simulator_lanes.specs.declared.panel.Head.{Head}
use Rattle.run_columns.specs.declared.mark.Mark.{Mark}
use Rattle.view_draw.specs.Drawn.{AreIndexed, IsPlace, Places, changed, changed_at, finished, fresh, is_of, noted, with_marks, with_report}
use Rattle.view_draw.proofs.Changing.{set_changed}
use Rattle.view_draw.proofs.Places.{first_pushed, place_aside, place_gone, place_is, place_kept, place_pushed}

-- a place is put under a name, or taken away from it, and all others stay
abbrev pub Changes : Places → Places → List ℕ → Option ℕ → Type 0
Changes before after name place = (other : List ℕ) → lookup (bytes_eq other) after ≡ cond (bytes_eq name other) place (lookup (bytes_eq other) before)

pub same_name : (a b : List ℕ) → bytes_eq a b ≡ true → a ≡ b
same_name a b is = (bytes_eq-Decides a b).0 is

-- ---- opened

pub opened : (before after : Places) (panels : List Panel) (head : Head) → AreIndexed before panels → lookup (bytes_eq head.spec.name) before ≡ None → Changes before after head.spec.name (Some (length panels)) → AreIndexed after (panels ++ fresh head ∷ [])
opened before after panels head are free changes other = elim (cases_Bool (bytes_eq head.spec.name other)) [
  | inl is ↦
      let here : lookup (bytes_eq other) after ≡ Some (length panels) = changes other ∙ ap (λ (b : Bool). cond b (Some (length panels)) (lookup (bytes_eq other) before)) is in
      let none : IsPlace None (is_of other) panels = subst (λ (p : Option ℕ). IsPlace p (is_of other) panels) (ap (λ (n : List ℕ). lookup (bytes_eq n) before) (sym (same_name head.spec.name other is)) ∙ free) (are other) in
      subst (λ (p : Option ℕ). IsPlace p (is_of other) (panels ++ fresh head ∷ [])) (sym here) (first_pushed (is_of other) panels (fresh head) is none)
  | inr differs ↦
      let there : lookup (bytes_eq other) after ≡ lookup (bytes_eq other) before = changes other ∙ ap (λ (b : Bool). cond b (Some (length panels)) (lookup (bytes_eq other) before)) differs in
      subst (λ (p : Option ℕ). IsPlace p (is_of other) (panels ++ fresh head ∷ [])) (sym there) (place_pushed (is_of other) panels (fresh head) (lookup (bytes_eq other) before) differs (are other))
]

-- ---- gone on

abbrev pub more_marks : List Mark → Panel → Panel
more_marks marks panel = record panel { marks = panel.marks ++ marks }

pub going_on : (places : Places) (panels : List Panel) (marks : List Mark) (place : ℕ) → AreIndexed places panels → AreIndexed places (changed_at (more_marks marks) place panels)
going_on places panels marks place are other = place_kept (is_of other) (more_marks marks) (λ panel. refl) panels place (lookup (bytes_eq other) places) (are other)

with_marks_if : (name : List ℕ) (marks : List Mark) (panel : Panel) (b : Bool) → is_of name panel ≡ b → with_marks name marks panel ≡ cond b (more_marks marks panel) panel
with_marks_if name marks panel true is = rw is refl
with_marks_if name marks panel false is = rw is refl

pub noted_nowhere : (name : List ℕ) (marks : List Mark) (panels : List Panel) → IsPlace None (is_of name) panels → noted name marks panels ≡ panels
noted_nowhere name marks [] is = refl
noted_nowhere name marks (panel ∷ panels) is = ap₂ (λ (p : Panel) (ps : List Panel). p ∷ ps) (with_marks_if name marks panel false is.0) (noted_nowhere name marks panels is.1)

pub noted_there : (name : List ℕ) (marks : List Mark) (panels : List Panel) (place : ℕ) → IsPlace (Some place) (is_of name) panels → noted name marks panels ≡ changed_at (more_marks marks) place panels
noted_there name marks [] place is = absurd is
noted_there name marks (panel ∷ panels) zero is = ap₂ (λ (p : Panel) (ps : List Panel). p ∷ ps) (with_marks_if name marks panel true is.0) (noted_nowhere name marks panels is.1)
noted_there name marks (panel ∷ panels) (suc place) is = ap₂ (λ (p : Panel) (ps : List Panel). p ∷ ps) (with_marks_if name marks panel false is.0) (noted_there name marks panels place is.1)

-- ---- closed

pub apart : (name other : List ℕ) → bytes_eq name other ≡ false → (panel : Panel) → is_of name panel ≡ true → is_of other panel ≡ false
apart name other differs panel is = false_from_ne_true (is_of other panel) (λ of_other.
    let own = same_name panel.head.spec.name name (and_parts (is_none panel.report) (bytes_eq panel.head.spec.name name) is).1 in
    let others = same_name panel.head.spec.name other (and_parts (is_none panel.report) (bytes_eq panel.head.spec.name other) of_other).1 in
    true≢false (sym ((bytes_eq-Decides name other).1 (sym own ∙ others)) ∙ differs))

pub closed : (before after : Places) (panels : List Panel) (name : List ℕ) (report : ReportData) (place : ℕ) → AreIndexed before panels → IsPlace (Some place) (is_of name) panels → Changes before after name None
    → AreIndexed after (changed_at (with_report report) place panels)
closed before after panels name report place are here changes other =
    elim (cases_Bool (bytes_eq name other)) [
      | inl is ↦
          let gone : lookup (bytes_eq other) after ≡ None = changes other ∙ ap (λ (b : Bool). cond b None (lookup (bytes_eq other) before)) is in
          let own : IsPlace (Some place) (is_of other) panels = subst (λ (n : List ℕ). IsPlace (Some place) (is_of n) panels) (same_name name other is) here in
          subst (λ (p : Option ℕ). IsPlace p (is_of other) (changed_at (with_report report) place panels)) (sym gone) (place_gone (is_of other) (with_report report) (λ panel. refl) panels place own)
      | inr differs ↦
          let still : lookup (bytes_eq other) after ≡ lookup (bytes_eq other) before = changes other ∙ ap (λ (b : Bool). cond b None (lookup (bytes_eq other) before)) differs in
          subst (λ (p : Option ℕ). IsPlace p (is_of other) (changed_at (with_report report) place panels)) (sym still)
          (place_aside (is_of other) (is_of name) (with_report report) (λ panel. refl) (apart name other differs) panels place (lookup (bytes_eq other) before) here (are other))
    ]

pub finished_there : (name : List ℕ) (report : ReportData) (panels : List Panel) (place : Option ℕ) → IsPlace place (is_of name) panels → finished name report panels ≡ changed (with_report report) place panels
finished_there name report panels place is = ap (λ (p : Option ℕ). changed (with_report report) p panels) (place_is (is_of name) panels place is)

-- ---- as the code does it

-- a panel that was to note more marks, and did so unless an allocation failed
pub still_indexed : {A E : Type 0} (r : Result A E) (places : Places) (panels : List Panel) (marks : List Mark) (place : ℕ) (old new : Panel) → AreIndexed places panels → old ≡ get_or panels place old
    → IfOk r (λ value. new ≡ more_marks marks old) → IfErr r (λ error. new ≡ old) → AreIndexed places (set panels place new)
still_indexed (Ok value) places panels marks place old new are there noted same =
    subst (AreIndexed places) (sym (ap (set panels place) noted ∙ set_changed (more_marks marks) panels place old there)) (going_on places panels marks place are)
still_indexed (Err error) places panels marks place old new are there noted same =
    subst (AreIndexed places) (sym (ap (set panels place) same ∙ set_changed (λ panel. panel) panels place old there))
    (λ other. place_kept (is_of other) (λ panel. panel) (λ panel. refl) panels place (lookup (bytes_eq other) places) (are other))

pub none_of : (place : Option ℕ) → false ≡ is_some place → place ≡ None
none_of None is = refl
none_of (Some place) is = absurd cc
