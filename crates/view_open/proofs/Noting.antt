-- What is kept of the rooms of a script, and what a log of it says.
use Rattle.std.proofs.Common.{◌≡◌, ◌∙◌, ℕ, Bool, true, false, cond, List, [], ◌∷◌, ◌++◌, Option, Some, fold, inl, inr, refl, sym, ap, subst}
use Rattle.std.specs.Global.{Vec}
use Rattle.std.specs.Map.{KeepsOthers, lookup}
use Rattle.std.specs.Str.{bytes_eq}
use Rattle.std.proofs.lemmas.Bool.{cases_Bool}
use Rattle.std.proofs.lemmas.Slice.Eq.{bytes_eq-Decides}
use Rattle.view_open.specs.Logs.{Noted, acts_after, acts_of, known_after, known_before, known_if, known_of}
use Rattle.view_open.specs.Pasts.{AreOf, KeepOthers, PastEntries, acts_kept, known_kept, past_at}
use Rattle.view_open.specs.declared.log.Past.{Past}

-- ---- names as keys

pub key_test : (name : List ℕ) (one other : Vec ℕ) → bytes_eq name one.items ≡ true → bytes_eq name other.items ≡ bytes_eq one.items other.items
key_test name one other is = ap (λ (bytes : List ℕ). bytes_eq bytes other.items) ((bytes_eq-Decides name one.items).0 is)

pub apart : (name other : List ℕ) → bytes_eq other name ≡ false → (key : Vec ℕ) → bytes_eq name key.items ≡ true → bytes_eq other key.items ≡ false
apart name other differs key is = subst (λ (bytes : List ℕ). bytes_eq other bytes ≡ false) ((bytes_eq-Decides name key.items).0 is) differs

-- what a map keeps of the keys that another test finds
pub kept_beside : (same : Vec ℕ → Vec ℕ → Bool) (test : Vec ℕ → Bool) (old new : PastEntries) → KeepsOthers same test old new → (query : Vec ℕ → Bool) → ((one other : Vec ℕ) → query one ≡ true → query other ≡ same one other) → ((key : Vec ℕ) → test key ≡ true → query key ≡ false)
    → lookup query new ≡ lookup query old
unfolding KeepsOthers
kept_beside same test old new keeps query is_key differs = keeps query is_key differs

-- ---- a note more

module _ {A : Type 0} (read : Option Past → A) (with_note : A → Noted → A) (none : A) where
  abbrev said_from : List ℕ → A → List Noted → A
  said_from name so_far log = fold (λ (a : A) (one : Noted). cond (bytes_eq name one.name) (with_note a one) a) so_far log

  abbrev said : List ℕ → List Noted → A
  said name log = said_from name none log

  said_more : (name : List ℕ) (so_far : A) (log : List Noted) (note : Noted) → said_from name so_far (log ++ note ∷ []) ≡ cond (bytes_eq name note.name) (with_note (said_from name so_far log) note) (said_from name so_far log)
  said_more name so_far [] note = refl
  said_more name so_far (one ∷ log) note = said_more name (cond (bytes_eq name one.name) (with_note so_far one) so_far) log note

  noted_by : (old new : PastEntries) (log : List Noted) (note : Noted) → ((name : List ℕ) → read (past_at old name) ≡ said name log) → read (past_at new note.name) ≡ with_note (read (past_at old note.name)) note → KeepOthers old note.name new
      → (name : List ℕ) → read (past_at new name) ≡ said name (log ++ note ∷ [])
  noted_by old new log note are own others name = elim (cases_Bool (bytes_eq name note.name)) [
    | inl is ↦
        let same = (bytes_eq-Decides name note.name).0 is in
        subst (λ (n : List ℕ). read (past_at new n) ≡ with_note (read (past_at old n)) note) (sym same) own
        ∙ ap (λ (a : A). with_note a note) (are name) ∙ sym (said_more name none log note ∙ ap (λ (b : Bool). cond b (with_note (said name log) note) (said name log)) is)
    | inr differs ↦ ap read (others name differs) ∙ are name ∙ sym (said_more name none log note ∙ ap (λ (b : Bool). cond b (with_note (said name log) note) (said name log)) differs)
  ]

-- what was done to the room of the note's name, and what is known then, is kept, and what is kept of the others stays
pub noted : (old new : PastEntries) (log : List Noted) (note : Noted) (past : Past) → AreOf old log → past_at new note.name ≡ Some past → past.acts.items ≡ acts_after (acts_kept (past_at old note.name)) note.what
    → past.known.items ≡ known_if (known_before (known_kept (past_at old note.name)) note.what) note.known → KeepOthers old note.name new → AreOf new (log ++ note ∷ [])
noted old new log note past are there acts known others = record {
  acts = noted_by acts_kept (λ all one. acts_after all one.what) [] old new log note are.acts (ap acts_kept there ∙ acts) others;
  known = noted_by known_kept known_after [] old new log note are.known (ap known_kept there ∙ known) others;
}

pub others_stay : (old middle new : PastEntries) (name : List ℕ) → KeepOthers old name middle → KeepOthers middle name new → KeepOthers old name new
others_stay old middle new name first then = λ other differs. then other differs ∙ first other differs
