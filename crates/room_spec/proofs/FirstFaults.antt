-- The first line that can't follow those before it.
use Rattle.std.proofs.Common.{◌≡◌, ℕ, ◌+◌, ◌*◌, ◌≤◌, ◌⊎◌, true, zero, suc, List, [], ◌∷◌, ◌++◌, length, get_or, map, Option, Some, None, Result, Ok, Err, refl, sym, ap, ◌∙◌, subst, arith, inl, inr, false, Bool, replicate}
use Rattle.std.specs.Prelude.{codes, nat_le, ◌&&◌, IfErr}
use Rattle.std.specs.List.{list_all}
use Rattle.std.specs.Option.{option_and_then}
use Rattle.std.specs.Fmt.{decimal}
use Rattle.std.proofs.lemmas.List.{append_assoc, append-nil, length-append, length-map, map-append, length-replicate}
use Rattle.std.proofs.lemmas.Option.{same_Some}
use Rattle.protocol_lang.specs.Numbers.{number_of}
use Rattle.protocol_lang.specs.Reading.{reading}
use Rattle.protocol_lang.specs.FirstFaults as texts
use Rattle.protocol_lang.specs.declared.fault.ParseFault.{ParseFault}
use Rattle.protocol_lang.specs.declared.fault.ParseFault.TheVariants.{OutOfMemory}
use Rattle.protocol_lang.proofs.CallerLemmas.{first_fault}
use Rattle.room_spec.specs.Names.{is_name}
use Rattle.room_spec.specs.Rooms.{RoomSpec, AreFuses, IsTaskIn, bits_of, is_value, most_bits, has_own, AreOwn}
use Rattle.room_spec.specs.declared.version.Version.{Version}
use Rattle.room_spec.specs.declared.version.Version.TheVariants.{One, Two}
use Rattle.room_spec.specs.Texts.{first_line, later_lines, fields_of}
use Rattle.protocol_lang.specs.Results.{◌>>=◌}
use Rattle.room_spec.specs.Blocks.{value_after, version_of, named, inputs_of, are_inputs, in_range, agreed, task_of, task_words, line_behind_task, has_fuse, line_behind, said_next, room_in, block_in, are_values, IsHeadWithin, reduction_block_in, reduction_in, Head, before_end, reduction_of, up_to_values, body_len}
use Rattle.room_spec.specs.Grammar.{text_of, EndsAt, version_text, task_lines, crash_line, IsHead, BeginsWith, IsCrashOrProtocol, IsTaskLine, HasForm, HasCrashOf, IsOutOfPlace, IsBadProtocol, IsFirstFault, IsFirstFaultOf, lines_before_text, IsReductionFirstFault, IsNumberLine}
use Rattle.room_spec.specs.declared.fault.SpecFault.{SpecFault}
use Rattle.room_spec.specs.declared.fault.SpecFault.TheVariants.{Truncated, BadLine, BadProtocol, Simulators, Rounds, Turns, TooWide, CrashLine, Repeated, TaskLine, Processes}
use Rattle.room_spec.proofs.Lines.{are_lines}
use Rattle.room_spec.proofs.Ends.{block_nowhere, are_lines-before_end}
use Rattle.room_spec.proofs.Heads.{value_found, named_found, version_said, words_begin, task_said, task_again, task_begins, reduction_said}
use Rattle.room_spec.proofs.Fuses.{TellsFuse, fuses_few, fuses_pushed, no_fuses, tells_fuse, tells_protocol, crash_line_found}
use Rattle.room_spec.proofs.Readings.{from_text, from_fuses, from_task, from_turns, from_rounds, from_simulators, from_inputs, from_name, fuses_are_values, from_own, from_reduction_name, from_processes}
use Rattle.room_spec.proofs.Locality.{FaultAt, err_cases, by_line, number_judge, fitting_judge, regroup, regroup_fitting, regroup_fuses, regroup_seventh, seventh_by, seventh, seventh_told, never_task, on_seventh, protocol_fault, on_from, on_told, fault_at}
use Rattle.room_spec.proofs.Reductions.{head_within, some_own}
use Rattle.room_spec.proofs.Standing.{never_next, Stands, Starts, stands_for, HasLine, HasText, Has, IsFirstFrom, same_first, first_by_line, reader}
use Rattle.room_spec.proofs.LineFaults.{guard_err, made, head_made, starts_of, room_line, number_of_room, to_inputs, to_rounds, to_turns, version_refused, begun_value, name_refused, inputs_refused, inputs_said, number_stands, number_said, fitting_refused, fitting_said, FuseRefused, told_refused, crash_among, to_name, IsVersionOf, third_text, to_count, first_text, reduction_refused, front_is, fourth_text, least_made}

-- ---- by the form of a line after six others

-- after more than six lines none is one of a task
form_behind : (reduction : Bool) (a b c d e f : List ℕ) (behind : List (List ℕ)) (line : List ℕ) → 1 ≤ length behind → HasForm reduction (a ∷ b ∷ c ∷ d ∷ e ∷ f ∷ behind) line → IsCrashOrProtocol line
form_behind false a b c d e f [] line some form = absurd (omega (arith, some))
form_behind false a b c d e f (next ∷ more) line some form = form
form_behind true a b c d e f [] line some form = absurd (omega (arith, some))
form_behind true a b c d e f (next ∷ more) line some form = form

no_task_form : (version : Version) (bytes : List ℕ) → task_words version bytes ≡ None → version_text version ≡ codes "bgsim 2" → BeginsWith (codes "task ") bytes → ⊥
no_task_form One bytes none is begins = let digit : 49 ≡ 50 = ap (λ (line : List ℕ). get_or line 6 0) is in absurd (omega (arith, digit))
no_task_form Two bytes none is begins = begun_value (codes "task ") bytes none begins

form_seventh : (reduction : Bool) (version : Version) (b c d e f line : List ℕ) → IsVersionOf reduction version → task_words version line ≡ None → HasForm reduction (first_text reduction version ∷ b ∷ c ∷ d ∷ e ∷ f ∷ []) line → IsCrashOrProtocol line
form_seventh false version b c d e f line has none (inl task) = absurd (no_task_form version line none task.0 task.1)
form_seventh false version b c d e f line has none (inr other) = other
form_seventh true version b c d e f line has none (inl task) = absurd (begun_value (codes "task ") line (subst (λ (v : Version). task_words v line ≡ None) has none) task)
form_seventh true version b c d e f line has none (inr other) = other

version_by_own : (reduction : Bool) (own : List ℕ) (version : Version) (inputs : List ℕ) (m : ℕ) → AreOwn own version inputs m → has_own own ≡ reduction → IsVersionOf reduction version
version_by_own false own version inputs m are kind = tt
version_by_own true [] version inputs m are kind = absurd cc
version_by_own true (input ∷ inputs) version all m are kind = are.0

form_rounds : (reduction : Bool) (a b c d line : List ℕ) → HasForm reduction (a ∷ b ∷ c ∷ d ∷ []) line → (number : ℕ) × IsNumberLine (codes "rounds ") line number
form_rounds false a b c d line form = form
form_rounds true a b c d line form = form

form_turns : (reduction : Bool) (a b c d e line : List ℕ) → HasForm reduction (a ∷ b ∷ c ∷ d ∷ e ∷ []) line → (number : ℕ) × IsNumberLine (codes "turns ") line number
form_turns false a b c d e line form = form
form_turns true a b c d e line form = form

-- ---- the first six lines, and what is after them

record Six (reduction : Bool) : Type 0 where
  head : Head
  within : IsHeadWithin head
  kind : has_own head.own ≡ reduction
  rounds : ℕ
  turns : ℕ
  some_rounds : (1 ≤ rounds) × (rounds ≤ 15)
  some_turns : (1 ≤ turns) × (turns ≤ 65535)
  fits : head.simulators * length head.inputs * bits_of rounds ≤ most_bits head.version

module _ (reduction : Bool) where
  abbrev room_of : Six reduction → Option ℕ → List (ℕ × ℕ) → RoomSpec
  room_of six task fuses = made six.head six.rounds six.turns task fuses

  abbrev six_lines : Six reduction → List (List ℕ) → List (List ℕ)
  six_lines six more = first_text reduction six.head.version ∷ room_line six.head.name ∷ third_text reduction six.head.inputs six.head.own ∷ fourth_text reduction (length six.head.inputs) six.head.simulators ∷ number_of_room (codes "rounds ") six.rounds ∷ number_of_room (codes "turns ") six.turns ∷ more

  abbrev lines_with : Six reduction → Option ℕ → List (List ℕ) → List (List ℕ)
  lines_with six task more = six_lines six (task_lines task ++ more)

  abbrev lines_to : Six reduction → Option ℕ → List (ℕ × ℕ) → List (List ℕ)
  lines_to six task fuses = lines_with six task (map crash_line fuses)

  -- the task and the fuses are within their limits
  abbrev AreGood : Six reduction → Option ℕ → List (ℕ × ℕ) → Type 0
  AreGood six task fuses = AreFuses fuses six.head.simulators × (list_all (λ fuse. is_value fuse.1) fuses ≡ true) × IsTaskIn six.head.version task

  head_six : (six : Six reduction) (task : Option ℕ) (fuses : List (ℕ × ℕ)) → AreGood six task fuses → IsHead (room_of six task fuses)
  head_six six task fuses good = record {
    name = six.within.name;
    inputs = six.within.inputs;
    simulators = six.within.simulators;
    rounds = six.some_rounds;
    turns = six.some_turns;
    task = good.2;
    fuses = good.0;
    values = good.1;
    own = six.within.own;
  }

  parts_six : (six : Six reduction) (task : Option ℕ) (fuses : List (ℕ × ℕ)) → lines_before_text reduction (room_of six task fuses) ≡ lines_to six task fuses ++ codes "protocol" ∷ []
  parts_six six task fuses = front_is reduction (room_of six task fuses) ∙ ap (six_lines six) (sym (append_assoc (task_lines task) (map crash_line fuses) (codes "protocol" ∷ [])))

  starts_six : (six : Six reduction) (task : Option ℕ) (fuses : List (ℕ × ℕ)) → AreGood six task fuses → Starts reduction (lines_to six task fuses) (room_of six task fuses)
  starts_six six task fuses good = record {
    head = head_six six task fuses good;
    kind = six.kind;
    fits = λ five. six.fits;
    more = codes "protocol" ∷ [];
    parts = parts_six six task fuses;
    unfinished = omega arith;
  }

  abbrev after_six : Six reduction → Option ℕ → List (ℕ × ℕ) → List ℕ → Result RoomSpec SpecFault
  after_six six task fuses text = from_text six.head.version six.head.name six.head.inputs six.head.own six.head.simulators six.rounds six.turns task fuses text

  text_first : (six : Six reduction) (task : Option ℕ) (fuses : List (ℕ × ℕ)) → AreGood six task fuses → (lines : List (List ℕ)) (fault : SpecFault) → are_lines lines ≡ true → after_six six task fuses (text_of lines) ≡ Err fault → Has reduction (lines_before_text reduction (room_of six task fuses)) lines fault
  text_first six task fuses good lines fault all e =
      let is = protocol_fault (reading (text_of lines)) _ fault (λ protocol same. absurd cc) e in
      inr (
        is.0,
        is.2,
        record {
          room = room_of six task fuses;
          head = head_six six task fuses good;
          kind = six.kind;
          fits = six.fits;
          before = [];
          more = lines;
          parts = refl;
          whole = sym (append-nil (lines_before_text reduction (room_of six task fuses)));
          read = is.1;
        },
      )

  behind_task : (task : Option ℕ) → line_behind_task task ≡ 7 + length (task_lines task)
  behind_task None = refl
  behind_task (Some most) = refl

  number_behind : (six : Six reduction) (task : Option ℕ) (fuses : List (ℕ × ℕ)) → line_behind (line_behind_task task) fuses ≡ suc (length (lines_to six task fuses))
  number_behind six task fuses = omega (arith, behind_task task, length-append (task_lines task) (map crash_line fuses), length-map fuses crash_line)

  crash_of : (six : Six reduction) (task : Option ℕ) (fuses : List (ℕ × ℕ)) (simulator : ℕ) → has_fuse fuses simulator ≡ true → HasCrashOf (lines_to six task fuses) simulator
  crash_of six task fuses simulator has =
      let own = crash_among fuses simulator has in
      (lines_with six task own.0, own.1, own.2, ap (lines_with six task) own.3 ∙ ap (six_lines six) (sym (append_assoc (task_lines task) own.0 (crash_line (simulator, own.1) ∷ own.2))))

  -- a refused line that is no crash and not `protocol` has none of the forms
  abbrev HasNoForm : Six reduction → Option ℕ → List (ℕ × ℕ) → List ℕ → Type 0
  HasNoForm six task fuses bytes = (IsCrashOrProtocol bytes → ⊥) → HasForm reduction (lines_to six task fuses) bytes → ⊥

  fuses_refused : (six : Six reduction) (task : Option ℕ) (fuses : List (ℕ × ℕ)) (bytes : List ℕ) (fault : SpecFault) → AreGood six task fuses → HasNoForm six task fuses bytes → FuseRefused (line_behind_task task) six.head.simulators fuses bytes fault → Stands reduction fault (lines_to six task fuses) bytes
  fuses_refused six task fuses bytes fault good form (inl refused) =
      stands_for reduction (lines_to six task fuses) (room_of six task fuses) bytes (BadLine (line_behind (line_behind_task task) fuses)) fault (starts_six six task fuses good) refused.0 (ap Some (number_behind six task fuses)) (form refused.1)
  fuses_refused six task fuses bytes fault good form (inr (inl refused)) =
      stands_for reduction (lines_to six task fuses) (room_of six task fuses) bytes (CrashLine (line_behind (line_behind_task task) fuses)) fault (starts_six six task fuses good) refused.0 (ap Some (number_behind six task fuses)) (refused.1, refused.2)
  fuses_refused six task fuses bytes fault good form (inr (inr refused)) =
      stands_for reduction (lines_to six task fuses) (room_of six task fuses) bytes (Repeated (line_behind (line_behind_task task) fuses)) fault (starts_six six task fuses good) refused.0 (ap Some (number_behind six task fuses)) (refused.1, refused.2, crash_of six task fuses refused.1.0 refused.3)

  one_fuse_more : (six : Six reduction) (task : Option ℕ) (fuses : List (ℕ × ℕ)) (fuse : ℕ × ℕ) (bytes : List ℕ) → bytes ≡ crash_line fuse → lines_to six task fuses ++ bytes ∷ [] ≡ lines_to six task (fuses ++ fuse ∷ [])
  one_fuse_more six task fuses fuse bytes is =
      ap (six_lines six) (append_assoc (task_lines task) (map crash_line fuses) (bytes ∷ []))
      ∙ ap (λ (l : List ℕ). lines_with six task (map crash_line fuses ++ l ∷ [])) is
      ∙ ap (lines_with six task) (sym (map-append crash_line fuses (fuse ∷ [])))

  pushed_good : (six : Six reduction) (task : Option ℕ) (fuses : List (ℕ × ℕ)) (fuse : ℕ × ℕ) (bytes : List ℕ) → AreGood six task fuses → TellsFuse six.head.simulators fuses bytes fuse → AreGood six task (fuses ++ fuse ∷ [])
  pushed_good six task fuses fuse bytes good tells = (fuses_pushed fuses fuse six.head.simulators good.0 tells.below tells.new, fuses_are_values fuses fuse good.1 tells.value, good.2)

  told_first : (six : Six reduction) (task : Option ℕ) (most : ℕ) (fuses : List (ℕ × ℕ)) → AreGood six task fuses → ((fuse : ℕ × ℕ) → AreGood six task (fuses ++ fuse ∷ []) → IsFirstFrom reduction (lines_to six task (fuses ++ fuse ∷ [])) (on_from most (line_behind_task task) six.head.simulators (fuses ++ fuse ∷ []) (after_six six task)))
      → (x : Option (ℕ × ℕ)) (bytes : List ℕ) → said_next (line_behind_task task) six.head.simulators fuses bytes ≡ Ok x → IsFirstFrom reduction (lines_to six task fuses ++ bytes ∷ []) (on_told most (line_behind_task task) six.head.simulators fuses (after_six six task) x)
  told_first six task most fuses good later None bytes is =
      subst (λ (line : List ℕ). IsFirstFrom reduction (lines_to six task fuses ++ line ∷ []) (after_six six task fuses)) (sym (tells_protocol (line_behind_task task) six.head.simulators fuses bytes is))
      (subst (λ (lines : List (List ℕ)). IsFirstFrom reduction lines (after_six six task fuses)) (parts_six six task fuses) (text_first six task fuses good))
  told_first six task most fuses good later (Some fuse) bytes is =
      let tells = tells_fuse (line_behind_task task) six.head.simulators fuses bytes fuse is in
      subst (λ (lines : List (List ℕ)). IsFirstFrom reduction lines (on_from most (line_behind_task task) six.head.simulators (fuses ++ fuse ∷ []) (after_six six task)))
      (sym (one_fuse_more six task fuses fuse bytes (crash_line_found six.head.simulators fuses bytes fuse six.within.simulators.1 tells)))
      (later fuse (pushed_good six task fuses fuse bytes good tells))

  no_form : (six : Six reduction) (task : Option ℕ) (fuses : List (ℕ × ℕ)) (bytes : List ℕ) → 1 ≤ length (task_lines task) + length fuses → HasNoForm six task fuses bytes
  no_form six task fuses bytes some never form =
      never (form_behind reduction (first_text reduction six.head.version) (room_line six.head.name) (third_text reduction six.head.inputs six.head.own) (fourth_text reduction (length six.head.inputs) six.head.simulators) (number_of_room (codes "rounds ") six.rounds) (number_of_room (codes "turns ") six.turns) (task_lines task ++ map crash_line fuses) bytes
      (omega (arith, some, length-append (task_lines task) (map crash_line fuses), length-map fuses crash_line)) form)

  first_fuses : (most : ℕ) (six : Six reduction) (task : Option ℕ) (fuses : List (ℕ × ℕ)) → most + length fuses ≡ suc six.head.simulators → 1 ≤ length (task_lines task) + length fuses → AreGood six task fuses → IsFirstFrom reduction (lines_to six task fuses) (on_from most (line_behind_task task) six.head.simulators fuses (after_six six task))
  first_fuses zero six task fuses count some good = absurd (omega (arith, count, fuses_few fuses six.head.simulators good.0))
  first_fuses (suc most) six task fuses count some good =
      same_first reduction (lines_to six task fuses) (on_from (suc most) (line_behind_task task) six.head.simulators fuses (after_six six task)) (by_line (said_next (line_behind_task task) six.head.simulators fuses) (on_told most (line_behind_task task) six.head.simulators fuses (after_six six task))) (regroup_fuses most (line_behind_task task) six.head.simulators fuses (after_six six task))
      (first_by_line reduction (lines_to six task fuses) (BadLine (line_behind (line_behind_task task) fuses)) (said_next (line_behind_task task) six.head.simulators fuses) (on_told most (line_behind_task task) six.head.simulators fuses (after_six six task)) refl refl
      (λ bytes fault e. fuses_refused six task fuses bytes fault good (no_form six task fuses bytes some) (told_refused (line_behind_task task) six.head.simulators fuses bytes (value_after (codes "crash ") bytes) fault six.within.simulators.1 refl e))
      (told_first six task most fuses good (λ fuse more. first_fuses most six task (fuses ++ fuse ∷ []) (omega (arith, count, length-append fuses (fuse ∷ []))) (omega (arith, length-append fuses (fuse ∷ []))) more)))

  -- ---- the line after the turns

  seventh_empty : (version : Version) (m : ℕ) → seventh version m [] ≡ Err (BadLine 7)
  seventh_empty One m = refl
  seventh_empty Two m = refl

  seventh_end : (version : Version) (m : ℕ) → seventh version m (codes "end") ≡ Err (BadLine 7)
  seventh_end One m = refl
  seventh_end Two m = refl

  seventh_form : (six : Six reduction) (bytes : List ℕ) → task_words six.head.version bytes ≡ None → HasNoForm six None [] bytes
  seventh_form six bytes none never form =
      never (form_seventh reduction six.head.version (room_line six.head.name) (third_text reduction six.head.inputs six.head.own) (fourth_text reduction (length six.head.inputs) six.head.simulators) (number_of_room (codes "rounds ") six.rounds) (number_of_room (codes "turns ") six.turns) bytes
      (version_by_own reduction six.head.own six.head.version six.head.inputs six.head.simulators six.within.own six.kind) none form)

  agreed_refusal : (found : Option ℕ) (fault : SpecFault) → agreed found ≡ Err fault → TaskLine 7 ≡ fault
  agreed_refusal None fault e = cc
  agreed_refusal (Some most) fault e = (guard_err (nat_le 1 most && nat_le most 16) most (TaskLine 7) fault e).1

  never_agreed : (bytes words : List ℕ) (fault : SpecFault) (most : ℕ) → value_after (codes "task ") bytes ≡ Some words → task_of words ≡ Err fault → IsTaskLine bytes most → ⊥
  never_agreed bytes words fault most begins e line =
      let same : words ≡ codes "agree " ++ decimal most = same_Some _ _ (sym begins ∙ ap (value_after (codes "task ")) line.0 ∙ task_begins most) in
      absurd (let never : Ok most ≡ Err fault = sym (ap task_of same ∙ task_again most line.1 line.2) ∙ e in cc)

  good_six : (six : Six reduction) → AreGood six None []
  good_six six = (no_fuses six.head.simulators, refl, tt)

  seventh_refused : (six : Six reduction) (bytes : List ℕ) (words : Option (List ℕ)) (fault : SpecFault) → task_words six.head.version bytes ≡ words → seventh_by six.head.simulators bytes words ≡ Err fault → Stands reduction fault (lines_to six None []) bytes
  seventh_refused six bytes None fault is e =
      elim (err_cases (said_next 7 six.head.simulators [] bytes) (λ told. Ok (inr told)) fault e) [
        | inl here ↦ fuses_refused six None [] bytes fault (good_six six) (seventh_form six bytes is) (told_refused 7 six.head.simulators [] bytes (value_after (codes "crash ") bytes) fault six.within.simulators.1 refl here)
        | inr (told, read, there) ↦ absurd cc
      ]
  seventh_refused six bytes (Some words) fault is e =
      elim (err_cases (task_of words) (λ most. Ok (inl most)) fault e) [
        | inl here ↦
            let begins = words_begin six.head.version bytes words is in
            stands_for reduction (lines_to six None []) (room_of six None []) bytes (TaskLine 7) fault (starts_six six None [] (good_six six)) (agreed_refusal (option_and_then number_of (value_after (codes "agree ") words)) fault here) refl
            (begins.0, (words, value_found (codes "task ") bytes words begins.1), λ most line. never_agreed bytes words fault most begins.1 here line)
        | inr (most, read, there) ↦ absurd cc
      ]

  agreed_of : (agrees : Result ℕ SpecFault) (most : ℕ) → ◌≡◌ {A = Result (ℕ ⊎ Option (ℕ × ℕ)) SpecFault} (agrees >>= λ y. Ok (inl y)) (Ok (inl most)) → agrees ≡ Ok most
  agreed_of (Ok y) most e = let same : y ≡ most = cc in ap Ok same
  agreed_of (Err fault) most e = absurd cc

  -- a task that the line says
  seventh_task : (six : Six reduction) (bytes : List ℕ) (words : Option (List ℕ)) (most : ℕ) → task_words six.head.version bytes ≡ words → seventh_by six.head.simulators bytes words ≡ Ok (inl most) → IsTaskLine bytes most × IsTaskIn six.head.version (Some most)
  seventh_task six bytes None most is e = absurd (never_task (said_next 7 six.head.simulators [] bytes) most e)
  seventh_task six bytes (Some words) most is e =
      let begins = words_begin six.head.version bytes words is in
      let says = task_said bytes words most begins.1 (agreed_of (task_of words) most e) in
      (says, subst (λ (v : Version). IsTaskIn v (Some most)) (sym begins.0) (says.1, says.2))

  later_first : (six : Six reduction) (x : ℕ ⊎ Option (ℕ × ℕ)) (bytes : List ℕ) → seventh six.head.version six.head.simulators bytes ≡ Ok x → IsFirstFrom reduction (lines_to six None [] ++ bytes ∷ []) (on_seventh six.head.version six.head.name six.head.inputs six.head.own six.head.simulators six.rounds six.turns x)
  later_first six (inl most) bytes judged =
      let says = seventh_task six bytes (task_words six.head.version bytes) most refl judged in
      subst (λ (line : List ℕ). IsFirstFrom reduction (lines_to six None [] ++ line ∷ []) (from_fuses six.head.version six.head.name six.head.inputs six.head.own six.head.simulators six.rounds six.turns (Some most))) (sym says.0.0)
      (first_fuses (suc six.head.simulators) six (Some most) [] (omega arith) (omega arith) (no_fuses six.head.simulators, refl, says.1))
  later_first six (inr told) bytes judged =
      told_first six None six.head.simulators [] (good_six six) (λ fuse more. first_fuses six.head.simulators six None (fuse ∷ []) (omega arith) (omega arith) more) told bytes (seventh_told six.head.simulators bytes (task_words six.head.version bytes) told judged)

  first_task : (six : Six reduction) → IsFirstFrom reduction (lines_to six None []) (from_task six.head.version six.head.name six.head.inputs six.head.own six.head.simulators six.rounds six.turns)
  first_task six =
      same_first reduction (lines_to six None []) (from_task six.head.version six.head.name six.head.inputs six.head.own six.head.simulators six.rounds six.turns) _ (regroup_seventh six.head.version six.head.name six.head.inputs six.head.own six.head.simulators six.rounds six.turns)
      (first_by_line reduction (lines_to six None []) (BadLine 7) (seventh six.head.version six.head.simulators) (on_seventh six.head.version six.head.name six.head.inputs six.head.own six.head.simulators six.rounds six.turns) (seventh_empty six.head.version six.head.simulators) (seventh_end six.head.version six.head.simulators)
      (λ bytes fault e. seventh_refused six bytes (task_words six.head.version bytes) fault refl e)
      (later_first six))

  -- ---- from the line of the turns or of the rounds on

  head_form_rounds : (head : Head) (bytes : List ℕ) → HasForm reduction (to_rounds reduction head) bytes → (number : ℕ) × IsNumberLine (codes "rounds ") bytes number
  head_form_rounds head bytes form = form_rounds reduction (first_text reduction head.version) (room_line head.name) (third_text reduction head.inputs head.own) (fourth_text reduction (length head.inputs) head.simulators) bytes form

  head_form_turns : (head : Head) (rounds : ℕ) (bytes : List ℕ) → HasForm reduction (to_turns reduction head rounds) bytes → (number : ℕ) × IsNumberLine (codes "turns ") bytes number
  head_form_turns head rounds bytes form = form_turns reduction (first_text reduction head.version) (room_line head.name) (third_text reduction head.inputs head.own) (fourth_text reduction (length head.inputs) head.simulators) (number_of_room (codes "rounds ") rounds) bytes form

  abbrev width : Head → ℕ → ℕ
  width head rounds = head.simulators * length head.inputs * bits_of rounds

  abbrev after_turns : Head → ℕ → ℕ → List ℕ → Result RoomSpec SpecFault
  after_turns head rounds turns text = from_task head.version head.name head.inputs head.own head.simulators rounds turns text

  abbrev after_rounds : Head → ℕ → List ℕ → Result RoomSpec SpecFault
  after_rounds head rounds text = from_turns head.version head.name head.inputs head.own head.simulators rounds text

  abbrev rounds_after : Head → List ℕ → Result RoomSpec SpecFault
  rounds_after head text = from_rounds head.version head.name head.inputs head.own head.simulators text

  starts_turns : (head : Head) (rounds : ℕ) → IsHeadWithin head → has_own head.own ≡ reduction → (1 ≤ rounds) × (rounds ≤ 15) → width head rounds ≤ most_bits head.version → Starts reduction (to_turns reduction head rounds) (made head rounds 1 None [])
  starts_turns head rounds within kind some fits = record { head = head_made head rounds 1 within some (omega arith, omega arith); kind = kind; fits = λ five. fits; more = _; parts = front_is reduction (made head rounds 1 None []); unfinished = omega arith }

  first_turns : (head : Head) (rounds : ℕ) → IsHeadWithin head → has_own head.own ≡ reduction → (1 ≤ rounds) × (rounds ≤ 15) → width head rounds ≤ most_bits head.version → IsFirstFrom reduction (to_turns reduction head rounds) (after_rounds head rounds)
  first_turns head rounds within kind some fits =
      same_first reduction (to_turns reduction head rounds) (after_rounds head rounds) _ (λ text. regroup (number_judge 6 (codes "turns ") 65535 Turns (first_line text)) (later_lines text) (λ turns. after_turns head rounds turns))
      (first_by_line reduction (to_turns reduction head rounds) (BadLine 6) (number_judge 6 (codes "turns ") 65535 Turns) (λ turns. after_turns head rounds turns) refl refl
      (λ bytes fault e. number_stands reduction (to_turns reduction head rounds) (made head rounds 1 None []) 6 (codes "turns ") 65535 Turns bytes fault (starts_turns head rounds within kind some fits) refl refl (head_form_turns head rounds bytes) (λ out. out) e)
      (λ turns bytes said_turns.
      let says = number_said 6 (codes "turns ") 65535 Turns bytes turns (omega arith) said_turns in
      let six : Six reduction = record { head = head; within = within; kind = kind; rounds = rounds; turns = turns; some_rounds = some; some_turns = (says.1, says.2); fits = fits } in
      subst (λ (line : List ℕ). IsFirstFrom reduction (to_turns reduction head rounds ++ line ∷ []) (after_turns head rounds turns)) (sym says.0) (first_task six)))

  starts_rounds : (head : Head) → IsHeadWithin head → has_own head.own ≡ reduction → Starts reduction (to_rounds reduction head) (made head 1 1 None [])
  starts_rounds head within kind = starts_of reduction (to_rounds reduction head) (made head 1 1 None []) _ (least_made head within) kind (omega arith) (front_is reduction (made head 1 1 None [])) (omega arith)

  rounds_refused : (head : Head) → IsHeadWithin head → has_own head.own ≡ reduction → (bytes : List ℕ) (fault : SpecFault) → fitting_judge (most_bits head.version) (width head) (number_judge 5 (codes "rounds ") 15 Rounds bytes) ≡ Err fault → Stands reduction fault (to_rounds reduction head) bytes
  rounds_refused head within kind bytes fault e =
      elim (fitting_refused (most_bits head.version) (width head) (number_judge 5 (codes "rounds ") 15 Rounds bytes) fault e) [
        | inl refused ↦ number_stands reduction (to_rounds reduction head) (made head 1 1 None []) 5 (codes "rounds ") 15 Rounds bytes fault (starts_rounds head within kind) refl refl (head_form_rounds head bytes) (λ out. out) refused
        | inr (rounds, read, same, wide) ↦
            let says = number_said 5 (codes "rounds ") 15 Rounds bytes rounds (omega arith) read in
            stands_for reduction (to_rounds reduction head) (made head 1 1 None []) bytes TooWide fault (starts_rounds head within kind) same refl (rounds, says.0, says.1, says.2, wide)
      ]

  first_rounds : (head : Head) → IsHeadWithin head → has_own head.own ≡ reduction → IsFirstFrom reduction (to_rounds reduction head) (rounds_after head)
  first_rounds head within kind =
      same_first reduction (to_rounds reduction head) (rounds_after head) _ (λ text. regroup_fitting (most_bits head.version) (width head) (number_judge 5 (codes "rounds ") 15 Rounds (first_line text)) (later_lines text) (λ rounds. after_rounds head rounds))
      (first_by_line reduction (to_rounds reduction head) (BadLine 5) (λ bytes. fitting_judge (most_bits head.version) (width head) (number_judge 5 (codes "rounds ") 15 Rounds bytes)) (λ rounds. after_rounds head rounds) refl refl
      (rounds_refused head within kind)
      (λ rounds bytes judged.
      let fit = fitting_said (most_bits head.version) (width head) (number_judge 5 (codes "rounds ") 15 Rounds bytes) rounds judged in
      let says = number_said 5 (codes "rounds ") 15 Rounds bytes rounds (omega arith) fit.0 in
      subst (λ (line : List ℕ). IsFirstFrom reduction (to_rounds reduction head ++ line ∷ []) (after_rounds head rounds)) (sym says.0) (first_turns head rounds within kind (says.1, says.2) fit.1)))

-- ---- an ordinary room, from the first line on

abbrev ordinary_head : Version → List ℕ → List ℕ → ℕ → Head
ordinary_head version name inputs simulators = record { version = version; name = name; inputs = inputs; own = []; simulators = simulators }

ordinary_within : (version : Version) (name inputs : List ℕ) (simulators : ℕ) → is_name name ≡ true → are_inputs inputs ≡ true → (1 ≤ simulators) × (simulators ≤ 8) → IsHeadWithin (ordinary_head version name inputs simulators)
ordinary_within version name inputs simulators is are few = record { name = is; inputs = are; own = tt; simulators = few }

first_simulators : (version : Version) (name inputs : List ℕ) → is_name name ≡ true → are_inputs inputs ≡ true → IsFirstFrom false (to_count false version name inputs []) (from_simulators version name inputs)
first_simulators version name inputs is are =
    let one = least_made (ordinary_head version name inputs 1) (ordinary_within version name inputs 1 is are (omega arith, omega arith)) in
    let starts : Starts false (to_count false version name inputs []) (made (ordinary_head version name inputs 1) 1 1 None []) = starts_of false (to_count false version name inputs []) (made (ordinary_head version name inputs 1) 1 1 None []) _ one refl (omega arith) (front_is false (made (ordinary_head version name inputs 1) 1 1 None [])) (omega arith) in
    same_first false (to_count false version name inputs []) (from_simulators version name inputs) _ (λ text. regroup (number_judge 4 (codes "simulators ") 8 Simulators (first_line text)) (later_lines text) (λ simulators. from_rounds version name inputs [] simulators))
    (first_by_line false (to_count false version name inputs []) (BadLine 4) (number_judge 4 (codes "simulators ") 8 Simulators) (λ simulators. from_rounds version name inputs [] simulators) refl refl
    (λ bytes fault e. number_stands false (to_count false version name inputs []) (made (ordinary_head version name inputs 1) 1 1 None []) 4 (codes "simulators ") 8 Simulators bytes fault starts refl refl (λ form. form) (λ out. out) e)
    (λ simulators bytes judged.
    let says = number_said 4 (codes "simulators ") 8 Simulators bytes simulators (omega arith) judged in
    subst (λ (line : List ℕ). IsFirstFrom false (to_count false version name inputs [] ++ line ∷ []) (from_rounds version name inputs [] simulators)) (sym says.0) (first_rounds false (ordinary_head version name inputs simulators) (ordinary_within version name inputs simulators is are (says.1, says.2)) refl)))

first_inputs : (version : Version) (name : List ℕ) → is_name name ≡ true → IsFirstFrom false (to_inputs false version name) (from_inputs version name)
first_inputs version name is =
    same_first false (to_inputs false version name) (from_inputs version name) _ (λ text. regroup (in_range (inputs_of (fields_of (first_line text)))) (later_lines text) (λ inputs. from_simulators version name inputs))
    (first_by_line false (to_inputs false version name) (BadLine 3) (λ bytes. in_range (inputs_of (fields_of bytes))) (λ inputs. from_simulators version name inputs) refl refl
    (λ bytes fault e. inputs_refused false version name tt is bytes (inputs_of (fields_of bytes)) fault refl e)
    (λ inputs bytes judged.
    let says = inputs_said 16 bytes inputs judged in
    subst (λ (line : List ℕ). IsFirstFrom false (to_inputs false version name ++ line ∷ []) (from_simulators version name inputs)) (sym says.0) (first_simulators version name inputs is says.1)))

first_name : (version : Version) → IsFirstFrom false (to_name false version) (from_name version)
first_name version =
    same_first false (to_name false version) (from_name version) _ (λ text. regroup (named (value_after (codes "room ") (first_line text))) (later_lines text) (λ name. from_inputs version name))
    (first_by_line false (to_name false version) (BadLine 2) (λ bytes. named (value_after (codes "room ") bytes)) (λ name. from_inputs version name) refl refl
    (λ bytes fault e. name_refused false version tt bytes (value_after (codes "room ") bytes) fault refl e)
    (λ name bytes judged.
    let says = named_found (value_after (codes "room ") bytes) name judged in
    subst (λ (line : List ℕ). IsFirstFrom false (to_name false version ++ line ∷ []) (from_inputs version name)) (sym (value_found (codes "room ") bytes name says.0)) (first_inputs version name says.1)))

first_room : IsFirstFrom false [] room_in
unfolding room_in
first_room =
    same_first false [] room_in _ (λ text. regroup (version_of (first_line text)) (later_lines text) from_name)
    (first_by_line false [] (BadLine 1) version_of from_name refl refl version_refused
    (λ version bytes judged. subst (λ (line : List ℕ). IsFirstFrom false (line ∷ []) (from_name version)) (sym (version_said bytes version judged)) (first_name version)))

-- ---- a reduction, from the first line on

abbrev own_head : List ℕ → List ℕ → ℕ → Head
own_head name own count = record { version = Two; name = name; inputs = replicate count (get_or own 0 0); own = own; simulators = length own }

own_within : (name own : List ℕ) (count : ℕ) → is_name name ≡ true → are_values 8 own ≡ true → (1 ≤ count) × (count ≤ 16) → IsHeadWithin (own_head name own count)
own_within name own count is are range = head_within Two name own (replicate count (get_or own 0 0)) count (length own) refl is are range refl refl

first_processes : (name own : List ℕ) → is_name name ≡ true → are_values 8 own ≡ true → IsFirstFrom true (to_count true Two name [] own) (from_processes Two name own)
first_processes name own is are =
    let one = least_made (own_head name own 1) (own_within name own 1 is are (omega arith, omega arith)) in
    let starts : Starts true (to_count true Two name [] own) (made (own_head name own 1) 1 1 None []) = starts_of true (to_count true Two name [] own) (made (own_head name own 1) 1 1 None []) _ one (some_own own are) (omega arith) (front_is true (made (own_head name own 1) 1 1 None [])) (omega arith) in
    same_first true (to_count true Two name [] own) (from_processes Two name own) _ (λ text. regroup (number_judge 4 (codes "processes ") 16 Processes (first_line text)) (later_lines text) (λ count. from_rounds Two name (replicate count (get_or own 0 0)) own (length own)))
    (first_by_line true (to_count true Two name [] own) (BadLine 4) (number_judge 4 (codes "processes ") 16 Processes) (λ count. from_rounds Two name (replicate count (get_or own 0 0)) own (length own)) refl refl
    (λ bytes fault e. number_stands true (to_count true Two name [] own) (made (own_head name own 1) 1 1 None []) 4 (codes "processes ") 16 Processes bytes fault starts refl refl (λ form. form) (λ out. out) e)
    (λ count bytes judged.
    let says = number_said 4 (codes "processes ") 16 Processes bytes count (omega arith) judged in
    let line_is : bytes ≡ fourth_text true (length (replicate count (get_or own 0 0))) (length own) = says.0 ∙ ap (number_of_room (codes "processes ")) (sym (length-replicate count (get_or own 0 0))) in
    subst (λ (line : List ℕ). IsFirstFrom true (to_count true Two name [] own ++ line ∷ []) (from_rounds Two name (replicate count (get_or own 0 0)) own (length own))) (sym line_is) (first_rounds true (own_head name own count) (own_within name own count is are (says.1, says.2)) (some_own own are))))

first_own : (name : List ℕ) → is_name name ≡ true → IsFirstFrom true (to_inputs true Two name) (from_own Two name)
first_own name is =
    same_first true (to_inputs true Two name) (from_own Two name) _ (λ text. regroup (up_to_values 8 (inputs_of (fields_of (first_line text)))) (later_lines text) (λ own. from_processes Two name own))
    (first_by_line true (to_inputs true Two name) (BadLine 3) (λ bytes. up_to_values 8 (inputs_of (fields_of bytes))) (λ own. from_processes Two name own) refl refl
    (λ bytes fault e. inputs_refused true Two name refl is bytes (inputs_of (fields_of bytes)) fault refl e)
    (λ own bytes judged.
    let says = inputs_said 8 bytes own judged in
    subst (λ (line : List ℕ). IsFirstFrom true (to_inputs true Two name ++ line ∷ []) (from_processes Two name own)) (sym says.0) (first_processes name own is says.1)))

first_title : IsFirstFrom true (to_name true Two) (from_reduction_name Two)
first_title =
    same_first true (to_name true Two) (from_reduction_name Two) _ (λ text. regroup (named (value_after (codes "room ") (first_line text))) (later_lines text) (λ name. from_own Two name))
    (first_by_line true (to_name true Two) (BadLine 2) (λ bytes. named (value_after (codes "room ") bytes)) (λ name. from_own Two name) refl refl
    (λ bytes fault e. name_refused true Two refl bytes (value_after (codes "room ") bytes) fault refl e)
    (λ name bytes judged.
    let says = named_found (value_after (codes "room ") bytes) name judged in
    subst (λ (line : List ℕ). IsFirstFrom true (to_name true Two ++ line ∷ []) (from_own Two name)) (sym (value_found (codes "room ") bytes name says.0)) (first_own name says.1)))

first_reduction : IsFirstFrom true [] reduction_in
unfolding reduction_in
first_reduction =
    same_first true [] reduction_in _ (λ text. regroup (reduction_of (first_line text)) (later_lines text) from_reduction_name)
    (first_by_line true [] (BadLine 1) reduction_of from_reduction_name refl refl reduction_refused
    (λ version bytes judged.
    let says = reduction_said bytes version judged in
    subst (λ (v : Version). IsFirstFrom true (bytes ∷ []) (from_reduction_name v)) says.1 (subst (λ (line : List ℕ). IsFirstFrom true (line ∷ []) (from_reduction_name Two)) (sym says.0) first_title)))

-- ---- the clauses of `read_block` and `read_reduction`

protocol_first : (text : List ℕ) (fault : ParseFault) → reading text ≡ Err fault → texts.IsFirstFault text fault
protocol_first text OutOfMemory e = tt
protocol_first text fault e = first_fault text (Err fault) e

first_lines : (reduction : Bool) → IsFirstFrom reduction [] (reader reduction)
first_lines false = first_room
first_lines true = first_reduction

module _ (reduction : Bool) where
  as_first : (text : List ℕ) (fault : SpecFault) → IsOutOfPlace reduction text fault → IsFirstFaultOf reduction text fault
  as_first text Truncated out = absurd (let never = out.number in cc)
  as_first text (BadProtocol fault) out = absurd (let never = out.number in cc)
  as_first text fault out = out

  placed : (text : List ℕ) (fault : SpecFault) (found : FaultAt (reader reduction) text fault) → HasLine reduction [] found.at.lines fault → IsOutOfPlace reduction text fault
  placed text fault found has = record {
    len = found.len;
    ends = found.at;
    before = has.before;
    line = has.line;
    more = has.more;
    lines = has.parts;
    number = has.says.1;
    begins = has.says.0;
    within = has.says.3;
    never = never_next reduction found.at.lines has.before has.more has.line fault found.at.no_end found.read has.parts has.says.1;
    reason = has.says.2;
  }

  of_protocol : (text : List ℕ) (own : ParseFault) (len : ℕ) (at : EndsAt text len) → HasText reduction [] at.lines own → IsBadProtocol reduction text own
  of_protocol text own len at has = record {
    len = len;
    ends = at;
    room = has.room;
    head = has.head;
    kind = has.kind;
    fits = has.fits;
    more = has.more;
    lines = has.parts ∙ ap (λ (l : List (List ℕ)). l ++ has.more) (sym has.whole);
    first = protocol_first (text_of has.more) own has.read;
  }

  fault_first : (text : List ℕ) (fault : SpecFault) → before_end (reader reduction) text (body_len text) ≡ Err fault → IsFirstFaultOf reduction text fault
  fault_first text fault e =
      elim (fault_at (reader reduction) text fault e) [
        | inl whole ↦ subst (λ (f : SpecFault). IsFirstFaultOf reduction text f) (sym whole.0) (block_nowhere text (sym whole.1))
        | inr found ↦ elim (first_lines reduction found.at.lines fault (are_lines-before_end found.at.lines found.at.no_end) found.read) [
          | inl has ↦ as_first text fault (placed text fault found has)
          | inr (own, is, has) ↦ subst (λ (f : SpecFault). IsFirstFaultOf reduction text f) is (of_protocol text own found.len found.at has)
        ]
      ]

pub block_first : (text : List ℕ) (outcome : Result (RoomSpec × ℕ) SpecFault) → outcome ≡ block_in text → IfErr outcome (λ fault. IsFirstFault text fault)
block_first text (Ok read) e = tt
block_first text (Err fault) e = fault_first false text fault (sym e)

pub reduction_first : (text : List ℕ) (outcome : Result (RoomSpec × ℕ) SpecFault) → outcome ≡ reduction_block_in text → IfErr outcome (λ fault. IsReductionFirstFault text fault)
reduction_first text (Ok read) e = tt
reduction_first text (Err fault) e = fault_first true text fault (sym e)
