-- What was written when a call failed.
use Rattle.std.proofs.Common.{◌≡◌, ◌∙◌, ℕ, ◌<◌, ◌≤◌, Bool, true, false, List, [], ◌∷◌, ◌++◌, length, take, Option, Result, Ok, Err, IfErr, refl, sym, ap, subst, arith}
use Rattle.std.specs.Prelude.{◌==◌}
use Rattle.std.specs.Result.{IsErrAnd}
use Rattle.std.specs.Io.KnownBytes.{Appends}
use Rattle.std.specs.declared.alloc.AllocError.{AllocError}
use Rattle.std.proofs.lemmas.List.{append-nil, length-take, take_all}
use Rattle.io_text.specs.Writing.{AppendsPart}
use Rattle.io_text.specs.declared.fault.DeviceFault.{DeviceFault}
use Rattle.io_text.specs.declared.fault.DeviceFault.TheVariants.{Read, Write, TooLong, Memory}
use Rattle.room_files.specs.declared.outcome.Outcome.{Outcome}
use Rattle.live_script.specs.Entries.{IsBegun, IsTooLong, is_unfinished, last_piece, most_entry}
use Rattle.live_script.specs.Answers.{Answer, long_text}
use Rattle.live_script.specs.Sessions.{EndsEarly, EndsLast, EndsReading, IsAnsweredBy, IsFedOn, IsFedSome, IsFedUntilLong, IsLast, IsNew, IsSaidPart, IsServed, IsTakenFrom, IsWaiting}
use Rattle.live_script.specs.declared.live.Live.{Live}
use Rattle.live_script.proofs.Coming.{none_live}
use Rattle.live_script.proofs.Feeding.{ends_later, long_written, long_written_in_part, part_written, served_early, some_fed, waiting_of}
use Rattle.live_script.proofs.Streams.{appended_then}

pub same_fault : {X : Type 0} (r : Result X DeviceFault) (P : DeviceFault → Type 0) (fault : DeviceFault) → IsErrAnd r (λ y. y ≡ fault) → P fault → IfErr r P
same_fault (Ok x) P fault is holds = absurd is
same_fault (Err y) P fault is holds = subst P (sym is) holds

pub same_served : (r : Result (Result Outcome AllocError) DeviceFault) (fault : DeviceFault) (bytes output : List ℕ) → IsErrAnd r (λ y. y ≡ fault) → IsServed bytes (Err fault) output → IsServed bytes r output
same_served (Ok x) fault bytes output is served = absurd is
same_served (Err y) fault bytes output is served = subst (λ (f : DeviceFault). IsServed bytes (Err f) output) (sym is) served

-- ---- the front of a text

pub used_within : (text front : List ℕ) (used : ℕ) (before after : Live) → front ≡ take most_entry text → IsTakenFrom front used before after → used ≤ length text
used_within text front used before after is taken = omega (arith, taken.within, ap length is, length-take most_entry text)

pub begun_of : (text front : List ℕ) → front ≡ take most_entry text → length text < most_entry → is_unfinished front ≡ true → IsBegun text
begun_of text front is less unfinished =
    (omega (arith, less), subst (λ (t : List ℕ). is_unfinished t ≡ true) (is ∙ take_all most_entry text (omega (arith, less))) unfinished)

pub long_of : (text front : List ℕ) → front ≡ take most_entry text → most_entry ≤ length text → is_unfinished front ≡ true → IsTooLong text
long_of text front is long unfinished = (long, subst (λ (t : List ℕ). is_unfinished t ≡ true) is unfinished)

-- ---- one answer, or what is said of an entry that is too long

pub entry_in_part : (start : Live) (text left output : List ℕ) (live : Live) (used : ℕ) (after : Live) (old mid new : Option (List ℕ)) (said : List ℕ) (before writes : ℕ) → Appends old mid output → IsFedOn start text left output live
    → IsTakenFrom (take most_entry left) used live after → said ≡ after.output → AppendsPart mid new said before writes → (x : List ℕ) × Appends old new x × EndsEarly start text x Write
entry_in_part start text left output live used after old mid new said before writes so_far fed taken is written =
    (output ++ written.part, appended_then old mid new output written.part so_far written.appends, part_written start text left output live used after written.part written.rest fed taken (sym is ∙ written.split))

pub long_in_part : (fault : DeviceFault) (start : Live) (text left output : List ℕ) (live : Live) (line : ℕ) (old mid new : Option (List ℕ)) → Appends old mid output → IsFedOn start text left output live → IsTooLong left
    → line ≡ live.line → IsSaidPart mid new (long_text line) fault → (x : List ℕ) × Appends old new x × EndsEarly start text x fault
long_in_part Read start text left output live line old mid new so_far fed long is said = absurd said
long_in_part TooLong start text left output live line old mid new so_far fed long is said = absurd said
long_in_part Memory start text left output live line old mid new so_far fed long is said =
    (output ++ [], appended_then old mid new output [] so_far said, subst (λ (o : List ℕ). IsFedSome start text o) (sym (append-nil output)) (some_fed start text left output live fed))
long_in_part Write start text left output live line old mid new so_far fed long is (part, rest, split, appends) =
    (output ++ part, appended_then old mid new output part so_far appends, long_written_in_part start text left output live part rest fed long (ap long_text (sym is) ∙ split))

pub long_said : (start : Live) (text left output : List ℕ) (live : Live) (line : ℕ) (old mid new : Option (List ℕ)) → Appends old mid output → IsFedOn start text left output live → IsTooLong left
    → line ≡ live.line → Appends mid new (long_text line) → (x : List ℕ) × Appends old new x × IsFedUntilLong start text x
long_said start text left output live line old mid new so_far fed long is said =
    (output ++ long_text live.line, appended_then old mid new output (long_text live.line) so_far (subst (λ (n : ℕ). Appends mid new (long_text n)) is said), long_written start text left output live fed long)

-- ---- the last entry

pub not_empty : (empty : Bool) (len : ℕ) (text : List ℕ) → empty ≡ (len == 0) → empty ≡ false → length text ≡ len → text ≡ [] → ⊥
not_empty empty len text is isnt long nothing =
    let zero : len ≡ 0 = sym long ∙ ap length nothing in
    let so : true ≡ false = sym (is ∙ ap (λ (n : ℕ). n == 0) zero) ∙ isnt in
    cc

pub last_answered : (text : List ℕ) (before after : Live) (said : List ℕ) → (text ≡ [] → ⊥) → said ≡ after.output → (answer : Answer) × IsAnsweredBy (last_piece text) answer before after → IsLast text before said after
last_answered [] before after said isnt is answered = absurd (isnt refl)
last_answered (byte ∷ bytes) before after said isnt is answered = (answered.0, answered.1, is ∙ answered.1.says)

pub last_in_part : (text : List ℕ) (before after : Live) (said : List ℕ) (old new : Option (List ℕ)) (writes_before writes : ℕ) → (text ≡ [] → ⊥) → said ≡ after.output
    → (answer : Answer) × IsAnsweredBy (last_piece text) answer before after → AppendsPart old new said writes_before writes → (x : List ℕ) × Appends old new x × EndsLast text before x Write
last_in_part text before after said old new writes_before writes isnt is answered written =
    (written.part, written.appends, (written.rest, after, last_answered text before after (written.part ++ written.rest) isnt (sym written.split ∙ is) answered))

-- ---- the whole script

-- nothing was read
pub none_served : IsServed [] (Err Memory) []
none_served = record { left = []; pieces = []; answers = []; taken = record { whole = tt; text = refl; live = none_live }; output_is = refl }

pub served_reading : (fault : DeviceFault) (start : Live) (bytes left output : List ℕ) (live : Live) (more output' : List ℕ) → IsNew start → IsFedOn start bytes left output live → IsBegun left
    → EndsReading live left more output' fault → IsServed (bytes ++ more) (Err fault) (output ++ output')
served_reading Read start bytes left output live more output' new fed begun ends =
    subst (λ (b : List ℕ). IsWaiting b (output ++ output')) (sym (ap (λ (b : List ℕ). bytes ++ b) ends.0 ∙ append-nil bytes))
    (subst (λ (o : List ℕ). IsWaiting bytes o) (sym (ap (λ (o : List ℕ). output ++ o) ends.1 ∙ append-nil output)) (waiting_of start bytes left output live new fed begun))
served_reading TooLong start bytes left output live more output' new fed begun ends =
    served_early TooLong start (bytes ++ more) (output ++ output') new (ends_later TooLong start bytes left output live more output' fed ends)
served_reading Memory start bytes left output live more output' new fed begun ends =
    served_early Memory start (bytes ++ more) (output ++ output') new (ends_later Memory start bytes left output live more output' fed ends)
served_reading Write start bytes left output live more output' new fed begun ends =
    served_early Write start (bytes ++ more) (output ++ output') new (ends_later Write start bytes left output live more output' fed ends)
