-- What is written for the bytes that were read so far.
use Rattle.std.proofs.Common.{◌≡◌, ◌∙◌, ℕ, ◌≤◌, List, [], ◌∷◌, ◌++◌, take, drop, Err, refl, sym, ap, ap₂, subst, arith, inl, inr}
use Rattle.std.specs.List.{flat_map}
use Rattle.std.proofs.lemmas.Grind.{flat_map-append}
use Rattle.std.proofs.lemmas.List.{append-nil, append_assoc, length-take, take-append-drop, take-take}
use Rattle.io_text.specs.declared.fault.DeviceFault.{DeviceFault}
use Rattle.io_text.specs.declared.fault.DeviceFault.TheVariants.{Read, Write, TooLong, Memory}
use Rattle.live_script.specs.Entries.{AreWhole, IsBegun, IsTooLong, Piece, last_piece, most_entry, piece_text, pieces_text}
use Rattle.live_script.specs.Answers.{Answer, AreLive, answer_text, long_text}
use Rattle.live_script.specs.Sessions.{AreTaken, EndsEarly, EndsLast, HasAnswered, HasCome, HasEnded, HasStopped, IsFedOn, IsFedSome, IsFedUntilLong, IsLast, IsNew, IsServed, IsTakenFrom, IsWaiting}
use Rattle.live_script.specs.declared.live.Live.{Live}
use Rattle.live_script.proofs.Coming.{live_of, none_come, one_comes}

-- ---- lists of entries

whole-append : (pieces more : List Piece) → AreWhole pieces → AreWhole more → AreWhole (pieces ++ more)
whole-append [] more none all = all
whole-append (piece ∷ pieces) more whole all = (whole.0, whole-append pieces more whole.1 all)

texts-append : {A : Type 0} (of : A → List ℕ) (xs ys : List A) → flat_map of (xs ++ ys) ≡ flat_map of xs ++ flat_map of ys
texts-append of xs ys = flat_map-append of xs ys

text_of_one : {A : Type 0} (of : A → List ℕ) (x : A) → flat_map of (x ∷ []) ≡ of x
text_of_one of x = append-nil (of x)

-- ---- more is fed

pub none_fed : (live : Live) (text : List ℕ) → IsFedOn live text text [] live
none_fed live text = record {
  pieces = [];
  answers = [];
  whole = tt;
  parts = refl;
  output_is = refl;
  comes = λ ps said come. subst (λ (l : List Piece). HasCome l (said ++ []) live) (sym (append-nil ps)) (subst (λ (l : List Answer). HasCome ps l live) (sym (append-nil said)) come);
}

pub fed_on : (start : Live) (text left output : List ℕ) (live : Live) (more left' output' : List ℕ) (after : Live) → IsFedOn start text left output live → IsFedOn live (left ++ more) left' output' after
    → IsFedOn start (text ++ more) left' (output ++ output') after
fed_on start text left output live more left' output' after first later = record {
  pieces = first.pieces ++ later.pieces;
  answers = first.answers ++ later.answers;
  whole = whole-append first.pieces later.pieces first.whole later.whole;
  parts = ap (λ (t : List ℕ). t ++ more) first.parts ∙ append_assoc (pieces_text first.pieces) left more ∙ ap (λ (t : List ℕ). pieces_text first.pieces ++ t) later.parts
      ∙ sym (append_assoc (pieces_text first.pieces) (pieces_text later.pieces) left') ∙ ap (λ (t : List ℕ). t ++ left') (sym (texts-append piece_text first.pieces later.pieces));
  output_is = ap₂ (λ (o p : List ℕ). o ++ p) first.output_is later.output_is ∙ sym (texts-append answer_text first.answers later.answers);
  comes = λ ps said come.
      subst (λ (l : List Piece). HasCome l (said ++ (first.answers ++ later.answers)) after) (append_assoc ps first.pieces later.pieces)
      (subst (λ (l : List Answer). HasCome ((ps ++ first.pieces) ++ later.pieces) l after) (append_assoc said first.answers later.answers)
      (later.comes (ps ++ first.pieces) (said ++ first.answers) (first.comes ps said come)));
}

-- one entry at the front of a text
one_fed : (live : Live) (text : List ℕ) (used : ℕ) (left : List ℕ) (after : Live) → IsTakenFrom (take most_entry text) used live after → left ≡ drop used text → IsFedOn live text left after.output after
one_fed live text used left after taken is = record {
  pieces = taken.piece ∷ [];
  answers = taken.answer ∷ [];
  whole = (taken.whole, tt);
  parts = sym (take-append-drop used text) ∙ ap₂ (λ (front rest : List ℕ). front ++ rest) (front ∙ sym (text_of_one piece_text taken.piece)) (sym is);
  output_is = taken.answered.says ∙ sym (text_of_one answer_text taken.answer);
  comes = λ ps said come. one_comes ps said taken.piece taken.answer live after come taken.answered;
}
  where
    within : used ≤ most_entry
    within = omega (arith, taken.within, length-take most_entry text)

    front : take used text ≡ piece_text taken.piece
    front = sym (take-take used most_entry text within) ∙ taken.bytes

pub fed_one : (start : Live) (text left output : List ℕ) (live : Live) (used : ℕ) (left' : List ℕ) (after : Live) → IsFedOn start text left output live → IsTakenFrom (take most_entry left) used live after
    → left' ≡ drop used left → IsFedOn start text left' (output ++ after.output) after
fed_one start text left output live used left' after fed taken is =
    subst (λ (t : List ℕ). IsFedOn start t left' (output ++ after.output) after) (append-nil text)
    (fed_on start text left output live [] left' after.output after fed
    (subst (λ (t : List ℕ). IsFedOn live t left' after.output after) (sym (append-nil left)) (one_fed live left used left' after taken is)))

-- ---- the end comes early

some_later : (start : Live) (text left output : List ℕ) (live : Live) (more output' : List ℕ) → IsFedOn start text left output live → IsFedSome live (left ++ more) output' → IsFedSome start (text ++ more) (output ++ output')
some_later start text left output live more output' fed some = record { left = some.left; after = some.after; fed = fed_on start text left output live more some.left output' some.after fed some.fed }

long_later : (start : Live) (text left output : List ℕ) (live : Live) (more output' : List ℕ) → IsFedOn start text left output live → IsFedUntilLong live (left ++ more) output' → IsFedUntilLong start (text ++ more) (output ++ output')
long_later start text left output live more output' fed up = record {
  left = up.left;
  after = up.after;
  said = output ++ up.said;
  fed = fed_on start text left output live more up.left up.said up.after fed up.fed;
  long = up.long;
  output_is = ap (λ (o : List ℕ). output ++ o) up.output_is ∙ sym (append_assoc output up.said (long_text up.after.line));
}

pub ends_later : (fault : DeviceFault) (start : Live) (text left output : List ℕ) (live : Live) (more output' : List ℕ) → IsFedOn start text left output live → EndsEarly live (left ++ more) output' fault
    → EndsEarly start (text ++ more) (output ++ output') fault
ends_later Read start text left output live more output' fed ends = absurd ends
ends_later Memory start text left output live more output' fed ends = some_later start text left output live more output' fed ends
ends_later TooLong start text left output live more output' fed ends = long_later start text left output live more output' fed ends
ends_later Write start text left output live more output' fed (rest, inl ends) =
    (rest, inl (subst (IsFedSome start (text ++ more)) (sym (append_assoc output output' rest)) (some_later start text left output live more (output' ++ rest) fed ends)))
ends_later Write start text left output live more output' fed (rest, inr ends) =
    (rest, inr (subst (IsFedUntilLong start (text ++ more)) (sym (append_assoc output output' rest)) (long_later start text left output live more (output' ++ rest) fed ends)))

-- ---- from the first line on

come_of : (start : Live) (bytes left output : List ℕ) (live : Live) → IsNew start → (fed : IsFedOn start bytes left output live) → HasCome fed.pieces fed.answers live
come_of start bytes left output live new fed = fed.comes [] [] (none_come start new)

taken_of : (start : Live) (bytes left output : List ℕ) (live : Live) → IsNew start → (fed : IsFedOn start bytes left output live) → AreTaken bytes left fed.pieces fed.answers
taken_of start bytes left output live new fed = record {
  whole = fed.whole;
  text = fed.parts;
  live = live_of fed.pieces fed.answers live (come_of start bytes left output live new fed);
}

answered_of : (start : Live) (bytes output : List ℕ) → IsNew start → IsFedSome start bytes output → HasAnswered bytes output
answered_of start bytes output new some = record {
  left = some.left;
  pieces = some.fed.pieces;
  answers = some.fed.answers;
  taken = taken_of start bytes some.left output some.after new some.fed;
  output_is = some.fed.output_is;
}

stopped_of : (start : Live) (bytes output : List ℕ) → IsNew start → IsFedUntilLong start bytes output → HasStopped bytes output
stopped_of start bytes output new up = record {
  left = up.left;
  pieces = up.fed.pieces;
  answers = up.fed.answers;
  taken = taken_of start bytes up.left up.said up.after new up.fed;
  long = up.long;
  output_is = up.output_is ∙ ap₂ (λ (said : List ℕ) (line : ℕ). said ++ long_text line) up.fed.output_is (come_of start bytes up.left up.said up.after new up.fed).line_is;
}

pub served_early : (fault : DeviceFault) (start : Live) (bytes output : List ℕ) → IsNew start → EndsEarly start bytes output fault → IsServed bytes (Err fault) output
served_early Read start bytes output new ends = absurd ends
served_early Memory start bytes output new ends = answered_of start bytes output new ends
served_early TooLong start bytes output new ends = stopped_of start bytes output new ends
served_early Write start bytes output new (rest, inl ends) = (rest, inl (answered_of start bytes (output ++ rest) new ends))
served_early Write start bytes output new (rest, inr ends) = (rest, inr (inl (stopped_of start bytes (output ++ rest) new ends)))

pub waiting_of : (start : Live) (bytes left output : List ℕ) (live : Live) → IsNew start → IsFedOn start bytes left output live → IsBegun left → IsWaiting bytes output
waiting_of start bytes left output live new fed begun = record {
  left = left;
  pieces = fed.pieces;
  answers = fed.answers;
  taken = taken_of start bytes left output live new fed;
  begun = begun;
  output_is = fed.output_is;
}

-- ---- the last entry

-- nothing was left, or it was answered
pub ended_of : (start : Live) (bytes left output : List ℕ) (live after : Live) (more : List ℕ) → IsNew start → IsFedOn start bytes left output live → IsBegun left
    → IsLast left live more after → HasEnded bytes after.ending (output ++ more)
ended_of start bytes [] output live after more new fed begun last =
    let come = come_of start bytes [] output live new fed in record {
      left = [];
      pieces = fed.pieces;
      answers = fed.answers;
      whole = fed.whole;
      text = fed.parts;
      begun = begun;
      live = subst (λ (l : List Piece). AreLive l fed.answers) (sym (append-nil fed.pieces)) (live_of fed.pieces fed.answers live come);
      output_is = ap (λ (o : List ℕ). output ++ o) last.0 ∙ append-nil output ∙ fed.output_is;
      ending_is = ap (λ (l : Live). l.ending) last.1 ∙ come.ending_is;
    }
ended_of start bytes (byte ∷ left) output live after more new fed begun last =
    let come = one_comes fed.pieces fed.answers (last_piece (byte ∷ left)) last.0 live after (come_of start bytes (byte ∷ left) output live new fed) last.1 in record {
      left = byte ∷ left;
      pieces = fed.pieces;
      answers = fed.answers ++ last.0 ∷ [];
      whole = fed.whole;
      text = fed.parts;
      begun = begun;
      live = live_of (fed.pieces ++ last_piece (byte ∷ left) ∷ []) (fed.answers ++ last.0 ∷ []) after come;
      output_is = ap₂ (λ (o p : List ℕ). o ++ p) fed.output_is (last.2 ∙ sym (text_of_one answer_text last.0)) ∙ sym (texts-append answer_text fed.answers (last.0 ∷ []));
      ending_is = come.ending_is;
    }

-- the last entry was to be answered, and writing failed
pub ended_early : (start : Live) (bytes left output : List ℕ) (live : Live) (fault : DeviceFault) (more : List ℕ) → IsNew start → IsFedOn start bytes left output live
    → IsBegun left → EndsLast left live more fault → IsServed bytes (Err fault) (output ++ more)
ended_early start bytes left output live Read more new fed begun ends = absurd ends
ended_early start bytes left output live TooLong more new fed begun ends = absurd ends
ended_early start bytes left output live Memory more new fed begun ends =
    subst (λ (o : List ℕ). HasAnswered bytes o) (sym (ap (λ (o : List ℕ). output ++ o) ends ∙ append-nil output)) (answered_of start bytes output new (record { left = left; after = live; fed = fed }))
ended_early start bytes left output live Write more new fed begun (rest, after, last) =
    (rest, inr (inr (after.ending, subst (λ (o : List ℕ). HasEnded bytes after.ending o) (sym (append_assoc output more rest)) (ended_of start bytes left output live after (more ++ rest) new fed begun last))))

-- ---- the faults of writing

-- an answer was written in part
pub part_written : (start : Live) (text left output : List ℕ) (live : Live) (used : ℕ) (after : Live) (part rest : List ℕ) → IsFedOn start text left output live → IsTakenFrom (take most_entry left) used live after
    → after.output ≡ part ++ rest → EndsEarly start text (output ++ part) Write
part_written start text left output live used after part rest fed taken split = (
  rest,
  inl (record {
    left = drop used left;
    after = after;
    fed = subst (λ (o : List ℕ). IsFedOn start text (drop used left) o after) (ap (λ (o : List ℕ). output ++ o) split ∙ sym (append_assoc output part rest)) (fed_one start text left output live used (drop used left) after fed taken refl);
  }),
)

-- that an entry is too long was written, or in part
pub long_written : (start : Live) (text left output : List ℕ) (live : Live) → IsFedOn start text left output live → IsTooLong left → EndsEarly start text (output ++ long_text live.line) TooLong
long_written start text left output live fed long = record { left = left; after = live; said = output; fed = fed; long = long; output_is = refl }

pub long_written_in_part : (start : Live) (text left output : List ℕ) (live : Live) (part rest : List ℕ) → IsFedOn start text left output live → IsTooLong left → long_text live.line ≡ part ++ rest
    → EndsEarly start text (output ++ part) Write
long_written_in_part start text left output live part rest fed long split =
    (rest, inr (record { left = left; after = live; said = output; fed = fed; long = long; output_is = append_assoc output part rest ∙ ap (λ (o : List ℕ). output ++ o) (sym split) }))

pub some_fed : (start : Live) (text left output : List ℕ) (live : Live) → IsFedOn start text left output live → IsFedSome start text output
some_fed start text left output live fed = record { left = left; after = live; fed = fed }
