-- Files of samples.
use Rattle.std.specs.Prelude.{◌≡◌, ⊤, ℕ, ◌+◌, ◌<◌, ◌≤◌, ◌==◌, List, [], ◌∷◌, ◌++◌, length, map, IsPermutation, slice_index_or}
use Rattle.std.specs.List.{count_by}
use Rattle.view_sum.specs.Samples.{RoomSample, room_text, sample_of, sample_text}
use Rattle.view_sum.specs.declared.sum.SampleFile.{SampleFile}

-- what a file says: its rooms, and the number of each room's own line, with the file's own number among those that are given, from 0
pub record Placed : Type 0 where
  pub index : ℕ
  pub samples : List RoomSample
  pub lines : List ℕ

abbrev pub lines_in : List ℕ → ℕ
lines_in text = count_by (λ byte. byte == 10) text

-- the numbers of the rooms' own lines, after these lines
abbrev pub AreNumbered : List ℕ → List RoomSample → List ℕ → Type 0
AreNumbered before [] [] = ⊤
AreNumbered before (sample ∷ samples) (line ∷ lines) = (line ≡ lines_in (before ++ room_text sample)) × AreNumbered (before ++ room_text sample) samples lines
AreNumbered before [] (line ∷ lines) = ⊥
AreNumbered before (sample ∷ samples) [] = ⊥

-- the text is what the file says
pub record IsFileOf (text : List ℕ) (index : ℕ) (file : Placed) : Type 0 where
  pub text_is : sample_text file.samples ≡ text
  pub index_is : file.index ≡ index
  pub lines_are : AreNumbered [] file.samples file.lines

-- each text is, from this number on
abbrev pub AreFilesOf : List (List ℕ) → ℕ → List Placed → Type 0
AreFilesOf [] index [] = ⊤
AreFilesOf (text ∷ texts) index (file ∷ files) = IsFileOf text index file × AreFilesOf texts (index + 1) files
AreFilesOf [] index (file ∷ files) = ⊥
AreFilesOf (text ∷ texts) index [] = ⊥

abbrev pub first_number : List RoomSample → ℕ
first_number [] = 0
first_number (sample ∷ samples) = sample.how.from

-- the numbers of their first schedules rise
abbrev pub AreRising : List Placed → Type 0
AreRising files = (k : ℕ) (d : Placed) → k + 1 < length files → first_number (slice_index_or files k d).samples ≤ first_number (slice_index_or files (k + 1) d).samples

-- The texts' files, in the order of their first schedules.
pub record IsInOrder (texts : List (List ℕ)) (ordered : List Placed) : Type 0 where
  pub files : List Placed
  pub read : AreFilesOf texts 0 files
  pub all_ordered : IsPermutation files ordered
  pub rising : AreRising ordered

-- ---- how they are kept

-- its rooms, in order
abbrev pub parts_of : SampleFile → List RoomSample
parts_of file = map sample_of file.parts.items

abbrev pub placed_of : SampleFile → Placed
placed_of file = record { index = file.index; samples = map sample_of file.parts.items; lines = map (λ part. part.line) file.parts.items }
