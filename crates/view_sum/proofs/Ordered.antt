-- Files in their order, and a file that doesn't follow.
use Rattle.std.proofs.Common.{◌≡◌, inl, inr, ◌∙◌, ℕ, zero, suc, ◌+◌, ◌-◌, ◌<◌, ◌≤◌, ◌==◌, ◌&&◌, min, Bool, true, false, get_or, take, List, [], ◌∷◌, ◌++◌, length, map, Option, Some, None, Result, Ok, Err, refl, sym, ap, ap₂, subst, arith}
use Rattle.std.specs.Prelude.{IfErr, IsPermutation, slice_get}
use Rattle.std.specs.List.{list_all}
use Rattle.std.proofs.lemmas.List.{length-map, take_more}
use Rattle.std.proofs.lemmas.List.Sorted.{IsPermutation-map}
use Rattle.view_sum.specs.Files.{AreFilesOf, AreRising, IsFileOf, IsInOrder, Placed, parts_of, placed_of}
use Rattle.view_sum.specs.Refusals.{DoesNotFollowIn, HasOtherRoomsIn, IsBad, IsOutOfStep, IsRefused, WhyRefused, line_by}
use Rattle.view_sum.specs.declared.fault.BadPart.{BadPart}
use Rattle.view_sum.specs.declared.fault.SumFault.{SumFault}
use Rattle.view_sum.specs.declared.fault.SumFault.TheVariants.{Memory, Bad}
use Rattle.view_sum.specs.Samples.{RoomSample, sample_of}
use Rattle.view_sum.specs.Sums.{AreTotals, DoEachFollow, IsSum, none_of, parts_at, sum_of}
use Rattle.view_sum.specs.declared.fault.Reason.{Reason}
use Rattle.view_sum.specs.declared.fault.Reason.TheVariants.{OtherRooms}
use Rattle.view_sum.specs.declared.part.Part.{Part}
use Rattle.view_sum.specs.declared.sum.SampleFile.{SampleFile}
use Rattle.view_sum.proofs.Summing.{IsSummed, first_there}

-- what is at a place of a list, and of what it is mapped to
pub there_at : {A B : Type 0} (f : A → B) (xs : List A) (k : ℕ) (x d : A) → k < length xs → x ≡ get_or xs k d → slice_get (map f xs) k ≡ Some (f x)
there_at f [] k x d less is = absurd (omega (arith, less))
there_at f (y ∷ xs) zero x d less is = ap (λ z. Some (f z)) (sym is)
there_at f (y ∷ xs) (suc k) x d less is = there_at f xs k x d (omega (arith, less)) is

pub last_is : (parts : List Part) (count : ℕ) (d : Part) → 0 < count → count ≤ length parts → Some (get_or parts (count - 1) d).line ≡ line_by count (map (λ (p : Part). p.line) parts)
last_is parts zero d some few = absurd (omega (arith, some))
last_is parts (suc k) d some few =
    let back : suc k - 1 ≡ k = omega arith in
    ap (λ (n : ℕ). Some (get_or parts n d).line) back ∙ sym (there_at (λ (p : Part). p.line) parts k (get_or parts k d) d (omega (arith, few)) refl)

-- ---- all files have as many rooms

all_more : (p : SampleFile → Bool) (files : List SampleFile) (file : SampleFile) → list_all p files ≡ true → p file ≡ true → list_all p (files ++ file ∷ []) ≡ true
all_more p [] file all is = ap (λ (b : Bool). b && true) is
all_more p (first ∷ files) file all is =
    let parts = both (p first) (list_all p files) all in
    ap₂ (λ (a b : Bool). a && b) parts.0 (all_more p files file parts.1 is)
  where
    both : (a b : Bool) → (a && b) ≡ true → (a ≡ true) × (b ≡ true)
    both true b is = (refl, is)
    both false b is = absurd cc

pub one_has : (rooms : ℕ) (files : List SampleFile) (i : ℕ) (file d : SampleFile) → i < length files → file ≡ get_or files i d → length file.parts.items ≡ rooms → list_all (λ f. length f.parts.items == rooms) (take i files) ≡ true
    → list_all (λ f. length f.parts.items == rooms) (take (i + 1) files) ≡ true
one_has rooms files i file d less is many all =
    let p : SampleFile → Bool = λ f. length f.parts.items == rooms in
    let same : p file ≡ true = grind (arith, many) in
    ap (list_all p) (take_more files i d less) ∙ all_more p (take i files) (get_or files i d) all (ap p (sym is) ∙ same)

-- ---- each text has its file

pub one_file : (texts : List (List ℕ)) (index : ℕ) (files : List Placed) (text : List ℕ) (file : Placed) → AreFilesOf texts index files → IsFileOf text (index + length texts) file → AreFilesOf (texts ++ text ∷ []) index (files ++ file ∷ [])
one_file [] index [] text file are is = (subst (λ (n : ℕ). IsFileOf text n file) (let n : index + 0 ≡ index = omega arith in n) is, tt)
one_file (first ∷ texts) index (one ∷ files) text file are is =
    (are.0, one_file texts (index + 1) files text file are.1 (subst (λ (n : ℕ). IsFileOf text n file) (let n : index + suc (length texts) ≡ (index + 1) + length texts = omega arith in n) is))
one_file [] index (one ∷ files) text file are is = absurd are
one_file (first ∷ texts) index [] text file are is = absurd are

-- ---- in their order

samples_are : (files : List SampleFile) → map (λ (file : Placed). file.samples) (map placed_of files) ≡ map parts_of files
samples_are [] = refl
samples_are (file ∷ files) = ap (λ (rest : List (List RoomSample)). parts_of file ∷ rest) (samples_are files)

pub indices_are : (files : List SampleFile) → map (λ (file : Placed). file.index) (map placed_of files) ≡ map (λ (file : SampleFile). file.index) files
indices_are [] = refl
indices_are (file ∷ files) = ap (λ (rest : List ℕ). file.index ∷ rest) (indices_are files)

first_ones : (n : ℕ) (files : List SampleFile) → take n (map placed_of files) ≡ map placed_of (take n files)
first_ones zero files = refl
first_ones (suc n) [] = refl
first_ones (suc n) (file ∷ files) = ap (λ (rest : List Placed). placed_of file ∷ rest) (first_ones n files)

pub does_not_follow : (files : List SampleFile) (i room other : ℕ) (file d : SampleFile) (part p : Part) (reason : Reason) (sum : RoomSample) → i < length files → file ≡ get_or files i d → room < length file.parts.items → part ≡ get_or file.parts.items room p
    → slice_get (map (λ (f : SampleFile). f.index) files) (i - 1) ≡ Some other → IsSummed room (map parts_of files) (map parts_of (take i files)) sum → IsOutOfStep reason sum (sample_of part)
    → DoesNotFollowIn (map placed_of files) (record { file = file.index; line = part.line; other = other; reason = reason })
does_not_follow files i room other file d part p reason sum less is within part_is before are out =
    let all = samples_are files in
    let some : map (λ (f : Placed). f.samples) (take i (map placed_of files)) ≡ map parts_of (take i files) = ap (map (λ (f : Placed). f.samples)) (first_ones i files) ∙ samples_are (take i files) in
    record {
      place = i;
      here = placed_of file;
      here_is = there_at placed_of files i file d less is;
      file_is = refl;
      other_is = ap (λ (l : List ℕ). slice_get l (i - 1)) (indices_are files) ∙ before;
      room = room;
      part = sample_of part;
      part_is = there_at sample_of file.parts.items room part p within part_is;
      line_is = there_at (λ (q : Part). q.line) file.parts.items room part p within part_is;
      first = are.first;
      first_is = ap (λ (l : List (List RoomSample)). slice_get (parts_at room l) 0) all ∙ first_there room (map parts_of files) are.first are.first_is;
      follow = subst (λ (l : List (List RoomSample)). DoEachFollow (none_of are.first) (parts_at room l)) (sym some) are.added.follow;
      reason = subst (λ (l : List (List RoomSample)). IsOutOfStep reason (sum_of are.first (parts_at room l)) (sample_of part)) (sym some) (subst (λ (s : RoomSample). IsOutOfStep reason s (sample_of part)) are.added.sum_is out);
    }

pub has_other_rooms : (files : List SampleFile) (i rooms line : ℕ) (file first d : SampleFile) → i < length files → file ≡ get_or files i d → slice_get files 0 ≡ Some first → rooms ≡ length first.parts.items → (length file.parts.items ≡ rooms → ⊥)
    → Some line ≡ line_by (min rooms (length file.parts.items)) (map (λ (p : Part). p.line) file.parts.items) → HasOtherRoomsIn (map placed_of files) (record { file = file.index; line = line; other = first.index; reason = OtherRooms })
has_other_rooms files i rooms line file first d less is there rooms_are other line_is =
    let here = length-map file.parts.items sample_of in
    let firsts = length-map first.parts.items sample_of in
    let fewest : min (length (map sample_of file.parts.items)) (length (map sample_of first.parts.items)) ≡ min rooms (length file.parts.items) = omega (arith, here, firsts, rooms_are) in
    record {
      place = i;
      here = placed_of file;
      here_is = there_at placed_of files i file d less is;
      file_is = refl;
      first = placed_of first;
      first_is = first_placed files there;
      other_is = refl;
      reason_is = refl;
      differ = λ same. other (omega (arith, same, here, firsts, rooms_are));
      line_is = ap (λ (n : ℕ). line_by n (map (λ (p : Part). p.line) file.parts.items)) fewest ∙ sym line_is;
    }
  where
    first_placed : (all : List SampleFile) → slice_get all 0 ≡ Some first → slice_get (map placed_of all) 0 ≡ Some (placed_of first)
    first_placed [] at = absurd (let none : None ≡ Some first = at in cc)
    first_placed (one ∷ all) at = ap (λ (o : Option SampleFile). some_placed o) at
      where
        some_placed : Option SampleFile → Option Placed
        some_placed None = None
        some_placed (Some f) = Some (placed_of f)

pub first_slot : (files : List SampleFile) (d : SampleFile) → 0 < length files → slice_get files 0 ≡ Some (get_or files 0 d)
first_slot [] d some = absurd (omega (arith, some))
first_slot (file ∷ files) d some = refl

pub why_refused : (P Q : BadPart → Type 0) → ((bad : BadPart) → P bad → Q bad) → (fault : SumFault) → WhyRefused P fault → WhyRefused Q fault
why_refused P Q f Memory why = tt
why_refused P Q f (Bad bad) why = f bad why

pub read_more : (texts : List (List ℕ)) (files : List Placed) (index : ℕ) (text : List ℕ) (file : Placed) (all : List (List ℕ)) (after : List Placed) → AreFilesOf texts 0 files → length texts ≡ index → IsFileOf text index file → all ≡ texts ++ text ∷ [] → after ≡ files ++ file ∷ [] → AreFilesOf all 0 after
read_more texts files index text file all after are count is more more_files =
    subst (λ (t : List (List ℕ)). AreFilesOf t 0 after) (sym more)
    (subst (λ (f : List Placed). AreFilesOf (texts ++ text ∷ []) 0 f) (sym more_files)
    (one_file texts 0 files text file are (subst (λ (n : ℕ). IsFileOf text n file) (let n : index ≡ 0 + length texts = omega (arith, count) in n) is)))

-- ---- all of it

pub in_order : (texts : List (List ℕ)) (read ordered : List SampleFile) → AreFilesOf texts 0 (map placed_of read) → IsPermutation read ordered → AreRising (map placed_of ordered) → IsInOrder texts (map placed_of ordered)
in_order texts read ordered are all rising = record { files = map placed_of read; read = are; all_ordered = IsPermutation-map placed_of read ordered all; rising = rising }

as_many_each : (rooms count : ℕ) (files : List SampleFile) → count ≡ rooms → list_all (λ f. length f.parts.items == rooms) files ≡ true → list_all (λ (f : Placed). length f.samples == count) (map placed_of files) ≡ true
as_many_each rooms count files same all = sym (each files) ∙ all
  where
    each : (files : List SampleFile) → list_all (λ f. length f.parts.items == rooms) files ≡ list_all (λ (f : Placed). length f.samples == count) (map placed_of files)
    each [] = refl
    each (file ∷ files) = ap₂ (λ (a b : Bool). a && b) (ap₂ (λ (n m : ℕ). n == m) (sym (length-map file.parts.items sample_of)) (sym same)) (each files)

pub sum_is : (texts : List (List ℕ)) (ordered : List SampleFile) (rooms : ℕ) (totals : List RoomSample) → IsInOrder texts (map placed_of ordered) → list_all (λ f. length f.parts.items == rooms) ordered ≡ true → length totals ≡ rooms → AreTotals (map parts_of ordered) totals → IsSum texts totals
sum_is texts ordered rooms totals order all count are = record {
  ordered = map placed_of ordered;
  order = order;
  same_rooms = as_many_each rooms (length totals) ordered count all;
  each = subst (λ (files : List (List RoomSample)). AreTotals files totals) (sym (samples_are ordered)) are;
}

pub other_rooms_bad : (texts : List (List ℕ)) (ordered files : List SampleFile) (bad : BadPart) → IsInOrder texts (map placed_of ordered) → files ≡ ordered → HasOtherRoomsIn (map placed_of files) bad → IsBad texts bad
other_rooms_bad texts ordered files bad order same has = inr (map placed_of ordered, order, inl (subst (λ (f : List SampleFile). HasOtherRoomsIn (map placed_of f) bad) same has))

not_following : (texts : List (List ℕ)) (ordered files : List SampleFile) → IsInOrder texts (map placed_of ordered) → files ≡ ordered → (fault : SumFault) → WhyRefused (DoesNotFollowIn (map placed_of files)) fault → IsRefused texts fault
not_following texts ordered files order same fault why =
    why_refused (DoesNotFollowIn (map placed_of files)) (IsBad texts) (λ bad does. inr (map placed_of ordered, order, inr (subst (λ (f : List SampleFile). DoesNotFollowIn (map placed_of f) bad) same does))) fault why

pub err_refused : {A : Type 0} (result : Result A SumFault) (texts : List (List ℕ)) (ordered files : List SampleFile) → IsInOrder texts (map placed_of ordered) → files ≡ ordered → IfErr result (WhyRefused (DoesNotFollowIn (map placed_of files))) → IfErr result (IsRefused texts)
err_refused (Ok answer) texts ordered files order same why = tt
err_refused (Err fault) texts ordered files order same why = not_following texts ordered files order same fault why
