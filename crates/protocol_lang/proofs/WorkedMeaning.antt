-- What expressions mean where a snapshot shows nothing, and where it shows two processes of three; and what texts are numbers.
use Rattle.std.proofs.Common.{◌≡◌, List, [], ◌∷◌, Some, None, map, refl}
use Rattle.std.specs.Prelude.{codes}
use Rattle.protocol_lang.specs.Numbers.{number_of}
use Rattle.protocol_lang.specs.Trees.{Expression, Number, Named, Calling, Operating}
use Rattle.protocol_lang.specs.Meaning.{Environment, value_of}
use Rattle.protocol_lang.specs.declared.tree.Name.TheVariants.{Input, Id, N, Round, Mine, Count, Min, Max}
use Rattle.protocol_lang.specs.declared.tree.Call.TheVariants.{Cell, Seen, Equal}
use Rattle.protocol_lang.specs.declared.tree.Operator.TheVariants.{Subtract}

abbrev of_nothing : Environment
of_nothing = record { input = 5; id = 1; processes = 3; round = 4; view = None ∷ None ∷ None ∷ [] }

abbrev of_two : Environment
of_two = record { input = 5; id = 1; processes = 3; round = 4; view = None ∷ Some 8 ∷ Some 6 ∷ [] }

abbrev names : List Expression
names = Named Min ∷ Named Max ∷ Named Count ∷ Named Mine ∷ Named N ∷ Named Id ∷ Named Input ∷ Named Round ∷ []

names_of_nothing : map (λ e. value_of e of_nothing) names ≡ 0 ∷ 0 ∷ 0 ∷ 0 ∷ 3 ∷ 1 ∷ 5 ∷ 4 ∷ []
names_of_nothing = refl

names_of_two : map (λ e. value_of e of_two) names ≡ 6 ∷ 8 ∷ 2 ∷ 8 ∷ 3 ∷ 1 ∷ 5 ∷ 4 ∷ []
names_of_two = refl

-- cell(0), cell(2), cell(3) and cell(cell(n - 1) - 5)
abbrev cells : List Expression
cells = Calling Cell (Number 0) ∷ Calling Cell (Number 2) ∷ Calling Cell (Number 3) ∷ Calling Cell (Operating Subtract (Calling Cell (Operating Subtract (Named N) (Number 1))) (Number 5)) ∷ []

cells_of_nothing : map (λ e. value_of e of_nothing) cells ≡ 0 ∷ 0 ∷ 0 ∷ 0 ∷ []
cells_of_nothing = refl

cells_of_two : map (λ e. value_of e of_two) cells ≡ 0 ∷ 6 ∷ 0 ∷ 8 ∷ []
cells_of_two = refl

-- seen(0), seen(1) and seen(4294967295); equal(8) and equal(0)
abbrev tests : List Expression
tests = Calling Seen (Number 0) ∷ Calling Seen (Number 1) ∷ Calling Seen (Number 4294967295) ∷ Calling Equal (Number 8) ∷ Calling Equal (Number 0) ∷ []

tests_of_nothing : map (λ e. value_of e of_nothing) tests ≡ 0 ∷ 0 ∷ 0 ∷ 0 ∷ 0 ∷ []
tests_of_nothing = refl

tests_of_two : map (λ e. value_of e of_two) tests ≡ 0 ∷ 1 ∷ 0 ∷ 1 ∷ 0 ∷ []
tests_of_two = refl

numbers : map number_of (codes "0" ∷ codes "4294967296" ∷ codes "99999999999999999999" ∷ []) ≡ Some 0 ∷ Some 4294967296 ∷ Some 99999999999999999999 ∷ []
numbers = refl

no_numbers : map number_of (codes "007" ∷ codes "1a" ∷ codes "" ∷ []) ≡ None ∷ None ∷ None ∷ []
no_numbers = refl
