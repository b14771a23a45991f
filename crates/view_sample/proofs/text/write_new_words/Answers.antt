use Rattle.std.proofs.Common.{◌≡◌, ◌∙◌, ◌++◌, List, ℕ, ap}
use Rattle.std.specs.Prelude.{codes}
use Rattle.std.proofs.lemmas.List.{append_assoc}
use Rattle.indexmap.proofs.MapLemmas.{OnOk-map}
use Rattle.view_sample.specs.Texts.{number_line, number_words}
use Rattle.view_sample.proofs.text.write_new_words.Goals as goal

four : (old a b c d one two three after : List ℕ) → one ≡ old ++ a → two ≡ one ++ b → three ≡ two ++ c → after ≡ three ++ d → after ≡ old ++ (a ++ (b ++ (c ++ d)))
four old a b c d one two three after first second third last =
    last ∙ ap (λ (t : List ℕ). t ++ d) (third ∙ ap (λ (t : List ℕ). t ++ c) (second ∙ ap (λ (t : List ℕ). t ++ b) first))
    ∙ append_assoc ((old ++ a) ++ b) c d ∙ append_assoc (old ++ a) b (c ++ d) ∙ append_assoc old a (b ++ (c ++ d))

pub returns : goal.returns
returns c =
    OnOk-map c.write_more.result _ _
    (λ is.
    four c.args.output.now (number_line c.args.name.now (codes " has") c.args.count (codes " outcomes,")) (number_words c.args.once (codes " of them once: about")) (number_words c.args.once (codes " in")) (number_words c.args.schedules (codes " more schedules give a new one\n"))
    c.write_count.new.output c.write_once.new.output c.write_in.new.output c.write_more.new.output c.in_ok-write_count.ensures c.in_ok-write_once.ensures c.in_ok-write_in.ensures is)
    c.write_more.ensures
