use Rattle.std.proofs.Common.{rules}
use Rattle.std.proofs.lemmas.Result.{on_ok_weaker}
use Rattle.std.proofs.lemmas.List.Sorted.{answers_always}
use Rattle.view_sum.specs.Files.{first_number, parts_of}
use Rattle.view_sum.proofs.Ranking.{rising}
use Rattle.view_sum.proofs.sum.sort_files.Goals as goal

pub returns-clause-rising : goal.returns-clause-rising
returns-clause-rising c = on_ok_weaker c.sort_by_key.result (λ sorted. rising c.sort_by_key.new.self.items (sorted (λ file. first_number (parts_of file)) (answers_always _ _ _ (λ f a r g h. search rules)))) c.sort_by_key.ensures.sorted
