use Rattle.std.specs.Prelude.{codes}
use Rattle.view_grade.specs.Keeping.{moment_words, place_words}
use Rattle.view_grade.proofs.Texts.{in_four}
use Rattle.view_grade.proofs.kept_text.write_broken.Goals as goal

pub returns : goal.returns
returns c =
    in_four c.put-2.result c.args.output.now (place_words c.args.name.now c.args.line) (codes ": ") (moment_words c.args.moment.now) (codes "\n") c.write_place.new.output c.put.new.self c.write_moment.new.output c.put-2.new.self
    c.in_ok-write_place.ensures c.in_ok-put.ensures.text c.in_ok-write_moment.ensures c.put-2.ensures.text
