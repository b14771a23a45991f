use Rattle.std.proofs.Common.{ℕ, subst, sym, ◌/◌, ◌%◌, ◌+◌}
use Rattle.room_spec.specs.Shapes.{sizes_of}
use Rattle.view_table.specs.declared.place.Place.TheVariants.{View}
use Rattle.view_table.specs.Places.{IsPlaceAt, views_from}
use Rattle.view_table.proofs.PlaceLemmas.{in_views}
use Rattle.view_table.proofs.inverse.view_at.Goals as goal

pub returns : goal.returns
returns c = let sizes = sizes_of c.args.shape.now in
    subst (λ (words : ℕ). IsPlaceAt sizes (View (c.args.at / words / c.args.shape.now.rounds / c.args.shape.now.n) (c.args.at / words / c.args.shape.now.rounds % c.args.shape.now.n) (c.args.at / words % c.args.shape.now.rounds + 1) (c.args.at % words)) (views_from sizes + c.args.at))
    (sym c.memory_words-words.ensures.value) (in_views sizes c.args.at c.requires)
