use Rattle.std.proofs.Common.{◌≡◌, ◌∷◌, [], ℕ, List, ◌+◌, ◌≤◌, length}
use Rattle.std.specs.Io.KnownBytes.{Appends}
use Rattle.io_text.specs.Devices.{failed_writes}
use Rattle.bgview.specs.Ends.{is_write_failed}
use Rattle.bgview.specs.Pages.{IsPageAnswer}
use Rattle.bgview.proofs.Reading.{of_both}
use Rattle.bgview.proofs.engine.pages_io.Goals as goal

pub returns-clause-text : goal.returns-clause-text
returns-clause-text g c =
    of_both
    (λ (file next : List ℕ).
    (output : List ℕ) × IsPageAnswer (file ∷ next ∷ []) c.write_both.result output
    × Appends (g.W.Write.contents c.args.writer.now.inner) (g.W.Write.contents c.write_both.new.writer.inner) output
    × (c.write_both.new.writer.calls ≤ c.args.writer.now.calls + length output + failed_writes (is_write_failed c.write_both.result)))
    (g.R.Read.remaining c.args.first.now.reader.inner) (g.S.Read.remaining c.args.second.now.reader.inner) c.deref.result.now c.deref-2.result.now c.in_ok-file.file.items c.in_ok-next.next.items
    c.in_ok-file.ensures.whole c.in_ok-next.ensures.whole c.deref.ensures.value c.deref-2.ensures.value c.write_both.ensures.text
