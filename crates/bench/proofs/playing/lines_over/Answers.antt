use Rattle.std.proofs.Common.{vec_items}
use Rattle.std.proofs.lemmas.Result.{IfOk-weaker}
use Rattle.bench.proofs.Printing.{printed_so}
use Rattle.bench.proofs.playing.lines_over.Goals as goal

pub returns-in-Ok-play : goal.returns-in-Ok-play
returns-in-Ok-play g c =
    IfOk-weaker c.numbered.result _ _
    (λ lines e. rw c.in-Ok.is (printed_so _ _ _ _ _ _ _ _ _ (vec_items lines) (cc c.in_ok-table.ensures) c.as_slice.ensures.value c.in-Ok-play.ensures e))
    c.numbered.ensures
