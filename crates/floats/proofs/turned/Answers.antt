-- `floats::turned` meets its contract: the sign's bit is turned.
use Rattle.std.proofs.Common.{ap, ◌∙◌, ◌+◌, ◌^◌}
use Rattle.rules.specs.declared.FloatFormat.{FloatFormat}
use Rattle.floats.proofs.Turning.{turned_lem}
use Rattle.floats.proofs.turned.Goals as goal

pub returns : goal.returns
returns g c =
    turned_lem g.F.Float.FORMAT c.args.bits _
    (c.power_of_two.ensures.is ∙ ap (λ (f : FloatFormat). 2 ^ (f.fraction + f.exponent)) c.FORMAT-f.ensures)
