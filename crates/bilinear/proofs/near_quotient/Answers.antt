-- `bilinear::near_quotient` meets its contract: the mix of both rows fits 64 bits, so it is divided as it is.
use Rattle.bilinear.proofs.Near.{rows_mixable}
use Rattle.bilinear.proofs.near_quotient.Goals as goal

pub mix-sum-requires : goal.mix-sum-requires
mix-sum-requires c =
    let pre = c.requires in
    rw c.mixed-rows.ensures (rows_mixable pre.0 pre.1 pre.2)
