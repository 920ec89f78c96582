-- `ntv2::all_shifts_fit` meets its contract.
use Rattle.std.proofs.Common.{refl, ◌∙◌, rules, arith}
use Rattle.std.proofs.lemmas.Iterator.{YieldsList-from_range}
use Rattle.std.proofs.lemmas.Iterator.Search.{all_from_yields_List}
use Rattle.rules.specs.Ntv2.{shifts_fit, all_shifts_fit}
use Rattle.floats.proofs.Every.{all_is_every}
use Rattle.ntv2.proofs.all_shifts_fit.Goals as goal

pub returns : goal.returns
unfolding all_shifts_fit
returns c =
    let n = c.args.nodes in
    let t = shifts_fit c.args.grid.now in
    all_from_yields_List t _ _ _ c.all.ensures.ran (YieldsList-from_range 0 n n refl (omega arith)) (λ x b q k. search rules) ∙ all_is_every n t
