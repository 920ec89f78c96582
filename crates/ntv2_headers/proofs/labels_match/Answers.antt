-- `ntv2_headers::labels_match` meets its contract: the table's comparison, whatever the labels.
use Rattle.std.proofs.Common.{Bool, ℕ, ◌+◌, ◌*◌, eqb, get_or, refl, ◌∙◌, rules}
use Rattle.std.proofs.lemmas.Iterator.{YieldsList-from_range}
use Rattle.std.proofs.lemmas.Iterator.Search.{all_from_yields_List}
use Rattle.rules.specs.Ntv2.{text_at, labels, labelled}
use Rattle.floats.proofs.Every.{all_is_every}
use Rattle.ntv2_headers.proofs.labels_match.Goals as goal

pub returns : goal.returns
unfolding labelled
returns c =
    let a = c.args in
    let t : ℕ → Bool = λ n. eqb (text_at a.part.now (16 * n)) (get_or labels (a.first + n) 0) in
    all_from_yields_List t _ _ _ c.all.ensures.ran (YieldsList-from_range 0 11 11 refl refl) (λ x b q k. search rules) ∙ all_is_every 11 t
