-- A list call that is not refused gives each fix the answer of the single conversion over the same image.
use mathlib.Core.List.{List}
use mathlib.Core.Path.{◌≡◌, sym, ap, ◌∙◌}
use Prim.Native.Nat.{ℕ}
use lib.IntN.{ℤ}
use lib.ListN.{length}
use Rattle.rules.specs.declared.Way.{Way}
use Rattle.rules.specs.declared.Way.TheVariants as way
use Rattle.rules.specs.Answers.{values}
use Rattle.rules.specs.Image.{grid_of}
use Rattle.rules.specs.Lists.{answers_of, question14, convert_list, list_out, list_back}
use Rattle.rules.specs.Questions.{opening}
use Rattle.rules.specs.Ways.{source_of, convert_over, convert, way_back, way_out}
use Rattle.rules.proofs.Answers.{asked, followed}
use Rattle.fixes.specs.Content.{Content}
use Rattle.fixes.proofs.Lengths.{same_n}
use Rattle.fixes.proofs.Answers.{answers_long, answers_at}

module _ (b : List ℕ) (fixes answers l : List ℤ) where
  content : (w : Way) → convert_list w b fixes answers ≡ values l → Content (convert w b) fixes answers l
  unfolding convert_list convert
  content w e =
      let f = followed (opening b) _ l e in
      let a = asked (question14 (length fixes) (length answers)) 14 _ l f.2 in
      let n = same_n (length fixes) (length answers) a.0 in
      let single = convert_over w (source_of (grid_of b f.0)) in
      let m : answers_of single fixes ≡ l = cc in
      record {
        same_length = sym (ap length m) ∙ answers_long single fixes _ n.0 ∙ sym n.1;
        each = λ k h. rw f.1 (rw m at (answers_at single fixes k h));
      }

  pub out_content : list_out b fixes answers ≡ values l → Content (way_out b) fixes answers l
  out_content = content way.Out

  pub back_content : list_back b fixes answers ≡ values l → Content (way_back b) fixes answers l
  back_content = content way.Back
