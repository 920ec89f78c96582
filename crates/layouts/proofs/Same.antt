-- Document 02, note 8, for readers: what a conversion between kinds 0 and 3 leaves in its buffer, burned after anything, is an image with
-- the same nodes; it answers every conversion, the check and every list as the image that was converted does; and the conversion back gives
-- the bytes of that image from its first node on. Images of these kinds with the same nodes answer alike in any case.
use Rattle.std.specs.Prelude.{Bool, true, false, not, List, ◌++◌, ◌≡◌, ℕ, ◌-◌, length, drop}
use Rattle.std.proofs.Math.Bool.{not-not}
use Rattle.std.proofs.Common.{sym, ap, subst, ◌∙◌}
use Rattle.rules.specs.Answers.{values, ask}
use Rattle.rules.specs.Image.{correction_back_of}
use Rattle.rules.specs.Ways.{Source, convert_over, convert}
use Rattle.rules.specs.Check.{grid_check}
use Rattle.rules.specs.Lists.{question14, answers_of, convert_list}
use Rattle.rules.specs.Planes.{planes_from_nodes, nodes_from_planes}
use Rattle.rules.proofs.Opening.{opened}
use Rattle.layouts.specs.Directions.{conversion_to}
use Rattle.layouts.proofs.SameNodes.{sources_same, checks_same}
use Rattle.layouts.proofs.KindLaws.{opens_again}
use Rattle.layouts.proofs.Converted.{opens_converted, nodes_kept, back_again}
use Rattle.layouts.proofs.Conversions.{gave, converts}
use Rattle.layouts.specs.Same.{SameAnswers, SameContent}

-- Images of kinds 0 and 3 with the same nodes, in whichever layout, answer alike.
pub same_nodes_answer_alike : (b b' : List ℕ) → SameContent b b' → SameAnswers b b'
unfolding convert grid_check convert_list
same_nodes_answer_alike b b' s =
    let passes = opened b' s.layout' s.opens' in
    let sources = sources_same s.nodes passes.latitude.geometry passes.height.geometry in
    record {
      conversions = λ w p h. rw (s.opens, s.opens') (ap (λ (x : Source). convert_over w x p h) sources);
      checks = rw (s.opens, s.opens') (checks_same s.nodes passes.latitude.geometry passes.height.geometry);
      lists =
          λ w fixes answers.
          rw (s.opens, s.opens')
          (ap (λ (x : Source). ask (question14 (length fixes) (length answers)) 14 (values (answers_of (convert_over w x) fixes))) sources);
    }

-- ---- the conversion into either layout
module _ (written : Bool) (b x : List ℕ) (room : ℕ) (e : conversion_to written b room ≡ values x) (before : List ℕ) where
  same_content : SameContent b (before ++ x)
  same_content =
      let g = gave written b room x e in
      let there = opens_converted g.is_open written before in
      subst (λ (x : List ℕ). SameContent b (before ++ x)) g.bytes
      (record {
        layout = _;
        layout' = _;
        opens = opens_again g.is_open;
        opens' = opens_again there;
        nodes = nodes_kept g.is_open written before;
      })

  there_and_back : conversion_to (not written) (before ++ x) room ≡ values (drop (length b - room) b)
  there_and_back =
      let g = gave written b room x e in
      let there = opens_converted g.is_open written before in
      let again = converts (not written) (sym (not-not written)) there ∙ ap values (back_again g.is_open written before) in
      rw g.room_is
      (ap (λ (x : List ℕ). conversion_to (not written) (before ++ x) (correction_back_of g.c g.h)) (sym g.bytes) ∙ again)

-- ---- the theorems
module _ (b x : List ℕ) (room : ℕ) (before : List ℕ) where
  -- Kind 3 from kind 0, burned after anything, has the nodes of the image that it was made from;
  pub planes_have_the_nodes : planes_from_nodes b room ≡ values x → SameContent b (before ++ x)
  planes_have_the_nodes e = same_content true b x room e before

  -- and so has kind 0 from kind 3.
  pub nodes_have_the_nodes : nodes_from_planes b room ≡ values x → SameContent b (before ++ x)
  nodes_have_the_nodes e = same_content false b x room e before

  -- So each answers as the image that it was made from.
  pub planes_answer_alike : planes_from_nodes b room ≡ values x → SameAnswers b (before ++ x)
  planes_answer_alike e = same_nodes_answer_alike b (before ++ x) (planes_have_the_nodes e)

  pub nodes_answer_alike : nodes_from_planes b room ≡ values x → SameAnswers b (before ++ x)
  nodes_answer_alike e = same_nodes_answer_alike b (before ++ x) (nodes_have_the_nodes e)

  -- There and back gives the bytes that the first image has from its first node on, which are its last `room` bytes.
  pub planes_and_back : planes_from_nodes b room ≡ values x → nodes_from_planes (before ++ x) room ≡ values (drop (length b - room) b)
  planes_and_back e = there_and_back true b x room e before

  pub nodes_and_back : nodes_from_planes b room ≡ values x → planes_from_nodes (before ++ x) room ≡ values (drop (length b - room) b)
  nodes_and_back e = there_and_back false b x room e before
