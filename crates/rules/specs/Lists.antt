-- Document 01, "Lists of fixes", with question 14, and the number 100 of document 02's note 6. A fix is three numbers, an answer five.
use Rattle.std.specs.Prelude.{Bool, ◌&&◌, List, [], ◌∷◌, ◌++◌, ℕ, ◌*◌, ◌/◌, eqb, ℤ, pos, length}
use Rattle.rules.specs.declared.Point.{Point}
use Rattle.rules.specs.declared.Way.{Way}
use Rattle.rules.specs.declared.Way.TheVariants as way
use Rattle.rules.specs.Answers.{Outcome, values, number, ask, and_then, after}
use Rattle.rules.specs.Image.{grid_of}
use Rattle.rules.specs.Questions.{opening}
use Rattle.rules.specs.Ways.{Accepted, convert_over, source_of}

-- An answer: of an accepted fix latitude, longitude, height, count and 0, or 100 without a height; of a refused one four zeros and its
-- number.
abbrev pub five_of : Outcome Accepted → List ℤ
five_of (values a) = let p = a.position in p.latitude ∷ p.longitude ∷ p.height ∷ pos p.count ∷ pos a.number ∷ []
five_of (number n) = pos 0 ∷ pos 0 ∷ pos 0 ∷ pos 0 ∷ pos n ∷ []

-- The answers to all fixes, in their order, each by the same single conversion. One or two numbers left over, which question 14 excludes,
-- give none.
abbrev pub answers_of : (Point → ℤ → Outcome Accepted) → List ℤ → List ℤ
answers_of single (x ∷ y ∷ height ∷ rest) = five_of (single (record { latitude = x; longitude = y }) height) ++ answers_of single rest
answers_of single (x ∷ y ∷ []) = []
answers_of single (x ∷ []) = []
answers_of single [] = []

-- 14. Is the fixes' length 3 times some n, and the answers' length 5 times the same n?
unfoldable pub question14 : (fixes answers : ℕ) → Bool
question14 fixes answers = eqb fixes (3 * (fixes / 3)) && eqb answers (5 * (fixes / 3))

-- A list call: the answer list, or the number with which it is left unchanged.
unfoldable pub convert_list : Way → List ℕ → (fixes answers : List ℤ) → Outcome (List ℤ)
convert_list w b fixes answers =
    and_then (opening b) (λ l.
    ask (question14 (length fixes) (length answers)) 14
    (values (answers_of (convert_over w (source_of (grid_of b l))) fixes)))

abbrev pub list_out : List ℕ → (fixes answers : List ℤ) → Outcome (List ℤ)
list_out = convert_list way.Out

abbrev pub list_back : List ℕ → (fixes answers : List ℤ) → Outcome (List ℤ)
list_back = convert_list way.Back

-- What the answer list holds after a call.
abbrev pub after_out : List ℕ → (fixes answers : List ℤ) → List ℤ
after_out b fixes answers = after (list_out b fixes answers) answers

abbrev pub after_back : List ℕ → (fixes answers : List ℤ) → List ℤ
after_back b fixes answers = after (list_back b fixes answers) answers
