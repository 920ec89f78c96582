-- What opening an image says of the record, and of the image where it refuses.
--     found    the record has the image's bytes, and the layout that these open with
--     refused  the bytes do not open
use Rattle.std.proofs.Common.{◌≡◌, ℕ, List, ap, arith}
use Rattle.std.specs.Borrow.{Bor}
use Rattle.rules.specs.declared.Layout.{Layout}
use Rattle.rules.specs.Answers.{Outcome, values, number, mapped}
use Rattle.rules.specs.Questions.{opening}
use Rattle.opened.specs.declared.OpenedImage.{OpenedImage}
use Rattle.opened.specs.Over.{opened}

-- the record of bytes and a layout
abbrev made : Bor (List ℕ) → Layout → OpenedImage
made bytes l = record { bytes = bytes; layout = l }

pub record Found (b : List ℕ) (image : OpenedImage) : Type 0 where
  pub same : b ≡ image.bytes.now
  pub opens : opening b ≡ values image.layout

found_in : (bytes : Bor (List ℕ)) (o : Outcome Layout) (image : OpenedImage) → values image ≡ mapped (made bytes) o
    → (bytes.now ≡ image.bytes.now) × (o ≡ values image.layout)
found_in bytes (values l) image e =
    let k : made bytes l ≡ image = cc in
    (ap (λ (i : OpenedImage). i.bytes.now) k, ap (λ (i : OpenedImage). values i.layout) k)
found_in bytes (number n) image e = let z : ◌≡◌ {A = ℕ} 0 1 = cc in absurd (omega arith)

pub found : (bytes : Bor (List ℕ)) (image : OpenedImage) → values image ≡ opened bytes → Found bytes.now image
found bytes image e = let k = found_in bytes (opening bytes.now) image e in record { same = k.0; opens = k.1 }

refused_in : (bytes : Bor (List ℕ)) (o : Outcome Layout) (n : ℕ) → number n ≡ mapped (made bytes) o → o ≡ number n
refused_in bytes (values l) n e = let z : ◌≡◌ {A = ℕ} 0 1 = cc in absurd (omega arith)
refused_in bytes (number m) n e = let k : m ≡ n = cc in ap number k

pub refused : (bytes : Bor (List ℕ)) (n : ℕ) → number n ≡ opened bytes → opening bytes.now ≡ number n
refused bytes n e = refused_in bytes (opening bytes.now) n e
