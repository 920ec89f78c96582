-- A notation that was written, read, is written as it was.
use Rattle.std.specs.Prelude.{Bool, ◌≡◌, ℤ}
use Rattle.rules.specs.declared.Notation.{Notation}
use Rattle.rules.specs.Answers.{values}
use Rattle.rules.specs.Notation.{read_notation, write_notation}
use Rattle.notation.specs.Return.{read_then_write, zero_written}

module _ (longitude : Bool) (z : ℤ) (n : Notation) (h : write_notation longitude z ≡ values n) where
  -- A written notation, read, is written as it was.
  pub written_again : (w : ℤ) → read_notation longitude n ≡ values w → write_notation longitude w ≡ values n
  written_again w read = read_then_write longitude n w read (zero_written longitude z n h)
