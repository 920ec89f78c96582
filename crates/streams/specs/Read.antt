-- How many bytes were read, of an image and of an input that is too long for one.
use Rattle.std.specs.Prelude.{Result, Ok, Err, ℕ}
use Rattle.streams.specs.declared.TooLong.{TooLong}

abbrev pub size_read : Result ℕ TooLong → ℕ
size_read (Ok size) = size
size_read (Err e) = e.size
