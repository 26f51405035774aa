use Rattle.bend_file.specs.Little as little
use Rattle.bend_file.proofs.Bytes.{number64}
use Rattle.bend_file.proofs.little.f64_at.Goals as goal

pub returns : goal.returns
unfolding little.value
returns c = rw (c.f64_from_bits_with_nan.ensures, c.from_le_bytes-bits.ensures, c.bytes_at.ensures, number64)
