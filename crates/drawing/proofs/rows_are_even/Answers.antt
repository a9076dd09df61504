use Rattle.std.proofs.Common.{◌^◌}
use Rattle.drawing.proofs.Bytes.{bytes}
use Rattle.drawing.proofs.Counts.{ways_are, rows, shares}
use Rattle.drawing.proofs.Sums.{remainders}
use Rattle.drawing.proofs.rows_are_even.Goals as goal

pub returns : goal.returns
returns c = record { remainders = remainders (2 ^ 32); ways = ways_are (2 ^ 32); rows = rows (2 ^ 32); shares = shares (2 ^ 32); bytes = bytes }
