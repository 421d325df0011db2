-- Document 01's example, by computation.
-- Assumes nothing.
use mathlib.Core.Path.{◌≡◌, refl}
use Rattle.paper.specs.Iso15417.{points}
use Rattle.lines.specs.Lines.{output}
use Rattle.lines.proofs.Computes.{lines_computes}

pub example : output (points "C0\n106 31 32\n\n106 31\nD800\nC0 zz\n")
    ≡ points "0 1 11010000100110110011001100011101011\n0 2 1101001110010110011100100110011101100011101011\n2 0\n3 2\n1 0\n?\n"
unfolding lines_computes
example = refl
