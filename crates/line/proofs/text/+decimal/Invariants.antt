-- The measure of `line::text::decimal`: the number falls.
use Rattle.line.proofs.text.+decimal.Given as goal

abbrev pub decreases-decimal : goal.decreases-decimal
decreases-decimal l = l.n
