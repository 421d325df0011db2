use Rattle.line.proofs.Forms.{Forming}
use Rattle.line.proofs.form.read_points.Given as goal

abbrev pub invariant-loop-b : goal.invariant-loop-b
invariant-loop-b l = Forming l.line l.initial.text l.text l.number.digits l.number.value l.n l.b-index
