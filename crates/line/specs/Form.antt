-- How the code's types of src/form.rt are read as those of Line.antt. Nobody audits this.
-- Assumes nothing.
use Rattle.std.specs.Prelude.{◌≤◌, ◌≡◌, Option, Some, None}
use Rattle.std.specs.Borrow.{Bor}
use Rattle.helpers.specs.Prelude.{ℕ, List, length}
use Rattle.line.specs.Line as Paper
use Rattle.line.specs.Line.{hex, blank, neither, goes_on, point_ends, misplaced, code_points, other_form}
use Rattle.line.specs.declared.form.Kind.{Kind}
use Rattle.line.specs.declared.form.Kind.TheVariants.{Hex, Blank, Neither}
use Rattle.line.specs.declared.form.Effect.{Effect}
use Rattle.line.specs.declared.form.Effect.TheVariants.{GoesOn, PointEnds}

-- what the code says of a byte
abbrev pub as_kind : Kind → Paper.Kind
as_kind (Hex d) = hex d
as_kind Blank = blank
as_kind Neither = neither

-- what the code says that a byte does
abbrev pub as_effect : Option Effect → Paper.Effect
as_effect (Some (GoesOn n)) = goes_on n.digits n.value
as_effect (Some PointEnds) = point_ends
as_effect None = misplaced

-- what `code_points` returns: the line's code points, or none for a line of another form
abbrev pub Formed : Option (Bor (List ℕ)) → Paper.Content → Type 0
Formed (Some p) f = (f ≡ code_points p.now) × (length p.now ≤ 2048)
Formed None f = f ≡ other_form
