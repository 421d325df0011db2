-- The letters, the starred labels and the labels of requests 1, 4 and 12, by computation.
-- Assumes nothing.
use mathlib.Core.Path.{◌≡◌, refl}
use mathlib.Core.List.{[], ◌∷◌}
use Rattle.paper.specs.Iso15417.{points}
use Rattle.paper.specs.Crate.{À, Ɓ, Ć, Ź, ź, Ż, ż, Ž, ÷}
use Rattle.paper.proofs.Computes.{labels_computes}
use Rattle.paper.specs.Labels.{answered, expected, starred, shift_answered, shift_expected, shift_labels, retired_labels, unpack_answered, unpack_expected, unpack_labels}

pub points_named : points "ÀƁĆŹźŻżŽ÷" ≡ À ∷ Ɓ ∷ Ć ∷ Ź ∷ ź ∷ Ż ∷ ż ∷ Ž ∷ ÷ ∷ []
unfolding points
points_named = refl

pub labels : answered starred ≡ expected starred
unfolding labels_computes
labels = refl

pub shift_labels_lem : shift_answered shift_labels ≡ shift_expected shift_labels
unfolding labels_computes
shift_labels_lem = refl

pub retired_labels_lem : answered retired_labels ≡ expected retired_labels
unfolding labels_computes
retired_labels_lem = refl

pub unpack_labels_lem : unpack_answered unpack_labels ≡ unpack_expected unpack_labels
unfolding labels_computes
unpack_labels_lem = refl
