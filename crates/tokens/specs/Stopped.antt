-- What encode answers where parsing stops.
-- Document 01, "Encode: 1, 2, 3, 4, 5, each over the whole input before the next." Assumes nothing.
use Rattle.std.specs.Prelude.{ℕ, List, leb}
use Rattle.helpers.specs.Answers.{Answer, refuse, ◌then◌, ask, every}
use Rattle.paper.specs.Crate.{is_scalar, utf8_bytes}

-- 1, 2, and else 3 at the place
unfoldable pub stopped_at : List ℕ → ℕ → Answer
stopped_at x at = every is_scalar 1 0 x then ask (leb 2 (utf8_bytes x)) 2 0 then refuse 3 at
