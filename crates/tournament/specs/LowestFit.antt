-- The lowest place of a plain list whose value is at least what is needed, or none.
use Rattle.std.specs.Prelude.{List, ℕ, leb, Option}
use Rattle.std.specs.List.{position}

unfoldable pub lowest_fit : (need : ℕ) → List ℕ → Option ℕ
lowest_fit need vs = position (leb need) vs
