-- The shape of a tree: "a tree's places number the least power of two not below the stock", or whatever else bounds the bins that it shows.
use Rattle.std.specs.Prelude.{◌≡◌, ℕ, ◌^◌, ◌≤◌}
use Rattle.tournament.specs.declared.Shape.{Shape}

pub record Fitted (bins : ℕ) (shape : Shape) : Type 0 where
  pub power : shape.places ≡ 2 ^ shape.height
  pub enough : bins ≤ shape.places
  pub least : (k : ℕ) → bins ≤ 2 ^ k → shape.height ≤ k
