-- "A search halves the stock until one cartridge is left": what the descent assumes of a node, and what it finds below it.
use Rattle.std.specs.Prelude.{List, ℕ, zero, suc, ◌+◌, ◌*◌, ◌^◌, ◌≤◌, ◌<◌}
use Rattle.tournament.specs.Trees.{row_words, node, Right}

-- Every node below node n, so many levels down to the leaves, is right, and so is n.
unfoldable pub Under : (t : List ℕ) (b n height : ℕ) → Type 0
Under t b n zero = Unit {0}
Under t b n (suc h) = Right t b n × (Under t b (2 * n) h × Under t b (2 * n + 1) h)

-- The leaves below node n are those from n * 2 ^ h to (n + 1) * 2 ^ h.
pub record Descent (t : List ℕ) (b n h need : ℕ) : Type 0 where
  pub under : Under t b n h
  pub room : b + (n + 1) * 2 ^ h ≤ row_words
  pub enough : need ≤ node t b n

-- r is the first of the leaves below node n that holds need or more.
pub record First (t : List ℕ) (b n h need r : ℕ) : Type 0 where
  pub low : n * 2 ^ h ≤ r
  pub high : r < (n + 1) * 2 ^ h
  pub enough : need ≤ node t b r
  pub before : (k : ℕ) → n * 2 ^ h ≤ k → k < r → node t b k < need
