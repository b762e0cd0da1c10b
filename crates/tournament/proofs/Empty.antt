-- A tree of zeros: it stands at every base that leaves room for it, and each of its places holds 0.
use mathlib.Core.Path.{◌≡◌, ◌∙◌}
use Prim.Native.Nat.{ℕ, ◌+◌, ◌*◌, ◌^◌, ◌≤◌, ◌<◌}
use native.Mathlib.Omega.{arith}
use lib.ListN.{get_or, replicate, length-replicate, get_or-replicate}
use Rattle.tournament.specs.declared.Shape.{Shape}
use Rattle.tournament.specs.Trees.{row_words, leaves, Tree}
use Rattle.tournament.proofs.Leaves.{leaf_node}

module _ (n : ℕ) (words : n ≡ row_words) (b : ℕ) (shape : Shape) (room : b + 2 * shape.places ≤ row_words) where
  zero_node : (j : ℕ) → b + j < row_words → ◌≡◌ {A = ℕ} (get_or (replicate n 0) (b + j) 0) 0
  zero_node j l = get_or-replicate n (b + j) 0 0 (omega arith)

  pub zero_tree : shape.places ≡ 2 ^ shape.height → Tree b shape (replicate n 0)
  zero_tree power = record {
    power = power;
    words = length-replicate n 0 ∙ words;
    room = room;
    right = λ j a l. rw (zero_node j (omega arith), zero_node (2 * j) (omega arith), zero_node (2 * j + 1) (omega arith));
  }

  pub zero_place : (i : ℕ) → i < shape.places → get_or (leaves (replicate n 0) b shape.places) i 0 ≡ 0
  zero_place i l = leaf_node (replicate n 0) b shape.places i l ∙ zero_node (shape.places + i) (omega arith)
