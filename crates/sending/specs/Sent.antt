-- What is told of a command that shelves an item: whether it may fit, and the word that is noted for the least size of its item.
use Rattle.std.specs.Prelude.{Bool, ◌&&◌, ℕ, is_none, unwrap_or}
use Rattle.packing.specs.declared.{Opening.Opening, Command.Command}
use Rattle.packing.specs.Prelude.{◌≤?◌}
use Rattle.packing.specs.Sending.{size_of, least_of, fault}

-- The command has no fault, and the size of its item is at most so large.
abbrev pub may_fit : Command → (most : ℕ) → Bool
may_fit c most = is_none (fault c) && (size_of c ≤? most)

-- The least stored size as a word; 0 stands for none. (A least without a fault is not 0.)
abbrev pub least_word : Opening → Command → ℕ
least_word o c = unwrap_or (least_of o c) 0
