-- Every promise is kept, of every stream.
use Prim.Native.Nat.{ℕ}
use mathlib.Core.List.{List}
use Rattle.alike.proofs.Independence.{independent_streams}
use Rattle.promises.specs.Promises.{Promises}
use Rattle.promises.proofs.OfAccepted.{of_both, of_one}

pub promises : (stream : List ℕ) (words : ℕ) → Promises stream words
promises stream words =
    record {
      of_both = of_both stream words;
      of_each = of_one stream words;
      independent = λ r other its-words. independent_streams r stream other words its-words;
    }
