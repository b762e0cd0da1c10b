-- From what the first pass keeps of a reading to the verdict on a stream for which so many words are lent.
use mathlib.Core.Path.{◌≡◌, refl, ap, sym}
use mathlib.Core.List.{List}
use Prim.Native.Nat.{ℕ, ◌≤◌}
use native.Mathlib.Omega.{arith}
use lib.ListN.{length}
use borrow.Author.Tests.{le-ltb}
use Rattle.packing.specs.declared.{Command.Command}
use Rattle.std.specs.Prelude.{Ok}
use Rattle.packing.specs.Streams.{Read, accepted, refused, read, verdict}
use Rattle.packing.proofs.Tests.{clash}
use Rattle.reader.specs.declared.{Accepted.Accepted}
use Rattle.reader.specs.Reading.{summary}

module _ (stream : List ℕ) (words : ℕ) (a : Accepted) (e : Ok a ≡ summary (read stream)) where
  -- No refusal stops it.
  pub record Passes : Type 0 where
    pub commands : List Command
    pub accepts : verdict stream words ≡ accepted a.opening commands

  pub verdict_accepted : a.commands ≤ words → Passes
  verdict_accepted l = go (read stream) refl e
    where
      go : (r : Read) → read stream ≡ r → Ok a ≡ summary r → Passes
      go (accepted o cs) p q =
          let same : a ≡ record { opening = o; commands = length cs } = cc in
          let enough : length cs ≤ words = omega (arith, ap (λ b. b.commands) same) in
          let opening : o ≡ a.opening = sym (ap (λ b. b.opening) same) in
          record { commands = cs; accepts = rw (p, le-ltb words (length cs) enough, opening) }
      go (refused reason offset) p q = clash (cc)
