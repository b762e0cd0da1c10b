-- An accepted stream is whole: each refusal's condition failed.
use Prim.Native.Nat.{ℕ, zero, suc, ◌+◌, ◌≤◌}
use mathlib.Core.Path.{◌≡◌, refl, ap, subst}
use mathlib.Core.Bool.{Bool, true, false, not}
use mathlib.Core.List.{List, [], ◌∷◌}
use native.Mathlib.Omega.{arith}
use borrow.Author.Tests.{ltb-false}
use lib.Dec.{ltb}
use lib.ListN.{length, drop}
use Rattle.std.specs.Prelude.{if◌then◌else◌}
use Rattle.packing.specs.Prelude.{Opening, Command, StreamReason, NoOpening, CutShort, OutsideLimits, TooFewWords}
use Rattle.packing.specs.Limits.{opening_good, most_commands}
use Rattle.packing.specs.Streams.{is_opening, opening_width, opening_length, opening_of, Front, whole, faulty, front_of, Read, accepted, refused, follow, commands, read, lent}
use Rattle.packing.specs.Claims.{WholeStream, AcceptedWhole}
use Rattle.packing.proofs.Tests.{clash}

pub refused_accepted : {A : Type 0} {reason : StreamReason} {offset : ℕ} {o : Opening} {cs : List Command} → refused reason offset ≡ accepted o cs → A
refused_accepted e = clash (cc)

-- The opening is handed on, and each command counts against those left.
record Handed (o : Opening) (left : ℕ) (o' : Opening) (cs : List Command) : Type 0 where
  same_opening : o ≡ o'
  few : length cs ≤ left

module _ (o o' : Opening) where
  none_handed : (left : ℕ) (cs : List Command) → accepted o [] ≡ accepted o' cs → Handed o left o' cs
  none_handed left cs e = let none : [] ≡ cs = cc in record { same_opening = cc; few = omega (arith, ap length none) }

  one_handed : (c : Command) (left : ℕ) (r : Read) (cs : List Command) → ((rest : List Command) → r ≡ accepted o' rest → Handed o left o' rest)
      → follow c r ≡ accepted o' cs → Handed o (suc left) o' cs
  one_handed c left (accepted o'' rest) cs h e =
      let all : (c ∷ rest) ≡ cs = cc in
      let further = h rest (cc) in
      record { same_opening = further.same_opening; few = omega (arith, further.few, ap length all) }
  one_handed c left (refused reason offset) cs h e = refused_accepted e

  all_handed : (left offset : ℕ) (s : List ℕ) (cs : List Command) → commands o left offset s ≡ accepted o' cs → Handed o left o' cs
  unfolding commands
  all_handed zero offset [] cs e = none_handed 0 cs e
  all_handed zero offset (b ∷ s) cs e = refused_accepted e
  all_handed (suc left) offset [] cs e = none_handed (suc left) cs e
  all_handed (suc left) offset (b ∷ s) cs e = go (front_of (b ∷ s)) refl (all_handed left)
    where
      go : (f : Front) → front_of (b ∷ s) ≡ f
          → ((offset : ℕ) (s : List ℕ) (cs : List Command) → commands o left offset s ≡ accepted o' cs → Handed o left o' cs) → Handed o (suc left) o' cs
      go (faulty reason) q rest = refused_accepted (rw (q, commands) at e)
      go (whole c width) q rest =
          one_handed c left (commands o left (offset + suc width) (drop width s)) cs (rest (offset + suc width) (drop width s)) (rw (q, commands) at e)

module _ (words : ℕ) (o : Opening) (cs : List Command) where
  read_whole : (stream : List ℕ) → length cs ≤ words → read stream ≡ accepted o cs → WholeStream stream words o cs
  unfolding read
  read_whole [] l e = refused_accepted e
  read_whole (b ∷ s) l e = go (is_opening b) (ltb (length s) (opening_width b)) (opening_good (opening_of b s)) refl refl refl e
    where
      go : (t u v : Bool) → is_opening b ≡ t → ltb (length s) (opening_width b) ≡ u → opening_good (opening_of b s) ≡ v
          → (if not t then refused NoOpening 0 else
          if u then refused CutShort 0 else
          if not v then refused OutsideLimits 0 else
          commands (opening_of b s) most_commands (opening_length (b ∷ s)) (drop (opening_width b) s)) ≡ accepted o cs
          → WholeStream (b ∷ s) words o cs
      go false u v f p q h = refused_accepted h
      go true true v f p q h = refused_accepted h
      go true false false f p q h = refused_accepted h
      go true false true f p q h =
          let all = all_handed (opening_of b s) o most_commands (opening_length (b ∷ s)) (drop (opening_width b) s) cs h in
          record {
            opening_is_good = subst (λ o. opening_good o ≡ true) all.same_opening q;
            opening_first = f;
            opening_whole = omega (arith, ltb-false (length s) (opening_width b) p);
            opening_is = all.same_opening;
            commands_whole = subst (λ x. commands x most_commands (opening_length (b ∷ s)) (drop (opening_width b) s) ≡ accepted o cs) all.same_opening h;
            commands_few = all.few;
            words_enough = l;
          }

  pub accepted_whole : (stream : List ℕ) → AcceptedWhole stream words o cs
  accepted_whole stream = go (read stream) refl
    where
      go : (r : Read) → read stream ≡ r → lent (words) (length stream) r ≡ accepted o cs → WholeStream stream words o cs
      go (refused reason offset) q h = refused_accepted h
      go (accepted o' cs') q h = enough (ltb (words) (length cs')) refl h
        where
          enough : (t : Bool) → ltb (words) (length cs') ≡ t → (if t then refused TooFewWords (length stream) else accepted o' cs') ≡ accepted o cs
              → WholeStream stream words o cs
          enough true p e = refused_accepted e
          enough false p e =
              let same : cs' ≡ cs = cc in
              read_whole stream (omega (arith, ltb-false (words) (length cs') p, ap length same)) (cc)
