-- A bin keeps its number and its class: the classes by number are those of before, and then some.
use Prim.Native.Nat.{ℕ, suc, ◌+◌}
use mathlib.Core.Path.{◌≡◌, refl, sym, ap, ◌∙◌}
use mathlib.Core.Bool.{Bool, true, false}
use mathlib.Core.List.{List, [], ◌∷◌, ◌++◌, map, map-map, append_assoc, append-nil}
use native.Mathlib.Omega.{arith}
use lib.ListN.{length, take, drop, length-map}
use lib.Seq.{take_at, take-add}
use Rattle.std.specs.Prelude.{if◌then◌else◌}
use Rattle.packing.specs.Prelude.{Opening, Production, Command, Outcome}
use Rattle.packing.specs.Bins.{Item, Bin, Packing, opened, add, stored}
use Rattle.packing.specs.Placing.{put, class_of, target, takes, placed}
use Rattle.packing.specs.Withdrawing.{emptied_of, without}
use Rattle.packing.specs.Settling.{settled_bin, settling}
use Rattle.packing.specs.Shelves.{empty_shelf, of}
use Rattle.packing.specs.Sending.{item_of}
use Rattle.packing.specs.Run.{Step, shelf_from, shelf, packing}
use Rattle.packing.specs.Claims.{classes_of}
use Rattle.packing.proofs.Putting.{fresh}
use Rattle.packing.proofs.Moves.{Move, places, withdraws, settles, counts, switches, refuses, Trace, ends, moves, trace_from}
use Rattle.packing.proofs.Running.{shelf_append}

-- The classes of q are those of p, and then some.
record Grown (p q : Packing) : Type 0 where
  more : List ℕ
  grown : classes_of q ≡ classes_of p ++ more

grown_same : (p q : Packing) → classes_of q ≡ classes_of p → Grown p q
grown_same p q e = record { more = []; grown = e ∙ sym (append-nil (classes_of p)) }

put_classes : (test : Bin → Bool) (new : Bin) (i : Item) (bins : List Bin)
    → (more : List ℕ) × (map (λ b. b.class) (put test new i bins) ≡ map (λ b. b.class) bins ++ more)
unfolding put
put_classes test new i [] = (new.class ∷ [], refl)
put_classes test new i (b ∷ bs) = go (test b) (put_classes test new i bs)
  where
    go : (t : Bool) → (more : List ℕ) × (map (λ b. b.class) (put test new i bs) ≡ map (λ b. b.class) bs ++ more)
        → (more : List ℕ) × (map (λ b. b.class) (if t then add i b ∷ bs else b ∷ put test new i bs) ≡ b.class ∷ (map (λ b. b.class) bs ++ more))
    go true r = ([], ap (λ l. b.class ∷ l) (sym (append-nil (map (λ b. b.class) bs))))
    go false r = (r.0, ap (λ l. b.class ∷ l) r.1)

module _ (o : Opening) where
  move_grown : {left n : ℕ} {p : Packing} {c : Command} {q : Packing} {a : Outcome} → Move o left p n c a q → Grown p q
  unfolding placed without settling
  move_grown {n = n} {p = p} (places {c = c} h) =
      let i = item_of o n c in
      let put = put_classes (takes o p i) (fresh (class_of (target o p i))) i p.bins in
      record { more = put.0; grown = put.1 }
  move_grown {p = p} {q = q} (withdraws {named = named} e) = grown_same p q (map-map (λ b. b.class) (emptied_of named) p.bins)
  move_grown {p = p} {q = q} (settles {named = named} {size = size} e) = grown_same p q (map-map (λ b. b.class) (settled_bin named (stored o size)) p.bins)
  move_grown {p = p} counts = grown_same p p refl
  move_grown {p = p} switches = grown_same p p refl
  move_grown {p = p} (refuses z) = grown_same p p refl

  trace_grown : {n e : ℕ} {p q : Packing} {ts : List Step} → Trace o n p ts e q → Grown p q
  trace_grown {p = p} (ends l) = grown_same p p refl
  trace_grown (moves {p = p} l b m r) =
      let here = move_grown m in
      let later = trace_grown r in
      record { more = here.more ++ later.more; grown = later.grown ∙ ap (λ l. l ++ later.more) here.grown ∙ append_assoc (classes_of p) here.more later.more }

  pub classes_stay : (q : Production) (cs : List Command) (i j : ℕ)
      → take (opened (packing o q (take i cs))) (classes_of (packing o q (take (i + j) cs))) ≡ classes_of (packing o q (take i cs))
  classes_stay q cs i j =
      let p = packing o q (take i cs) in
      let n = suc (length (take i cs)) in
      let more = take j (drop i cs) in
      let g = trace_grown (trace_from o q more (shelf o (take i cs)) n (length more + n) refl) in
      let later : packing o q (take (i + j) cs) ≡ of q (shelf_from o (shelf o (take i cs)) n more) =
      ap (packing o q) (take-add i j cs) ∙ ap (of q) (shelf_append o (take i cs) more empty_shelf 1 n (omega arith)) in
      ap (λ x. take (opened p) (classes_of x)) later ∙ ap (take (opened p)) g.grown
      ∙ take_at (classes_of p) g.more (opened p) (length-map p.bins (λ b. b.class))
