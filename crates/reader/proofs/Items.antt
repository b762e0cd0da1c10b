-- Items are passed one behind the other: each is a whole front, and so a walk goes over all of them.
use mathlib.Core.Path.{◌≡◌, refl, ap, subst, ◌∙◌}
use mathlib.Core.List.{List, [], ◌∷◌, ◌++◌}
use Prim.Native.Nat.{ℕ, zero, suc, ◌+◌, ◌*◌, ◌≤◌, ◌<◌}
use native.Mathlib.Decide.{dec_lt}
use native.Mathlib.Omega.{arith}
use lib.ListN.{length, drop, get_or, length-append, length-drop}
use lib.Seq.{drop-drop}
use Rattle.packing.specs.declared.{Opening.Opening, Command.Command}
use Rattle.packing.specs.Prelude.{Some}
use Rattle.packing.specs.Limits.{most_commands}
use Rattle.packing.specs.Streams.{is_opening, widths, lookup, command_of, names_none, whole}
use Rattle.packing.proofs.Fronts.{front_whole}
use Rattle.packing.proofs.Walking.{Walk, walk_next}
use Rattle.fronts.specs.Fronts.{table_width}
use Rattle.reader.specs.Items.{item_length, ItemFirst, ItemsAhead}

-- The table has items.
item_there : lookup 2 widths ≡ Some (table_width 2)
unfolding widths lookup
item_there = refl

pub item_small : item_length ≡ 5
unfolding widths lookup
item_small = refl

-- The opcode of an item with its operand behind it.
item_first : (s : List ℕ) → item_length ≤ length s → get_or s 0 0 ≡ 2 → ItemFirst s
item_first s l e =
    front_whole s (table_width 2)
    (record { known = ap (λ b. lookup b widths) e ∙ item_there; no_opening = ap is_opening e; inside = l; names_one = ap (λ b. names_none b (drop 1 s)) e })
    ∙ ap (λ b. whole (command_of b (drop 1 s)) (table_width 2)) e

-- So many items in bytes.
pub items_length : (n : ℕ) → item_length * n ≡ 5 * n
items_length n = ap (λ k. k * n) item_small

pub behind_none : (s : List ℕ) → s ≡ drop (item_length * 0) s
behind_none s = let none : 0 ≡ item_length * 0 = omega (arith, items_length 0) in ap (λ k. drop k s) none

-- One more, behind those so far.
pub one_ahead : (s : List ℕ) (most n : ℕ) → ItemsAhead s most n → n < most → (behind : List ℕ) → behind ≡ drop (item_length * n) s → item_length ≤ length behind
    → get_or behind 0 0 ≡ 2 → ItemsAhead s most (n + 1)
one_ahead s most n h more behind e l first =
    record {
      few = omega arith;
      inside = omega (arith, items_length n, items_length (n + 1), item_small, ap length e, length-drop (item_length * n) s, h.inside);
      each = λ i k. elim (dec_lt i n) [
        | yes x ↦ h.each i x
        | no x ↦ let same : n ≡ i = omega (arith, x) in subst (λ j. ItemFirst (drop (item_length * j) s)) same (subst ItemFirst e (item_first behind l first))
      ];
    }

-- What is left behind it.
pub behind_one : (s behind : List ℕ) (n : ℕ) → behind ≡ drop (item_length * n) s → drop item_length behind ≡ drop (item_length * (n + 1)) s
behind_one s behind n e =
    let next : item_length * n + item_length ≡ item_length * (n + 1) = omega (arith, items_length n, items_length (n + 1), item_small) in
    ap (drop item_length) e ∙ drop-drop item_length (item_length * n) s ∙ ap (λ k. drop k s) next

-- A walk over all of them.
pub record Over (o : Opening) (stream rest : List ℕ) (count n : ℕ) : Type 0 where
  pub past : List Command
  pub offset : ℕ
  pub walk : Walk o stream (drop (item_length * n) rest) offset past
  pub number : length past ≡ count + n

pub walk_over : {o : Opening} {stream rest : List ℕ} {offset : ℕ} {past : List Command} → Walk o stream rest offset past → (most n : ℕ) → ItemsAhead rest most n
    → length past + n ≤ most_commands → Over o stream rest (length past) n
walk_over {o = o} {stream = stream} {rest = rest} {offset = offset} {past = past} w most zero h l =
    record { past = past; offset = offset; walk = subst (λ r. Walk o stream r offset past) (behind_none rest) w; number = omega arith }
walk_over {o = o} {stream = stream} {rest = rest} {past = past} w most (suc n) h l =
    let so_far = walk_over w most n (record { few = omega (arith, h.few); inside = omega (arith, items_length n, items_length (suc n), h.inside); each = λ i k. h.each i (omega arith) }) (omega arith) in
    let c = command_of 2 (drop 1 (drop (item_length * n) rest)) in
    let behind : drop item_length (drop (item_length * n) rest) ≡ drop (item_length * suc n) rest =
    behind_one rest (drop (item_length * n) rest) n refl ∙ (let next : n + 1 ≡ suc n = omega arith in ap (λ k. drop (item_length * k) rest) next) in
    record {
      past = so_far.past ++ c ∷ [];
      offset = so_far.offset + item_length;
      walk = subst (λ r. Walk o stream r (so_far.offset + item_length) (so_far.past ++ c ∷ [])) behind
          (walk_next so_far.walk (omega (arith, so_far.number)) c (table_width 2) (h.each n (omega arith)));
      number = omega (arith, so_far.number, length-append so_far.past (c ∷ []));
    }
