-- The five trees: which bins each shows, which one is searched for an item, and what is counted when an item is accepted and when one is taken out.
use Rattle.std.specs.Prelude.{◌≡◌, ℕ, zero, suc, ◌+◌, ◌-◌, ◌<◌, if◌then◌else◌}
use Rattle.packing.specs.declared.{SizeClass.SizeClass, PerClass.PerClass}
use Rattle.packing.specs.SizeClasses.{number_of}
use Rattle.packing.specs.Prelude.{◌=?◌}
use Rattle.packing.specs.Placing.{Target, to_class, beside_a, class_of}
use Rattle.aim.specs.declared.Counters.{Counters}

-- Tree n shows the bins of class n, tree 0 the bins of class 1 that hold an A.
abbrev pub aim : (tree : ℕ) → Target
aim zero = beside_a
aim (suc n) = to_class (suc n)

-- the class of the bins that a tree shows
abbrev pub home : (tree : ℕ) → ℕ
home tree = class_of (aim tree)

-- The tree that is searched for the next B2; the phase is the count of B2 items accepted, modulo m.
abbrev pub b2_tree : (phase m : ℕ) → ℕ
b2_tree phase m = if phase + 1 =? m then 0 else 3

-- The trees by size class, with this one for a B2.
abbrev pub trees_with : (b2 : ℕ) → PerClass
trees_with b2 = record { a = 1; b1 = 2; b2 = b2; x = 4 }

-- The tree that is searched for an item.
abbrev pub tree_for : SizeClass → (phase m : ℕ) → ℕ
tree_for k phase m = number_of (trees_with (b2_tree phase m)) k

-- What an item adds to the A's of its bin: only an A is searched for in tree 1.
abbrev pub a_for : (tree : ℕ) → ℕ
a_for tree = if tree =? 1 then 1 else 0

-- The same by its size class.
abbrev pub only_a : PerClass
only_a = record { a = 1; b1 = 0; b2 = 0; x = 0 }

-- The phase once an item is accepted: only B2 items are searched for in the trees 0 and 3, and they count.
abbrev pub phase_after : (tree phase : ℕ) → ℕ
phase_after tree phase = if tree =? 0 then 0 else (if tree =? 3 then phase + 1 else phase)

-- the counters once an item is accepted that was searched for in this tree, with so many bins opened
abbrev pub accepting : (tree opened m : ℕ) → Counters → Counters
accepting tree opened m c =
    let phase = phase_after tree c.phase in
    record { opened = opened; phase = phase; items = c.items + 1; b2 = b2_tree phase m }

-- the counters once an item is taken out: "the B2 count never goes back"
abbrev pub withdrawing : Counters → Counters
withdrawing c = record { opened = c.opened; phase = c.phase; items = c.items - 1; b2 = c.b2 }

-- Before an item is accepted: one more can be counted, both phases are below m, and the tree for the next B2 is that of the phase.
pub record Acceptable (tree m : ℕ) (c : Counters) : Type 0 where
  pub room : c.items < 4294967295
  pub phase : c.phase < m
  pub phase_after_lem : phase_after tree c.phase < m
  pub b2 : c.b2 ≡ b2_tree c.phase m
