-- The 64-bit number gives the result back: a refusal's bit and its number stand above the offset or place, and the figures beside each other.
use mathlib.Core.Path.{◌≡◌, refl}
use mathlib.Core.Bool.{Bool, true, false}
use Prim.Native.Nat.{◌+◌, ◌^◌}
use native.Mathlib.Omega.{arith}
use Rattle.std.specs.Prelude.{if◌then◌else◌}
use Rattle.packing.specs.Prelude.{Ok, Err}
use Rattle.packing.specs.Refusals.{stream_number, plan_number, row_number}
use Rattle.packing.proofs.Given.{stream_number_back, plan_number_back, row_number_back, same_refusal}
use Rattle.codes.specs.Codes.{refusal_code, StreamCodeBack, PlanCodeBack, RepackCodeBack, PairCodeBack}

pub stream_code_back : StreamCodeBack
stream_code_back (Ok t) (Ok u) f g e =
    let most : t.looks ≡ u.looks = omega (arith, f, g) in
    let same : t.items ≡ u.items = omega (arith, f, g, most) in
    let bins : t.opened ≡ u.opened = omega (arith, f, g, most) in
    λ i. Ok (record { items = same i; opened = bins i; looks = most i })
stream_code_back (Ok t) (Err s) f g e = absurd (omega (arith, f))
stream_code_back (Err r) (Ok u) f g e = absurd (omega (arith, g))
stream_code_back (Err r) (Err s) f g e =
    let number : stream_number r.reason ≡ stream_number s.reason = omega (arith, f, g) in
    same_refusal r s (stream_number_back r.reason s.reason number) (omega (arith, number))

pub plan_code_back : PlanCodeBack
plan_code_back (Ok a) (Ok b) f g e = refl
plan_code_back (Ok a) (Err s) f g e = absurd (omega arith)
plan_code_back (Err r) (Ok b) f g e = absurd (omega arith)
plan_code_back (Err r) (Err s) f g e =
    let number : plan_number r.reason ≡ plan_number s.reason = omega (arith, f, g) in
    same_refusal r s (plan_number_back r.reason s.reason number) (omega (arith, number))

pub repack_code_back : RepackCodeBack
repack_code_back (Ok t) (Ok u) f g e =
    let same = go t.saves_nothing u.saves_nothing e in
    λ i. Ok (record { count = same.0 i; saves_nothing = same.1 i })
  where
    go : (a b : Bool) → (if a then 2 ^ 32 else 0) + t.count ≡ (if b then 2 ^ 32 else 0) + u.count → (t.count ≡ u.count) × (a ≡ b)
    go true true e = (omega arith, refl)
    go false false e = (omega arith, refl)
    go true false e = absurd (omega (arith, f, g))
    go false true e = absurd (omega (arith, f, g))
repack_code_back (Ok t) (Err s) f g e = go t.saves_nothing e
  where
    go : (a : Bool) → (if a then 2 ^ 32 else 0) + t.count ≡ refusal_code (row_number s.reason) s.place → Ok t ≡ Err s
    go true e = absurd (omega (arith, f))
    go false e = absurd (omega (arith, f))
repack_code_back (Err r) (Ok u) f g e = go u.saves_nothing e
  where
    go : (a : Bool) → refusal_code (row_number r.reason) r.place ≡ (if a then 2 ^ 32 else 0) + u.count → Err r ≡ Ok u
    go true e = absurd (omega (arith, g))
    go false e = absurd (omega (arith, g))
repack_code_back (Err r) (Err s) f g e =
    let number : row_number r.reason ≡ row_number s.reason = omega (arith, f, g) in
    same_refusal r s (row_number_back r.reason s.reason number) (omega (arith, number))

pub pair_code_back : PairCodeBack
pair_code_back (Ok pairs) (Ok pairs') f g e = λ i. Ok (e i)
pair_code_back (Ok pairs) (Err s) f g e = absurd (omega (arith, f))
pair_code_back (Err r) (Ok pairs) f g e = absurd (omega (arith, g))
pair_code_back (Err r) (Err s) f g e =
    let number : row_number r.reason ≡ row_number s.reason = omega (arith, f, g) in
    same_refusal r s (row_number_back r.reason s.reason number) (omega (arith, number))
