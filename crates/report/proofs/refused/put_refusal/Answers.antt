-- `put_refusal` meets its contract: the number that the code tells is the model's, and a row has room for every line of a refusal.
use Rattle.std.proofs.Common.{◌≡◌, ℕ, [], ◌∷◌, length, sym, ap, arith}
use Prim.Native.Char.{code}
use Rattle.packing.specs.declared.StreamReason.{StreamReason}
use Rattle.packing.specs.Refusals.{stream_number}
use Rattle.text.specs.Lines.{line}
use Rattle.report.specs.Lines.{refusal}
use Rattle.report.proofs.Texts.{refusal_few}
use Rattle.report.proofs.refused.put_refusal.Goals as goal

the_line : (reason : StreamReason) (offset number : ℕ) → number ≡ stream_number reason → refusal reason offset ≡ line (code "X") (number ∷ offset ∷ [])
the_line reason offset number e = ap (λ (n : ℕ). line (code "X") (n ∷ offset ∷ [])) (sym e)

pub put_line-requires : goal.put_line-requires
put_line-requires c =
    let s = c.args in
    omega (arith, ap length (the_line s.refused.reason s.refused.place _ c.from-number.ensures), refusal_few s.refused.reason s.refused.place (omega arith))

pub returns : goal.returns
returns c = let s = c.args in rw (the_line s.refused.reason s.refused.place _ c.from-number.ensures) c.put_line.ensures
