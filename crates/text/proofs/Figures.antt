-- The figures of a line, appended one behind the other.
use Rattle.std.proofs.Common.{◌≡◌, ℕ, ◌+◌, ◌≤◌, ◌<◌, List, [], ◌∷◌, ◌++◌, length, drop, get_or, refl, ap, ◌∙◌, arith, append_assoc, length-append}
use Prim.Native.Char.{code}
use Rattle.std.proofs.lemmas.List.{drop_more, drop_all}
use Rattle.text.specs.declared.Text.{Text}
use Rattle.text.specs.Lines.{figure, figures}
use Rattle.text.specs.Writing.{Room, Appended}
use Rattle.text.proofs.Texts.{appended_both, appended_none}

-- What is written of the figures, and those to come.
pub record Figuring (before now : Text) (ns : List ℕ) (done : ℕ) : Type 0 where
  pub room : Room before (length (figures ns))
  pub past : List ℕ
  pub all_are : figures ns ≡ past ++ figures (drop done ns)
  pub wrote : Appended before past now

pub figuring_start : {t : Text} {ns : List ℕ} → Room t (length (figures ns)) → Figuring t t ns 0
figuring_start {t} room = record { room = room; past = []; all_are = refl; wrote = appended_none t }

module _ {before now : Text} {ns : List ℕ} {done : ℕ} (g : Figuring before now ns done) where
  -- Those to come have room behind what is written.
  coming : Room now (length (figures (drop done ns)))
  coming = omega (arith, g.room, g.wrote, ap length g.all_are, length-append g.past (figures (drop done ns)))

  module _ (more : done < length ns) where
    next : drop done ns ≡ get_or ns done 0 ∷ drop (done + 1) ns
    next = drop_more ns done 0 more

    pub figuring_room : Room now (length (figure (get_or ns done 0)))
    figuring_room =
        let n = get_or ns done 0 in
        omega (arith, coming, ap (λ (l : List ℕ). length (figures l)) next, length-append (figure n) (figures (drop (done + 1) ns)))

    pub figuring_next : {now' : Text} → Appended now (figure (get_or ns done 0)) now' → Figuring before now' ns (done + 1)
    figuring_next {now'} w = record {
      room = g.room;
      past = g.past ++ figure (get_or ns done 0);
      all_are = g.all_are ∙ ap (λ (l : List ℕ). g.past ++ figures l) next ∙ rw append_assoc;
      wrote = appended_both g.wrote w;
    }

  module _ (none : length ns ≤ done) where
    last : figures (drop done ns) ≡ code "\n" ∷ []
    last = ap figures (drop_all done ns none)

    pub figuring_last : Room now 1
    figuring_last = omega (arith, coming, ap length last)

    pub figuring_end : {now' : Text} → Appended now (code "\n" ∷ []) now' → Appended before (figures ns) now'
    figuring_end w = rw (g.all_are ∙ ap (λ (l : List ℕ). g.past ++ l) last) (appended_both g.wrote w)
