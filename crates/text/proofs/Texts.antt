-- Bytes appended one behind the other are their join, appended at once.
use Rattle.std.proofs.Common.{ℕ, List, [], ◌++◌, refl, length, drop, sym, ap, ◌∙◌, arith, append_assoc, append-nil, length-append}
use Rattle.std.proofs.lemmas.List.{drop-drop}
use Rattle.text.specs.declared.Text.{Text}
use Rattle.text.specs.Writing.{written, behind, Appended}

pub appended_none : (t : Text) → Appended t [] t
appended_none t = record { same_row = refl; same_length = refl; longer = omega arith; text = sym (append-nil (written t)); untouched = refl }

module _ {t t' : Text} {x : List ℕ} (first : Appended t x t') where
  pub appended_both : {y : List ℕ} {t'' : Text} → Appended t' y t'' → Appended t (x ++ y) t''
  appended_both {y} {t''} second = record {
    same_row = second.same_row ∙ first.same_row;
    same_length = second.same_length ∙ first.same_length;
    longer = omega (arith, second.longer, first.longer, length-append x y);
    text = second.text ∙ ap (λ (l : List ℕ). l ++ y) first.text ∙ append_assoc (written t) x y;
    untouched =
        second.untouched ∙ ap (drop (length y)) first.untouched ∙ drop-drop (length y) (length x) (behind t)
        ∙ ap (λ (n : ℕ). drop n (behind t)) (sym (length-append x y));
  }
