-- The words of an answer, in the two rows.
use Rattle.std.specs.Prelude.{◌≡◌, List, ℕ, ◌-◌, ◌≤◌, length, set}
use Rattle.packing.specs.declared.Answer.{Answer}
use Rattle.packing.specs.Refusals.{word, free_units}

-- Both rows have a word of this number.
pub record Writable (number : ℕ) (words free : List ℕ) : Type 0 where
  pub from_1 : 1 ≤ number
  pub few : number ≤ 4096
  pub word : number ≤ length words
  pub free_word : number ≤ length free

-- "Word n holds" what command n comes to; every other word is as it was.
pub record Written (a : Answer) (words free words' free' : List ℕ) : Type 0 where
  pub words_are : words' ≡ set words (a.number - 1) (word a.outcome)
  pub free_are : free' ≡ set free (a.number - 1) (free_units a.outcome)
