-- What the methods of a text promise: what is written stands behind what stood there, and the bytes behind it are as they were.
use Rattle.std.specs.Prelude.{◌≡◌, List, ◌++◌, ℕ, ◌+◌, ◌≤◌, length, take, drop}
use Rattle.std.specs.Borrow.{MutBor}
use Rattle.text.specs.declared.Text.{Text}

-- The text so far, and the bytes behind it in its row.
abbrev pub written : Text → List ℕ
written t = take t.end t.row.now

abbrev pub behind : Text → List ℕ
behind t = drop t.end t.row.now

-- There is room for so many bytes more.
abbrev pub Room : Text → ℕ → Type 0
Room t n = t.end + n ≤ length t.row.now

-- Nothing is written yet, and the whole row is as it was.
pub record Begun (row : MutBor (List ℕ)) (t : Text) : Type 0 where
  pub same_row : t.row.ghost_name ≡ row.ghost_name
  pub nothing : t.end ≡ 0
  pub untouched : t.row.now ≡ row.now

-- The bytes stand behind the text, and are part of it; those behind them are as they were.
pub record Appended (t : Text) (bytes : List ℕ) (t' : Text) : Type 0 where
  pub same_row : t'.row.ghost_name ≡ t.row.ghost_name
  pub same_length : length t'.row.now ≡ length t.row.now
  pub longer : t'.end ≡ t.end + length bytes
  pub text : written t' ≡ written t ++ bytes
  pub untouched : behind t' ≡ drop (length bytes) (behind t)
