-- What the functions of this crate promise.
use Rattle.std.specs.Prelude.{ℕ, ◌+◌, ◌≤◌, ◌≡◌, List, ◌++◌, length, take, drop}
use Rattle.text.specs.declared.Text.{Text}

-- The text so far.
abbrev pub text_of : Text → List ℕ
text_of t = take t.len t.bytes.now

-- There is room for the words after it.
abbrev pub HasRoom : List ℕ → Text → Type 0
HasRoom words t = t.len + length words ≤ length t.bytes.now

-- The words are put at the end of the text; its slice is the same one, and what stands after them is kept.
pub record Appended (words : List ℕ) (entry exit : Text) : Type 0 where
  pub same_slice : exit.bytes.ghost_name ≡ entry.bytes.ghost_name
  pub same_room : length exit.bytes.now ≡ length entry.bytes.now
  pub len : exit.len ≡ entry.len + length words
  pub text : text_of exit ≡ text_of entry ++ words
  pub rest : drop exit.len exit.bytes.now ≡ drop exit.len entry.bytes.now
