-- The room that a text needs.
use Rattle.std.specs.Prelude.{ℕ, ◌≤◌, ◌<◌, ◌≡◌, List, length}

-- an answer over the room is the text's length, any other says that the text fits; no text is longer than the longest that may be read
pub record Needs (room answer : ℕ) (text : List ℕ) : Type 0 where
  pub told : room < answer → answer ≡ length text
  pub fits : answer ≤ room → length text ≤ room
  pub short : length text ≤ 1048576
