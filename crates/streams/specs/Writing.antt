-- What a writer holds, where that is known. Standard output says nothing of its octets; a writer to memory does.
use Rattle.std.specs.Prelude.{ℕ, ◌<◌, ◌≤◌, List, length, take, Bool, true, false}
use Rattle.std.specs.Prelude.{Option}
use Rattle.std.specs.Io.KnownBytes.{Keeps, Appends}
use Rattle.format.specs.Octets.{ascii}

-- Octets were written, all of them if that went well, and else a front of them.
abbrev pub Written : Option (List ℕ) → Option (List ℕ) → Bool → List ℕ → Type 0
Written before after true xs = Appends before after xs
Written before after false xs = (k : ℕ) × (k < length xs) × Appends before after (take k xs)

-- Octets were written, or a front of them.
abbrev pub Begun : Option (List ℕ) → Option (List ℕ) → List ℕ → Type 0
Begun before after xs = (k : ℕ) × (k ≤ length xs) × Appends before after (take k xs)

-- A line was told: the program's name and words, or a front of each.
abbrev pub Told : Option (List ℕ) → Option (List ℕ) → List ℕ → List ℕ → Type 0
Told before after program words = (between : Option (List ℕ)) × Begun before between program × Begun between after words

-- what is told where the input could not be read
abbrev pub unread_words : List ℕ
unread_words = ascii ": the input could not be read\n"

-- and where answers are lost
abbrev pub lost_words : List ℕ
lost_words = ascii ": the answers could not be written\n"

-- Where all is written nothing is told; and else that answers are lost.
abbrev pub ToldIfLost : Option (List ℕ) → Option (List ℕ) → Bool → List ℕ → Type 0
ToldIfLost before after true program = Keeps before after
ToldIfLost before after false program = Told before after program lost_words
