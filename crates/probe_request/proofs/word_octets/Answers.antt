use Rattle.std.proofs.Common.{◌≡◌, ℕ, ◌≤◌, ◌<◌, List, length, get_or, ◌∙◌, sym, rules}
use Rattle.format.proofs.Lists.{below_each}
use Rattle.base_group.specs.Group.{octets_by, letters}
use Rattle.base_group.proofs.Letters.{octets_hex}
use Rattle.probe_request.specs.Request.{octets_of}
use Rattle.probe_request.proofs.Spelling.{more_octets_lem}
use Rattle.probe_request.proofs.word_octets.Goals as goal

-- the digits of the word are those of hex
in_hex : (t : List ℕ) → 2 ≤ length t → ((k : ℕ) → get_or t k 0 < 256) → octets_by letters 100 4 t ≡ octets_of t
in_hex t n h = octets_hex t (below_each 256 t h) ∙ sym (more_octets_lem t n)

pub returns-in_default : goal.returns-in_default
returns-in_default c = rw (in_hex c.args.word.now c.in_default.len_at_least (λ k. search (c.type_inv.word k, rules))) at c.lettered.ensures
