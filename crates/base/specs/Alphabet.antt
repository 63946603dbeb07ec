-- Digits of w bits and their characters.
use Rattle.std.specs.Prelude.{ℕ, ◌*◌, ◌/◌, ◌^◌, ◌≤◌, ◌<◌, ◌≡◌, List, map, get_or}

-- the characters of digits: each digit is a place in the alphabet
abbrev pub chars : List ℕ → List ℕ → List ℕ
chars t ds = map (λ d. get_or t d 0) ds

-- n characters for digits of w bits, and groups of g octets that make whole digits
pub record Grouped (w g n : ℕ) : Type 0 where
  pub some_bits : 0 < w
  pub few_bits : w ≤ 8
  pub size : n ≡ 2 ^ w
  pub whole : w * (8 * g / w) ≡ 8 * g
  pub few_octets : g ≤ 5
  pub some_digits : 0 < 8 * g / w
  pub few_digits : 8 * g / w ≤ 8
