-- What is done to words: which stay, which are put.
use Rattle.std.specs.Prelude.{◌≡◌, List, ℕ, ◌+◌, ◌≤◌, ◌<◌, length, get_or}

-- w and w' are as long, and agree below t and from h on
pub record Keep (t h : ℕ) (w w' : List ℕ) : Type 0 where
  pub long : length w ≡ length w'
  pub below : (i : ℕ) → i < t → get_or w i 0 ≡ get_or w' i 0
  pub above : (i : ℕ) → h ≤ i → get_or w i 0 ≡ get_or w' i 0

pub record Put2 (w w' : List ℕ) (i a b : ℕ) : Type 0 where
  pub keep : Keep i (i + 2) w w'
  pub w0 : get_or w' i 0 ≡ a
  pub w1 : get_or w' (i + 1) 0 ≡ b

pub record Put4 (w w' : List ℕ) (i a b c d : ℕ) : Type 0 where
  pub keep : Keep i (i + 4) w w'
  pub w0 : get_or w' i 0 ≡ a
  pub w1 : get_or w' (i + 1) 0 ≡ b
  pub w2 : get_or w' (i + 2) 0 ≡ c
  pub w3 : get_or w' (i + 3) 0 ≡ d

pub record Copied (w w' : List ℕ) (from to n : ℕ) : Type 0 where
  pub keep : Keep to (to + n) w w'
  pub same : (i : ℕ) → i < n → get_or w' (to + i) 0 ≡ get_or w (from + i) 0
